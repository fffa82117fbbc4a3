-- Laws of what one record does, however the open block is kept.
--   Moved, effect_moved   it counts one block at most; where it is accepted, the offset moves past its kind and its body, which is whole
use Rattle.std.specs.Prelude.{Option, Some, None}
use mathlib.Core.Path.{◌≡◌, refl, sym, ◌∙◌}
use mathlib.Core.Bool.{Bool, true, false, cond, true≢false}
use mathlib.Core.List.{List, []}
use Prim.Native.Nat.{ℕ, ◌+◌, ◌≤◌}
use native.Mathlib.Omega.{arith}
use borrow.Author.Tests.{ltb-false, eq-eqb}
use lib.Dec.{eqb, ltb}
use lib.ListN.{length, get_or}
use Rattle.refusal.specs.Condition.{depth_refused}
use Rattle.refusal.specs.declared.Refusal.{Refusal}
use Rattle.refusal.specs.declared.Refusal.TheVariants.{DepthInvalid, DstSizeInvalid, KindUnknown, BodyTooShort, LevelsBeforeParameters, ParameterInvalid}
use Rattle.refusal.specs.Outcome.{Outcome, refused}
use Rattle.refusal.proofs.RefusalLaws.{number_least}
use Rattle.feed_format.specs.declared.Mode.{Mode}
use Rattle.feed_format.specs.declared.Parameters.{Parameters}
use Rattle.feed_format.specs.declared.Kind.{Kind}
use Rattle.feed_format.specs.declared.Kind.TheVariants.{Parameters as ParametersKind, List as ListKind, NoList, Levels, Edit, Reading}
use Rattle.feed_format.specs.Format.{kind_of, is_unknown, by_kind, body_length, record_length, flag_of, known_mode, dst_refused}
use Rattle.feed_rules.specs.Record.{FeedState, Effect, Keeper, unchanged, behind, answered_by, parameters_by, parameters_effect, list_effect, no_list_effect, levels_by, levels_effect, edit_effect, reading_effect, body_effect, kind_effect, record_effect}

module _ {H : Type 0} (g : Keeper H) where
  -- ---- count and offset
  record Moves (s : FeedState H) (len : ℕ) (o : Outcome (Effect H)) : Type 0 where
    blocks : o.value.state.blocks ≤ s.blocks + 1
    offset : o.number ≡ 0 → o.value.state.offset ≡ s.offset + 1 + len

  either : {s : FeedState H} {len : ℕ} (t : Bool) {x y : Outcome (Effect H)} → Moves s len x → Moves s len y → Moves s len (cond t x y)
  either true f g = f
  either false f g = g

  stays : {s : FeedState H} {len : ℕ} (why : Refusal) → Moves s len (refused (unchanged s) why)
  stays why = record { blocks = omega arith; offset = λ z. absurd (omega (arith, number_least why)) }

  levels_moves : (k : Option Parameters) (s : FeedState H) (n : ℕ) (body : List ℕ) → Moves s (body_length (Levels n)) (levels_by g k s n body)
  unfolding levels_by
  levels_moves None s n body = stays LevelsBeforeParameters
  levels_moves (Some p) s n body =
      either (depth_refused p.precision.bit_depth) (stays DepthInvalid)
      (either (dst_refused p.mode n) (stays DstSizeInvalid)
      (record { blocks = omega arith; offset = λ z. refl }))

  -- an answer of the open block that is accepted
  answered_moves : {A : Type 0} (s : FeedState H) (len : ℕ) (o : Outcome A) (f : A → Effect H) → ((a : A) → (f a).state.blocks ≤ s.blocks + 1) → ((a : A) → (f a).state.offset ≡ s.offset + 1 + len)
      → Moves s len (answered_by s o f)
  answered_moves s len o f few far = by_test (eqb o.number 0) refl
    where
      by_test : (t : Bool) → eqb o.number 0 ≡ t → Moves s len (answered_by s o f)
      by_test true e = record { blocks = rw e (few o.value); offset = λ z. rw e (far o.value) }
      by_test false e = record { blocks = rw e (omega arith); offset = λ z. absurd (true≢false (sym (eq-eqb o.number 0 z) ∙ e)) }

  parameters_moves : (s : FeedState H) (body : List ℕ) (flag : Option Bool) (mode : Option Mode) → Moves s (body_length ParametersKind) (parameters_by g s body flag mode)
  parameters_moves s body None mode = stays ParameterInvalid
  parameters_moves s body (Some x) None = stays ParameterInvalid
  parameters_moves s body (Some x) (Some mode) = record { blocks = omega arith; offset = λ z. refl }

  body_moves : (kind : Kind) (s : FeedState H) (body : List ℕ) → Moves s (body_length kind) (body_effect g kind s body)
  unfolding body_effect parameters_effect list_effect no_list_effect levels_effect edit_effect reading_effect
  body_moves ParametersKind s body =
      either (depth_refused (get_or body 0 0)) (stays DepthInvalid)
      (parameters_moves s body (flag_of (get_or body 1 0)) (known_mode (get_or body 3 0)))
  body_moves ListKind s body = record { blocks = omega arith; offset = λ z. refl }
  body_moves NoList s body = record { blocks = omega arith; offset = λ z. refl }
  body_moves (Levels n) s body = levels_moves s.given s n body
  body_moves Edit s body =
      answered_moves s (body_length Edit) (g.edited s.block body)
      (λ (h : H). record { text = []; state = record { given = s.given; list = s.list; block = h; blocks = s.blocks; offset = behind Edit s } }) (λ a. omega arith) (λ a. refl)
  body_moves Reading s body =
      answered_moves s (body_length Reading) (g.reading s.block)
      (λ (rows : List ℕ). record { text = rows; state = record { given = s.given; list = s.list; block = s.block; blocks = s.blocks; offset = behind Reading s } }) (λ a. omega arith) (λ a. refl)

  kind_moves : (s : FeedState H) (kind : Option Kind) (body : List ℕ) → Moves s (by_kind body_length kind) (kind_effect g kind s body)
  kind_moves s None body = stays KindUnknown
  kind_moves s (Some kind) body =
      either (ltb (length body) (body_length kind)) (stays BodyTooShort)
      (body_moves kind s body)

  record_moves : (s : FeedState H) (k : ℕ) (body : List ℕ) → Moves s (record_length k) (record_effect g s k body)
  unfolding record_effect record_length
  record_moves s k body = kind_moves s (kind_of k) body

  -- ---- the length
  not_short : (s : FeedState H) (kind : Kind) (body : List ℕ) (t : Bool) → (cond t (refused (unchanged s) BodyTooShort) (body_effect g kind s body)).number ≡ 0 → t ≡ false
  not_short s kind body true h = absurd (omega arith)
  not_short s kind body false h = refl

  kind_known : (s : FeedState H) (kind : Option Kind) (body : List ℕ) → (kind_effect g kind s body).number ≡ 0 → (is_unknown kind ≡ false) × (by_kind body_length kind ≤ length body)
  kind_known s None body e = absurd (omega arith)
  kind_known s (Some kind) body e = (refl, ltb-false (length body) (body_length kind) (not_short s kind body (ltb (length body) (body_length kind)) e))

  effect_known : (s : FeedState H) (k : ℕ) (body : List ℕ) → (record_effect g s k body).number ≡ 0 → (is_unknown (kind_of k) ≡ false) × (record_length k ≤ length body)
  unfolding record_effect record_length
  effect_known s k body e = kind_known s (kind_of k) body e

-- ---- both
pub record Moved {H : Type 0} (s : FeedState H) (k : ℕ) (body : List ℕ) (o : Outcome (Effect H)) : Type 0 where
  pub blocks : o.value.state.blocks ≤ s.blocks + 1
  pub offset : o.number ≡ 0 → o.value.state.offset ≡ s.offset + 1 + record_length k
  pub whole : o.number ≡ 0 → record_length k ≤ length body
  pub known : o.number ≡ 0 → is_unknown (kind_of k) ≡ false

pub effect_moved : {H : Type 0} (g : Keeper H) (s : FeedState H) (k : ℕ) (body : List ℕ) → Moved s k body (record_effect g s k body)
effect_moved g s k body =
    let m = record_moves g s k body in
    record { blocks = m.blocks; offset = m.offset; whole = λ z. (effect_known g s k body z).1; known = λ z. (effect_known g s k body z).0 }
