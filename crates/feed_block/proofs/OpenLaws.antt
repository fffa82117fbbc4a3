-- The block of a levels record, opened: nothing of the opening's table applies, and its rows and its count are the block's by clause 8.6.
--   list_is                        the list that the opening keeps is the one in force
--   opening_is                     the opening by that list
--   opening_fits                   no condition of the opening holds
--   opened-limited, opened_rows    how many coefficients were limited, and the residual
--   opens_ok, opens_block          no call refuses, and both of what it hands back
use Rattle.std.specs.Prelude.{Result, Ok, IsOk}
use mathlib.Core.Path.{◌≡◌, refl, sym, ap, subst, ◌∙◌}
use mathlib.Core.Bool.{Bool, false, ◌||◌}
use mathlib.Core.List.{List, []}
use Prim.Native.Nat.{ℕ, ◌*◌, ◌≤◌, ◌<◌}
use lib.IntN.{ℤ, pos}
use lib.ListN.{length, get_or, take}
use lib.Seq.{get_or-take}
use Rattle.integers.specs.Lists.{overwrite}
use Rattle.integers.proofs.ListsLaws.{overwrite-length, overwrite-take}
use Rattle.h265.specs.ScalingFactor.{ScalingList}
use Rattle.h265.specs.ScalingFactor.ScalingList.{flat, listed}
use Rattle.h265.specs.Limited.{limited_at, limited_count}
use Rattle.refusal.specs.Condition.{list_refused, block_refused}
use Rattle.refusal.specs.Outcome.{Outcome, outcome}
use Rattle.refusal.specs.declared.Refusal.{Refusal}
use Rattle.scaling_values.proofs.CountLaws.{count_cong}
use Rattle.scaling_values.specs.Given.{entries_of}
use Rattle.transform_1d.specs.declared.Kind.{Kind}
use Rattle.transform_1d.specs.Kinds as kinds
use Rattle.block_rules.specs.Edit.{zero_block, Buffers}
use Rattle.block_rules.specs.Opening.{Opening}
use Rattle.block_rules.specs.declared.LevelsOpened.{LevelsOpened}
use Rattle.block_rules.specs.Level.{levels_opened, list_of, on_levels_by, OpenLeft, level_opened, LevelOpens}
use Rattle.block_laws.proofs.LevelOpeningLaws.{OpenFits, level_open_is}
use Rattle.edited_history.specs.History.{history_of, coefficients_of, history_residual}
use Rattle.edited_history.specs.Run.{held_opened, ran, ran_from, opened_on, history_after}
use Rattle.edited_history.proofs.HistoryLaws.{edits_follow_history}
use Rattle.feed_format.specs.declared.Mode.{Mode}
use Rattle.feed_format.specs.declared.Mode.TheVariants.{Transform}
use Rattle.feed_format.specs.declared.Parameters.{Parameters}
use Rattle.feed_format.specs.Format.{level_at, levels_of, dst_refused, list_ignored}
use Rattle.feed_rules.specs.Block.{list_for, coefficients, transformed_at, residual_by, residual_at, block_residual, block_limited, opening_of}
use Rattle.feed_block.specs.Work.{Accepted, OpensBlock}
use Rattle.feed_block.proofs.ScaleLaws.{size_ok, block_ok, no_refusal}

pub list_is : (kind : Kind) (list : ScalingList) (p : Parameters) (n : ℕ) → list_of (opening_of kind list p n).source ≡ list
list_is kind flat p n = refl
list_is kind (listed entries d) p n = refl

pub opening_is : (kind : Kind) (list : ScalingList) (p : Parameters) (n : ℕ) → on_levels_by kind n p.precision.bit_depth p.precision.extended (pos p.qp_prime) list ≡ opening_of kind list p n
opening_is kind flat p n = refl
opening_is kind (listed entries d) p n = refl

pub dst_of : (kind : Kind) (n : ℕ) → kinds.dst_refused kind n ≡ dst_refused (Transform kind) n
unfolding dst_refused
dst_of kind n = refl

both : (s t : Bool) → s ≡ false → t ≡ false → s || t ≡ false
both s t e f = rw (e, f) refl

-- the residual of clause 8.6 is the history's of no edit
same_residual : (kind : Kind) (list : ScalingList) (p : Parameters) (n : ℕ) (vs : List ℤ) → p.mode ≡ Transform kind
    → history_residual (opening_of kind list p n) (coefficients list p n vs) ≡ block_residual list p n vs
unfolding history_residual block_residual residual_at residual_by transformed_at list_for list_ignored
same_residual kind list p n vs e = rw e refl

same_limited : (kind : Kind) (list : ScalingList) (p : Parameters) (n : ℕ) (vs : List ℤ) → p.mode ≡ Transform kind
    → block_limited list p n vs ≡ limited_count list n p.precision.bit_depth p.precision.extended (pos p.qp_prime) vs
unfolding block_limited list_for list_ignored
same_limited kind list p n vs e = rw e refl

module _ (kind : Kind) (list : ScalingList) (p : Parameters) (n : ℕ) (body : List ℕ) (before : List ℤ) (lent : Buffers)
    (a : Accepted p n) (m : p.mode ≡ Transform kind) (whole : entries_of list ≡ 64)
    (levels_long : n * n ≤ length before) (coeff_long : n * n ≤ length lent.coeff) (inter_long : n * n ≤ length lent.inter) (res_long : n * n ≤ length lent.res) where
  abbrev o : Opening
  o = opening_of kind list p n

  abbrev levels : List ℤ
  levels = overwrite (n * n) (level_at body) before

  pub opening_fits : OpenFits o levels lent
  unfolding list_refused
  opening_fits =
      record {
        size = size_ok n a.size;
        depth = a.depth;
        dst = dst_of kind n ∙ ap (λ (t : Mode). dst_refused t n) (sym m) ∙ a.dst;
        list = rw (list_is kind list p n, whole) refl;
        input = both (block_refused n (length levels)) (block_refused n (length lent.coeff)) (block_ok n (length levels) (rw (overwrite-length (n * n) (level_at body) before levels_long) levels_long)) (block_ok n (length lent.coeff) coeff_long);
        work = both (block_refused n (length lent.inter)) (block_refused n (length lent.res)) (block_ok n (length lent.inter) inter_long) (block_ok n (length lent.res) res_long);
      }

  pub opened-number : (level_opened o levels lent).answer.number ≡ 0
  opened-number = ap (λ (h : OpenLeft). h.answer.number) (level_open_is o levels lent opening_fits)

  pub levels_are : take (n * n) levels ≡ levels_of n body
  unfolding levels_of
  levels_are = overwrite-take (n * n) (level_at body) before

  level_same : (i : ℕ) → i < n * n → get_or levels i (pos 0) ≡ get_or (levels_of n body) i (pos 0)
  level_same i h = sym (get_or-take (n * n) levels i (pos 0) h) ∙ ap (λ (xs : List ℤ). get_or xs i (pos 0)) levels_are

  pub opened-limited : (level_opened o levels lent).answer.value ≡ block_limited list p n (levels_of n body)
  opened-limited = ap (λ (h : OpenLeft). h.answer.value) (level_open_is o levels lent opening_fits) ∙ counted ∙ ap (λ (l : ScalingList). limited_count l n p.precision.bit_depth p.precision.extended (pos p.qp_prime) (levels_of n body)) (list_is kind list p n) ∙ sym (same_limited kind list p n (levels_of n body) m)
    where
      counted : limited_count (list_of o.source) n p.precision.bit_depth p.precision.extended (pos p.qp_prime) levels ≡ limited_count (list_of o.source) n p.precision.bit_depth p.precision.extended (pos p.qp_prime) (levels_of n body)
      counted = unfold limited_count in count_cong _ _ (n * n) (λ i h. unfold limited_at in rw (level_same i h) refl)

  opened_on_lem : history_after o levels lent [] ≡ levels_of n body
  unfolding history_after history_of opened_on
  opened_on_lem = levels_are

  scaled : coefficients_of o (levels_of n body) ≡ coefficients list p n (levels_of n body)
  unfolding coefficients_of coefficients
  scaled = rw (list_is kind list p n) refl

  ran_is : (ran o levels lent []).buffers.res ≡ (level_opened o levels lent).buffers.res
  unfolding ran ran_from held_opened
  ran_is = refl

  held_is : held_opened o levels lent ≡ level_opened o levels lent
  unfolding held_opened
  held_is = refl

  pub opened_rows : take (n * n) (level_opened o levels lent).buffers.res ≡ block_residual list p n (levels_of n body)
  opened_rows =
      ap (take (n * n)) (sym ran_is)
      ∙ (edits_follow_history o levels lent [] (ap (λ (h : OpenLeft). h.answer.number) held_is ∙ opened-number)).res
      ∙ ap (history_residual o) (ap (coefficients_of o) opened_on_lem ∙ scaled)
      ∙ same_residual kind list p n (levels_of n body) m

  -- what the function that opens a block on a body's levels hands back
  module _ {given : Result LevelsOpened Refusal} {ls d g e : List ℤ} (h : ls ≡ levels) (opens : LevelOpens (level_opened o ls lent) given d g e) where
    there : LevelOpens (level_opened o levels lent) given d g e
    there = subst (λ (xs : List ℤ). LevelOpens (level_opened o xs lent) given d g e) h opens

    pub opens_ok : IsOk given
    opens_ok = no_refusal (levels_opened 0 zero_block) given (ap (λ (a : Outcome LevelsOpened). a.number) there.answered ∙ opened-number)

    pub opens_block : {r : LevelsOpened} → given ≡ Ok r → OpensBlock list p kind n body before lent r ls d g e
    opens_block {r} told =
        let k : r ≡ (outcome (levels_opened 0 zero_block) given).value = ap (λ (o : Result LevelsOpened Refusal). (outcome (levels_opened 0 zero_block) o).value) (sym told) in
        record {
          levels_are = h;
          block = ap (λ (x : LevelsOpened). x.block) k ∙ ap (λ (a : Outcome LevelsOpened). a.value.block) opens.answered;
          buffers_are = rw (opens.coeff, opens.inter, opens.res) refl;
          limited = ap (λ (x : LevelsOpened). x.limited) k ∙ ap (λ (a : Outcome LevelsOpened). a.value.limited) there.answered ∙ opened-limited;
          rows = ap (take (n * n)) there.res ∙ opened_rows;
        }
