-- Laws of the record format.
--   kind_unknown            a byte outside 1 .. 9 is no kind
--   length_none             kinds 3 and 9 and bytes that are no kind have no body
--   room_none               kinds 1, 2, 3 and 8 and bytes that are no kind have no text
--   Sized, kind_size        a kind of levels has one of the four sizes
--   none_is, none_at        what std's `is_none` says of a kind, and of a byte's
--   unknown_room            an unknown kind has no text
--   kind_known              the same of a byte that is of a kind
--   length_most, text_most  the body and the text of a known kind
--   room_most               no record's text takes more than that of the largest block
use Rattle.std.specs.Prelude.{Option, Some, None}
use Rattle.std.specs.Option.{is_some}
use mathlib.Core.Path.{◌≡◌, refl, sym, ap, ◌∙◌}
use mathlib.Core.Bool.{Bool, true, false, not, cond, true≢false}
use Prim.Native.Nat.{ℕ, ◌≤◌}
use native.Mathlib.Omega.{arith}
use borrow.Author.Tests.{ne_eqb, not-true, not-false}
use lib.Dec.{T, eqb}
use Rattle.h265.proofs.RangeLaws.{size_square}
use Rattle.feed_format.specs.declared.Kind.{Kind}
use Rattle.feed_format.specs.declared.Kind.TheVariants.{Parameters, List as ListKind, NoList, Levels, Edit, Reading}
use Rattle.feed_format.specs.Format.{kind_of, is_unknown, by_kind, size_known, body_length, record_length, text_room, record_room}

pub kind_unknown : (k : ℕ) → (k ≡ 1 → ⊥) → (k ≡ 2 → ⊥) → (k ≡ 3 → ⊥) → (k ≡ 4 → ⊥) → (k ≡ 5 → ⊥) → (k ≡ 6 → ⊥) → (k ≡ 7 → ⊥) → (k ≡ 8 → ⊥) → (k ≡ 9 → ⊥)
    → None ≡ kind_of k
unfolding kind_of
kind_unknown k a b c d e f g h i =
    simp (ne_eqb k 1 a, ne_eqb k 2 b, ne_eqb k 3 c, ne_eqb k 4 d, ne_eqb k 5 e, ne_eqb k 6 f, ne_eqb k 7 g, ne_eqb k 8 h, ne_eqb k 9 i)

-- a list is dropped and a block is read without a body, and what is no kind has none
pub length_none : (k : ℕ) → (k ≡ 1 → ⊥) → (k ≡ 2 → ⊥) → (k ≡ 4 → ⊥) → (k ≡ 5 → ⊥) → (k ≡ 6 → ⊥) → (k ≡ 7 → ⊥) → (k ≡ 8 → ⊥)
    → ◌≡◌ {A = ℕ} 0 (record_length k)
unfolding record_length kind_of
length_none k a b d e f g h =
    simp (ne_eqb k 1 a, ne_eqb k 2 b, ne_eqb k 4 d, ne_eqb k 5 e, ne_eqb k 6 f, ne_eqb k 7 g, ne_eqb k 8 h) (either (eqb k 3) (eqb k 9))
  where
    either : (t u : Bool) → ◌≡◌ {A = ℕ} 0 (by_kind body_length (cond t (Some NoList) (cond u (Some Reading) None)))
    either true u = refl
    either false true = refl
    either false false = refl

pub room_none : (k : ℕ) → (k ≡ 4 → ⊥) → (k ≡ 5 → ⊥) → (k ≡ 6 → ⊥) → (k ≡ 7 → ⊥) → (k ≡ 9 → ⊥) → ◌≡◌ {A = ℕ} 0 (record_room k)
unfolding record_room kind_of
room_none k d e f g i =
    simp (ne_eqb k 4 d, ne_eqb k 5 e, ne_eqb k 6 f, ne_eqb k 7 g, ne_eqb k 9 i) (either (eqb k 1) (eqb k 2) (eqb k 3) (eqb k 8))
  where
    either : (t u v w : Bool) → ◌≡◌ {A = ℕ} 0 (by_kind text_room (cond t (Some Parameters) (cond u (Some ListKind) (cond v (Some NoList) (cond w (Some Edit) None)))))
    either true u v w = refl
    either false true v w = refl
    either false false true w = refl
    either false false false true = refl
    either false false false false = refl

abbrev pub Sized : Option Kind → Type 0
Sized None = Unit {0}
Sized (Some kind) = T (size_known kind)

pub kind_size : (k : ℕ) → Sized (kind_of k)
unfolding kind_of
kind_size k =
    either (eqb k 1) _ _ tt (either (eqb k 2) _ _ tt (either (eqb k 3) _ _ tt (either (eqb k 4) _ _ tt (either (eqb k 5) _ _ tt (either (eqb k 6) _ _ tt (either (eqb k 7) _ _ tt (either (eqb k 8) _ _ tt (either (eqb k 9) _ _ tt tt))))))))
  where
    either : (t : Bool) (x y : Option Kind) → Sized x → Sized y → Sized (cond t x y)
    either true x y f g = f
    either false x y f g = g

pub kind_known : {kind : Kind} (k : ℕ) → kind_of k ≡ Some kind → T (size_known kind)
kind_known k e = rw e at (kind_size k)

pub none_is : (kind : Option Kind) (t : Bool) → is_some kind ≡ not t → is_unknown kind ≡ t
none_is None t e = sym (not-false t (sym e))
none_is (Some kind) t e = sym (not-true t (sym e))

pub none_at : (k : ℕ) {kind : Option Kind} {s t : Bool} → kind ≡ kind_of k → is_some kind ≡ not s → s ≡ t → is_unknown (kind_of k) ≡ t
none_at k {kind} {s} e n h = ap is_unknown (sym e) ∙ none_is kind s n ∙ h

pub unknown_room : (k : ℕ) → is_unknown (kind_of k) ≡ true → record_room k ≡ 0
unfolding record_room
unknown_room k e = by (kind_of k) e
  where
    by : (kind : Option Kind) → is_unknown kind ≡ true → by_kind text_room kind ≡ 0
    by None e = refl
    by (Some kind) e = absurd (true≢false (sym e))

pub length_most : (kind : Kind) → T (size_known kind) → body_length kind ≤ 4096
length_most Parameters h = omega arith
length_most ListKind h = omega arith
length_most NoList h = omega arith
length_most (Levels n) h = omega (arith, size_square n h)
length_most Edit h = omega arith
length_most Reading h = omega arith

pub text_most : (kind : Kind) → T (size_known kind) → text_room kind ≤ 12317
text_most Parameters h = omega arith
text_most ListKind h = omega arith
text_most NoList h = omega arith
text_most (Levels n) h = omega (arith, size_square n h)
text_most Edit h = omega arith
text_most Reading h = omega arith

pub room_most : (k : ℕ) → record_room k ≤ 12317
unfolding record_room
room_most k = by (kind_of k) (kind_size k)
  where
    by : (kind : Option Kind) → Sized kind → by_kind text_room kind ≤ 12317
    by None h = omega arith
    by (Some kind) h = text_most kind h
