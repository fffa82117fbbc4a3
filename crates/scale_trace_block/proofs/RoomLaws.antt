-- Laws of the room that a listing may take.
--   room_is                 the lines of a record fit its room
--   room_none               a byte that is no kind has no lines
--   size_none, list_none    a kind without levels has no size, and no lines
use mathlib.Core.Path.{◌≡◌, refl, sym}
use mathlib.Core.Bool.{Bool, true, false, cond, true≢false}
use Prim.Native.Nat.{ℕ, ◌*◌}
use borrow.Author.Tests.{ne_eqb}
use lib.Dec.{eqb}
use Rattle.std.specs.Prelude.{Option, Some, None}
use Rattle.feed_format.specs.declared.Kind.{Kind}
use Rattle.feed_format.specs.declared.Kind.TheVariants.{Parameters, List as ListKind, NoList, Edit, Reading}
use Rattle.feed_format.specs.Format.{kind_of, is_unknown}
use Rattle.scale_trace_rules.specs.Trace.{size_of, list_room}

pub room_is : (k : ℕ) → list_room k ≡ 20 * (size_of (kind_of k) * size_of (kind_of k))
unfolding list_room
room_is k = refl

pub room_none : (k : ℕ) → is_unknown (kind_of k) ≡ true → list_room k ≡ 0
unfolding list_room
room_none k e = by (kind_of k) e
  where
    by : (kind : Option Kind) → is_unknown kind ≡ true → 20 * (size_of kind * size_of kind) ≡ 0
    by None e = refl
    by (Some kind) e = absurd (true≢false (sym e))

pub size_none : (k : ℕ) → (k ≡ 4 → ⊥) → (k ≡ 5 → ⊥) → (k ≡ 6 → ⊥) → (k ≡ 7 → ⊥) → ◌≡◌ {A = ℕ} 0 (size_of (kind_of k))
unfolding kind_of
size_none k a b c d =
    simp (ne_eqb k 4 a, ne_eqb k 5 b, ne_eqb k 6 c, ne_eqb k 7 d) (either (eqb k 1) (eqb k 2) (eqb k 3) (eqb k 8) (eqb k 9))
  where
    either : (t u v w x : Bool) → ◌≡◌ {A = ℕ} 0 (size_of (cond t (Some Parameters) (cond u (Some ListKind) (cond v (Some NoList) (cond w (Some Edit) (cond x (Some Reading) None))))))
    either true u v w x = refl
    either false true v w x = refl
    either false false true w x = refl
    either false false false true x = refl
    either false false false false true = refl
    either false false false false false = refl

pub list_none : (k : ℕ) → (k ≡ 4 → ⊥) → (k ≡ 5 → ⊥) → (k ≡ 6 → ⊥) → (k ≡ 7 → ⊥) → ◌≡◌ {A = ℕ} 0 (list_room k)
unfolding list_room
list_none k a b c d = rw (← size_none k a b c d) refl
