-- What the functions below the refusals rely on, and what they leave.
-- Letters: n size, b depth, r range; d, g and e the lengths of the buffers, or the buffers.
--   PlaceChecked n k c a   the test of row 8 in a block of size n, at row k and column c: it lets a place in the block pass
--   EditNeeds    size, kind, depth and range are right, and each of the three buffers holds a block
--   Staged      the two work buffers afterwards
use Rattle.std.specs.Prelude.{◌≡◌, true, false, ◌||◌, List, Result, Ok, Err, ℕ, ◌+◌, ◌*◌, ◌<◌, ◌≤◌, leb, T, ℤ}
use Rattle.h265.specs.Range.{is_size}
use Rattle.refusal.specs.declared.Refusal.{Refusal}
use Rattle.refusal.specs.declared.Refusal.TheVariants.{PlaceOutside}
use Rattle.transform_1d.specs.declared.Kind.{Kind}
use Rattle.transform_1d.specs.declared.Kind.TheVariants.{Dst}
use Rattle.block_rules.specs.Edit.{Buffers}

abbrev pub PlaceChecked : ℕ → ℕ → ℕ → Result (Unit {0}) Refusal → Type 0
PlaceChecked n k c (Ok _) = (leb n k || leb n c ≡ false) × (k < n) × (c < n)
PlaceChecked n k c (Err e) = (leb n k || leb n c ≡ true) × (e ≡ PlaceOutside)

pub record EditNeeds (kind : Kind) (n b r : ℕ) (d g e : ℕ) : Type 0 where
  pub size : T (is_size n)
  pub dst : kind ≡ Dst → n ≡ 4
  pub depth : (8 ≤ b) × (b ≤ 16)
  pub range : (15 ≤ r) × (r ≤ 22) × (r ≤ b + 7) × (b ≤ r + 1)
  pub coeff : n * n ≤ d
  pub inter : n * n ≤ g
  pub res : n * n ≤ e

pub record Staged (after : Buffers) (g e : List ℤ) : Type 0 where
  pub inter : g ≡ after.inter
  pub res : e ≡ after.res
