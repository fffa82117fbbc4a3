-- What an accepted size or depth gives.
--   size_accepted   the size is one of the four
--   depth_accepted  the depth is 8 .. 16
--   width_accepted  the depth is at most 9, and precision is not extended
--   rotation_accepted  the size is 4
--   block_room      a buffer has room for the block
--   list_whole      a list has 64 entries
use mathlib.Core.Path.{◌≡◌, subst}
use mathlib.Core.Bool.{Bool, true, false, not}
use Prim.Native.Nat.{ℕ, ◌*◌, ◌≤◌}
use borrow.Author.Tests.{ltb-false}
use lib.Dec.{T, eqb, eqb→eq, ltb}
use Rattle.h265.specs.Range.{is_size}
use Rattle.integers.proofs.TestLaws.{neither}
use Rattle.refusal.specs.Condition.{size_refused, depth_refused, width_refused, rotation_refused, block_refused, list_refused}

not_false : (t : Bool) → not t ≡ false → T t
not_false true e = tt
not_false false e = subst T e tt

pub size_accepted : (n : ℕ) → size_refused n ≡ false → T (is_size n)
unfolding size_refused
size_accepted n e = not_false (is_size n) e

pub depth_accepted : (b : ℕ) → depth_refused b ≡ false → (8 ≤ b) × (b ≤ 16)
unfolding depth_refused
depth_accepted b e = let h = neither (ltb b 8) (ltb 16 b) e in (ltb-false b 8 h.0, ltb-false 16 b h.1)

pub width_accepted : (b : ℕ) (x : Bool) → width_refused b x ≡ false → (b ≤ 9) × (x ≡ false)
unfolding width_refused
width_accepted b x e = let h = neither (ltb 9 b) x e in (ltb-false 9 b h.0, h.1)

pub rotation_accepted : (n : ℕ) → rotation_refused true n ≡ false → n ≡ 4
unfolding rotation_refused
rotation_accepted n e = eqb→eq n 4 (not_false (eqb n 4) e)

pub block_room : (n len : ℕ) → block_refused n len ≡ false → n * n ≤ len
unfolding block_refused
block_room n len e = ltb-false len (n * n) e

pub list_whole : (len : ℕ) → list_refused len ≡ false → len ≡ 64
unfolding list_refused
list_whole len e = eqb→eq len 64 (not_false (eqb len 64) e)
