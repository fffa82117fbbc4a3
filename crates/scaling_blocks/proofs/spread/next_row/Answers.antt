-- `scaling_blocks::spread::next_row` meets its contract: a row that is not the first of those that share their entries has those of the row above.
use mathlib.Core.Path.{◌≡◌, sym, ap, ◌∙◌}
use Prim.Native.Nat.{ℕ, ◌+◌, ◌-◌, ◌*◌, ◌/◌, ◌%◌, ◌^◌, ◌≤◌, ◌<◌}
use native.Mathlib.Nat.{add-mul, mod-eq_of_lt}
use native.Mathlib.Decide.{dec_lt}
use native.Mathlib.Omega.{arith}
use lib.ListN.{get_or}
use lib.Pow.{split}
use Rattle.h265.specs.ScalingFactor.{repeated_position}
use Rattle.scaling_values.specs.Work.{spread_at}
use Rattle.scaling_blocks.proofs.WorkLaws.{laid_small, laid_few}
use Rattle.scaling_blocks.proofs.WorkLaws.{row_position, shared_row}
use Rattle.scaling_blocks.proofs.spread.next_row.Goals as goal
use Rattle.scaling_blocks.proofs.spread.next_row.Goals.{Else-row-repeats, Start}

-- the multiple below the row is not larger than it
back : (s : Start) → let a = s.args in (a.row / 2 ^ a.repeats * 2 ^ a.repeats) % 18446744073709551616 ≡ a.row / 2 ^ a.repeats * 2 ^ a.repeats
back s = let a = s.args in mod-eq_of_lt (omega (arith, split a.row a.repeats, s.requires.row_lt_n, laid_small s.requires.laid))

pub overflow_shr-row : goal.overflow_shr-row
overflow_shr-row c = omega (arith, laid_few (goal.at.overflow_shr-row c).Start.requires.laid)

pub overflow_shl-row : goal.overflow_shl-row
overflow_shl-row c = omega (arith, laid_few (goal.at.overflow_shl-row c).Start.requires.laid)

pub spread_row-requires : goal.spread_row-requires
spread_row-requires c = c.requires

pub returns-then-row-repeats : goal.returns-then-row-repeats
returns-then-row-repeats c = c.spread_row.ensures

-- not the first of its rows
later : (c : Else-row-repeats) → let a = c.args in (a.row / 2 ^ a.repeats * 2 ^ a.repeats ≡ a.row → ⊥)
later c = rw (back (goal.at.Else-row-repeats c).Start) at c.if-row-repeats.false

positive : (c : Else-row-repeats) → 1 ≤ c.args.row
positive c =
    let a = c.args in
    elim (dec_lt 0 a.row) [
      | yes h ↦ h
      | no h ↦ absurd (later c (omega (arith, split a.row a.repeats, h)))
    ]

-- the position above is that in the row
shared : (c : Else-row-repeats) (k : ℕ) → let a = c.args in k < a.n → repeated_position a.n (a.row * a.n - a.n + k) ≡ repeated_position a.n (a.row * a.n + k)
shared c k h =
    let a = c.args in
    let r : a.row ≡ a.row - 1 + 1 = omega (arith, positive c) in
    let e : a.row * a.n - a.n + k ≡ (a.row - 1) * a.n + k = omega (arith, ap (λ (m : ℕ). m * a.n) r, add-mul (a.row - 1) 1 a.n) in
    ap (λ (i : ℕ). repeated_position a.n i) e
    ∙ sym (row_position a.n a.repeats (a.row - 1) k c.requires.laid.rows h)
    ∙ ap (λ (q : ℕ). q * 8 + k / 2 ^ a.repeats) (shared_row a.row a.repeats (later c))
    ∙ row_position a.n a.repeats a.row k c.requires.laid.rows h

pub copy_row-requires : goal.copy_row-requires
copy_row-requires c =
    record { n_in_bounds = c.requires.laid.room; le_row = (positive (goal.at.copy_row-requires c).Else-row-repeats, c.requires.row_lt_n); n_bound = laid_small (goal.at.copy_row-requires c).Start.requires.laid }

pub returns : goal.returns
unfolding spread_at
returns c =
    let a = c.args in
    c.copy_row.ensures.fills (spread_at a.list.now a.n) (λ k h. ap (λ (p : ℕ). get_or a.list.now p 0) (shared (goal.at.returns c).Else-row-repeats k h))
