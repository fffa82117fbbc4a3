-- `scaling_values::long::long_params` meets its contract: the remainder by 64 changes nothing, and either way the numbers are the block's.
use mathlib.Core.Path.{◌≡◌, ap, ap₂, subst, sym, ◌∙◌}
use Prim.Native.Nat.{ℕ, ◌+◌, ◌-◌, ◌*◌, ◌/◌, ◌%◌, ◌^◌, ◌<◌, ◌≤◌}
use native.Mathlib.Omega.{arith}
use borrow.Author.Rules.{sfits_of}
use lib.Count.{count_trailing_zeros}
use lib.IntN.{ℤ, pos, nat_abs}
use lib.Pow.{pow_mono, pow_pos}
use mir.Syntax.{w32, w64}
use mir.Val.{to_z, of_z}
use Rattle.integers.specs.Shift.{pow2}
use Rattle.integers.proofs.MachineLaws.{round_trip, shl_one}
use Rattle.integers.proofs.BoundLaws.{within_fits}
use Rattle.scaling_values.specs.declared.LongParams.{LongParams}
use Rattle.scaling_values.specs.Listed.{zeros_by, odd_by}
use Rattle.scaling_values.specs.Long.{long_by, LongFor}
use Rattle.scaling_values.proofs.ThresholdLaws.{coeff_max_pos}
use Rattle.scaling_values.proofs.ListedLaws.{zeros_by_is, odd_by_is}
use Rattle.scaling_values.proofs.LongLaws.{lowered_for, raised_for, lowered_end_is, raised_end_is}
use Rattle.scaling_values.proofs.long.long_params.Goals as goal
use Rattle.scaling_values.proofs.long.long_params.Goals.{After-odd_of-base, After-scale_of-scale, Else-zeros-by, Start, Then-zeros-by}

-- the block's numbers, in the contract's terms
abbrev range : Start → ℕ
range s = s.requires.longable.range

abbrev most : Start → ℕ
most s = 2 ^ range s - 1

top_is : (s : Start) → most s + 1 ≡ 2 ^ range s
top_is s = omega (arith, pow_pos (range s))

most_small : (s : Start) → most s ≤ 4194303
most_small s = omega (arith, pow_mono {i = range s} {j = 22} s.requires.longable.narrow)

most_trip : (s : Start) → to_z w64 (of_z w64 s.args.by.clip_max) ≡ pos (most s)
most_trip s = round_trip {w = w64} (within_fits {b = 4194304} tt s.requires.manageable.most) ∙ s.requires.longable.most ∙ coeff_max_pos (range s)

pub overflow_cast-most : goal.overflow_cast-most
overflow_cast-most c = rw (most_trip (goal.at.overflow_cast-most c).Start) (tt, omega (arith, most_small (goal.at.overflow_cast-most c).Start))

-- ---- the shift is the larger power of two
abbrev odd-1 : Then-zeros-by → After-odd_of-base
odd-1 t = (goal.at.Then-zeros-by t).After-odd_of-base

abbrev start-1 : Then-zeros-by → Start
start-1 t = (goal.at.After-odd_of-base (odd-1 t)).Start

lower : (t : Then-zeros-by) → let by = (start-1 t).args.by in zeros_by by < by.shift
lower t = subst (λ (z : ℕ). z < (start-1 t).args.by.shift) (zeros_by_is _ (odd-1 t).scale_of-scale.ensures) t.if-zeros-by.true

abbrev power-1 : Then-zeros-by → ℕ
power-1 t = let s = start-1 t in range s + (s.args.by.shift - zeros_by s.args.by) - 7

end_1 : (t : Then-zeros-by)
    → let s = start-1 t in ((nat_abs (to_z w64 (of_z w64 s.args.by.clip_max)) + 1) * 2 ^ (s.args.by.shift - count_trailing_zeros 32 (odd-1 t).scale_of-scale.result)) % 4294967296 / 2 ^ 7 ≡ 2 ^ power-1 t
end_1 t =
    let s = start-1 t in
    ap₂ (λ (m : ℤ) (z : ℕ). ((nat_abs m + 1) * 2 ^ (s.args.by.shift - z)) % 4294967296 / 2 ^ 7) (most_trip s) (zeros_by_is _ (odd-1 t).scale_of-scale.ensures) ∙ lowered_end_is s.requires.longable (lower t)

pub long_of-requires : goal.long_of-requires
long_of-requires c =
    let s = start-1 (goal.at.long_of-requires c).Then-zeros-by in record {
      le_end = subst (λ (e : ℕ). (1 ≤ e) × (e ≤ 16777216)) (sym (end_1 (goal.at.long_of-requires c).Then-zeros-by))
          (omega (arith, pow_pos (power-1 (goal.at.long_of-requires c).Then-zeros-by)), pow_mono {i = power-1 (goal.at.long_of-requires c).Then-zeros-by} {j = 24} (omega (arith, s.requires.longable.together)));
      most_bound = subst (λ (m : ℤ). nat_abs m ≤ 4194303) (sym (most_trip s)) (most_small s);
    }

-- the rounding
add_is : (d : ℕ) → d ≤ 20 → to_z w32 ((1 * 2 ^ (d - 1)) % 4294967296) ≡ pow2 (d - 1)
add_is d h = shl_one w32 (d - 1) (omega (arith, h))

pub returns-then-zeros-by : goal.returns-then-zeros-by
returns-then-zeros-by c =
    let o = odd-1 (goal.at.returns-then-zeros-by c).Then-zeros-by in
    let s = start-1 (goal.at.returns-then-zeros-by c).Then-zeros-by in
    let by = s.args.by in
    let z : ℕ = count_trailing_zeros 32 o.scale_of-scale.result in
    let e : ℕ = ((nat_abs (to_z w64 (of_z w64 by.clip_max)) + 1) * 2 ^ (by.shift - z)) % 4294967296 / 2 ^ 7 in
    let m : ℕ = nat_abs (to_z w64 (of_z w64 by.clip_max)) in
    subst (λ (k : LongParams). LongFor by k)
    (sym
    (c.long_of.ensures
    ∙ ap₂ (λ (b : ℤ) (a : ℤ). long_by b a (by.shift - z) 0 e m) (round_trip {w = w32} (sfits_of o.odd_of-base.type_inv) ∙ odd_by_is _ o.odd_of-base.ensures o.scale_of-scale.ensures s.requires.longable.odd) (add_is (by.shift - z) (omega (arith, s.requires.longable.high)))
    ∙ ap (λ (y : ℕ). long_by (pos (odd_by by)) (pow2 (by.shift - y - 1)) (by.shift - y) 0 e m) (zeros_by_is _ o.scale_of-scale.ensures)
    ∙ ap₂ (λ (x : ℕ) (y : ℤ). long_by (pos (odd_by by)) (pow2 (by.shift - zeros_by by - 1)) (by.shift - zeros_by by) 0 x (nat_abs y)) (end_1 (goal.at.returns-then-zeros-by c).Then-zeros-by) (most_trip s)))
    (lowered_for s.requires.longable (most s) (top_is s) (lower (goal.at.returns-then-zeros-by c).Then-zeros-by))

-- ---- the other case
abbrev odd-2 : Else-zeros-by → After-odd_of-base
odd-2 t = (goal.at.Else-zeros-by t).After-odd_of-base

abbrev start-2 : Else-zeros-by → Start
start-2 t = (goal.at.After-odd_of-base (odd-2 t)).Start

higher : (t : Else-zeros-by) → let by = (start-2 t).args.by in by.shift ≤ zeros_by by
higher t = subst (λ (z : ℕ). (start-2 t).args.by.shift ≤ z) (zeros_by_is _ (odd-2 t).scale_of-scale.ensures) (omega (arith, t.if-zeros-by.false))

abbrev power-2 : Else-zeros-by → ℕ
power-2 t = let s = start-2 t in range s - (zeros_by s.args.by - s.args.by.shift) - 7

end_2 : (t : Else-zeros-by)
    → let s = start-2 t in (nat_abs (to_z w64 (of_z w64 s.args.by.clip_max)) + 1) / 2 ^ (count_trailing_zeros 32 (odd-2 t).scale_of-scale.result - s.args.by.shift) / 2 ^ 7 ≡ 2 ^ power-2 t
end_2 t =
    let s = start-2 t in
    ap₂ (λ (m : ℤ) (z : ℕ). (nat_abs m + 1) / 2 ^ (z - s.args.by.shift) / 2 ^ 7) (most_trip s) (zeros_by_is _ (odd-2 t).scale_of-scale.ensures) ∙ raised_end_is s.requires.longable (higher t)

pub long_of-requires-2 : goal.long_of-requires-2
long_of-requires-2 c =
    let s = start-2 (goal.at.long_of-requires-2 c).Else-zeros-by in record {
      le_end = subst (λ (e : ℕ). (1 ≤ e) × (e ≤ 16777216)) (sym (end_2 (goal.at.long_of-requires-2 c).Else-zeros-by))
          (omega (arith, pow_pos (power-2 (goal.at.long_of-requires-2 c).Else-zeros-by)), pow_mono {i = power-2 (goal.at.long_of-requires-2 c).Else-zeros-by} {j = 24} (omega (arith, s.requires.longable.narrow)));
      most_bound = subst (λ (m : ℤ). nat_abs m ≤ 4194303) (sym (most_trip s)) (most_small s);
    }

pub returns : goal.returns
returns c =
    let o = odd-2 (goal.at.returns c).Else-zeros-by in
    let s = start-2 (goal.at.returns c).Else-zeros-by in
    let by = s.args.by in
    let z : ℕ = count_trailing_zeros 32 o.scale_of-scale.result in
    let e : ℕ = (nat_abs (to_z w64 (of_z w64 by.clip_max)) + 1) / 2 ^ (z - by.shift) / 2 ^ 7 in
    let m : ℕ = nat_abs (to_z w64 (of_z w64 by.clip_max)) in
    subst (λ (k : LongParams). LongFor by k)
    (sym
    (c.long_of-2.ensures
    ∙ ap₂ (λ (b : ℤ) (y : ℕ). long_by b (pos 0) 0 (y - by.shift) e m) (round_trip {w = w32} (sfits_of o.odd_of-base.type_inv) ∙ odd_by_is _ o.odd_of-base.ensures o.scale_of-scale.ensures s.requires.longable.odd) (zeros_by_is _ o.scale_of-scale.ensures)
    ∙ ap₂ (λ (x : ℕ) (y : ℤ). long_by (pos (odd_by by)) (pos 0) 0 (zeros_by by - by.shift) x (nat_abs y)) (end_2 (goal.at.returns c).Else-zeros-by) (most_trip s)))
    (raised_for s.requires.longable (most s) (top_is s) (higher (goal.at.returns c).Else-zeros-by))
