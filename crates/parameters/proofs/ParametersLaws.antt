-- An accepted size and depth are known to the functions below the refusals.
--   known_accepted   KnownSize of log2 of the size
--   power_exact      two powers of two with none between them
--   log2_exact       log2 of a size, by the powers around it
--   offset_small     what QP' is above QP is at most 48
use mathlib.Core.Path.{◌≡◌}
use mathlib.Core.Bool.{false}
use Prim.Native.Nat.{ℕ, suc, ◌*◌, ◌^◌, ◌≤◌, ◌<◌}
use native.Mathlib.Decide.{dec_lt}
use native.Mathlib.Nat.{two-pow-succ}
use native.Mathlib.Omega.{arith}
use lib.Dec.{T}
use lib.Pow.{pow_mono}
use Rattle.h265.specs.Range.{is_size, log2_size}
use Rattle.h265.proofs.RangeLaws.{log2_size_bound, size_cases}
use Rattle.h265.specs.Quantization.{qp_bd_offset}
use Rattle.refusal.specs.Condition.{size_refused, depth_refused}
use Rattle.refusal.proofs.ConditionLaws.{size_accepted, depth_accepted}
use Rattle.parameters.specs.Parameters.{KnownSize}

pub known_accepted : (n b : ℕ) → size_refused n ≡ false → depth_refused b ≡ false → KnownSize (log2_size n) b
known_accepted n b s d =
    let l = log2_size_bound n (size_accepted n s) in
    let e = depth_accepted b d in
    record { least = l.0; most = l.1; deep = e.0; shallow = e.1 }

pub power_exact : (l m : ℕ) → 2 ^ l ≤ 2 ^ m → 2 ^ m < 2 * 2 ^ l → l ≡ m
power_exact l m a b =
    elim (dec_lt l m) [
      | yes q ↦ absurd (let e : ⊥ = omega (arith, b, two-pow-succ l, pow_mono {i = suc l} {j = m} q) in e)
      | no q ↦ elim (dec_lt m l) [
        | yes h ↦ absurd (let e : ⊥ = omega (arith, a, b, two-pow-succ m, pow_mono {i = suc m} {j = l} h) in e)
        | no h ↦ omega arith
      ]
    ]

pub log2_exact : (n l : ℕ) → T (is_size n) → 2 ^ l ≤ n → n < 2 * 2 ^ l → l ≡ log2_size n
unfolding log2_size
log2_exact n l t =
    size_cases (λ m. 2 ^ l ≤ m → m < 2 * 2 ^ l → l ≡ log2_size m)
    (λ a b. power_exact l 2 a b) (λ a b. power_exact l 3 a b) (λ a b. power_exact l 4 a b) (λ a b. power_exact l 5 a b) n t

pub offset_small : (b : ℕ) → b ≤ 16 → qp_bd_offset b ≤ 48
unfolding qp_bd_offset
offset_small b h = omega arith
