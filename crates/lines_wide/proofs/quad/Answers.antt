-- `lines_wide::quad` meets its contract: two pairs of products, which fit 32 bits by their sizes.
use mathlib.Core.Path.{◌≡◌, ap₂, ◌∙◌}
use mathlib.Core.List.{List}
use Prim.Native.Nat.{ℕ, ◌+◌, ◌*◌, ◌^◌, ◌<◌}
use native.Mathlib.Omega.{arith}
use lib.Dec.{T, leb, le→leb}
use lib.IntN.{ℤ, pos, nat_abs, ◌+ℤ◌, ◌*ℤ◌}
use lib.ListN.{get_or}
use Rattle.integers.specs.Within.{Within}
use Rattle.integers.proofs.MachineLaws.{round_trip}
use Rattle.integers.proofs.BoundLaws.{within_add, within_le, within_eq}
use Rattle.lines_wide.specs.Values.{WideEntries, WideValues}
use Rattle.lines_wide.proofs.ValuesLaws.{most, read, value_fits, entry_fits, sum_fits, sum_read}
use Rattle.lines_wide.proofs.quad.Goals as goal
use Rattle.lines_wide.proofs.quad.Goals.{After-pair-2}

abbrev at : List ℤ → ℕ → ℤ
at xs k = get_or xs k (pos 0)

module _ {t x : List ℤ} (h : WideEntries t × WideValues 4 x) where
  entry_read : (k : ℕ) → k < 4 → read (at t k) ≡ at t k
  entry_read k l = round_trip (entry_fits (h.0.at k l))

  value_read : (k : ℕ) → k < 4 → read (at x k) ≡ at x k
  value_read k l = round_trip (value_fits (h.1.at k l))

module _ (c : After-pair-2) where
  abbrev entry : ℕ → ℤ
  entry = at c.args.t

  abbrev value : ℕ → ℤ
  value = at c.args.x

  abbrev s : WideEntries c.args.t × WideValues 4 c.args.x
  s = c.requires

  abbrev pair_size : ℕ → ℕ → ℕ
  pair_size i k = (nat_abs (entry i) + nat_abs (entry k)) * 2 ^ 22

  first : c.pair.result ≡ entry 0 *ℤ value 0 +ℤ entry 1 *ℤ value 1
  first = c.pair.ensures.0 ∙ rw (entry_read s 0 (omega arith), value_read s 0 (omega arith), entry_read s 1 (omega arith), value_read s 1 (omega arith))

  first_within : Within (pair_size 0 1) c.pair.result
  first_within = rw (entry_read s 0 (omega arith), entry_read s 1 (omega arith)) at c.pair.ensures.1

  second : c.pair-2.result ≡ entry 2 *ℤ value 2 +ℤ entry 3 *ℤ value 3
  second = c.pair-2.ensures.0 ∙ rw (entry_read s 2 (omega arith), value_read s 2 (omega arith), entry_read s 3 (omega arith), value_read s 3 (omega arith))

  second_within : Within (pair_size 2 3) c.pair-2.result
  second_within = rw (entry_read s 2 (omega arith), entry_read s 3 (omega arith)) at c.pair-2.ensures.1

  both : T (leb (pair_size 0 1 + pair_size 2 3) most)
  both =
      let h = c.requires.0 in
      let p = (h.at 0 (omega arith)).within in
      let q = (h.at 1 (omega arith)).within in
      let r = (h.at 2 (omega arith)).within in
      let u = (h.at 3 (omega arith)).within in
      le→leb (pair_size 0 1 + pair_size 2 3) most (omega (arith, p, q, r, u))

pub overflow_add-result : goal.overflow_add-result
overflow_add-result c = sum_fits (first_within c) (second_within c) (both c)

pub returns : goal.returns
returns c =
    let e = sum_read (first_within c) (second_within c) (both c) in
    (e ∙ ap₂ ◌+ℤ◌ (first c) (second c), within_eq e (within_le (omega arith) (within_add (first_within c) (second_within c))))
