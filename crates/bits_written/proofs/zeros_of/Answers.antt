-- `bits_written::zeros_of` meets its contract: the logarithm is the definition's z.
use mathlib.Core.Path.{◌≡◌, sym}
use Prim.Native.Nat.{◌+◌, ◌^◌, ◌<◌}
use native.Mathlib.Nat.{two-pow-succ}
use native.Mathlib.Numerals.{add-one}
use native.Mathlib.Omega.{arith}
use borrow.Author.Tests.{lt-ltb, le-ltb}
use lib.Pow.{pow_mono}
use Rattle.integers.proofs.SearchLaws.{first_where_found}
use Rattle.bits_written.specs.Codes.{zeros_of}
use Rattle.bits_written.proofs.PutLaws.{zeros_few}
use Rattle.bits_written.proofs.zeros_of.Goals as goal

pub returns : goal.returns
unfolding zeros_of
returns c =
    let v = c.args.v in
    let z = c.ilog2.result in
    let few : z < 32 = grind (arith, c.ilog2.ensures.power_le, pow_mono {i = 32} {j = z}) in
    let e : z ≡ zeros_of v =
    sym (first_where_found 32 z few
    (record { at = λ i h. le-ltb (v + 1) (2 ^ (i + 1)) (omega (arith, c.ilog2.ensures.power_le, pow_mono {i = i + 1} {j = z} (omega arith))) })
    (lt-ltb (v + 1) (2 ^ (z + 1)) (rw (add-one z) (omega (arith, c.ilog2.ensures.next_power_gt, two-pow-succ z))))) in
    (e, omega (arith, e, zeros_few v c.requires))
