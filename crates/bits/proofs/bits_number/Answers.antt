-- `bits::bits_number` meets its contract: the number of the first i bits is below 2^32.
use mathlib.Core.Path.{refl}
use Prim.Native.Nat.{◌<◌}
use native.Mathlib.Omega.{arith}
use lib.Pow.{pow_mono}
use Rattle.bits.specs.Bits.{bits_number}
use Rattle.bits.proofs.BitsLaws.{bits_number_small, bits_number_add_one}
use Rattle.bits.proofs.bits_number.Goals as goal
use Rattle.bits.proofs.bits_number.Goals.{In-loop-i}

small : (c : In-loop-i) → c.loop-i.number < 4294967296
small c =
    omega (arith, c.loop-i.invariant, bits_number_small c.args.bytes.now c.args.at c.loop-i.i, pow_mono {i = c.loop-i.i} {j = 32} (omega (arith, c.requires.0)))

pub loop-i-init : goal.loop-i-init
unfolding bits_number
loop-i-init c = refl

pub overflow_mul-number : goal.overflow_mul-number
overflow_mul-number c = omega (arith, small c)

pub overflow_add-number : goal.overflow_add-number
overflow_add-number c = omega (arith, small (goal.at.overflow_add-number c).In-loop-i)

pub loop-i-preserved : goal.loop-i-preserved
loop-i-preserved c =
    omega (arith, c.loop-i.invariant, bits_number_add_one c.args.bytes.now c.args.at c.loop-i.i)
