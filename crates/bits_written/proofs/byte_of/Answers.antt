-- `bits_written::byte_of` meets its contract: the number so far is below 2^7.
use mathlib.Core.Path.{refl, ap, ◌∙◌}
use Prim.Native.Nat.{◌+◌, ◌*◌, ◌<◌}
use native.Mathlib.Omega.{arith}
use lib.Pow.{pow_mono}
use Rattle.bits_written.specs.Bytes.{bits_value, byte_of}
use Rattle.bits_written.proofs.BytesLaws.{bits_value_small, bits_value_add_one, eight_long, eight_bit}
use Rattle.bits_written.proofs.byte_of.Goals as goal
use Rattle.bits_written.proofs.byte_of.Goals.{In-loop-bit}

within : (c : In-loop-bit) → c.loop-bit.bit-index < 8
within c = omega (arith, eight_long c.args.bits.now (8 * c.args.k) c.requires.1)

small : (c : In-loop-bit) → c.loop-bit.byte < 128
small c =
    let i = c.loop-bit.bit-index in
    omega (arith, c.loop-bit.invariant, bits_value_small c.args.bits.now (8 * c.args.k) i c.requires.0, pow_mono {i = i} {j = 7} (omega (arith, within c)))

pub loop-bit-init : goal.loop-bit-init
unfolding bits_value
loop-bit-init c = refl

pub overflow_mul-byte : goal.overflow_mul-byte
overflow_mul-byte c = omega (arith, small c)

pub overflow_add-byte : goal.overflow_add-byte
overflow_add-byte c =
    let l = (goal.at.overflow_add-byte c).In-loop-bit in
    let i = l.loop-bit.bit-index in
    omega (arith, small l, eight_bit c.args.bits.now (8 * c.args.k) i (within l), c.requires.0.small (8 * c.args.k + i))

pub loop-bit-preserved : goal.loop-bit-preserved
loop-bit-preserved c =
    let l = (goal.at.loop-bit-preserved c).In-loop-bit in
    let i = l.loop-bit.bit-index in
    omega (arith, c.loop-bit.invariant, eight_bit c.args.bits.now (8 * c.args.k) i (within l), bits_value_add_one c.args.bits.now (8 * c.args.k) i)

pub returns : goal.returns
unfolding byte_of
returns c =
    let e = eight_long c.args.bits.now (8 * c.args.k) c.requires.1 in
    c.loop-bit.invariant ∙ ap (bits_value c.args.bits.now (8 * c.args.k)) (omega (arith, e))
