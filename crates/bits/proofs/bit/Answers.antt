-- `bits::bit` meets its contract: a shift of the byte, and 0 where there is no byte.
use mathlib.Core.Path.{sym, ap}
use Prim.Native.Nat.{ℕ, ◌-◌, ◌/◌, ◌%◌, ◌^◌}
use native.Mathlib.Omega.{arith}
use Rattle.bits.specs.Bits.{bit_at}
use Rattle.bits.proofs.BitsLaws.{bit_at_past}
use Rattle.bits.proofs.bit.Goals as goal

pub returns-in-Some : goal.returns-in-Some
unfolding bit_at
returns-in-Some c =
    let h = c.in-Some.ensures.lookup in
    ap (λ (b : ℕ). b / 2 ^ (7 - c.args.at % 8) % 2) (h.3.1 0)

pub returns-in-None : goal.returns-in-None
returns-in-None c = let h = c.in-None.ensures.lookup in sym (bit_at_past c.args.bytes.now c.args.at (omega (arith, h)))
