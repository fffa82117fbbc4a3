-- `bits_written::put_bits` meets its contract: the bits below n - i are left to write.
use mathlib.Core.Path.{◌≡◌}
use Prim.Native.Nat.{◌+◌, ◌-◌}
use native.Mathlib.Omega.{arith}
use Rattle.text.proofs.WroteLaws.{left_done}
use Rattle.bits_written.specs.Codes.{bits_of}
use Rattle.bits_written.proofs.PutLaws.{put_more}
use Rattle.bits_written.proofs.put_bits.Goals as goal

pub loop-i-preserved : goal.loop-i-preserved
loop-i-preserved c =
    let n = c.args.n in
    let i = c.loop-i.i in
    let power : n - 1 - i ≡ n - i - 1 = omega arith in
    let left : n - (i + 1) ≡ n - i - 1 = omega arith in
    let place : c.args.at + (i + 1) ≡ c.args.at + i + 1 = omega arith in
    rw (power, left, place) (put_more _ (n - i) (omega arith) c.loop-i.invariant)

pub returns : goal.returns
unfolding bits_of
returns c =
    let none : c.args.n - c.loop-i.i ≡ 0 = omega arith in
    let end : c.args.at + c.loop-i.i ≡ c.args.at + c.args.n = omega arith in
    left_done (rw (none, end) at c.loop-i.invariant)
