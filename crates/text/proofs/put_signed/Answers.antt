-- `text::put_signed` meets its contract: a minus sign where the number is negative, then the digits of its size.
use native.Mathlib.Omega.{arith}
use Prim.Native.Nat.{◌≤◌}
use lib.ListN.{length, length-set}
use Rattle.text.specs.Text.{unsigned_text}
use Rattle.text.proofs.NumberLaws.{signed_negative, signed_other, magnitude_length}
use Rattle.text.proofs.put_signed.Goals as goal
use Rattle.text.proofs.put_signed.Goals.{After-magnitude-size}

short : (c : After-magnitude-size) → length (unsigned_text c.magnitude-size.result) ≤ 10
short c = let s = c in magnitude_length s.args.z s.ranges.z c.magnitude-size.ensures

pub put_unsigned-requires : goal.put_unsigned-requires
put_unsigned-requires c = simp length-set (omega (arith, short (goal.at.put_unsigned-requires c).After-magnitude-size))

pub returns-then-z-lt0 : goal.returns-then-z-lt0
returns-then-z-lt0 c =
    let e = c in
    let m = e in
    let s = m in
    record {
      wrote = signed_negative s.args.z s.ranges.z e.if-z-lt0.true m.magnitude-size.ensures e.put_unsigned.ensures;
      bound = omega (arith, short (goal.at.returns-then-z-lt0 c).After-magnitude-size, e.put_unsigned.ensures.end);
    }

pub put_unsigned-requires-2 : goal.put_unsigned-requires-2
put_unsigned-requires-2 c = omega (arith, short (goal.at.put_unsigned-requires-2 c).After-magnitude-size)

pub returns : goal.returns
returns c =
    let e = c in
    let m = e in
    let s = m in
    record {
      wrote = signed_other s.args.z s.ranges.z e.if-z-lt0.false m.magnitude-size.ensures e.put_unsigned-2.ensures;
      bound = omega (arith, short (goal.at.returns c).After-magnitude-size, e.put_unsigned-2.ensures.end);
    }
