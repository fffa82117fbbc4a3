-- `text::put_row` meets its contract: the numbers from i on are left to write, and each took at most 12 bytes with what follows it.
use mathlib.Core.Path.{refl}
use native.Mathlib.Omega.{arith}
use borrow.Author.Rules.{rules}
use Rattle.text.proofs.WroteLaws.{left_start}
use Rattle.text.proofs.BlockLaws.{row_more, row_done}
use Rattle.text.proofs.put_row.Goals as goal

pub loop-i-preserved : goal.loop-i-preserved
loop-i-preserved c =
    let l = c.loop-i in
    let p = c.put_signed-end.ensures in
    (omega (arith, p.bound), row_more _ l.i _ _ _ (omega arith) refl l.invariant.1 (search rules) refl c.separator.ensures p.wrote)

pub returns : goal.returns
returns c = record { wrote = row_done _ c.loop-i.i (omega arith) c.loop-i.invariant.1; bound = omega arith }
