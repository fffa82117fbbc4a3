-- `text::put_row` meets its contract: the numbers from i on are left to write, and each took at most 12 bytes with what follows it.
use Prim.Native.Nat.{◌+◌, ◌*◌, ◌≤◌}
use lib.ListN.{drop}
use Rattle.text.specs.Text.{row_text}
use Rattle.text.proofs.WroteLaws.{Left}
use Rattle.text.proofs.put_row.Given as goal

abbrev pub invariant-loop-i : goal.invariant-loop-i
invariant-loop-i l = (l.end ≤ l.at + 12 * l.i)
    × Left l.initial.out l.at (row_text l.row) l.out l.end (row_text (drop l.i l.row))
