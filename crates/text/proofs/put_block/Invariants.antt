-- `text::put_block` meets its contract: the rows from the present one on are left to write, and each took at most 12 bytes a number.
use Prim.Native.Nat.{◌+◌, ◌-◌, ◌*◌, ◌≤◌}
use lib.ListN.{drop}
use Rattle.text.specs.Text.{rows_text, block_text}
use Rattle.text.proofs.WroteLaws.{Left}
use Rattle.text.proofs.put_block.Given as goal

abbrev pub invariant-loop-row : goal.invariant-loop-row
invariant-loop-row l = (l.end ≤ l.at + 12 * (l.row * l.n))
    × Left l.initial.out l.at (block_text l.n l.values) l.out l.end (rows_text (l.n - l.row) l.n (drop (l.row * l.n) l.values))
