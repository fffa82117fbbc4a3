-- `scaling_blocks::spread::spread_rows` meets its contract. The loop's invariant: the entries of the first rows are laid out.
use mathlib.Core.Path.{ap}
use Prim.Native.Nat.{ℕ, ◌*◌}
use native.Mathlib.Nat.{suc-mul}
use native.Mathlib.Omega.{arith}
use Rattle.scaling_blocks.proofs.WorkLaws.{fills_none, fills_to, fills_then}
use Rattle.scaling_blocks.proofs.spread.spread_rows.Goals as goal

pub loop-row-init : goal.loop-row-init
loop-row-init c = fills_none (omega arith)

pub next_row-requires : goal.next_row-requires
next_row-requires c =
    record {
      laid = record { rows = c.requires.rows; whole = c.requires.whole; room = omega (arith, c.loop-row.invariant.same, c.requires.room) };
      row_lt_n = c.loop-row-test.true;
    }

pub loop-row-preserved : goal.loop-row-preserved
loop-row-preserved c =
    fills_then c.loop-row.invariant (fills_to c.next_row.ensures (omega (arith, suc-mul c.loop-row.row c.args.n)))

pub shape_of-entries : goal.shape_of-entries
shape_of-entries c = c.loop-row.invariant.same

pub returns : goal.returns
returns c = fills_to c.loop-row.invariant (ap (λ (k : ℕ). k * c.args.n) (omega arith))
