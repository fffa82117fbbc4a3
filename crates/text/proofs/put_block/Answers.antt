-- `text::put_block` meets its contract: the rows from the present one on are left to write, and each took at most 12 bytes a number.
use Prim.Native.Nat.{◌*◌}
use native.Mathlib.Omega.{arith}
use Rattle.std.proofs.Math.Nat.{add-sub_cancel_left}
use Rattle.text.proofs.BlockLaws.{row-length, next_row, row_fits, rows_all, rows_start, rows_more, block_done}
use Rattle.text.proofs.put_block.Goals as goal

pub loop-row-init : goal.loop-row-init
loop-row-init c = (omega arith, rows_start _ _ _ _)

pub overflow_mul-row : goal.overflow_mul-row
overflow_mul-row c = omega (arith, row_fits c.loop-row.row c.args.n (omega arith))

pub put_row-end-requires : goal.put_row-end-requires
put_row-end-requires c =
    let l = c.loop-row in
    let n = c.args.n in
    let q = row_fits l.row n (omega arith) in
    rw (add-sub_cancel_left (l.row * n) n, row-length c.args.values.now (l.row * n) n (omega (arith, q))) (omega (arith, q, l.invariant.1.long))

pub loop-row-preserved : goal.loop-row-preserved
loop-row-preserved c =
    let l = c.loop-row in
    let n = c.args.n in
    let q = row_fits l.row n (omega arith) in
    let p = rw (add-sub_cancel_left (l.row * n) n, row-length c.args.values.now (l.row * n) n (omega (arith, q))) at c.put_row-end.ensures in
    (omega (arith, next_row l.row n, p.bound), rows_more _ l.row n (omega arith) l.invariant.1 p.wrote)

pub shape_of-out : goal.shape_of-out
shape_of-out c = c.loop-row.invariant.1.long

pub returns : goal.returns
returns c =
    let n = c.args.n in
    record { wrote = block_done _ n c.loop-row.row (omega arith) c.loop-row.invariant.1; bound = omega (arith, rows_all c.loop-row.row n (omega arith) (omega arith)) }
