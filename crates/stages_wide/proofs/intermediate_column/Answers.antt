-- `stages_wide::intermediate_column` meets its contract: a size is 4, 8 or 16, or else 32, and above 4 the kind is the DCT.
use native.Mathlib.Omega.{arith}
use Rattle.h265.proofs.RangeLaws.{size_else}
use Rattle.stages_wide.proofs.ColumnLaws.{column_placed_replaced}
use Rattle.stages_wide.proofs.ResultLaws.{column_four, column-dct}
use Rattle.stages_wide.proofs.intermediate_column.Goals as goal

pub returns-in-4 : goal.returns-in-4
returns-in-4 c =
    let k = c.args in
    let p = c.requires.0 in
    column_placed_replaced c.requires.1 p.room
    (column_four k.kind k.n k.range k.coeff.now k.column c.in-4.is c.column_4.ensures)

pub returns-in-8 : goal.returns-in-8
returns-in-8 c =
    let k = c.args in
    let p = c.requires.0 in
    column_placed_replaced c.requires.1 p.room
    (column-dct k.kind k.n k.range k.coeff.now 8 c.in-8.is p.dst (λ z. omega arith) k.column c.column_8.ensures)

pub returns-in-16 : goal.returns-in-16
returns-in-16 c =
    let k = c.args in
    let p = c.requires.0 in
    column_placed_replaced c.requires.1 p.room
    (column-dct k.kind k.n k.range k.coeff.now 16 c.in-16.is p.dst (λ z. omega arith) k.column c.column.ensures)

pub returns-in_default : goal.returns-in_default
returns-in_default c =
    let k = c.args in
    let p = c.requires.0 in
    let r = c.in_default.in_default-own.rest in
    let n = size_else k.n p.size r.0.0.1 r.0.1 r.1 in
    column_placed_replaced c.requires.1 p.room
    (column-dct k.kind k.n k.range k.coeff.now 32 n p.dst (λ z. omega arith) k.column c.column-in_default.ensures)
