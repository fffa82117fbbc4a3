-- `stages_wide::intermediate_of` meets its contract: a size is 4, 8 or 16, or else 32, and above 4 the kind is the DCT.
use native.Mathlib.Omega.{arith}
use Rattle.transform_1d.proofs.RowsLaws.{filled-overwrite}
use Rattle.h265.proofs.RangeLaws.{size_else, size_bound}
use Rattle.stages_wide.proofs.ResultLaws.{columns_four, columns_dct}
use Rattle.stages_wide.proofs.intermediate_of.Goals as goal

pub returns-in-4 : goal.returns-in-4
returns-in-4 c =
    let k = c.args in
    let p = c.requires in
    filled-overwrite k.n (omega (arith, size_bound k.n p.size))
    (columns_four k.kind k.n k.range k.coeff.now c.in-4.is c.columns_4.ensures) p.room

pub returns-in-8 : goal.returns-in-8
returns-in-8 c =
    let k = c.args in
    let p = c.requires in
    filled-overwrite k.n (omega (arith, size_bound k.n p.size))
    (columns_dct k.kind k.n k.range k.coeff.now 8 c.in-8.is p.dst (λ z. omega arith) c.columns.ensures) p.room

pub returns-in-16 : goal.returns-in-16
returns-in-16 c =
    let k = c.args in
    let p = c.requires in
    filled-overwrite k.n (omega (arith, size_bound k.n p.size))
    (columns_dct k.kind k.n k.range k.coeff.now 16 c.in-16.is p.dst (λ z. omega arith) c.columns-in-16.ensures) p.room

pub returns-in_default : goal.returns-in_default
returns-in_default c =
    let k = c.args in
    let p = c.requires in
    let r = c.in_default.in_default-own.rest in
    let n = size_else k.n p.size r.0.0.1 r.0.1 r.1 in
    filled-overwrite k.n (omega (arith, size_bound k.n p.size))
    (columns_dct k.kind k.n k.range k.coeff.now 32 n p.dst (λ z. omega arith) c.columns-in_default.ensures) p.room
