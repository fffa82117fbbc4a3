-- `stages_wide::residual_of` meets its contract: a size is 4, 8 or 16, or else 32, and above 4 the kind is the DCT.
use mathlib.Core.Path.{refl}
use native.Mathlib.Omega.{arith}
use Rattle.h265.specs.Transform.{stage_two_shift}
use Rattle.transform_1d.proofs.RowsLaws.{filled-overwrite}
use Rattle.h265.proofs.RangeLaws.{size_else, size_bound}
use Rattle.stages_wide.proofs.ResultLaws.{size_needs_wide, rows_four, rows-dct}
use Rattle.stages_wide.proofs.residual_of.Goals as goal

pub rows_4-requires : goal.rows_4-requires
unfolding stage_two_shift
rows_4-requires c = rw c.stage_two_shift-shift.ensures (size_needs_wide c.in-4.is c.requires.0 c.requires.1)

pub rows-requires : goal.rows-requires
unfolding stage_two_shift
rows-requires c = (rw c.stage_two_shift-shift.ensures (size_needs_wide c.in-8.is c.requires.0 c.requires.1), record { rows = refl; points = refl; values = refl })

pub rows-requires-in-16 : goal.rows-requires-in-16
unfolding stage_two_shift
rows-requires-in-16 c = (rw c.stage_two_shift-shift.ensures (size_needs_wide c.in-16.is c.requires.0 c.requires.1), record { rows = refl; points = refl; values = refl })

pub rows-requires-in_default : goal.rows-requires-in_default
unfolding stage_two_shift
rows-requires-in_default c =
    let r = c.in_default.in_default-own.rest in
    let n = size_else c.args.n c.requires.0.size r.0.0.1 r.0.1 r.1 in
    (rw c.stage_two_shift-shift.ensures (size_needs_wide n c.requires.0 c.requires.1), record { rows = refl; points = refl; values = refl })

pub returns-in-4 : goal.returns-in-4
returns-in-4 c =
    let k = c.args in
    let p = c.requires.0 in
    filled-overwrite k.n (omega (arith, size_bound k.n p.size))
    (rows_four k.kind k.n k.range k.inter.now (stage_two_shift k.bit_depth k.range) c.in-4.is (rw c.stage_two_shift-shift.ensures at c.rows_4.ensures)) p.room

pub returns-in-8 : goal.returns-in-8
returns-in-8 c =
    let k = c.args in
    let p = c.requires.0 in
    filled-overwrite k.n (omega (arith, size_bound k.n p.size))
    (rows-dct k.kind k.n k.range k.inter.now 8 c.in-8.is p.dst (λ z. omega arith) (stage_two_shift k.bit_depth k.range) (rw c.stage_two_shift-shift.ensures at c.rows.ensures)) p.room

pub returns-in-16 : goal.returns-in-16
returns-in-16 c =
    let k = c.args in
    let p = c.requires.0 in
    filled-overwrite k.n (omega (arith, size_bound k.n p.size))
    (rows-dct k.kind k.n k.range k.inter.now 16 c.in-16.is p.dst (λ z. omega arith) (stage_two_shift k.bit_depth k.range) (rw c.stage_two_shift-shift.ensures at c.rows-in-16.ensures)) p.room

pub returns-in_default : goal.returns-in_default
returns-in_default c =
    let k = c.args in
    let p = c.requires.0 in
    let r = c.in_default.in_default-own.rest in
    let n = size_else k.n p.size r.0.0.1 r.0.1 r.1 in
    filled-overwrite k.n (omega (arith, size_bound k.n p.size))
    (rows-dct k.kind k.n k.range k.inter.now 32 n p.dst (λ z. omega arith) (stage_two_shift k.bit_depth k.range) (rw c.stage_two_shift-shift.ensures at c.rows-in_default.ensures)) p.room
