-- `list_places::lowest_free` meets its contract. The loop's invariant: no number below i is free.
use mathlib.Core.Path.{◌≡◌, sym, ap, ◌∙◌}
use native.Mathlib.Omega.{arith}
use borrow.Author.Tests.{eq-eqb, ne_eqb, lt-leb}
use lib.Dec.{leb}
use Rattle.integers.proofs.SearchLaws.{none_suc, first_where-none, first_where_found}
use Rattle.list_places.specs.Stream.{lowest_free, full}
use Rattle.list_places.specs.Table.{stream_of}
use Rattle.list_places.proofs.TableLaws.{free_byte}
use Rattle.list_places.proofs.lowest_free.Goals as goal

pub returns : goal.returns
unfolding full lowest_free
returns c = ap (leb 12) (first_where-none 12 (omega arith) c.loop-i.invariant)

pub returns-then-table-start_of-eq0 : goal.returns-then-table-start_of-eq0
unfolding full lowest_free
returns-then-table-start_of-eq0 c =
    let a = c.args in
    let e : lowest_free (stream_of a.table.now a.stream) ≡ c.loop-i.i =
    first_where_found 12 c.loop-i.i (omega (arith, c.loop-i-test.true)) c.loop-i.invariant
    (free_byte a.table.now a.stream c.loop-i.i (omega (arith, c.requires)) (omega (arith, c.loop-i-test.true)) ∙ eq-eqb _ _ (rw c.start_of.ensures at c.if-table-start_of-eq0.true)) in
    (ap (leb 12) e ∙ lt-leb 12 c.loop-i.i (omega (arith, c.loop-i-test.true)), omega (arith, c.loop-i-test.true), sym e)

pub loop-i-preserved : goal.loop-i-preserved
loop-i-preserved c =
    let a = c.args in
    none_suc c.loop-i.invariant
    (free_byte a.table.now a.stream c.loop-i.i (omega (arith, c.requires)) (omega (arith, c.loop-i-test.true)) ∙ ne_eqb _ _ (rw c.start_of.ensures at c.if-table-start_of-eq0.false))
