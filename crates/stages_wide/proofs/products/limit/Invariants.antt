-- `stages_wide::products::limit` meets its contract: the values passed are stored.
use Rattle.transform_1d.specs.Rows.{Placed}
use Rattle.stages_wide.specs.Parts.{limited_at}
use Rattle.stages_wide.proofs.products.limit.Given as goal

abbrev pub invariant-loop-j : goal.invariant-loop-j
invariant-loop-j l = Placed 0 l.j (limited_at l.range l.s) l.initial.x l.x
