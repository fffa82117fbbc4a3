-- `cases::reading::read_indices` meets its contract: one more number stands behind those that were read.
use Rattle.std.proofs.Common.{rules, sym, subst}
use Rattle.std.specs.Int.{w16, to_le_bytes}
use Rattle.std.proofs.lemmas.List.{take_more_set}
use Rattle.std.proofs.lemmas.Fn.{FoldsTo-push}
use Rattle.cases.specs.Reading.{GivesEach}
use Rattle.cases.proofs.reading.read_indices.Goals as goal

pub loop-x-preserved : goal.loop-x-preserved
loop-x-preserved g c =
    let given = FoldsTo-push _ _ _ _ _ _ c.loop-x.invariant.1 c.next.ensures in
    let longer = take_more_set c.loop-x.xs c.loop-x.x-index c.next.result (search rules) in
    (search rules, subst (λ xs. GivesEach (to_le_bytes w16) (g.R.Read.remaining c.args.input.now) xs (g.R.Read.remaining c.next.new.input)) (sym longer) given)
