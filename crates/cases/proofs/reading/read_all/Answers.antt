-- `cases::reading::read_all` meets its contract: one more number stands behind those that were read.
use Rattle.std.proofs.Common.{rules, sym, subst}
use Rattle.std.proofs.lemmas.List.{take_more_set}
use Rattle.std.proofs.lemmas.Fn.{FoldsTo-push}
use Rattle.cases.specs.Reading.{GivesEach}
use Rattle.cases.proofs.reading.read_all.Goals as goal

pub loop-x-preserved : goal.loop-x-preserved
loop-x-preserved g c =
    let given = FoldsTo-push _ _ _ _ _ _ c.loop-x.invariant.1 c.next_in.ensures in
    let longer = take_more_set c.loop-x.xs c.loop-x.x-index c.next_in.result (search rules) in
    (search rules, subst (λ xs. GivesEach g.T.Number.bytes (g.R.Read.remaining c.args.input.now) xs (g.R.Read.remaining c.next_in.new.input)) (sym longer) given)
