-- `cases::reading::read_named` meets its contract: one more byte stands behind those that were read.
use Rattle.std.proofs.Common.{rules, sym, ◌≡◌, take, map, ◌++◌, ◌∷◌, [], ◌∙◌}
use Rattle.std.proofs.lemmas.List.{take_more_set, map-append}
use Rattle.std.proofs.lemmas.Fn.{FoldsTo-push}
use Rattle.cases.specs.Reading.{named}
use Rattle.cases.proofs.reading.read_named.Goals as goal

pub loop-x-preserved : goal.loop-x-preserved
loop-x-preserved g c =
    let byte = c.next.result in
    let bytes = c.loop-x.invariant.1 in
    let longer = take_more_set c.loop-x.xs c.loop-x.x-index c.named.result (search rules) in
    let same : take c.loop-x.x-index c.loop-x.xs ++ c.named.result ∷ [] ≡ map named bytes ++ named byte ∷ [] = λ i. c.loop-x.invariant.2 i ++ c.named.ensures i ∷ [] in
    (search rules, bytes ++ byte ∷ [], longer ∙ same ∙ sym (map-append named bytes (byte ∷ [])), FoldsTo-push _ _ _ _ _ _ c.loop-x.invariant.3 c.next.ensures)
