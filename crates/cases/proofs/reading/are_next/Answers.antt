-- `cases::reading::are_next` meets its contract: one more number was read and compared.
use Rattle.std.proofs.Common.{sym, ap, ◌≡◌, ◌+◌, take, length, ◌&&◌, ◌++◌, ◌∷◌, [], ◌∙◌}
use Rattle.std.specs.Cmp.Lexicographic.{pointwise}
use Rattle.std.proofs.lemmas.Fn.{FoldsTo-push}
use Rattle.std.proofs.lemmas.List.{length-append, length-take-le}
use Rattle.std.proofs.lemmas.Grind.{take_at_read}
use Rattle.cases.proofs.ReadingLaws.{pointwise_push}
use Rattle.cases.proofs.reading.are_next.Goals as goal

pub loop-x-preserved : goal.loop-x-preserved
loop-x-preserved g c =
    let i = c.loop-x.x-index in
    let x = c.x-item.result in
    let xs = c.args.xs.now in
    let ys = c.loop-x.invariant.0 in
    let y = c.next_in.result in
    let long = c.loop-x.invariant.1 in
    let longer : length (ys ++ y ∷ []) ≡ i + 1 = length-append ys (y ∷ []) ∙ ap (λ n. n + 1) long in
    let as_long : length (take i xs) ≡ length ys = length-take-le i xs c.loop-x.auto.x-index-end ∙ sym long in
    let more : take (i + 1) xs ≡ take i xs ++ x ∷ [] = (take_at_read xs i x c.loop-x-test.true).1 ∙ ap (λ item. take i xs ++ item ∷ []) (sym c.x-item.is) in
    let same : (c.loop-x.same && c.eq-same.result) ≡ (pointwise g.T.PartialEq.eq (take i xs) ys && g.T.PartialEq.eq x y) = λ d. c.loop-x.invariant.3 d && c.eq-same.ensures d in
    let pushed = pointwise_push g.T.PartialEq.eq (take i xs) ys x y as_long in
    (ys ++ y ∷ [], longer, FoldsTo-push _ _ _ _ _ _ c.loop-x.invariant.2 c.next_in.ensures, same ∙ sym pushed ∙ ap (λ items. pointwise g.T.PartialEq.eq items (ys ++ y ∷ [])) (sym more))
