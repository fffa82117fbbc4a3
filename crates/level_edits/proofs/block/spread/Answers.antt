-- `level_edits::block::spread` meets its contract: the loop has stored the ends of the indices passed.
use mathlib.Core.Path.{refl, ◌∙◌}
use native.Mathlib.Omega.{arith}
use borrow.Author.Rules.{sfits_of}
use lib.IntN.{pos}
use lib.ListN.{get_or}
use mir.Syntax.{w32}
use mir.Val.{SFits}
use Rattle.integers.proofs.MachineLaws.{round_trip}
use Rattle.integers.proofs.ListsLaws.{stored_none, stored_more}
use Rattle.level_search.specs.Work.{scaling_by}
use Rattle.level_edits.specs.Work.{LevelSpan}
use Rattle.scaling_values.specs.Given.{list_of}
use Rattle.level_edits.proofs.PlaceLaws.{span_least_is, span_most_is}
use Rattle.level_edits.proofs.block.spread.Goals as goal
use Rattle.level_edits.proofs.block.spread.Goals.{After-level_span-span, In-loop-i}

pub loop-i-init : goal.loop-i-init
loop-i-init c = (omega arith, refl, stored_none, stored_none)

-- what was found at an index
found : (c : After-level_span-span)
    → let l = c in
    let a = l.args in
    LevelSpan (scaling_by a.by (list_of a.list) a.n l.loop-i.i) a.range (get_or a.low.now l.loop-i.i (pos 0)) (get_or a.high.now l.loop-i.i (pos 0)) c.level_span-span.result
unfolding scaling_by
found c =
    let h = c in
    let m = h in
    let l = m in
    let a = l.args in
    let f : SFits w32 (get_or a.low.now l.loop-i.i (pos 0)) = record { sfits = h.level_span-arg-1.given } in
    let g : SFits w32 (get_or a.high.now l.loop-i.i (pos 0)) = record { sfits = h.level_span-arg-in-loop-i-1.given } in
    rw (round_trip f, round_trip g, m.factor_at-m.ensures) at c.level_span-span.ensures

pub loop-i-preserved : goal.loop-i-preserved
loop-i-preserved c = (
  omega arith,
  refl,
  stored_more c.loop-i.invariant.2 (omega (arith, c.requires.3)) (round_trip {w = w32} (sfits_of c.least_of-first.type_inv) ∙ c.least_of-first.ensures ∙ span_least_is (found (goal.at.loop-i-preserved c).After-level_span-span)),
  stored_more c.loop-i.invariant.3 (omega (arith, c.requires.4)) (round_trip {w = w32} (sfits_of c.most_of-last.type_inv) ∙ c.most_of-last.ensures ∙ span_most_is (found (goal.at.loop-i-preserved c).After-level_span-span)),
)
