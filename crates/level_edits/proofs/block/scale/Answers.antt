-- `level_edits::block::scale` meets its contract: the loop has stored the coefficients of the levels passed.
use mathlib.Core.Path.{◌≡◌, refl, ◌∙◌}
use native.Mathlib.Omega.{arith}
use borrow.Author.Rules.{sfits_of}
use lib.IntN.{pos}
use lib.ListN.{get_or}
use mir.Syntax.{w32}
use mir.Val.{SFits, to_z, of_z}
use Rattle.integers.proofs.MachineLaws.{round_trip}
use Rattle.integers.proofs.ListsLaws.{stored_none, stored_more}
use Rattle.h265.proofs.RangeLaws.{size_square}
use Rattle.level_search.specs.Work.{scaling_by}
use Rattle.scaling_values.specs.Given.{list_of}
use Rattle.level_edits.proofs.block.scale.Goals as goal
use Rattle.level_edits.proofs.block.scale.Goals.{After-scaled_value-x}

pub loop-i-init : goal.loop-i-init
loop-i-init c = (omega arith, refl, stored_none)

value_is : (c : After-scaled_value-x)
    → let l = c in
    let a = l.args in
    to_z w32 (of_z w32 c.scaled_value-x.result) ≡ scaling_by a.by (list_of a.list) a.n l.loop-i.i (get_or a.levels.now l.loop-i.i (pos 0))
unfolding scaling_by
value_is c =
    let m = c in
    let l = m in
    let a = l.args in
    let f : SFits w32 (get_or a.levels.now l.loop-i.i (pos 0)) = record { sfits = m.scaled_value-arg-1.given } in
    round_trip {w = w32} (sfits_of c.scaled_value-x.type_inv) ∙ c.scaled_value-x.ensures ∙ rw (round_trip f, m.factor_at.ensures)

pub loop-i-preserved : goal.loop-i-preserved
loop-i-preserved c =
    let a = c.args in (
      omega arith,
      refl,
      stored_more c.loop-i.invariant.2 (omega (arith, c.requires.3, size_square a.n c.requires.1.size)) (value_is c),
    )
