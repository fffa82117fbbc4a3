-- `feed_block::block::open_body` meets its contract: nothing of the opening's table applies.
use borrow.Author.Rules.{sfits_of}
use Rattle.integers.proofs.MachineLaws.{round_trip}
use Rattle.block_rules.specs.Edit.{buffers}
use Rattle.block_rules.specs.Level.{level_opened, LevelOpens}
use Rattle.feed_rules.specs.Block.{list_in, opening_of}
use Rattle.feed_block.proofs.OpenLaws.{opening_is, opens_ok, opens_block}
use Rattle.feed_block.proofs.block.open_body.Goals as goal
use Rattle.feed_block.proofs.block.open_body.Goals.{After-open_levels}

-- the call's opening, with the list in force
opens : (k : After-open_levels)
    → let a = k.args in
    LevelOpens (level_opened (opening_of a.kind (list_in a.s.list) a.p a.body.size) k.read.new.levels (buffers a.coeff.now a.inter.now a.residual.now)) k.open_levels.result
    k.open_levels.new.coeff k.open_levels.new.inter k.open_levels.new.residual
opens k =
    let a = k.args in
    rw (k.scaling_list-list.ensures.value, round_trip (sfits_of k.from.type_inv), k.from.ensures, opening_is a.kind (list_in a.s.list) a.p a.body.size) at k.open_levels.ensures

pub unwrap-requires : goal.unwrap-requires
unwrap-requires c =
    let a = c.args in
    opens_ok a.kind (list_in a.s.list) a.p a.body.size a.body.bytes.now a.levels.now (buffers a.coeff.now a.inter.now a.residual.now)
    c.requires.accepted.0 c.requires.accepted.1 c.scaling_list-list.ensures.entries c.requires.n_in_bounds.0 c.requires.n_in_bounds.1 c.requires.n_in_bounds.2 c.requires.n_in_bounds.3 c.read.ensures (opens (goal.at.unwrap-requires c).After-open_levels)

pub returns : goal.returns
returns c =
    let a = c.args in
    opens_block a.kind (list_in a.s.list) a.p a.body.size a.body.bytes.now a.levels.now (buffers a.coeff.now a.inter.now a.residual.now)
    c.requires.accepted.0 c.requires.accepted.1 c.scaling_list-list.ensures.entries c.requires.n_in_bounds.0 c.requires.n_in_bounds.1 c.requires.n_in_bounds.2 c.requires.n_in_bounds.3 c.read.ensures (opens (goal.at.returns c).After-open_levels) c.unwrap.ensures
