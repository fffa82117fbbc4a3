-- `feed_block::block::skip` meets its contract: the list that is used is the definition's, and nothing that `scaling` refuses is handed to it, so it writes the whole block.
use borrow.Author.Rules.{sfits_of}
use lib.IntN.{pos}
use Rattle.std.proofs.lemmas.List.{map-id}
use Rattle.integers.proofs.MachineLaws.{round_trip}
use Rattle.refusal.specs.Condition.{bits32}
use Rattle.scaling_blocks.specs.Blocks.{transform_skipped, CountWrites}
use Rattle.feed_format.specs.declared.Mode.TheVariants.{Skip}
use Rattle.feed_rules.specs.Block.{list_for, list_in}
use Rattle.feed_block.proofs.ScaleLaws.{skipped_ok, skipped_out}
use Rattle.feed_block.proofs.block.skip.Goals as goal
use Rattle.feed_block.proofs.block.skip.Goals.{After-transform_skip}

told : (c : After-transform_skip)
    → let a = c.args in
    CountWrites c.transform_skip.result c.transform_skip.new.out (transform_skipped bits32 (list_for Skip a.n (list_in a.s.list)) a.n (pos a.p.qp_prime) a.p.precision.bit_depth a.p.precision.extended a.levels.now a.out.now)
told c =
    rw (map-id c.args.out.now, map-id c.transform_skip.new.out, c.list_for-list.ensures.value, round_trip (sfits_of c.from.type_inv), c.from.ensures) at c.transform_skip.ensures

pub unwrap-requires : goal.unwrap-requires
unwrap-requires c =
    let a = c.args in
    skipped_ok (list_for Skip a.n (list_in a.s.list)) a.n (pos a.p.qp_prime) a.p.precision.bit_depth a.p.precision.extended a.levels.now a.out.now
    c.requires.accepted.size c.requires.accepted.depth c.list_for-list.ensures.entries c.requires.n_in_bounds c.requires.n_in_bounds_2 (told (goal.at.unwrap-requires c).After-transform_skip)

pub returns : goal.returns
returns c =
    let a = c.args in
    skipped_out (list_for Skip a.n (list_in a.s.list)) a.n (pos a.p.qp_prime) a.p.precision.bit_depth a.p.precision.extended a.levels.now a.out.now
    c.requires.accepted.size c.requires.accepted.depth c.list_for-list.ensures.entries c.requires.n_in_bounds c.requires.n_in_bounds_2 (told (goal.at.returns c).After-transform_skip) c.unwrap.ensures
