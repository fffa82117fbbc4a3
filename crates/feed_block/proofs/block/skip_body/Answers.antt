-- `feed_block::block::skip_body` meets its contract: the levels are the body's, and the list that counts is that of transform skip.
use mathlib.Core.Path.{◌≡◌, ap, ◌∙◌}
use Prim.Native.Nat.{◌*◌}
use lib.ListN.{take}
use Rattle.integers.proofs.ListsLaws.{overwrite-take}
use Rattle.feed_format.specs.Format.{levels_of}
use Rattle.feed_rules.specs.Block.{residual_at, residual_by, block_limited}
use Rattle.feed_block.proofs.block.skip_body.Goals as goal
use Rattle.feed_block.proofs.block.skip_body.Goals.{After-read}

read : (c : After-read) → let a = c.args in take (a.body.size * a.body.size) c.read.new.levels ≡ levels_of a.body.size a.body.bytes.now
unfolding levels_of
read c = let n = c.args.body.size in ap (take (n * n)) c.read.ensures ∙ overwrite-take (n * n) _ _

pub returns : goal.returns
unfolding residual_at residual_by block_limited
returns c =
    rw c.requires.accepted.1 (rw (read (goal.at.returns c).After-read) at c.skip.ensures)
