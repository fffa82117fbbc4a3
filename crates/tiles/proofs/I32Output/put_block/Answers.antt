-- `tiles::I32Output::put_block` meets its contract: four rows of four outputs.
use Rattle.tiles.proofs.TileLaws.{block_same, block_cong}
use native.Mathlib.Omega.{arith}
use mathlib.Core.Path.{ap}
use Prim.Native.Nat.{ℕ}
use lib.IntN.{pos}
use lib.ListN.{get_or}
use Rattle.vectors.specs.Lanes.{column}
use Rattle.tiles.proofs.I32Output.put_block.Goals as goal

pub returns : goal.returns
returns c = block_same (block_cong (λ j m a h. ap (λ (i : ℕ). get_or (column (λ q. q.v) j c.args.v.now) i (pos 0)) (omega arith)) c.put_fours.ensures)
