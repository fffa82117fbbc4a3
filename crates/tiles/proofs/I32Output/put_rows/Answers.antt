-- `tiles::I32Output::put_rows` meets its contract: the loop has put the parts passed.
use Prim.Native.Nat.{◌*◌}
use native.Mathlib.Omega.{arith}
use Rattle.tiles.proofs.TileLaws.{block_width, block_wide, block_empty, block_same}
use Rattle.tiles.proofs.I32Output.put_rows.Goals as goal

pub loop-t-init : goal.loop-t-init
loop-t-init c = (omega arith, block_empty)

pub loop-t-preserved : goal.loop-t-preserved
loop-t-preserved c = (omega arith, block_width (omega arith) (block_wide {d = 4 * c.loop-t.t} {e = 4} (omega (arith, c.requires.0.parts)) c.loop-t.invariant.1 c.put_fours.ensures))

pub returns : goal.returns
returns c = block_same (block_width (omega (arith, c.requires.0.parts)) c.loop-t.invariant.1)
