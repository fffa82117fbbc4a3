-- `tiles::I16Output::put_rows` meets its contract: the loop has put the parts passed.
use mathlib.Core.Path.{◌≡◌, ap}
use Prim.Native.Nat.{ℕ, ◌+◌, ◌*◌}
use native.Mathlib.Omega.{arith}
use Rattle.tiles.specs.Tile.{paired}
use Rattle.tiles.proofs.TileLaws.{block_width, block_wide, block_empty, block_same, block_cong}
use Rattle.tiles.proofs.I16Output.put_rows.Goals as goal

pub loop-t-init : goal.loop-t-init
loop-t-init c = (omega arith, block_empty)

pub loop-t-preserved : goal.loop-t-preserved
loop-t-preserved c = (
  omega arith,
  block_width (omega arith) (block_wide {d = 8 * c.loop-t.t} {e = 8} (omega (arith, c.requires.0.parts)) c.loop-t.invariant.1
      (block_cong (λ j m a h. ap (λ (i : ℕ). paired (λ q. q.v) j c.limited_pairs-p.result i) (let e : 2 * (4 * c.loop-t.t) + m ≡ 8 * c.loop-t.t + m = omega arith in e)) c.put_eight.ensures)),
)

pub returns : goal.returns
returns c =
    block_same (block_cong (λ j m a h. c.limited_pairs-p.ensures j m (omega (arith, a, c.requires.1)) h) (block_width (omega (arith, c.requires.0.parts)) c.loop-t.invariant.1))
