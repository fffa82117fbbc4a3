-- `picture::rebuild::put_rows` meets its contract. The loop's invariant: k rows of the block are put, and everything else is as lent.
use mathlib.Core.Path.{◌≡◌, ap, subst, ◌∙◌}
use Prim.Native.Nat.{ℕ}
use native.Mathlib.Omega.{arith}
use lib.ListN.{length}
use Rattle.integers.specs.Lists.{tabulate}
use Rattle.picture.specs.Samples.{sample_max, rebuilt_at, placed_at, rebuilt_plane}
use Rattle.picture.proofs.SamplesLaws.{Rows, rows_none, rows_more, rows_all}
use Rattle.picture.proofs.rebuild.put_rows.Goals as goal
use Rattle.picture.proofs.rebuild.put_rows.Goals.{At-loop-k, Start}

pub loop-k-init : goal.loop-k-init
loop-k-init c = (rows_none, omega arith)

-- the largest sample, in the code's variable
top_is : (c : At-loop-k) → c.sample_max-top.result ≡ sample_max c.args.bit_depth
top_is c = c.sample_max-top.ensures

pub loop-k-preserved : goal.loop-k-preserved
loop-k-preserved c =
    let r = c in
    let l = r in
    (rows_more l.loop-k.invariant.0 r.rebuild_row.ensures l.requires.inside.columns, omega arith)

pub returns : goal.returns
unfolding rebuilt_plane
returns c =
    let l = c in
    let a = l.args in
    let f = rebuilt_at l.sample_max-top.result a.residual.now a.prediction.now in
    let whole : l.loop-k.k ≡ a.n = omega arith in
    rows_all (subst (λ (k : ℕ). Rows k a.n a.extent.stride a.x a.y f a.plane.now l.loop-k.plane) whole l.loop-k.invariant.0)
    ∙ ap (λ (t : ℕ). tabulate (length a.plane.now) (placed_at a.n a.n a.extent.stride a.x a.y (rebuilt_at t a.residual.now a.prediction.now) a.plane.now)) (top_is (goal.at.returns c).At-loop-k)
