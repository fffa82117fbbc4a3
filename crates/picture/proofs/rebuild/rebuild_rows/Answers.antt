-- `picture::rebuild::rebuild_rows` meets its contract: a block of size 4 is one of size n.
use mathlib.Core.Path.{◌≡◌, sym, subst}
use Prim.Native.Nat.{ℕ, ◌*◌}
use lib.ListN.{length}
use Rattle.picture.specs.Rebuild.{Inside, Below}
use Rattle.picture.specs.Samples.{sample_max, rebuilt_plane}
use Rattle.picture.proofs.rebuild.rebuild_rows.Goals as goal

pub put_rows-requires-clause-inside : goal.put_rows-requires-clause-inside
put_rows-requires-clause-inside c =
    let a = c.args in
    subst (λ (k : ℕ). Inside k a.bit_depth a.extent.stride a.x a.y (length a.residual.now) (length a.prediction.now) (length a.plane.now)) c.if-n-eq4.true c.requires.inside

pub put_rows-requires-clause-below : goal.put_rows-requires-clause-below
put_rows-requires-clause-below c =
    let a = c.args in
    subst (λ (k : ℕ). Below (sample_max a.bit_depth) (k * k) a.prediction.now) c.if-n-eq4.true c.requires.below

pub returns-then-n-eq4 : goal.returns-then-n-eq4
returns-then-n-eq4 c =
    let a = c.args in
    subst (λ (k : ℕ). c.put_rows.new.plane ≡ rebuilt_plane k a.bit_depth a.residual.now a.prediction.now a.extent.stride a.x a.y a.plane.now) (sym c.if-n-eq4.true) c.put_rows.ensures
