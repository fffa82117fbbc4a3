-- `stages_wide::sizes::stages` meets its contract: behind B values of A all are zero, so that the first rows do.
use mathlib.Core.Path.{◌≡◌, sym}
use Prim.Native.Nat.{◌*◌}
use native.Mathlib.Omega.{arith}
use Rattle.stages_wide.proofs.StageLaws.{rest_used}
use Rattle.stages_wide.proofs.sizes.stages.Goals as goal

pub both-requires : goal.both-requires
both-requires g c =
    let r = c.requires in
    let area : g.Q.Stage.POINTS * g.Q.Stage.POINTS ≡ g.row.A = rw r.2 (sym r.3) in (
      rw r.2 r.0,
      r.4,
      omega (arith, c.if-nx-ROWS.true, c.ROWS.ensures),
      rest_used c.args.coeff.now (g.met.Q.Stage.size).few (omega (arith, c.if-nx-ROWS.true, c.ROWS.ensures, (g.met.Q.Stage.size).few))
          (λ i a b. c.rest_zero.ensures c.if-rest_zero.true i (omega (arith, a, r.4)) (omega (arith, b, area))),
    )
