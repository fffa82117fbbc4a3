-- `picture::rebuild::rebuild_block` meets its contract: behind the rungs before row 12 the samples decide, and what is left is the rows'.
use mathlib.Core.Path.{◌≡◌}
use Prim.Native.Nat.{◌*◌}
use lib.ListN.{length}
use Rattle.std.proofs.Common.{rules, Err}
use Rattle.picture.specs.Samples.{sample_max}
use Rattle.picture.proofs.RebuildLaws.{Passed, rebuilt_refused, rebuilt_done, passed_inside, samples_refused, samples_passed}
use Rattle.picture.proofs.rebuild.rebuild_block.Goals as goal
use Rattle.picture.proofs.rebuild.rebuild_block.Goals.{After-check_samples}

passed : (c : After-check_samples)
    → let a = c.args in Passed a.n a.bit_depth (length a.residual.now) (length a.prediction.now) a.extent.width a.extent.height a.extent.stride a.x a.y (length a.plane.now)
passed c =
    record {
      size = c.in_ok-check_size.ensures.0;
      depth = c.in_ok-check_depth.ensures.0;
      residual = c.in_ok-check_room.ensures.0;
      prediction = c.in_ok-check_room-2.ensures.0;
      picture = c.in_ok-check.ensures;
      block = c.in_ok-check_block.ensures;
    }

pub returns-in_err-check_samples : goal.returns-in_err-check_samples
returns-in_err-check_samples c =
    let a = c.args in
    let e = c.in_err-check_samples.field-0.0 in
    let told : c.from_residual-in_err-check_samples.result ≡ Err e = search rules in
    rw told
    (rebuilt_refused _ _ _ _ _ _ _ _ _ _ (passed (goal.at.returns-in_err-check_samples c).After-check_samples) e
    (samples_refused (sample_max a.bit_depth) (a.n * a.n) a.prediction.now e c.in_ok-check_room-2.ensures.1 (rw c.sample_max.ensures at c.in_err-check_samples.ensures)))

pub rebuild_rows-requires-clause-inside : goal.rebuild_rows-requires-clause-inside
rebuild_rows-requires-clause-inside c = passed_inside (passed (goal.at.rebuild_rows-requires-clause-inside c).After-check_samples)

pub returns : goal.returns
returns c =
    let a = c.args in
    rebuilt_done _ _ _ _ _ _ _ _ _ _ (passed (goal.at.returns c).After-check_samples) _
    (samples_passed (sample_max a.bit_depth) (a.n * a.n) a.prediction.now c.in_ok-check_room-2.ensures.1 (rw c.sample_max.ensures at c.in_ok-check_samples.ensures))
    c.rebuild_rows.ensures
