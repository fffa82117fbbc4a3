-- `scaling_lists_put::codes::put_entries` meets its contract: in the end no delta is left to write.
use mathlib.Core.Path.{refl}
use native.Mathlib.Omega.{arith}
use Rattle.scaling_lists_put.proofs.PutLaws.{deltas_more, deltas_done}
use Rattle.scaling_lists_put.proofs.codes.put_entries.Goals as goal

pub loop-place-preserved : goal.loop-place-preserved
loop-place-preserved c =
    let w = c.put_delta-at.ensures in
    (omega (arith, w.bound, c.loop-place.invariant.0), deltas_more c.args.scan.now _ c.loop-place.place-index c.loop-place.next c.loop-place.invariant.1 _ c.loop-place-test.true refl w.wrote)

pub returns : goal.returns
returns c =
    record { wrote = deltas_done _ _ c.loop-place.place-index _ c.loop-place.invariant.1 c.loop-place-test.false; bound = omega (arith, c.loop-place.invariant.0) }
