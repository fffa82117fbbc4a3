-- `level_search::block::find_block` meets its contract: row 11 where the search stopped early, else a copy of all that it found.
use Prim.Native.Nat.{◌*◌}
use native.Mathlib.Omega.{arith}
use Rattle.h265.specs.ScalingFactor.{ScalingList}
use Rattle.scaling_values.specs.Given.{list_of}
use Rattle.level_search.specs.Work.{first_miss, nearest_at}
use Rattle.level_search.proofs.BlockLaws.{block-missing, block_found_lem, copied}
use Rattle.level_search.proofs.block.find_block.Goals as goal

pub returns-in-Some : goal.returns-in-Some
returns-in-Some c =
    let a = c.args in
    let list : ScalingList = list_of a.list in
    let e = c.in-Some.ensures {u = tt} in
    block-missing a.n (first_miss a.by list a.n a.coeff.now) (nearest_at a.by list a.n a.coeff.now) a.levels.now
    (rw e.0 e.1) (rw e.0 c.missing_at.ensures)

pub returns : goal.returns
returns c =
    let a = c.args in
    let list : ScalingList = list_of a.list in
    let e = c.in_default.ensures {u = tt} in
    block_found_lem a.n (first_miss a.by list a.n a.coeff.now) (nearest_at a.by list a.n a.coeff.now) a.levels.now
    (omega (arith, e.none))
    (copied (a.n * a.n) (nearest_at a.by list a.n a.coeff.now) _ a.levels.now c.copy_from_slice.ensures.after e.levels)
