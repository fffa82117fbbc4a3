-- `list_places::scaling_list` meets its contract: the part that is handed back has the entries of the place, and DC stands in front of it.
use mathlib.Core.Path.{ap₂}
use native.Mathlib.Omega.{arith}
use Rattle.h265.specs.ScalingFactor.ScalingList.{listed}
use Rattle.list_places.proofs.PlaceLaws.{entries_part}
use Rattle.list_places.proofs.scaling_list.Goals as goal

pub returns : goal.returns
returns c =
    let a = c.args in
    let e = c.start_of-at.ensures in
    ap₂ listed (entries_part a.table.now _ c.start_of-at.result e (omega (arith, e))) (rw e)
