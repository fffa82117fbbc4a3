-- `feed_format::values::list_of` meets its contract: a whole body holds 64 entries before DC.
use native.Mathlib.Omega.{arith}
use lib.Seq.{length-take-le}
use Rattle.feed_format.proofs.values.list_of.Goals as goal

pub slice_bounds-copy_from_slice-end-2 : goal.slice_bounds-copy_from_slice-end-2
slice_bounds-copy_from_slice-end-2 c = omega (arith, length-take-le 64 c.args.body.now (omega arith))

pub copy_from_slice-requires : goal.copy_from_slice-requires
copy_from_slice-requires c = omega (arith, length-take-le 64 c.args.body.now (omega arith))
