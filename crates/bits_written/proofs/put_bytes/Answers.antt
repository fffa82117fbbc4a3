-- `bits_written::put_bytes` meets its contract: in the end each byte is stored.
use mathlib.Core.List.{append-nil}
use mathlib.Core.Path.{◌≡◌}
use native.Mathlib.Omega.{arith}
use lib.ListN.{length}
use lib.Seq.{drop-length}
use Rattle.integers.specs.Lists.{overwrite}
use Rattle.integers.proofs.ListsLaws.{stored_none, stored_more, stored_all}
use Rattle.bits_written.proofs.put_bytes.Goals as goal

pub loop-k-init : goal.loop-k-init
loop-k-init c = stored_none

pub loop-k-preserved : goal.loop-k-preserved
loop-k-preserved c = stored_more c.loop-k.invariant c.loop-k-test.true c.byte_of.ensures

pub returns : goal.returns
unfolding overwrite
returns c =
    let all : c.loop-k.k ≡ length c.args.out.now = omega arith in
    rw (drop-length, append-nil) at (stored_all c.loop-k.invariant all)
