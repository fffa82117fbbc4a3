-- `picture::refuse::check_each` meets its contract. The loop's invariant: no sample before i is above the largest.
use mathlib.Core.Path.{◌≡◌}
use native.Mathlib.Omega.{arith}
use Rattle.std.proofs.Common.{rules, Err}
use Rattle.integers.proofs.SearchLaws.{none_le}
use Rattle.picture.proofs.RebuildLaws.{samples_pass, sample_refuses}
use Rattle.picture.proofs.refuse.check_each.Goals as goal

pub returns-in_err-check : goal.returns-in_err-check
returns-in_err-check c =
    let told : c.from_residual.result ≡ Err c.in_err-check.field-0.0 = search rules in
    rw told (sample_refuses c.args.top c.loop-i.i c.args.samples.now c.in_err-check.field-0.0 (omega arith) c.loop-i.invariant c.in_err-check.ensures)

pub returns : goal.returns
returns c = samples_pass c.args.top c.args.samples.now (none_le (omega arith) c.loop-i.invariant)
