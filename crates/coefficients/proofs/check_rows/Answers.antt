-- `coefficients::check_rows` meets its contract: each row that passes leaves none in its columns, and the first that does not is the search's.
use mathlib.Core.Path.{◌≡◌}
use native.Mathlib.Nat.{mul-le-mul_right}
use native.Mathlib.Omega.{arith}
use Rattle.std.proofs.Common.{rules, Err}
use Rattle.integers.proofs.SearchLaws.{none_le}
use Rattle.h265.proofs.RangeLaws.{size_bound}
use Rattle.coefficients.proofs.OutsideLaws.{row_passes, row_refuses, none_passes}
use Rattle.coefficients.proofs.RowsLaws.{row_slice, row_slice-long, row_slice-same}
use Rattle.coefficients.proofs.check_rows.Goals as goal

pub returns-in_err-check_row : goal.returns-in_err-check_row
returns-in_err-check_row c =
    let a = c.args in
    let k = c.loop-k.k in
    let told : c.from_residual.result ≡ Err c.in_err-check_row.field-0.0 = search rules in
    rw told
    (row_refuses a.range a.n a.nx a.coeff.now k (row_slice a.coeff.now a.n a.nx k) (row_slice-long a.coeff.now a.n a.nx k c.requires.2 c.requires.1 (omega arith)) (row_slice-same a.coeff.now a.n a.nx k) c.in_err-check_row.field-0.0 c.requires.1 (omega arith) c.in_err-check_row.ensures c.loop-k.invariant)

pub loop-k-preserved : goal.loop-k-preserved
loop-k-preserved c =
    let a = c.args in
    let k = c.loop-k.k in
    row_passes a.range a.n a.nx a.coeff.now k (row_slice a.coeff.now a.n a.nx k) (row_slice-long a.coeff.now a.n a.nx k c.requires.2 c.requires.1 (omega arith)) (row_slice-same a.coeff.now a.n a.nx k) (omega (arith, size_bound a.n c.requires.0)) c.requires.1 c.in_ok-check_row.ensures c.loop-k.invariant

pub returns : goal.returns
returns c =
    let a = c.args in
    none_passes a.range a.n a.nx a.coeff.now (none_le (mul-le-mul_right a.n (omega arith)) c.loop-k.invariant)
