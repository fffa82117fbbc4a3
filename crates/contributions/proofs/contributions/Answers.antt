-- `contributions::contributions` meets its contract: the refusals are the ladder's, and what passes them meets what the products ask.
use mathlib.Core.Path.{◌≡◌, sym, ap, ◌∙◌}
use native.Mathlib.Omega.{arith}
use lib.ListN.{length}
use Rattle.std.proofs.Common.{rules, Err}
use Rattle.refusal.specs.Outcome.{answer}
use Rattle.refusal.proofs.LadderLaws.{Passed}
use Rattle.contributions.proofs.SampleLaws.{rungs, sample_refused, sample_passed, sample_asked, sample_done}
use Rattle.contributions.proofs.contributions.Goals as goal
use Rattle.contributions.proofs.contributions.Goals.{In_ok-sample_refusal}

-- no condition of the ladder holds
passed : (c : In_ok-sample_refusal)
    → let a = c.args in
    Passed (rungs a.kind a.n a.row a.column (length a.coeff.now) (length a.out.now))
passed c =
    let a = c.args in
    sample_passed a.kind a.n a.row a.column a.coeff.now a.out.now (ap answer (sym c.in_ok-sample_refusal.was) ∙ c.sample_refusal.ensures)

pub block_products-requires : goal.block_products-requires
block_products-requires c =
    let p = sample_asked (passed (goal.at.block_products-requires c).In_ok-sample_refusal) in
    let m = p.row in
    let j = p.column in
    (p.size, p.dst, omega (arith, m, j), omega (arith, m, j), p.coeff, p.room)

pub returns : goal.returns
returns c =
    let a = c.args in
    sample_done a.kind a.n a.row a.column a.coeff.now a.out.now (passed (goal.at.returns c).In_ok-sample_refusal) c.block_products.ensures

pub returns-in_err-sample_refusal : goal.returns-in_err-sample_refusal
returns-in_err-sample_refusal c =
    let a = c.args in
    let told : c.from_residual.result ≡ Err c.in_err-sample_refusal.field-0.0 = search rules in
    rw told
    (sample_refused a.kind a.n a.row a.column a.coeff.now a.out.now c.in_err-sample_refusal.field-0.0 (ap answer (sym c.in_err-sample_refusal.was) ∙ c.sample_refusal.ensures))
