-- `block_work::open_from` meets its contract: the refusals are the ladder's, and what passes them meets what both stages ask.
use mathlib.Core.Path.{◌≡◌, ap, ◌∙◌}
use Prim.Native.Nat.{ℕ}
use native.Mathlib.Omega.{arith}
use lib.ListN.{length}
use Rattle.std.proofs.Common.{rules, Ok, Err}
use Rattle.refusal.specs.Outcome.{accepted}
use Rattle.coefficients.specs.Outside.{InsideChecked}
use Rattle.block_rules.specs.Edit.{Buffers, buffers, opened_buffers}
use Rattle.block_rules.specs.Work.{EditNeeds}
use Rattle.block_rules.specs.Opening.{Opening, range_of, opened_as, block_of}
use Rattle.block_laws.proofs.OpeningLaws.{Fits}
use Rattle.block_laws.proofs.LadderLaws.{ladder_passed, fits_ask, open_refused, open_outside, open_done, opens_stopped}
use Rattle.block_work.proofs.open_from.Goals as goal
use Rattle.block_work.proofs.open_from.Goals.{In_ok-block_refusal, Start}

abbrev opening : Start → Opening
opening s = record { kind = s.args.kind; size = s.args.n; depth = s.args.precision.bit_depth; extended = s.args.precision.extended; source = s.args.source }

abbrev lent : Start → Buffers
lent s = buffers s.args.coeff.now s.args.inter.now s.args.residual.now

pub returns-in_err-block_refusal : goal.returns-in_err-block_refusal
unfolding opened_as
returns-in_err-block_refusal c =
    let s = (goal.at.returns-in_err-block_refusal c).Start in
    let why = c.in_err-block_refusal.field-0.0 in
    let told : c.from_residual.result ≡ Err why = search rules in
    rw told (opens_stopped (opening s) (lent s) why (open_refused (opening s) (lent s) why (c.in_err-block_refusal.ensures)))

-- no condition of the ladder holds
fits : (c : In_ok-block_refusal) → Fits (opening (goal.at.In_ok-block_refusal c).Start) (lent (goal.at.In_ok-block_refusal c).Start)
fits c = let s = (goal.at.In_ok-block_refusal c).Start in ladder_passed (opening s) (lent s) (c.in_ok-block_refusal.ensures)

ask : (c : In_ok-block_refusal) → EditNeeds c.args.kind c.args.n c.args.precision.bit_depth (range_of (opening (goal.at.In_ok-block_refusal c).Start)) (length c.args.coeff.now) (length c.args.inter.now) (length c.args.residual.now)
ask c = let s = (goal.at.In_ok-block_refusal c).Start in fits_ask (opening s) (lent s) (fits c)

pub transform_range-range-requires : goal.transform_range-range-requires
transform_range-range-requires c = (ask c).depth.1

pub check_inside-requires : goal.check_inside-requires
check_inside-requires c =
    let a = ask (goal.at.check_inside-requires c).In_ok-block_refusal in
    (a.size, omega arith, a.coeff, rw c.transform_range-range.ensures a.range.1)

pub returns-in_err-check_inside : goal.returns-in_err-check_inside
unfolding opened_as
returns-in_err-check_inside c =
    let s = (goal.at.returns-in_err-check_inside c).Start in
    let why = c.in_err-check_inside.field-0.0 in
    let told : c.from_residual-in_err-check_inside.result ≡ Err why = search rules in
    let inside : InsideChecked (range_of (opening s)) c.args.n c.args.n c.args.coeff.now (Err why) = rw c.transform_range-range.ensures at (c.in_err-check_inside.ensures) in
    rw told (opens_stopped (opening s) (lent s) why (open_outside (opening s) (lent s) (fits (goal.at.returns-in_err-check_inside c).In_ok-block_refusal) why inside))

pub open_stages-requires : goal.open_stages-requires
open_stages-requires c = rw c.transform_range-range.ensures (ask (goal.at.open_stages-requires c).In_ok-block_refusal)

pub column_count-requires : goal.column_count-requires
column_count-requires c =
    let a = ask (goal.at.column_count-requires c).In_ok-block_refusal in
    (a.size, a.coeff)

pub returns : goal.returns
unfolding opened_as
returns c =
    let s = (goal.at.returns c).Start in
    let inside : InsideChecked (range_of (opening s)) c.args.n c.args.n c.args.coeff.now (Ok tt) = rw c.transform_range-range.ensures at (c.in_ok-check_inside.ensures) in
    rw (open_done (opening s) (lent s) (fits (goal.at.returns c).In_ok-block_refusal) inside)
    (record {
      answered = ap (λ (k : ℕ). accepted (block_of (opening s) k)) c.column_count.ensures;
      inter = c.open_stages.ensures.inter ∙ ap (λ (k : ℕ). (opened_buffers s.args.kind s.args.n s.args.precision.bit_depth k (lent s)).inter) c.transform_range-range.ensures;
      res = c.open_stages.ensures.res ∙ ap (λ (k : ℕ). (opened_buffers s.args.kind s.args.n s.args.precision.bit_depth k (lent s)).res) c.transform_range-range.ensures;
    })
