-- `edited_block::refresh_residual` meets its contract: the refusals are the ladder's, and what passes them meets what stage two asks.
use mathlib.Core.Path.{◌≡◌, refl, ap, ◌∙◌}
use Prim.Native.Nat.{ℕ, ◌*◌}
use native.Mathlib.Omega.{arith}
use lib.ListN.{length}
use Rattle.std.proofs.Common.{rules, Err}
use Rattle.integers.specs.Lists.{overwrite}
use Rattle.h265.specs.Transform.{row_order}
use Rattle.block_rules.specs.Edit.{zero_source, residual_of}
use Rattle.block_rules.specs.Work.{EditNeeds}
use Rattle.block_rules.specs.Opening.{Opening, range_of}
use Rattle.block_laws.proofs.OpeningLaws.{Fits}
use Rattle.block_laws.proofs.LadderLaws.{ladder_passed, fits_ask, staged, refresh_refused, refresh_done}
use Rattle.edited_block.proofs.refresh_residual.Goals as goal
use Rattle.edited_block.proofs.refresh_residual.Goals.{In_ok-block_refusal, Start}

abbrev opening : Start → Opening
opening s = record { kind = s.args.kind; size = s.args.n; depth = s.args.precision.bit_depth; extended = s.args.precision.extended; source = zero_source }

pub returns-in_err-block_refusal : goal.returns-in_err-block_refusal
returns-in_err-block_refusal c =
    let s = c in
    let told : c.from_residual.result ≡ Err c.in_err-block_refusal.field-0.0 = search rules in
    rw told
    (rw (refresh_refused (opening (goal.at.returns-in_err-block_refusal c).Start) s.args.inter.now s.args.residual.now c.in_err-block_refusal.field-0.0 (c.in_err-block_refusal.ensures))
    (record { answered = refl; out = refl }))

-- no condition of the ladder holds
fits : (c : In_ok-block_refusal) → Fits (opening (goal.at.In_ok-block_refusal c).Start) (staged c.args.inter.now c.args.residual.now)
fits c =
    let s = c in
    ladder_passed (opening (goal.at.In_ok-block_refusal c).Start) (staged s.args.inter.now s.args.residual.now) (c.in_ok-block_refusal.ensures)

ask : (c : In_ok-block_refusal) → EditNeeds c.args.kind c.args.n c.args.precision.bit_depth (range_of (opening (goal.at.In_ok-block_refusal c).Start)) 1024 (length c.args.inter.now) (length c.args.residual.now)
ask c =
    let s = c in
    fits_ask (opening (goal.at.In_ok-block_refusal c).Start) (staged s.args.inter.now s.args.residual.now) (fits c)

pub transform_range-range-requires : goal.transform_range-range-requires
transform_range-range-requires c = (ask c).depth.1

pub residual_of-requires : goal.residual_of-requires
residual_of-requires c =
    let a = ask (goal.at.residual_of-requires c).In_ok-block_refusal in
    rw c.transform_range-range.ensures (
      record { size = a.size; dst = a.dst; least = a.range.0; most = a.range.1; source = a.inter; room = a.res },
      record { least = a.depth.0; most = a.depth.1; above = a.range.2; below = omega (arith, a.range.3) },
    )

pub returns : goal.returns
unfolding residual_of
returns c =
    let r = c in
    let s = r in
    rw (refresh_done (opening (goal.at.returns c).Start) s.args.inter.now s.args.residual.now (fits (goal.at.returns c).In_ok-block_refusal))
    (record {
      answered = refl;
      out = c.residual_of.ensures
          ∙ ap (λ (k : ℕ). overwrite (s.args.n * s.args.n) (row_order s.args.n (residual_of s.args.kind s.args.n s.args.precision.bit_depth k s.args.inter.now)) s.args.residual.now) r.transform_range-range.ensures;
    })
