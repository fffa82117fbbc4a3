-- `feed_records::records::take_levels` meets its contract: refused before there are parameters, then by depth and by the DST's size; else an arm for each mode.
use mathlib.Core.Path.{◌≡◌, sym, ◌∙◌}
use Rattle.std.proofs.Common.{rules, Err}
use native.Mathlib.Omega.{arith}
use Rattle.refusal.specs.declared.Refusal.TheVariants.{DepthInvalid, DstSizeInvalid, LevelsBeforeParameters}
use Rattle.feed_rules.specs.Record.{FeedState, levels_by}
use Rattle.feed_state.specs.Buffers.{Buffered, lent, in_buffers}
use Rattle.feed_state.specs.Taken.{state_of}
use Rattle.feed_state.proofs.StateLaws.{none_said, refused_takes, levels_given}
use Rattle.feed_records.proofs.records.take_levels.Goals as goal
use Rattle.feed_records.proofs.records.take_levels.Goals.{Start}

abbrev before : Start → FeedState Buffered
before k = let a = k.args in state_of a.s (lent a.levels.now a.coeff.now a.inter.now a.residual.now)

pub returns-in_err-p : goal.returns-in_err-p
unfolding levels_by
returns-in_err-p c =
    let told : c.from_residual.result ≡ Err c.in_err-p.field-0.0 = search rules in
    let why = none_said _ LevelsBeforeParameters _ c.in_err-p.ensures.value in
    rw (told, why.1, levels_given in_buffers (before (goal.at.returns-in_err-p c).Start) c.args.body.size c.args.body.bytes.now why.0) (refused_takes c.args.s LevelsBeforeParameters _ _ _ _ (omega arith) (omega arith))

pub returns-in_err-check_depth : goal.returns-in_err-check_depth
unfolding levels_by
returns-in_err-check_depth c =
    let told : c.from_residual-in_err-check_depth.result ≡ Err c.in_err-check_depth.field-0.0 = search rules in
    let why = c.in_err-check_depth.ensures in
    rw (told, why.1, levels_given in_buffers (before (goal.at.returns-in_err-check_depth c).Start) c.args.body.size c.args.body.bytes.now c.in_ok-p.ensures.ok_part, why.0) (refused_takes c.args.s DepthInvalid _ _ _ _ (omega arith) (omega arith))

pub returns-in_err-check : goal.returns-in_err-check
unfolding levels_by
returns-in_err-check c =
    let told : c.from_residual-in_err-check.result ≡ Err c.in_err-check.field-0.0 = search rules in
    let why = c.in_err-check.ensures in
    rw (told, why.1, levels_given in_buffers (before (goal.at.returns-in_err-check c).Start) c.args.body.size c.args.body.bytes.now c.in_ok-p.ensures.ok_part, c.in_ok-check_depth.ensures.0, sym c.dst_refused.ensures ∙ why.0)
    (refused_takes c.args.s DstSizeInvalid _ _ _ _ (omega arith) (omega arith))

pub returns-in-Transform : goal.returns-in-Transform
returns-in-Transform c = rw (levels_given in_buffers (before (goal.at.returns-in-Transform c).Start) c.args.body.size c.args.body.bytes.now c.in_ok-p.ensures.ok_part) c.take_opened.ensures

pub returns-in-Skip : goal.returns-in-Skip
returns-in-Skip c = rw (levels_given in_buffers (before (goal.at.returns-in-Skip c).Start) c.args.body.size c.args.body.bytes.now c.in_ok-p.ensures.ok_part) (c.take_skipped.ensures.leaves _)
