-- `feed_records::records::take_record` meets its contract: the tests are the definition's, in its order.
use mathlib.Core.Path.{◌≡◌, sym, ◌∙◌}
use Rattle.std.proofs.Common.{rules, Err, Some}
use native.Mathlib.Omega.{arith}
use borrow.Author.Tests.{ltb-false}
use Rattle.refusal.specs.declared.Refusal.TheVariants.{KindUnknown, BodyTooShort}
use Rattle.feed_format.specs.Format.{kind_of, record_room}
use Rattle.feed_rules.specs.Record.{record_effect}
use Rattle.feed_format.proofs.FormatLaws.{kind_known}
use Rattle.feed_state.proofs.StateLaws.{none_said, refused_takes}
use Rattle.feed_records.proofs.records.take_record.Goals as goal
use Rattle.feed_records.proofs.records.take_record.Goals.{In_ok-what}

known : (c : In_ok-what) → kind_of c.args.kind ≡ Some c.in_ok-what.what
known c = sym c.kind_of.ensures ∙ c.in_ok-what.ensures.ok_part

pub returns-in_err-what : goal.returns-in_err-what
unfolding record_effect
returns-in_err-what c =
    let told : c.from_residual.result ≡ Err c.in_err-what.field-0.0 = search rules in
    let why = none_said _ KindUnknown _ c.in_err-what.ensures.value in
    rw (told, why.1, sym c.kind_of.ensures ∙ why.0) (refused_takes c.args.s KindUnknown _ _ _ _ (omega arith) (omega arith))

pub body_length-requires : goal.body_length-requires
body_length-requires c = kind_known c.args.kind (known (goal.at.body_length-requires c).In_ok-what)

pub returns-in_err-check : goal.returns-in_err-check
unfolding record_effect
returns-in_err-check c =
    let told : c.from_residual-in_err-check.result ≡ Err c.in_err-check.field-0.0 = search rules in
    let why = c.in_err-check.ensures in
    rw (told, why.1, known (goal.at.returns-in_err-check c).In_ok-what, rw c.body_length.ensures at why.0) (refused_takes c.args.s BodyTooShort _ _ _ _ (omega arith) (omega arith))

pub take_body-requires : goal.take_body-requires
unfolding record_room
take_body-requires c =
    let e = known (goal.at.take_body-requires c).In_ok-what in
    record {
      whole = record { long = ltb-false _ _ (rw c.body_length.ensures at c.in_ok-check.ensures); size = kind_known c.args.kind e };
      ample = c.requires.ample;
      kind_in_bounds = rw e at c.requires.kind_in_bounds;
    }

pub returns : goal.returns
unfolding record_effect record_room
returns c = rw (known (goal.at.returns c).In_ok-what, rw c.body_length.ensures at c.in_ok-check.ensures) c.take_body.ensures
