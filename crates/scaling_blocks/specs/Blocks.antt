-- Whole blocks, refused calls included. docs/RULES.md, "Scaling", "Transform skip", and rows 1, 2, 3, 5, 6, 7 of its table;
-- change request R-6.
-- Letters: n size, q QP' as given, b depth, x extended precision.
--   output_width           what an element of the output has room for
--   scaling_ladder           what `stop` makes of the lowest refusal that applies, else `done`
--   block_answer           the ladder alone; not_refused: it refuses nothing
--   CountWritten          what a call hands back: its outcome, whose value is how many coefficients were limited, and its output buffer afterwards
--   left_as_lent, counted   refused, with the output as lent; accepted
--   dequantized           scaling: the coefficients stand in the first n² places of the output
--   transform_skipped      transform skip: the residuals stand there; the coefficients that were limited count, before the skip shift
--   CountWrites r after w a call's answer r and output `after` are what w says
--   block_params           the numbers by which a call works, below the same ladder
use Rattle.std.specs.Prelude.{◌≡◌, Bool, cond, List, ℕ, ◌*◌, ℤ, length, Result}
use Rattle.std.specs.Int.{Width, w16, w32}
use Rattle.integers.specs.Lists.{overwrite}
use Rattle.h265.specs.Range.{log2_size}
use Rattle.h265.specs.ScalingFactor.{ScalingList}
use Rattle.h265.specs.Scaling.{scaled_at}
use Rattle.scaling_values.specs.Given.{entries_of}
use Rattle.h265.specs.Limited.{limited_count}
use Rattle.h265.specs.TransformSkip.{skipped_at}
use Rattle.refusal.specs.declared.Refusal.{Refusal}
use Rattle.refusal.specs.declared.Refusal.TheVariants.{ListLengthInvalid}
use Rattle.refusal.specs.Condition.{list_refused, output_ladder, buffer_ladder}
use Rattle.refusal.specs.Outcome.{Outcome, accepted, refused, outcome}
use Rattle.parameters.specs.declared.TransformSkipParams.{TransformSkipParams}
use Rattle.parameters.specs.Answers.{no_transform_skip}
use Rattle.parameters.specs.Parameters.{transform_skip_of}

abbrev pub output_width : Bool → Width
output_width narrow = cond narrow w16 w32

unfoldable pub scaling_ladder : {A : Type 0} → (Refusal → A) → A → Bool → ℕ → ℕ → Bool → ℕ → ℕ → ℕ → A
scaling_ladder stop done narrow n b x entries levels places =
    output_ladder stop narrow n b x (cond (list_refused entries) (stop ListLengthInvalid) (buffer_ladder stop n levels places done))

-- the ladder alone
abbrev pub block_answer : Bool → ℕ → ℕ → Bool → ℕ → ℕ → ℕ → Outcome (Unit {0})
block_answer narrow n b x entries levels places = scaling_ladder (refused tt) (accepted tt) narrow n b x entries levels places

abbrev pub not_refused : Outcome (Unit {0})
not_refused = accepted tt

pub record CountWritten : Type 0 where
  pub answer : Outcome ℕ
  pub out : List ℤ

abbrev pub left_as_lent : List ℤ → Refusal → CountWritten
left_as_lent out e = record { answer = refused 0 e; out = out }

abbrev pub counted : ℕ → List ℤ → CountWritten
counted k out = record { answer = accepted k; out = out }

pub record CountWrites (r : Result ℕ Refusal) (after : List ℤ) (w : CountWritten) : Type 0 where
  pub answered : outcome 0 r ≡ w.answer
  pub out : after ≡ w.out

-- refused: the output as lent; else element i of the first n² is `at i`, and the others are as lent
unfoldable pub block_written : Bool → ScalingList → ℕ → ℤ → ℕ → Bool → List ℤ → List ℤ → (ℕ → ℤ) → CountWritten
block_written narrow list n q b x levels out at =
    scaling_ladder (left_as_lent out)
    (counted (limited_count list n b x q levels) (overwrite (n * n) at out))
    narrow n b x (entries_of list) (length levels) (length out)

unfoldable pub dequantized : Bool → ScalingList → ℕ → ℤ → ℕ → Bool → List ℤ → List ℤ → CountWritten
dequantized narrow list n q b x levels out = block_written narrow list n q b x levels out (scaled_at list n b x q levels)

unfoldable pub transform_skipped : Bool → ScalingList → ℕ → ℤ → ℕ → Bool → List ℤ → List ℤ → CountWritten
transform_skipped narrow list n q b x levels out = block_written narrow list n q b x levels out (skipped_at list n b x q levels)

unfoldable pub block_params : Bool → ℕ → ℤ → ℕ → Bool → ℕ → ℕ → ℕ → Outcome TransformSkipParams
block_params narrow n q b x entries levels places =
    scaling_ladder (refused no_transform_skip) (accepted (transform_skip_of (log2_size n) q b x)) narrow n b x entries levels places
