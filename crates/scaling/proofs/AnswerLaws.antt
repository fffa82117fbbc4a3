-- Laws of the answer for one level.
--   scaled_ext                   a scaled level is its parts
--   level-refused, level_ready   the answer for one level, by that for the numbers of its block
use mathlib.Core.Path.{◌≡◌, sym, ap, subst, ◌∙◌}
use mathlib.Core.Bool.{Bool}
use mathlib.Core.List.{List, [], ◌∷◌}
use Prim.Native.Nat.{ℕ}
use lib.IntN.{ℤ}
use Rattle.h265.specs.Range.{log2_size, transform_range, outside_range}
use Rattle.h265.specs.Limited.{level_limited, result_limited}
use Rattle.refusal.specs.declared.Refusal.{Refusal}
use Rattle.refusal.specs.declared.Refusal.TheVariants.{SizeInvalid, DepthInvalid}
use Rattle.refusal.specs.Condition.{size_refused, depth_refused}
use Rattle.refusal.specs.Outcome.{accepted, refused}
use Rattle.refusal.proofs.LadderLaws.{Rung, first_accepted, first_passed, first_refused, with_value}
use Rattle.refusal.proofs.LadderLaws.Rung.{rung}
use Rattle.parameters.specs.declared.DequantParams.{DequantParams}
use Rattle.parameters.specs.Answers.{no_dequant}
use Rattle.parameters.specs.Parameters.{dequant_of, dequant_params}
use Rattle.parameters.proofs.ParametersLaws.{known_accepted}
use Rattle.scaling_values.specs.declared.ScaledLevel.{ScaledLevel}
use Rattle.scaling_values.specs.Level.{listed_level, listed_result, outside_by, Manageable}
use Rattle.scaling_values.proofs.LevelLaws.{dequant_of_manageable, listed_level_eq, listed_result_eq, outside_by_eq}
use Rattle.scaling.specs.Answers.{no_level}
use Rattle.scaling.specs.Level.{scaled_level}

abbrev rungs : ℕ → ℕ → List Rung
rungs n b = rung (size_refused n) SizeInvalid ∷ rung (depth_refused b) DepthInvalid ∷ []

-- a scaled level by its parts
pub scaled_ext : {r : ScaledLevel} {v : ℤ} {a b : Bool} → r.value ≡ v → r.level_limited ≡ a → r.result_limited ≡ b
    → r ≡ record { value = v; level_limited = a; result_limited = b }
scaled_ext e f g = rw (← e, ← f, ← g)

module _ (level : ℤ) (m n : ℕ) (q : ℤ) (b : ℕ) (x : Bool) where
  pub level-refused : (e : Refusal) → refused no_dequant e ≡ dequant_params n q b x → refused no_level e ≡ scaled_level level m n q b x
  unfolding dequant_params scaled_level
  level-refused e h =
      first_refused no_dequant (dequant_of (log2_size n) q b x) (refused no_level) _ (λ o. refused no_level e ≡ o) e
      (λ f k. with_value no_level e f k) (rungs n b) h

  -- by the block's numbers
  abbrev by : DequantParams → ScaledLevel
  by p = record { value = listed_level p m level; level_limited = outside_by p level; result_limited = outside_by p (listed_result p m level) }

  pub level_ready : (p : DequantParams) → accepted p ≡ dequant_params n q b x → Manageable p × (accepted (by p) ≡ scaled_level level m n q b x)
  unfolding dequant_params scaled_level level_limited result_limited
  level_ready p h =
      let a = first_accepted no_dequant (dequant_of (log2_size n) q b x) p (rungs n b) h in (
        subst Manageable (sym a.1) (dequant_of_manageable (log2_size n) q b x (known_accepted n b a.0.0 a.0.1.0)),
        ap (λ (s : DequantParams). accepted (by s)) a.1
            ∙ ap accepted (scaled_ext (listed_level_eq (log2_size n) q b x m level) (outside_by_eq (log2_size n) q b x level)
            (outside_by_eq (log2_size n) q b x (listed_result (dequant_of (log2_size n) q b x) m level) ∙ ap (outside_range (transform_range b x)) (listed_result_eq (log2_size n) q b x m level)))
            ∙ sym (first_passed (refused no_level) _ (rungs n b) a.0),
      )
