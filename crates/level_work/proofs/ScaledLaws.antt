-- Laws of levels scaled by a source.
--   scaled_ok      scaling one level refuses nothing, where size and depth are ones that it takes
--   level_scaled   and what it gives then
use Rattle.std.specs.Prelude.{Result, Ok, Err, IsOk}
use mathlib.Core.Path.{◌≡◌, refl, ap, ◌∙◌}
use mathlib.Core.Bool.{Bool, false}
use Prim.Native.Nat.{ℕ}
use native.Mathlib.Omega.{arith}
use lib.IntN.{ℤ}
use Rattle.h265.specs.ScalingFactor.{scaling_factor}
use Rattle.refusal.specs.declared.Refusal.{Refusal}
use Rattle.refusal.specs.Refusal.{number}
use Rattle.refusal.specs.Condition.{size_refused, depth_refused}
use Rattle.refusal.specs.Outcome.{Outcome, accepted, outcome}
use Rattle.refusal.proofs.RefusalLaws.{number_least}
use Rattle.scaling_values.specs.declared.ScaledLevel.{ScaledLevel}
use Rattle.scaling.specs.Answers.{no_level}
use Rattle.scaling.specs.Level.{scaled_level}
use Rattle.block_rules.specs.declared.Source.{Source}
use Rattle.block_rules.specs.Level.{list_of, scaled_by, limits_by}
use Rattle.level_work.specs.Work.{limits_of, Scaled}

module _ (s : Source) (n b : ℕ) (x : Bool) (i : ℕ) (level : ℤ) (size : size_refused n ≡ false) (depth : depth_refused b ≡ false) (m : ℕ) (by : m ≡ scaling_factor (list_of s) n i) where
  -- the coefficient and the two flags, as one level scaled
  whole : ScaledLevel
  whole = record { value = scaled_by s n b x i level; level_limited = (limits_by s n b x i level).level; result_limited = (limits_by s n b x i level).result }

  scaled : scaled_level level m n s.qp_prime.0 b x ≡ accepted whole
  unfolding scaled_level scaled_by limits_by whole
  scaled = rw (size, depth, by)

  pub scaled_ok : (r : Result ScaledLevel Refusal) → outcome no_level r ≡ scaled_level level m n s.qp_prime.0 b x → IsOk r
  scaled_ok (Ok c) h = refl
  scaled_ok (Err why) h = absurd (let z : number why ≡ 0 = ap (λ (o : Outcome ScaledLevel). o.number) (h ∙ scaled) in let f : ⊥ = omega (arith, number_least why) in f)

  pub level_scaled : (c : ScaledLevel) → accepted c ≡ scaled_level level m n s.qp_prime.0 b x → Scaled c s n b x i level
  unfolding whole
  level_scaled c h =
      let q : c ≡ whole = ap (λ (o : Outcome ScaledLevel). o.value) (h ∙ scaled) in
      record { value = ap (λ (r : ScaledLevel). r.value) q; limits = ap limits_of q }
