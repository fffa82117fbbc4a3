-- Laws of the rule that supplies m.
--   source_none, -skip, -four, -eight, -dc, -repeat   each answer of `source_of`, from the tests that lead to it
--   position_16, position_32                          the position that the code works out
use mathlib.Core.Path.{◌≡◌, refl, ap}
use mathlib.Core.Bool.{true, false}
use mathlib.Core.List.{List}
use Prim.Native.Nat.{ℕ, ◌+◌, ◌*◌, ◌/◌, ◌%◌, ◌<◌, ◌≤◌}
use native.Mathlib.Omega.{arith}
use borrow.Author.Tests.{eq-eqb, ne_eqb}
use lib.Dec.{T}
use Rattle.h265.specs.Range.{is_size, log2_size}
use Rattle.h265.specs.ScalingFactor.{repeated_position, factor_source}
use Rattle.h265.specs.ScalingFactor.ScalingList.{flat, listed}
use Rattle.h265.proofs.RangeLaws.{size_cases}
use Rattle.scaling_values.proofs.FactorLaws.{position_inside}
use Rattle.feed_format.specs.Format.{list_ignored}
use Rattle.feed_format.specs.declared.Mode.{Mode}
use Rattle.scale_trace_block.specs.declared.Source.{Source}
use Rattle.scale_trace_block.specs.declared.Source.TheVariants.{None, Four, Eight, Dc, Repeat, Skip}
use Rattle.scale_trace_rules.specs.Block.{block_source}
use Rattle.scale_trace_rules.specs.Block.BlockSource.{rule}
use Rattle.scale_trace_block.specs.Work.{source_is, position_of, SourceAt}

-- ---- the rule
pub source_none : (mode : Mode) (n i : ℕ) → SourceAt flat mode n i None
unfolding block_source factor_source
source_none mode n i = record { is = refl; low = omega arith }

pub source_skip : {es : List ℕ} {d : ℕ} (mode : Mode) (n i : ℕ) → list_ignored mode n ≡ true → SourceAt (listed es d) mode n i Skip
unfolding block_source
source_skip mode n i g = record { is = rw g refl; low = omega arith }

-- a block that is scaled by the list
module _ {es : List ℕ} {d : ℕ} (mode : Mode) (n i : ℕ) (g : list_ignored mode n ≡ false) where
  by_list : {src : Source} → source_is src ≡ rule (factor_source (listed es d) n i) → position_of src < 64 → SourceAt (listed es d) mode n i src
  unfolding block_source
  by_list f h = record { is = rw g f; low = h }

  pub source_four : n ≡ 4 → i < n * n → SourceAt (listed es d) mode n i (Four i)
  unfolding factor_source
  source_four e h = by_list (rw (eq-eqb n 4 e) refl) (omega (arith, ap (λ (k : ℕ). k * k) e))

  pub source_eight : (n ≡ 4 → ⊥) → n ≡ 8 → i < n * n → SourceAt (listed es d) mode n i (Eight i)
  unfolding factor_source
  source_eight a e h = by_list (rw (ne_eqb n 4 a, eq-eqb n 8 e) refl) (omega (arith, ap (λ (k : ℕ). k * k) e))

  pub source_dc : (n ≡ 4 → ⊥) → (n ≡ 8 → ⊥) → i ≡ 0 → SourceAt (listed es d) mode n i Dc
  unfolding factor_source
  source_dc a b e = by_list (rw (ne_eqb n 4 a, ne_eqb n 8 b, eq-eqb i 0 e) refl) (omega arith)

  pub source_repeat : (n ≡ 4 → ⊥) → (n ≡ 8 → ⊥) → (i ≡ 0 → ⊥) → T (is_size n) → i < n * n → {p : ℕ} → p ≡ repeated_position n i → SourceAt (listed es d) mode n i (Repeat p)
  unfolding factor_source
  source_repeat a b c t h e =
      rw e (by_list (rw (ne_eqb n 4 a, ne_eqb n 8 b, ne_eqb i 0 c) refl) (position_inside n i t h (above a b)))
    where
      above : (n ≡ 4 → ⊥) → (n ≡ 8 → ⊥) → 16 ≤ n
      above a b = size_cases (λ m. (m ≡ 4 → ⊥) → (m ≡ 8 → ⊥) → 16 ≤ m) (λ f g. absurd (f refl)) (λ f g. absurd (g refl)) (λ f g. omega arith) (λ f g. omega arith) n t a b

pub position_16 : (n i : ℕ) → n ≡ 16 → i / 16 / 2 * 8 + i % 16 / 2 ≡ repeated_position n i
unfolding repeated_position log2_size
position_16 n i e = rw e refl

pub position_32 : (n i : ℕ) → n ≡ 32 → i / 32 / 4 * 8 + i % 32 / 4 ≡ repeated_position n i
unfolding repeated_position log2_size
position_32 n i e = rw e refl
