-- What a line of the listing has to do with the rules that supply m: the statements of specs/Supply.antt.
--   factor-none            m without a list in force
--   line_names_the_rule    a rule supplies a number exactly where the line names both
--   line_has_the_factor    the line's number is the one that the feed uses
use mathlib.Core.Path.{◌≡◌, refl, ap, subst}
use mathlib.Core.Bool.{Bool, true, false, cond}
use mathlib.Core.List.{List}
use Prim.Native.Nat.{ℕ, zero, suc, ◌*◌, ◌<◌}
use native.Mathlib.Omega.{arith}
use borrow.Author.Tests.{ne_eqb, lt-ltb}
use lib.Dec.{T, eqb, lit<}
use lib.IntN.{pos}
use Rattle.integers.proofs.ListsLaws.{tabulate-get_or}
use Rattle.h265.specs.Range.{is_size}
use Rattle.h265.specs.Scaling.{scaled_at}
use Rattle.h265.specs.ScalingFactor.{ScalingList, factor_source, entry_of, dc_of, factor_by, scaling_factor}
use Rattle.h265.specs.ScalingFactor.ScalingList.{flat, listed}
use Rattle.h265.specs.TransformSkip.{skipped_at}
use Rattle.h265.proofs.RangeLaws.{size_cases}
use Rattle.feed_format.specs.Format.{list_ignored}
use Rattle.feed_format.specs.declared.Mode.{Mode}
use Rattle.feed_format.specs.declared.Mode.TheVariants.{Transform, Skip}
use Rattle.feed_rules.specs.Block.{list_for, coefficients, residual_by, residual_at}
use Rattle.scale_trace_rules.specs.Block.{BlockSource, block_source, block_factor}
use Rattle.scale_trace_rules.specs.Supply.{Transformed, Supplies, LineNamesTheRule, scaled_with, LineHasTheFactor}
use Rattle.scale_trace_rules.specs.Supply.Transformed.{by_transform}
use Rattle.scale_trace_rules.specs.Supply.Supplies.{no_list, skip_above_4, entry_of_4, entry_of_8, dc_number, repeated_entry}

-- ---- what a rule supplies is what the line names
pub factor-none : (mode : Mode) (n i : ℕ) → ◌≡◌ {A = ℕ} 16 (block_factor flat mode n i)
unfolding block_factor list_for scaling_factor factor_source factor_by
factor-none mode n i = by_test (list_ignored mode n)
  where
    by_test : (t : Bool) → ◌≡◌ {A = ℕ} 16 (factor_by (cond t flat flat) (factor_source (cond t flat flat) n i))
    by_test true = refl
    by_test false = refl

above_4 : (n : ℕ) → 8 < n → eqb n 4 ≡ false
above_4 n h = ne_eqb n 4 (λ e. omega arith)

above_8 : (n : ℕ) → 8 < n → eqb n 8 ≡ false
above_8 n h = ne_eqb n 8 (λ e. omega arith)

later : (i : ℕ) → 0 < i → eqb i 0 ≡ false
later i h = ne_eqb i 0 (λ e. omega arith)

abbrev Named : ScalingList → Mode → ℕ → ℕ → BlockSource → ℕ → Type 0
Named list mode n i src m = (src ≡ block_source list mode n i) × (m ≡ block_factor list mode n i)

named : (list : ScalingList) (mode : Mode) (n i : ℕ) (src : BlockSource) (m : ℕ) → Supplies list mode n i src m → Named list mode n i src m
unfolding block_source block_factor list_for list_ignored scaling_factor factor_source factor_by entry_of dc_of
named _ _ _ _ _ _ (no_list mode n i) = (refl, factor-none mode n i)
named _ _ _ _ _ _ (skip_above_4 es d n i h) = (rw (lt-ltb 4 n (omega arith)), rw (lt-ltb 4 n (omega arith)))
named _ _ _ _ _ _ (entry_of_4 es d (Transform kind) i) = (refl, refl)
named _ _ _ _ _ _ (entry_of_4 es d Skip i) = (refl, refl)
named _ _ _ _ _ _ (entry_of_8 es d _ i (by_transform kind)) = (refl, refl)
named _ _ _ _ _ _ (dc_number es d _ n (by_transform kind) h) = (rw (above_4 n (omega arith), above_8 n (omega arith)), rw (above_4 n (omega arith), above_8 n (omega arith)))
named _ _ _ _ _ _ (repeated_entry es d _ n i (by_transform kind) h k) = (rw (above_4 n (omega arith), above_8 n (omega arith), later i k), rw (above_4 n (omega arith), above_8 n (omega arith), later i k))

-- ---- what the line names is supplied
moved : {list : ScalingList} {mode : Mode} {n i : ℕ} {src : BlockSource} {m : ℕ} → Supplies list mode n i src m
    → Supplies list mode n i (block_source list mode n i) (block_factor list mode n i)
moved {list} {mode} {n} {i} {src} {m} s =
    let e = named list mode n i src m s in
    subst (λ (t : BlockSource). Supplies list mode n i t (block_factor list mode n i)) e.0 (subst (λ (k : ℕ). Supplies list mode n i src k) e.1 s)

module _ (es : List ℕ) (d : ℕ) where
  large : {mode : Mode} → Transformed mode → (n i : ℕ) → 8 < n → Supplies (listed es d) mode n i (block_source (listed es d) mode n i) (block_factor (listed es d) mode n i)
  large {mode} t n zero h = moved (dc_number es d mode n t h)
  large {mode} t n (suc i) h = moved (repeated_entry es d mode n (suc i) t h (omega arith))

  transformed : {mode : Mode} → Transformed mode → (n i : ℕ) → T (is_size n) → Supplies (listed es d) mode n i (block_source (listed es d) mode n i) (block_factor (listed es d) mode n i)
  transformed {mode} t n i =
      size_cases (λ (k : ℕ). Supplies (listed es d) mode k i (block_source (listed es d) mode k i) (block_factor (listed es d) mode k i))
      (moved (entry_of_4 es d mode i)) (moved (entry_of_8 es d mode i t)) (large t 16 i (lit< tt)) (large t 32 i (lit< tt)) n

  skipped : (n i : ℕ) → T (is_size n) → Supplies (listed es d) Skip n i (block_source (listed es d) Skip n i) (block_factor (listed es d) Skip n i)
  skipped n i =
      size_cases (λ (k : ℕ). Supplies (listed es d) Skip k i (block_source (listed es d) Skip k i) (block_factor (listed es d) Skip k i))
      (moved (entry_of_4 es d Skip i)) (moved (skip_above_4 es d 8 i (lit< tt))) (moved (skip_above_4 es d 16 i (lit< tt))) (moved (skip_above_4 es d 32 i (lit< tt))) n

supplied : (list : ScalingList) (mode : Mode) (n i : ℕ) → T (is_size n) → Supplies list mode n i (block_source list mode n i) (block_factor list mode n i)
supplied flat mode n i t = moved (no_list mode n i)
supplied (listed es d) (Transform kind) n i t = transformed es d (by_transform kind) n i t
supplied (listed es d) Skip n i t = skipped es d n i t

pub line_names_the_rule : LineNamesTheRule
line_names_the_rule list mode n i t src m = (named list mode n i src m, λ e. rw (e.0, e.1) (supplied list mode n i t))

-- ---- the m that scaling uses
pub line_has_the_factor : LineHasTheFactor
unfolding block_factor coefficients residual_at residual_by skipped_at scaled_at scaled_with
line_has_the_factor list p n levels i =
    record {
      coefficient = λ h. tabulate-get_or (n * n) _ i (pos 0) h;
      skipped = λ e. ap (λ (mode : Mode). residual_by mode (list_for p.mode n list) p n levels i) e;
    }
