-- The rules that supply m, a constructor for each, and what a line of the listing has to do with them: R-1's "if and only if". Written from
-- docs/RULES.md, "Scaling" and "The listing of scaling factors", and not from `block_source`, which the listing follows.
-- proofs/SupplyLaws.antt proves each statement under the name beside it.
--   Transformed mode               the block is transformed, and no transform skip
--   Supplies list mode n i src m   the rule src supplies m at index i of a block of that mode and size, with that list in force
--   scaled_with m p n level         one level scaled with m, by the parameters of a feed
--   FeedUses list p n levels i m   m is the one that the feed scales with: by its coefficients, and in transform skip by its residual
--   LineNamesTheRule               line_names_the_rule: a rule supplies a number exactly where the line names that rule and that number
--   LineHasTheFactor               line_has_the_factor: the number that the line shows is the one that the feed uses, whatever the levels are
use Rattle.std.specs.Prelude.{◌≡◌, ◌↔◌, List, ℕ, ◌*◌, ◌<◌, T, ℤ, pos, nat_abs, get_or}
use Rattle.h265.specs.Range.{is_size, log2_size, transform_range}
use Rattle.h265.specs.Quantization.{clip_qp_prime}
use Rattle.h265.specs.Scaling.{bd_shift, scale_level}
use Rattle.h265.specs.ScalingFactor.{ScalingList, repeated_position}
use Rattle.h265.specs.ScalingFactor.ScalingList.{flat, listed}
use Rattle.h265.specs.ScalingFactor.FactorSource.{none, four, eight, dc, repeated}
use Rattle.h265.specs.TransformSkip.{ts_shift, ts_residual}
use Rattle.feed_format.specs.declared.Mode.{Mode}
use Rattle.transform_1d.specs.declared.Kind.{Kind}
use Rattle.feed_format.specs.declared.Mode.TheVariants.{Transform, Skip}
use Rattle.feed_format.specs.declared.Parameters.{Parameters}
use Rattle.feed_rules.specs.Block.{list_for, coefficients, residual_at}
use Rattle.scale_trace_rules.specs.Block.{BlockSource, block_source, block_factor}
use Rattle.scale_trace_rules.specs.Block.BlockSource.{rule, skip}

-- ---- the rules
pub data Transformed : Mode → Type 0 where
  by_transform : (kind : Kind) → Transformed (Transform kind)

pub data Supplies : ScalingList → Mode → ℕ → ℕ → BlockSource → ℕ → Type 0 where
  no_list : (mode : Mode) (n i : ℕ) → Supplies flat mode n i (rule none) 16
  skip_above_4 : (es : List ℕ) (d n i : ℕ) → 4 < n → Supplies (listed es d) Skip n i skip 16
  entry_of_4 : (es : List ℕ) (d : ℕ) (mode : Mode) (i : ℕ) → Supplies (listed es d) mode 4 i (rule (four i)) (get_or es i 0)
  entry_of_8 : (es : List ℕ) (d : ℕ) (mode : Mode) (i : ℕ) → Transformed mode → Supplies (listed es d) mode 8 i (rule (eight i)) (get_or es i 0)
  dc_number : (es : List ℕ) (d : ℕ) (mode : Mode) (n : ℕ) → Transformed mode → 8 < n → Supplies (listed es d) mode n 0 (rule dc) d
  repeated_entry : (es : List ℕ) (d : ℕ) (mode : Mode) (n i : ℕ) → Transformed mode → 8 < n → 0 < i
      → Supplies (listed es d) mode n i (rule (repeated (repeated_position n i))) (get_or es (repeated_position n i) 0)

abbrev pub LineNamesTheRule : Type 0
LineNamesTheRule =
    (list : ScalingList) (mode : Mode) (n i : ℕ) → T (is_size n) → (src : BlockSource) (m : ℕ)
    → Supplies list mode n i src m ↔ ((src ≡ block_source list mode n i) × (m ≡ block_factor list mode n i))

-- ---- the m that scaling uses
unfoldable pub scaled_with : ℕ → Parameters → ℕ → ℤ → ℤ
scaled_with m p n level =
    let r : ℕ = transform_range p.precision.bit_depth p.precision.extended in
    scale_level r (bd_shift p.precision.bit_depth (log2_size n) r) (nat_abs (clip_qp_prime p.precision.bit_depth (pos p.qp_prime))) m level

pub record FeedUses (list : ScalingList) (p : Parameters) (n : ℕ) (levels : List ℤ) (i m : ℕ) : Type 0 where
  pub coefficient : i < n * n → get_or (coefficients (list_for p.mode n list) p n levels) i (pos 0) ≡ scaled_with m p n (get_or levels i (pos 0))
  pub skipped : p.mode ≡ Skip
      → residual_at list p n levels i
      ≡ ts_residual (ts_shift (transform_range p.precision.bit_depth p.precision.extended) p.precision.bit_depth (log2_size n)) (scaled_with m p n (get_or levels i (pos 0)))

abbrev pub LineHasTheFactor : Type 0
LineHasTheFactor =
    (list : ScalingList) (p : Parameters) (n : ℕ) (levels : List ℤ) (i : ℕ) → FeedUses list p n levels i (block_factor list p.mode n i)
