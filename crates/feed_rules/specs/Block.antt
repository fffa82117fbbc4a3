-- The residual of one block of a feed, by the parameters and the list in force. docs/RULES.md, "The feed"; clause 8.6 in `h265`.
-- Letters: n size, p the parameters, levels the block's levels in row order.
--   list_in l                   the list in force, if there is one: its entries with their DC number
--   list_for mode n list        the list by which a block is scaled, where `list` is in force
--   coefficients list p n      the scaled levels
--   transformed_at t b x n      the residual at an index, of coefficients by a matrix t
--   residual_by mode list p n   the residual at an index, of levels by the mode: a transform, or transform skip
--   residual_at list p n        the same where `list` is in force
--   block_residual list p n     the whole block
--   block_limited list p n      how many of its coefficients were limited. Change request R-6
--   opening_of kind list p n    what a block of levels is opened with, so that it can be edited: the parameters, and the list in force. Change request R-14
use Rattle.std.specs.Prelude.{Bool, true, false, cond, List, Option, Some, None, ℕ, ◌*◌, ℤ, pos, replicate}
use Rattle.integers.specs.Lists.{tabulate}
use Rattle.h265.specs.Range.{transform_range}
use Rattle.h265.specs.ScalingFactor.{ScalingList}
use Rattle.h265.specs.ScalingFactor.ScalingList.{flat, listed}
use Rattle.h265.specs.Scaling.{scaled_at}
use Rattle.h265.specs.TransformSkip.{skipped_at}
use Rattle.h265.specs.Limited.{limited_count}
use Rattle.h265.specs.Transform.{residual, row_order}
use Rattle.transform_1d.specs.declared.Kind.{Kind}
use Rattle.transform_1d.specs.MatrixOf.{matrix_of}
use Rattle.block_rules.specs.Opening.{Opening}
use Rattle.feed_format.specs.declared.List.{List as FeedList}
use Rattle.feed_format.specs.declared.Mode.{Mode}
use Rattle.feed_format.specs.declared.Mode.TheVariants.{Transform, Skip}
use Rattle.feed_format.specs.declared.Parameters.{Parameters}
use Rattle.feed_format.specs.Format.{list_ignored}

abbrev pub list_in : Option FeedList → ScalingList
list_in (Some l) = listed l.entries l.dc
list_in None = flat

unfoldable pub list_for : Mode → ℕ → ScalingList → ScalingList
list_for mode n list = cond (list_ignored mode n) flat list

unfoldable pub coefficients : ScalingList → Parameters → ℕ → List ℤ → List ℤ
coefficients list p n levels =
    tabulate (n * n) (scaled_at list n p.precision.bit_depth p.precision.extended (pos p.qp_prime) levels)

-- both stages over coefficients, with every column read
unfoldable pub transformed_at : (ℕ → ℕ → ℤ) → ℕ → Bool → ℕ → List ℤ → ℕ → ℤ
transformed_at t b x n d = row_order n (residual t n b (transform_range b x) n d)

unfoldable pub residual_by : Mode → ScalingList → Parameters → ℕ → List ℤ → ℕ → ℤ
residual_by (Transform kind) list p n levels =
    transformed_at (matrix_of kind n) p.precision.bit_depth p.precision.extended n (coefficients list p n levels)
residual_by Skip list p n levels =
    skipped_at list n p.precision.bit_depth p.precision.extended (pos p.qp_prime) levels

unfoldable pub residual_at : ScalingList → Parameters → ℕ → List ℤ → ℕ → ℤ
residual_at list p n levels = residual_by p.mode (list_for p.mode n list) p n levels

unfoldable pub block_residual : ScalingList → Parameters → ℕ → List ℤ → List ℤ
block_residual list p n levels = tabulate (n * n) (residual_at list p n levels)

unfoldable pub block_limited : ScalingList → Parameters → ℕ → List ℤ → ℕ
block_limited list p n levels =
    limited_count (list_for p.mode n list) n p.precision.bit_depth p.precision.extended (pos p.qp_prime) levels

-- what a record keeps of a list; without one all is 0
abbrev pub is_listed : ScalingList → Bool
is_listed flat = false
is_listed (listed entries d) = true

abbrev pub dc_in : ScalingList → ℕ
dc_in flat = 0
dc_in (listed entries d) = d

abbrev pub entries_in : ScalingList → List ℕ
entries_in flat = replicate 64 0
entries_in (listed entries d) = entries

abbrev pub opening_of : Kind → ScalingList → Parameters → ℕ → Opening
opening_of kind list p n =
    record {
      kind = kind;
      size = n;
      depth = p.precision.bit_depth;
      extended = p.precision.extended;
      source = record { levels = Bool.true; qp_prime = record { 0 = pos p.qp_prime }; listed = is_listed list; dc = dc_in list; entries = entries_in list };
    }
