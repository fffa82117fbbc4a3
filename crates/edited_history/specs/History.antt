-- What a list of edits has to give (docs/RULES.md, "The history of edits"). It is fed what the opening got and each edit's row, column and
-- value, and whether the value is a level; no answers, nothing from the record. It holds values: coefficients, or levels where the opening was on levels.
--   Edit                 row, column and value of one edit, and whether it is of a level
--   by_edit               one of four: refused with 10, with 8, with 9 or 19, or accepted
--   limits_to             whether the level of an edit was limited, and its result; neither of a coefficient
--   answer_to             the answer to one edit, with these two flags
--   values_after          the n² values after one edit
--   answers_to, history_of the answers to a list of edits, in order, and the values after it
--   coefficients_of       the coefficients of values: themselves, or their scaling
--   history_intermediate, history_residual   stages one and two over coefficients, with a column count of n
use Rattle.std.specs.Prelude.{Bool, not, ◌||◌, cond, List, [], ◌∷◌, ℕ, ◌+◌, ◌*◌, leb, ℤ, set}
use Rattle.integers.specs.Lists.{tabulate}
use Rattle.h265.specs.Range.{outside_range}
use Rattle.h265.specs.Scaling.{scaled_at}
use Rattle.h265.specs.Transform.{block_at, columns_read, row_order, intermediate, residual}
use Rattle.refusal.specs.declared.Refusal.TheVariants.{PlaceOutside, WayMismatched}
use Rattle.refusal.specs.Outcome.{Outcome, accepted, refused}
use Rattle.transform_1d.specs.MatrixOf.{matrix_of}
use Rattle.coefficients.specs.Outside.{outside_refusal}
use Rattle.block_rules.specs.Opening.{Opening, range_of}
use Rattle.block_rules.specs.declared.Limits.{Limits}
use Rattle.block_rules.specs.Level.{list_of, limits_by, no_limits}

pub record Edit : Type 0 where
  pub row : ℕ
  pub column : ℕ
  pub value : ℤ
  pub level : Bool

-- the two ways are not the same
abbrev pub other_way : Bool → Bool → Bool
other_way level on = cond level (not on) on

unfoldable pub by_edit : {A : Type 0} → Opening → Edit → A → A → A → A → A
by_edit o e way place range go =
    cond (other_way e.level o.source.levels) way
    (cond (leb o.size e.row || leb o.size e.column) place
    (cond e.level go (cond (outside_range (range_of o) e.value) range go)))

unfoldable pub limits_to : Opening → Edit → Limits
limits_to o e = cond e.level (limits_by o.source o.size o.depth o.extended (e.row * o.size + e.column) e.value) no_limits

unfoldable pub answer_to : Opening → Edit → Outcome Limits
answer_to o e =
    by_edit o e (refused no_limits WayMismatched) (refused no_limits PlaceOutside) (refused no_limits (outside_refusal (range_of o) e.value e.row e.column))
    (accepted (limits_to o e))

unfoldable pub values_after : Opening → Edit → List ℤ → List ℤ
values_after o e vs = by_edit o e vs vs vs (set vs (e.row * o.size + e.column) e.value)

unfoldable pub answers_to : Opening → List Edit → List (Outcome Limits)
answers_to o [] = []
answers_to o (e ∷ es) = answer_to o e ∷ answers_to o es

unfoldable pub history_of : Opening → List Edit → List ℤ → List ℤ
history_of o [] vs = vs
history_of o (e ∷ es) vs = history_of o es (values_after o e vs)

unfoldable pub coefficients_of : Opening → List ℤ → List ℤ
coefficients_of o vs =
    cond o.source.levels (tabulate (o.size * o.size) (scaled_at (list_of o.source) o.size o.depth o.extended o.source.qp_prime.0 vs)) vs

unfoldable pub history_intermediate : Opening → List ℤ → List ℤ
history_intermediate o d =
    let n : ℕ = o.size in
    tabulate (n * n) (row_order n (intermediate (matrix_of o.kind n) n (range_of o) (columns_read n (block_at n d))))

unfoldable pub history_residual : Opening → List ℤ → List ℤ
history_residual o d =
    let n : ℕ = o.size in
    tabulate (n * n) (row_order n (residual (matrix_of o.kind n) n o.depth (range_of o) n d))
