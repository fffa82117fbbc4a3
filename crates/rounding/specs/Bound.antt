-- What `rounding_bound` answers, for every value of every argument: rows 1, 2, 4 of docs/RULES.md's table, lowest number first, then the bound.
--   bound_outcome           the answer as number, place and value, which is zero on refusal
--   rounding_bound_of        the bound, refused calls included
use Rattle.std.specs.Prelude.{Bool, cond, ℕ}
use Rattle.refusal.specs.declared.Refusal.TheVariants.{SizeInvalid, DepthInvalid, DstSizeInvalid}
use Rattle.refusal.specs.Condition.{size_refused, depth_refused}
use Rattle.refusal.specs.Outcome.{Outcome, accepted, refused}
use Rattle.transform_1d.specs.declared.Kind.{Kind}
use Rattle.transform_1d.specs.Kinds.{dst_refused}
use Rattle.rounding.specs.Exact.{rounding_bound}

unfoldable pub rounding_bound_of : Kind → ℕ → ℕ → Bool → Outcome ℕ
rounding_bound_of kind n b x =
    cond (size_refused n) (refused 0 SizeInvalid)
    (cond (depth_refused b) (refused 0 DepthInvalid)
    (cond (dst_refused kind n) (refused 0 DstSizeInvalid)
    (accepted (rounding_bound kind n b x))))
