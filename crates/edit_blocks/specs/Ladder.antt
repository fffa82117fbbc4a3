-- What a search for edits refuses by size, depth, kind and lengths.
--   level_edit_ladder       the conditions, lowest number first
use Rattle.std.specs.Prelude.{cond, ℕ}
use Rattle.refusal.specs.declared.Refusal.{Refusal}
use Rattle.refusal.specs.declared.Refusal.TheVariants.{SizeInvalid, DepthInvalid, DstSizeInvalid, ListLengthInvalid, InputTooShort, OutputTooShort}
use Rattle.refusal.specs.Condition.{size_refused, depth_refused, list_refused, block_refused}
use Rattle.transform_1d.specs.declared.Kind.{Kind}
use Rattle.transform_1d.specs.Kinds.{dst_refused}

-- by the lengths of list and buffers, the first that of the coefficients or levels given; `stop` makes something of a refusal
unfoldable pub level_edit_ladder : {A : Type 0} → (Refusal → A) → A → Kind → ℕ → ℕ → ℕ → ℕ → ℕ → ℕ → ℕ → ℕ → A
level_edit_ladder stop go kind n b entries given target wanted least most =
    cond (size_refused n) (stop SizeInvalid)
    (cond (depth_refused b) (stop DepthInvalid)
    (cond (dst_refused kind n) (stop DstSizeInvalid)
    (cond (list_refused entries) (stop ListLengthInvalid)
    (cond (block_refused n given) (stop InputTooShort)
    (cond (block_refused n target) (stop InputTooShort)
    (cond (block_refused n wanted) (stop InputTooShort)
    (cond (block_refused n least) (stop OutputTooShort)
    (cond (block_refused n most) (stop OutputTooShort) go))))))))
