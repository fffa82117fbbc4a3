-- The edits of a whole block, refused calls included: rows 1, 2, 4, 6, 7, 9, 19 of docs/RULES.md's table.
-- Letters: n size, b depth, x extended precision, d coefficients; target and wanted n² samples and n² bytes; least and most the two
-- buffers as lent.
--   Found               what a call hands back: its answer, and both buffers
--   left, wrote         refused, with the buffers as lent; accepted, with the buffers as written
--   Finds               a call's answer and buffers are what a `Found` says
--   edit_ladder          the conditions by size, depth, kind and lengths, lowest number first
--   edits_found          the edits of a block
use Rattle.std.specs.Prelude.{◌≡◌, Bool, cond, List, ℕ, ◌*◌, ltb, ℤ, length, Result}
use Rattle.integers.specs.Lists.{overwrite}
use Rattle.h265.specs.Range.{transform_range}
use Rattle.refusal.specs.declared.Refusal.{Refusal}
use Rattle.refusal.specs.declared.Refusal.TheVariants.{SizeInvalid, DepthInvalid, DstSizeInvalid, InputTooShort, OutputTooShort}
use Rattle.refusal.specs.Condition.{size_refused, depth_refused, block_refused}
use Rattle.refusal.specs.Outcome.{Outcome, accepted, refused, answer}
use Rattle.transform_1d.specs.declared.Kind.{Kind}
use Rattle.transform_1d.specs.Kinds.{dst_refused}
use Rattle.coefficients.specs.Outside.{first_outside, refusal_at}
use Rattle.edit_blocks.specs.Edits.{least_edit, most_edit}

pub record Found : Type 0 where
  pub answer : Outcome (Unit {0})
  pub least : List ℤ
  pub most : List ℤ

abbrev pub left : List ℤ → List ℤ → Refusal → Found
left least most e = record { answer = refused tt e; least = least; most = most }

abbrev pub wrote : List ℤ → List ℤ → Found
wrote least most = record { answer = accepted tt; least = least; most = most }

pub record Finds (r : Result (Unit {0}) Refusal) (low high : List ℤ) (f : Found) : Type 0 where
  pub answered : answer r ≡ f.answer
  pub least : low ≡ f.least
  pub most : high ≡ f.most

-- by the lengths of the buffers; `stop` makes something of a refusal
unfoldable pub edit_ladder : {A : Type 0} → (Refusal → A) → A → Kind → ℕ → ℕ → ℕ → ℕ → ℕ → ℕ → ℕ → A
edit_ladder stop go kind n b coeff target wanted least most =
    cond (size_refused n) (stop SizeInvalid)
    (cond (depth_refused b) (stop DepthInvalid)
    (cond (dst_refused kind n) (stop DstSizeInvalid)
    (cond (block_refused n coeff) (stop InputTooShort)
    (cond (block_refused n target) (stop InputTooShort)
    (cond (block_refused n wanted) (stop InputTooShort)
    (cond (block_refused n least) (stop OutputTooShort)
    (cond (block_refused n most) (stop OutputTooShort) go)))))))

-- below the ladder: rows 9 and 19, else the first n² elements of both buffers
unfoldable pub block_found : Kind → ℕ → ℕ → Bool → List ℤ → List ℤ → List ℕ → List ℤ → List ℤ → Found
block_found kind n b x d target wanted least most =
    let r : ℕ = transform_range b x in
    let first : ℕ = first_outside r n n d in
    cond (ltb first (n * n)) (left least most (refusal_at r n d first))
    (wrote (overwrite (n * n) (least_edit kind n b x d target wanted) least) (overwrite (n * n) (most_edit kind n b x d target wanted) most))

unfoldable pub edits_found : Kind → ℕ → ℕ → Bool → List ℤ → List ℤ → List ℕ → List ℤ → List ℤ → Found
edits_found kind n b x d target wanted least most =
    edit_ladder (left least most) (block_found kind n b x d target wanted least most) kind n b (length d) (length target) (length wanted) (length least) (length most)
