-- Which edits make the mark go? The statements; `proofs/BetweenLaws.antt` proves each under the name beside it.
--   has_target_after         the block with v at row k and column c has the target at every wanted sample
--   EditsLieBetween        edits_lie_between: after a call that answered 0, for every row, column and value of the range: the block with
--                          that one coefficient changed has the target at every wanted sample if and only if the value lies between
--                          least and most of that index
--   NothingWanted          nothing_wanted: where no sample is wanted, that is the whole range at every index
use Rattle.std.specs.Prelude.{◌≡◌, ◌↔◌, Bool, false, List, ℕ, ◌+◌, ◌*◌, ◌<◌, ℤ, set, ◌≤ℤ◌}
use Rattle.h265.specs.Range.{transform_range, coeff_min, coeff_max, outside_range}
use Rattle.h265.specs.Transform.{block_at, residual}
use Rattle.transform_1d.specs.declared.Kind.{Kind}
use Rattle.transform_1d.specs.MatrixOf.{matrix_of}
use Rattle.edit_blocks.specs.Edits.{is_wanted, HasTarget}
use Rattle.edit_search.specs.Found.{edits_found}

-- the residual is the one that the transforms' contracts cite, over all n columns
abbrev pub has_target_after : Kind → ℕ → ℕ → Bool → List ℤ → List ℤ → List ℕ → ℕ → ℕ → ℤ → Type 0
has_target_after kind n b x d target wanted k c v =
    HasTarget n (residual (matrix_of kind n) n b (transform_range b x) n (set d (k * n + c) v)) target wanted

abbrev pub EditsLieBetween : Type 0
EditsLieBetween =
    (kind : Kind) (n b : ℕ) (x : Bool) (d target : List ℤ) (wanted : List ℕ) (least most : List ℤ)
    → (edits_found kind n b x d target wanted least most).answer.number ≡ 0
    → (k c : ℕ) → k < n → c < n → (v : ℤ) → outside_range (transform_range b x) v ≡ false
    → has_target_after kind n b x d target wanted k c v
    ↔ ((block_at n (edits_found kind n b x d target wanted least most).least k c ≤ℤ v) × (v ≤ℤ block_at n (edits_found kind n b x d target wanted least most).most k c))

abbrev pub NothingWanted : Type 0
NothingWanted =
    (kind : Kind) (n b : ℕ) (x : Bool) (d target : List ℤ) (wanted : List ℕ) (least most : List ℤ)
    → (edits_found kind n b x d target wanted least most).answer.number ≡ 0
    → ((i : ℕ) → i < n * n → is_wanted wanted i ≡ false)
    → (k c : ℕ) → k < n → c < n
    → (block_at n (edits_found kind n b x d target wanted least most).least k c ≡ coeff_min (transform_range b x))
    × (block_at n (edits_found kind n b x d target wanted least most).most k c ≡ coeff_max (transform_range b x))
