-- Which level makes the mark go? The statement; `proofs/BetweenLaws.antt` proves it under the name beside it.
--   LevelEditsLieBetween   level_edits_lie_between: after a call that answered 0, for every row, column and level of the range: the block with
--                          that one level changed has the target at every wanted sample if and only if the level lies between least and most
--                          of that index
use Rattle.std.specs.Prelude.{◌≡◌, ◌↔◌, Bool, false, List, ℕ, ◌+◌, ◌*◌, ◌<◌, ℤ, set, ◌≤ℤ◌}
use Rattle.h265.specs.Range.{transform_range, outside_range}
use Rattle.h265.specs.ScalingFactor.{ScalingList}
use Rattle.h265.specs.Transform.{block_at, residual}
use Rattle.transform_1d.specs.declared.Kind.{Kind}
use Rattle.transform_1d.specs.MatrixOf.{matrix_of}
use Rattle.edit_blocks.specs.Edits.{HasTarget}
use Rattle.level_edits.specs.Levels.{scaled_block, level_edits_found}

abbrev pub LevelEditsLieBetween : Type 0
LevelEditsLieBetween =
    (list : ScalingList) (kind : Kind) (n : ℕ) (q : ℤ) (b : ℕ) (x : Bool) (levels target : List ℤ) (wanted : List ℕ) (least most : List ℤ)
    → (level_edits_found list kind n q b x levels target wanted least most).answer.number ≡ 0
    → (k c : ℕ) → k < n → c < n → (v : ℤ) → outside_range (transform_range b x) v ≡ false
    → HasTarget n (residual (matrix_of kind n) n b (transform_range b x) n (scaled_block list n b x q (set levels (k * n + c) v))) target wanted
    ↔ ((block_at n (level_edits_found list kind n q b x levels target wanted least most).least k c ≤ℤ v)
    × (v ≤ℤ block_at n (level_edits_found list kind n q b x levels target wanted least most).most k c))
