-- Examples of the definitions, as one list of cases under one statement: sums limited at both ends with the largest residuals, a block in a
-- plane whose stride is above its width, and 13 before 12.
use mathlib.Core.Path.{refl}
use mathlib.Core.List.{List, [], ◌∷◌}
use Prim.Native.Nat.{ℕ}
use lib.IntN.{pos, negsuc}
use lib.ListN.{replicate}
use Rattle.integers.specs.Examples.{Case, AllHold, ◌gives◌}
use Rattle.integers.specs.Clip.{clip3}
use Rattle.integers.specs.Lists.{tabulate, tabulate_from}
use Rattle.integers.specs.Search.{first_where}
use Rattle.refusal.specs.Condition.{size_refused, depth_refused, block_refused}
use Rattle.planes.specs.Picture.{side_refused, stride_refused, picture_refused, block_outside}
use Rattle.picture.specs.Samples.{sample_max, rebuilt_sample, rebuilt_at, among, placed_at, rebuilt_plane, first_above}
use Rattle.picture.specs.Rebuild.{Rebuilt, rebuilt}

one : ℕ → List ℕ
one k = k ∷ []

-- a 4×4 block of samples 256 at depth 8, in a picture of 4 rows
answered : ℕ → List ℕ
answered width =
    let w : Rebuilt = rebuilt 4 8 (replicate 16 (pos 0)) (replicate 16 256) width 4 4 0 0 (replicate 16 0) in
    w.answer.number ∷ w.answer.place ∷ []

pub examples : List (Case (List ℕ))
unfolding one answered
examples =
    (one (rebuilt_sample 255 200 (pos 55)) gives one 255)
    ∷ (one (rebuilt_sample 255 200 (pos 2147483647)) gives one 255)
    ∷ (one (rebuilt_sample 255 200 (negsuc 198)) gives one 1)
    ∷ (one (rebuilt_sample 1023 1023 (negsuc 2147483647)) gives one 0)
    ∷ (rebuilt_plane 2 8 (pos 0 ∷ pos 1 ∷ negsuc 3 ∷ pos 300 ∷ []) (1 ∷ 2 ∷ 3 ∷ 4 ∷ []) 3 1 1 (replicate 10 999) gives (999 ∷ 999 ∷ 999 ∷ 999 ∷ 1 ∷ 3 ∷ 999 ∷ 0 ∷ 255 ∷ 999 ∷ []))
    ∷ (answered 3 gives (13 ∷ 0 ∷ []))
    ∷ (answered 4 gives (12 ∷ 0 ∷ []))
    ∷ []

pub examples_hold : AllHold examples
unfolding examples one answered rebuilt_sample rebuilt_plane placed_at rebuilt_at among sample_max rebuilt first_above picture_refused side_refused stride_refused block_outside size_refused depth_refused block_refused clip3 tabulate tabulate_from first_where
examples_hold = refl
