-- Laws of a stage of a size by another name of its points.
--   pass_named    what a pass gives
--   stage_named   what a stage gives of a list that has its rows and no more
use mathlib.Core.Path.{◌≡◌, subst}
use mathlib.Core.List.{List}
use Prim.Native.Nat.{ℕ, ◌*◌}
use lib.IntN.{ℤ}
use lib.ListN.{length}
use Rattle.std.specs.Prelude.{map}
use Rattle.transform_1d.specs.Rows.{Filled}
use Rattle.tiles.specs.Tile.{line_value, first_rows, StageGives}
use Rattle.tiles_wide.specs.Pass.{PassGives}
use Rattle.tiles_wide.proofs.PassLaws.{whole_stage}

module _ {q n m : ℕ} (e : q ≡ m) (f : n ≡ m) where
  pub pass_named : {r count s : ℕ} {xs out out₂ : List ℤ} → PassGives q n r count s xs out out₂ → PassGives m m r count s xs out out₂
  pass_named {r} {count} {s} {xs} {out} {out₂} p =
      subst (λ (k : ℕ). PassGives k m r count s xs out out₂) e (subst (λ (k : ℕ). PassGives q k r count s xs out out₂) f p)

  pub stage_named : (xs : List ℤ) {count : ℕ} (h : ℤ) (s : ℕ) {out out₂ : List ℤ} → length xs ≡ m * m
      → StageGives n (first_rows q n (map (λ (x : ℤ). x) xs)) count h s (λ (x : ℤ). x) (map (λ (x : ℤ). x) out) (map (λ (x : ℤ). x) out₂)
      → Filled m m (line_value m h s xs) count out out₂
  stage_named xs {count} h s {out} {out₂} l p =
      subst (λ (k : ℕ). Filled k k (line_value k h s xs) count out out₂) f (whole_stage q n xs h s (rw (e, f) l) p)
