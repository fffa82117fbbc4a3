-- Laws of a block that is modified where it stands.
--   overwritten_at, -summable, -twice   a block that was written: its elements, their bound, and what is made of it in its place
--   modified_twice                      the same of rotation and accumulation
use mathlib.Core.Path.{◌≡◌, ap, ◌∙◌}
use mathlib.Core.Bool.{Bool}
use mathlib.Core.List.{List}
use Prim.Native.Nat.{ℕ, ◌*◌, ◌<◌}
use lib.IntN.{ℤ, pos}
use Rattle.integers.specs.Lists.{overwrite}
use Rattle.integers.specs.Within.{Within}
use Rattle.integers.proofs.BoundLaws.{within_eq}
use Rattle.integers.proofs.ListsLaws.{overwrite_cong, overwrite-get_or, overwrite_twice}
use Rattle.block_tool_rules.specs.declared.Accumulate.{Accumulate}
use Rattle.block_tool_rules.specs.Modification.{rotated, accumulated}
use Rattle.block_tool_work.specs.Work.{at, Summable}
use Rattle.block_tool_work.proofs.AccumulationLaws.{accumulated_cong}
use Rattle.block_tool_work.proofs.RotationLaws.{rotated_cong}

module _ (k : ℕ) (g : ℕ → ℤ) (xs : List ℤ) {mid : List ℤ} (e : mid ≡ overwrite k g xs) where
  pub overwritten_at : (i : ℕ) → i < k → at mid i ≡ g i
  overwritten_at i h = ap (λ (l : List ℤ). at l i) e ∙ overwrite-get_or k g xs i (pos 0) h

  pub overwritten_summable : ((i : ℕ) → i < k → Within 4194304 (g i)) → Summable k mid
  overwritten_summable w = record { small = λ i h. within_eq (overwritten_at i h) (w i h) }

  -- what is made of a block that was written is made of its values
  pub overwritten_twice : (h : (ℕ → ℤ) → ℕ → ℤ) → ((f : ℕ → ℤ) → ((j : ℕ) → j < k → f j ≡ g j) → (i : ℕ) → i < k → h f i ≡ h g i)
      → {zs : List ℤ} → zs ≡ overwrite k (h (at mid)) mid → zs ≡ overwrite k (h g) xs
  overwritten_twice h local q =
      q ∙ overwrite_cong k (h (at mid)) (h g) mid (local (at mid) overwritten_at) ∙ ap (overwrite k (h g)) e ∙ overwrite_twice k (h g) g xs

pub modified_twice : (a : Accumulate) (t : Bool) (n : ℕ) (g : ℕ → ℤ) (xs : List ℤ) {mid zs : List ℤ} → mid ≡ overwrite (n * n) g xs
    → zs ≡ overwrite (n * n) (accumulated a n (rotated t n (at mid))) mid → zs ≡ overwrite (n * n) (accumulated a n (rotated t n g)) xs
modified_twice a t n g xs e q =
    overwritten_twice (n * n) g xs e (λ f. accumulated a n (rotated t n f))
    (λ f d i h. accumulated_cong a n (rotated t n f) (rotated t n g) (λ j l. rotated_cong t n f g d j l) i h) q
