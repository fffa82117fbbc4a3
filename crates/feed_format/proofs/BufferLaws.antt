-- Laws of buffers of which the first elements are used.
--   overwrite_whole      a buffer that was replaced whole
--   tabulate-take        the first elements of a list
use mathlib.Core.Path.{◌≡◌, sym, ap, ◌∙◌}
use mathlib.Core.List.{List, ◌++◌, append-nil}
use Prim.Native.Nat.{ℕ, ◌≤◌, ◌<◌}
use lib.ListN.{length, take, get_or, drop_of_length-le}
use lib.Seq.{ext_get_or, get_or-take, length-take-le}
use Rattle.integers.specs.Lists.{tabulate, overwrite}
use Rattle.integers.proofs.ListsLaws.{tabulate-length, tabulate-get_or}

module _ {A : Type 0} where
  pub overwrite_whole : (k : ℕ) (f : ℕ → A) (xs : List A) → length xs ≤ k → overwrite k f xs ≡ tabulate k f
  unfolding overwrite
  overwrite_whole k f xs h = ap (λ (l : List A). tabulate k f ++ l) (drop_of_length-le xs h) ∙ append-nil (tabulate k f)

  pub tabulate-take : (k : ℕ) (xs : List A) (d : A) → k ≤ length xs → tabulate k (λ i. get_or xs i d) ≡ take k xs
  tabulate-take k xs d h =
      ext_get_or d (tabulate k (λ i. get_or xs i d)) (take k xs) (tabulate-length k (λ i. get_or xs i d) ∙ sym (length-take-le k xs h)) at
    where
      at : (i : ℕ) → i < length (tabulate k (λ i. get_or xs i d)) → get_or (tabulate k (λ i. get_or xs i d)) i d ≡ get_or (take k xs) i d
      at i g =
          let l : i < k = rw tabulate-length at g in
          tabulate-get_or k (λ i. get_or xs i d) i d l ∙ sym (get_or-take k xs i d l)
