-- Lists compared.
--   same_by_dc, same_not      two lists by their entries, and by DC where those are equal
--   held-list                 list j of the buffers
use mathlib.Core.Path.{◌≡◌, sym, ap, ap₂, ◌∙◌}
use mathlib.Core.Bool.{Bool, true, false, cond, ◌&&◌}
use mathlib.Core.List.{List}
use Prim.Native.Nat.{ℕ, ◌≤◌, ◌<◌}
use lib.Dec.{eqb}
use lib.ListN.{length, get_or, take}
use lib.Seq.{get_or-take, length-take-le}
use Rattle.std.specs.Cmp.Lexicographic.{pointwise}
use Rattle.integers.proofs.ListsLaws.{tabulate-get_or}
use Rattle.scaling_lists_codes.specs.Syntax.{FactorList, none}
use Rattle.scaling_lists_taken.specs.Held.{held_at, held}
use Rattle.scaling_lists_written.specs.Same.{every, has_dc, used_count, entry, same_list, list_at}
use Rattle.scaling_lists_written.proofs.SameLaws.{every_cong, every_pointwise}

module _ (s : ℕ) (a b : FactorList) (n : ℕ) (is : n ≡ used_count s) (al : n ≤ length a.entries) (bl : n ≤ length b.entries) where
  entries_same : pointwise eqb (take n a.entries) (take n b.entries) ≡ every (used_count s) (λ i. eqb (entry a i) (entry b i))
  entries_same =
      let la = length-take-le n a.entries al in
      every_pointwise eqb (take n a.entries) (take n b.entries) (la ∙ sym (length-take-le n b.entries bl))
      ∙ ap (λ (k : ℕ). every k (λ i. eqb (get_or (take n a.entries) i 0) (get_or (take n b.entries) i 0))) la
      ∙ every_cong n _ _ (λ i h. ap₂ eqb (get_or-take n a.entries i 0 h) (get_or-take n b.entries i 0 h))
      ∙ ap (λ (k : ℕ). every k (λ i. eqb (entry a i) (entry b i))) is

  pub same_by_dc : (e t : Bool) → e ≡ pointwise eqb (take n a.entries) (take n b.entries) → e ≡ true → t ≡ cond (has_dc s) (eqb a.dc b.dc) true → t ≡ same_list s a b
  unfolding same_list
  same_by_dc e t f g h = h ∙ ap (λ (u : Bool). u && cond (has_dc s) (eqb a.dc b.dc) true) (sym g ∙ f ∙ entries_same)

  pub same_not : (e : Bool) → e ≡ pointwise eqb (take n a.entries) (take n b.entries) → e ≡ false → false ≡ same_list s a b
  unfolding same_list
  same_not e f g = ap (λ (u : Bool). u && cond (has_dc s) (eqb a.dc b.dc) true) (sym g ∙ f ∙ entries_same)

pub held-list : (lists dcs : List ℕ) (k : ℕ) → k < 20 → list_at (held 20 lists dcs) k ≡ held_at lists dcs k
unfolding held
held-list lists dcs k h = tabulate-get_or 20 (held_at lists dcs) k none h
