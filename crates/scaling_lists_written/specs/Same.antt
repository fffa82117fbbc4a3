-- What of a list its size uses, and when two lists are the same to it. Change request R-12.
-- Letters: s size_id, m matrix_id, j the number of a list among the 20, l a list.
--   every n p             p holds of every number below n
--   has_dc s               lists of the size have a DC number: from 16×16 on
--   used_count s           how many entries the size uses: 16 of a 4×4 list, else all 64
--   entry l i             entry i of a list
--   same_list s a b        the entries that the size uses are equal, and DC where it has one
--   used_list s l          the list as the size uses it: the entries that it does not use as 0, and DC as 16 where it has none
--   Proper s l            every used entry is 1 .. 255, and so is DC where the size has one
--   list_at lists j        list j
--   used_lists lists       the 20 lists as their sizes use them
--   Writable lists        all 20 are proper
use Rattle.std.specs.Prelude.{Bool, true, cond, ◌&&◌, ◌≡◌, List, ℕ, zero, suc, ◌≤◌, ◌<◌, eqb, ltb, get_or}
use Rattle.integers.specs.Lists.{tabulate}
use Rattle.scaling_lists_codes.specs.Syntax.{FactorList, none, size_id}

unfoldable pub every : ℕ → (ℕ → Bool) → Bool
every zero p = true
every (suc n) p = every n p && p n

unfoldable pub has_dc : ℕ → Bool
has_dc s = ltb 1 s

unfoldable pub used_count : ℕ → ℕ
used_count s = cond (eqb s 0) 16 64

abbrev pub entry : FactorList → ℕ → ℕ
entry l i = get_or l.entries i 0

unfoldable pub same_list : ℕ → FactorList → FactorList → Bool
same_list s a b = every (used_count s) (λ i. eqb (entry a i) (entry b i)) && cond (has_dc s) (eqb a.dc b.dc) true

unfoldable pub used_list : ℕ → FactorList → FactorList
used_list s l =
    record {
      entries = tabulate 64 (λ i. cond (ltb i (used_count s)) (entry l i) 0);
      dc = cond (has_dc s) l.dc 16;
    }

pub record Proper (s : ℕ) (l : FactorList) : Type 0 where
  pub entries_least : (i : ℕ) → i < used_count s → 1 ≤ entry l i
  pub entries_most : (i : ℕ) → i < used_count s → entry l i ≤ 255
  pub dc_least : has_dc s ≡ true → 1 ≤ l.dc
  pub dc_most : has_dc s ≡ true → l.dc ≤ 255

abbrev pub list_at : List FactorList → ℕ → FactorList
list_at lists j = get_or lists j none

unfoldable pub used_lists : List FactorList → List FactorList
used_lists lists = tabulate 20 (λ j. used_list (size_id j) (list_at lists j))

pub record Writable (lists : List FactorList) : Type 0 where
  pub proper : (j : ℕ) → j < 20 → Proper (size_id j) (list_at lists j)
