-- The entries that are taken over.
--   default_four, -intra, -inter   which of the three defaults a size and a matrix have
--   length-part              how long a part is
--   part-list                a part of 64 as the list that stands there
--   taken_default, taken_held   the entries that are taken over
--   part_held                the part of the lists that has them
use mathlib.Core.Path.{◌≡◌, sym, ap, ◌∙◌}
use mathlib.Core.List.{List}
use Prim.Native.Nat.{ℕ, ◌+◌, ◌-◌, ◌*◌, ◌≤◌, ◌<◌}
use native.Mathlib.Omega.{arith}
use borrow.Author.Tests.{eq-eqb, ne_eqb, lt-ltb, le-ltb}
use lib.ListN.{length, get_or, take, drop, length-drop}
use lib.Seq.{ext_get_or, length-take-le, get_or-take, get_or-drop}
use Rattle.integers.proofs.ListsLaws.{tabulate-length, tabulate-get_or}
use Rattle.scaling_lists_codes.specs.Syntax.{Defaults, default_for, list_number, matrix_step, size_id, matrix_id}
use Rattle.scaling_lists_taken.specs.Held.{list_entries, entries_taken}

module _ (lent : Defaults) (s m : ℕ) where
  pub default_four : s ≡ 0 → lent.four ≡ default_for lent s m
  unfolding default_for
  default_four e = rw (eq-eqb s 0 e)

  pub default_intra : (s ≡ 0 → ⊥) → m < 3 → lent.intra ≡ default_for lent s m
  unfolding default_for
  default_intra e h = rw (ne_eqb s 0 e, lt-ltb m 3 h)

  pub default_inter : (s ≡ 0 → ⊥) → 3 ≤ m → lent.inter ≡ default_for lent s m
  unfolding default_for
  default_inter e h = rw (ne_eqb s 0 e, le-ltb m 3 h)

pub length-part : (xs : List ℕ) (first end : ℕ) → end ≤ length xs → length (take (end - first) (drop first xs)) ≡ end - first
length-part xs first end h = length-take-le (end - first) (drop first xs) (rw length-drop (omega arith))

pub part-list : (xs : List ℕ) (k first end : ℕ) → first ≡ 64 * k → end ≡ first + 64 → end ≤ length xs → take (end - first) (drop first xs) ≡ list_entries xs k
part-list xs k first end e f h =
    ext_get_or 0 (take (end - first) (drop first xs)) (list_entries xs k) (length-take-le (end - first) (drop first xs) (rw length-drop (omega arith)) ∙ (omega arith) ∙ sym (tabulate-length 64 _))
    (λ i b. let b' : i < end - first = rw (length-take-le (end - first) (drop first xs) (rw length-drop (omega arith))) at b in
    get_or-take (end - first) (drop first xs) i 0 b' ∙ get_or-drop first xs i 0 ∙ ap (λ (a : ℕ). get_or xs (a + i) 0) e ∙ sym (tabulate-get_or 64 (λ i. get_or xs (64 * k + i) 0) i 0 (omega arith)))

module _ (lent : Defaults) (lists : List ℕ) (j delta : ℕ) where
  pub taken_default : delta ≡ 0 → entries_taken lent lists j delta ≡ default_for lent (size_id j) (matrix_id j)
  unfolding entries_taken
  taken_default z = rw (eq-eqb delta 0 z)

  pub taken_held : (delta ≡ 0 → ⊥) → entries_taken lent lists j delta ≡ list_entries lists (list_number (size_id j) (matrix_id j - delta * matrix_step (size_id j)))
  unfolding entries_taken
  taken_held z = rw (ne_eqb delta 0 z)

  pub part_held : (k first end : ℕ) → (delta ≡ 0 → ⊥) → k ≡ list_number (size_id j) (matrix_id j - delta * matrix_step (size_id j)) → first ≡ 64 * k → end ≡ first + 64 → end ≤ length lists
      → take (end - first) (drop first lists) ≡ entries_taken lent lists j delta
  part_held k first end z n e f h = part-list lists k first end e f h ∙ ap (list_entries lists) n ∙ sym (taken_held z)
