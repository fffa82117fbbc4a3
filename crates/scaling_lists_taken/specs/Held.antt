-- Lists of 64 entries that stand one behind the other in a buffer.
--   list_entries xs k      list k of those that stand there
--   defaults_refused lent  row 5: a default has not 64 entries
--   entries_taken          the entries that a reference from list j means, of its default or of the lists read
--   held_at, held j        list k, and the first j lists, that stand in two buffers, one of entries and one of DC numbers
use Rattle.std.specs.Prelude.{Bool, cond, ◌||◌, List, ℕ, ◌+◌, ◌-◌, ◌*◌, eqb, length, get_or}
use Rattle.integers.specs.Lists.{tabulate}
use Rattle.refusal.specs.Condition.{list_refused}
use Rattle.scaling_lists_codes.specs.Syntax.{FactorList, Defaults, matrix_step, size_id, matrix_id, list_number, default_for}

abbrev pub list_entries : List ℕ → ℕ → List ℕ
list_entries xs k = tabulate 64 (λ i. get_or xs (64 * k + i) 0)

unfoldable pub defaults_refused : Defaults → Bool
defaults_refused lent = list_refused (length lent.four) || (list_refused (length lent.intra) || list_refused (length lent.inter))

unfoldable pub entries_taken : Defaults → List ℕ → ℕ → ℕ → List ℕ
entries_taken lent lists j delta =
    cond (eqb delta 0) (default_for lent (size_id j) (matrix_id j))
    (list_entries lists (list_number (size_id j) (matrix_id j - delta * matrix_step (size_id j))))

abbrev pub held_at : List ℕ → List ℕ → ℕ → FactorList
held_at lists dcs k = record { entries = list_entries lists k; dc = get_or dcs k 0 }

unfoldable pub held : ℕ → List ℕ → List ℕ → List FactorList
held j lists dcs = tabulate j (held_at lists dcs)
