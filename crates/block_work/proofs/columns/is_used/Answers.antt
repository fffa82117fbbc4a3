-- `block_work::columns::is_used` meets its contract: the rows in use say of the column what all its rows do.
use Rattle.std.proofs.Common.{rules, tests, arith, refl, sym, ◌≡◌, Bool, true, false, List, ℕ, ◌*◌, ◌+◌, ◌<◌, pos, length, get_or}
use Rattle.std.specs.Bool.{MatchBool}
use Rattle.std.specs.List.{range_with_len, AllWithin, HoldsAt}
use Rattle.std.proofs.lemmas.Iterator.{YieldsList-from_range, cases_from_any}
use Rattle.std.proofs.lemmas.List.FromFn.{length-range_with_len, get_or-range_with_len}
use Rattle.block_rules.specs.Columns.{column_used}
use Rattle.block_laws.proofs.ColumnsLaws.{zero_row, other_row, used_there, used_nowhere, zero_rows-all}
use Rattle.block_work.proofs.columns.is_used.Goals as goal
use Rattle.block_work.proofs.columns.is_used.Goals.{Start}

abbrev Zero : Start → ℕ → Type 0
Zero s k = get_or s.args.coeff.now (k * s.args.n + s.args.c) (pos 0) ≡ pos 0

abbrev rows : Start → List ℕ
rows s = range_with_len 0 s.args.rows

row_at : (n k : ℕ) → k < n → get_or (range_with_len 0 n) k 0 ≡ k
row_at n k l = omega (arith, get_or-range_with_len 0 n k 0 l)

by_rows : (s : Start) (r : Bool) → MatchBool r ((k : ℕ) × (k < length (rows s)) × HoldsAt (λ i. Zero s i → ⊥) (rows s) k) (AllWithin (Zero s) (rows s) 0 (length (rows s)))
    → r ≡ column_used s.args.n s.args.coeff.now s.args.c
by_rows s true h =
    let a = s.args in
    let inside : h.0 < a.rows = omega (arith, length-range_with_len 0 a.rows, h.1) in
    sym (used_there a.n a.coeff.now a.c h.0 (omega (arith, inside, s.requires.3.most)) (other_row a.n a.coeff.now a.c h.0 (rw (row_at a.rows h.0 inside) at (h.2 0))))
by_rows s false h =
    let a = s.args in
    let zero : (k : ℕ) → k < a.rows → Zero s k = λ k l. rw (row_at a.rows k l) at (h k 0 (omega arith) (omega (arith, length-range_with_len 0 a.rows, l))) in
    sym (used_nowhere a.n a.coeff.now a.c (zero_rows-all a.c s.requires.2 s.requires.3 (record { at = λ k l. zero_row a.n a.coeff.now a.c k (zero k l) })))

pub returns : goal.returns
returns c =
    let a = c.args in
    by_rows (goal.at.returns c).Start c.any.result (cases_from_any _ _ _ (λ k. Zero (goal.at.returns c).Start k → ⊥) (Zero (goal.at.returns c).Start) c.any.ensures.ran (YieldsList-from_range 0 a.rows a.rows refl (omega arith)) (λ x q k. search (rules, tests)) (λ x q k. search (rules, tests)))
