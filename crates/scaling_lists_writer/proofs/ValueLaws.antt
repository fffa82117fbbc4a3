-- Rows 5 and 16: what is refused, and what is not.
--   nonzero_by_dc, nonzero_not   a list by its entries, and by DC where none of those is 0
--   values_refused_lem, values_accepted   all 20 lists
--   whole_accepted               what passes row 5
use mathlib.Core.Path.{◌≡◌, sym, ap, ◌∙◌}
use mathlib.Core.Bool.{Bool, true, false, cond, not, ◌||◌, ◌&&◌}
use mathlib.Core.List.{List}
use Prim.Native.Nat.{ℕ, ◌≤◌, ◌<◌}
use borrow.Author.Tests.{eqb-true, not-false}
use lib.Dec.{eqb}
use lib.ListN.{length, get_or, take}
use lib.Seq.{get_or-take, length-take-le}
use Rattle.std.specs.List.{list_any}
use Rattle.refusal.specs.Condition.{list_refused}
use Rattle.scaling_lists_codes.specs.Syntax.{FactorList, Defaults, size_id}
use Rattle.scaling_lists_taken.specs.Held.{defaults_refused}
use Rattle.scaling_lists_written.specs.Same.{every, has_dc, used_count, entry, list_at}
use Rattle.scaling_lists_written.specs.Written.{Whole}
use Rattle.scaling_lists_written.proofs.SameLaws.{every_cong, every_fails, every_not_any}
use Rattle.integers.proofs.TestLaws.{neither}
use Rattle.scaling_lists_writer.specs.Answers.{nonzero, values_refused}

module _ (s : ℕ) (l : FactorList) (n : ℕ) (is : n ≡ used_count s) (few : n ≤ length l.entries) where
  entries_nonzero : not (list_any (λ y. eqb y 0) (take n l.entries)) ≡ every (used_count s) (λ i. not (eqb (entry l i) 0))
  entries_nonzero =
      every_not_any (λ y. eqb y 0) (take n l.entries)
      ∙ ap (λ (k : ℕ). every k (λ i. not (eqb (get_or (take n l.entries) i 0) 0))) (length-take-le n l.entries few)
      ∙ every_cong n _ _ (λ i h. ap (λ (e : ℕ). not (eqb e 0)) (get_or-take n l.entries i 0 h))
      ∙ ap (λ (k : ℕ). every k (λ i. not (eqb (entry l i) 0))) is

  pub nonzero_by_dc : (e t : Bool) → e ≡ list_any (λ y. eqb y 0) (take n l.entries) → e ≡ false → t ≡ cond (has_dc s) (not (eqb l.dc 0)) true → t ≡ nonzero s l
  unfolding nonzero
  nonzero_by_dc e t f g h = h ∙ ap (λ (u : Bool). u && cond (has_dc s) (not (eqb l.dc 0)) true) (ap not (sym g ∙ f) ∙ entries_nonzero)

  pub nonzero_not : (e : Bool) → e ≡ list_any (λ y. eqb y 0) (take n l.entries) → e ≡ true → false ≡ nonzero s l
  unfolding nonzero
  nonzero_not e f g = ap (λ (u : Bool). u && cond (has_dc s) (not (eqb l.dc 0)) true) (ap not (sym g ∙ f) ∙ entries_nonzero)

pub values_refused_lem : (lists : List FactorList) (j : ℕ) → j < 20 → nonzero (size_id j) (list_at lists j) ≡ false → true ≡ values_refused lists
unfolding values_refused
values_refused_lem lists j h e = sym (ap not (every_fails 20 (λ j. nonzero (size_id j) (list_at lists j)) j h e))

pub values_accepted : (lists : List FactorList) → every 20 (λ j. nonzero (size_id j) (list_at lists j)) ≡ true → false ≡ values_refused lists
unfolding values_refused
values_accepted lists e = sym (ap not e)

pub whole_accepted : (lent : Defaults) → defaults_refused lent ≡ false → Whole lent
unfolding defaults_refused list_refused
whole_accepted lent e =
    let a = neither (list_refused (length lent.four)) (list_refused (length lent.intra) || list_refused (length lent.inter)) e in
    let b = neither (list_refused (length lent.intra)) (list_refused (length lent.inter)) a.1 in
    record {
      four_long = eqb-true (length lent.four) 64 (not-false _ a.0);
      intra_long = eqb-true (length lent.intra) 64 (not-false _ b.0);
      inter_long = eqb-true (length lent.inter) 64 (not-false _ b.1);
    }
