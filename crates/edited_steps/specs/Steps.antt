-- Edits of an open block, lent as slices, and their answers put into slices. docs/RULES.md, "The edited block"; change requests R-6 and R-9.
--   Slices, slices          the four slices for answers: their numbers, the rows and the columns that they name, and what was limited
--   limits_number            what was limited as a number: 1 for the level, 2 for the result, 3 for both, 0 for neither
--   put s i answers         answers put into the slices from index i on
--   edit_count               as many edits as every slice has
--   edits_of k rows columns values ways   k edits; the i-th has the i-th row, column and value, and is of a level where the i-th way says so
--   ListNeeds, RunsFrom       what the loop over the edits relies on, and what it leaves
--   RunsAfter               the same of the edits after an opening that was accepted
--   RunsGiven               the same after any opening: a refused one hands its refusal on, and leaves all as lent
use Rattle.std.specs.Prelude.{◌≡◌, Bool, false, cond, List, map, Result, Ok, Err, ℕ, ◌≤◌, min, ℤ, pos, length, get_or, set}
use Rattle.std.proofs.lemmas.List.Edits.{sets}
use Rattle.integers.specs.Lists.{tabulate}
use Rattle.refusal.specs.declared.Refusal.{Refusal}
use Rattle.refusal.specs.Outcome.{Outcome}
use Rattle.block_rules.specs.declared.EditedBlock.{EditedBlock}
use Rattle.block_rules.specs.declared.Limits.{Limits}
use Rattle.block_rules.specs.declared.LevelsOpened.{LevelsOpened}
use Rattle.block_rules.specs.Edit.{Buffers, buffers}
use Rattle.edited_history.specs.History.{Edit}
use Rattle.edited_history.specs.Run.{Ran, ran_from}
use Rattle.edited_steps.specs.declared.Listed.{Listed}

pub record Slices : Type 0 where
  pub numbers : List ℕ
  pub named : List ℕ
  pub across : List ℕ
  pub limits : List ℕ

abbrev pub slices : List ℕ → List ℕ → List ℕ → List ℕ → Slices
slices numbers named across limits = record { numbers = numbers; named = named; across = across; limits = limits }

abbrev pub limits_number : Limits → ℕ
limits_number l = cond l.level (cond l.result 3 1) (cond l.result 2 0)

abbrev pub put : Slices → ℕ → List (Outcome Limits) → Slices
put s i answers =
    record {
      numbers = sets s.numbers i (map (λ (a : Outcome Limits). a.number) answers);
      named = sets s.named i (map (λ (a : Outcome Limits). a.row) answers);
      across = sets s.across i (map (λ (a : Outcome Limits). a.column) answers);
      limits = sets s.limits i (map (λ (a : Outcome Limits). limits_number a.value) answers);
    }

-- one answer at index i
abbrev pub put_one : Slices → ℕ → Outcome Limits → Slices
put_one s i a =
    record {
      numbers = set s.numbers i a.number;
      named = set s.named i a.row;
      across = set s.across i a.column;
      limits = set s.limits i (limits_number a.value);
    }

unfoldable pub edit_count : ℕ → ℕ → ℕ → ℕ → Slices → ℕ
edit_count rows columns values ways s =
    min (min (min rows columns) (min values ways)) (min (min (length s.numbers) (length s.named)) (min (length s.across) (length s.limits)))

abbrev pub edit_of : ℕ → ℕ → ℤ → Bool → Edit
edit_of row column value level = record { row = row; column = column; value = value; level = level }

abbrev pub edit_at : List ℕ → List ℕ → List ℤ → List Bool → ℕ → Edit
edit_at rows columns values ways i = edit_of (get_or rows i 0) (get_or columns i 0) (get_or values i (pos 0)) (get_or ways i false)

unfoldable pub edits_of : ℕ → List ℕ → List ℕ → List ℤ → List Bool → List Edit
edits_of k rows columns values ways = tabulate k (edit_at rows columns values ways)

-- what the loop over the edits relies on, and what it leaves
pub record ListNeeds (count rows columns values ways : ℕ) (s : Slices) : Type 0 where
  pub rows_long : count ≤ rows
  pub columns_long : count ≤ columns
  pub values_long : count ≤ values
  pub ways_long : count ≤ ways
  pub numbers_long : count ≤ length s.numbers
  pub named_long : count ≤ length s.named
  pub across_long : count ≤ length s.across
  pub limits_long : count ≤ length s.limits

pub record RunsFrom (ran : Ran) (s : Slices) (block : EditedBlock) (ls d g e : List ℤ) (told : Slices) : Type 0 where
  pub block_is : block ≡ ran.block
  pub levels_are : ls ≡ ran.levels
  pub buffers_are : buffers d g e ≡ ran.buffers
  pub told_are : told ≡ put s 0 ran.answers

pub record RunsAfter (opened : LevelsOpened) (levels : List ℤ) (lent : Buffers) (es : List Edit) (s : Slices) (r : Listed) (ls d g e : List ℤ) (told : Slices) : Type 0 where
  pub limited : r.opened.limited ≡ opened.limited
  pub edits : r.edits ≡ length (ran_from opened.block levels lent es).answers
  pub runs : RunsFrom (ran_from opened.block levels lent es) s r.opened.block ls d g e told

unfoldable pub RunsGiven : Result LevelsOpened Refusal → List ℤ → Buffers → List Edit → Slices → Result Listed Refusal → List ℤ → Buffers → Slices → Type 0
RunsGiven (Ok opened) levels lent es s (Ok r) ls after told = RunsAfter opened levels lent es s r ls after.coeff after.inter after.res told
RunsGiven (Ok opened) levels lent es s (Err why) ls after told = ⊥
RunsGiven (Err why) levels lent es s (Ok r) ls after told = ⊥
RunsGiven (Err why) levels lent es s (Err r) ls after told = (r ≡ why) × (ls ≡ levels) × (after ≡ lent) × (told ≡ s)
