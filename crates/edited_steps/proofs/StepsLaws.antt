-- How many edits there are, and the edits after an opening.
--   count_ask             the loop has what it relies on
--   runs_all              the edits after an opening
use mathlib.Core.Path.{◌≡◌, refl, sym, ap, ◌∙◌}
use mathlib.Core.List.{List, [], ◌∷◌}
use Prim.Native.Nat.{ℕ, suc, ◌≤◌, min}
use native.Mathlib.Omega.{arith}
use lib.IntN.{ℤ}
use lib.ListN.{length}
use Rattle.block_rules.specs.declared.EditedBlock.{EditedBlock}
use Rattle.block_rules.specs.declared.LevelsOpened.{LevelsOpened}
use Rattle.block_rules.specs.Edit.{Buffers}
use Rattle.block_rules.specs.Level.{LevelLeft, levels_opened}
use Rattle.edited_history.specs.History.{Edit}
use Rattle.edited_history.specs.Run.{held_edited, ran_from}
use Rattle.edited_steps.specs.Steps.{Slices, edit_count, ListNeeds, RunsFrom, RunsAfter}

-- a run answers every edit
ran-length : (es : List Edit) (block : EditedBlock) (levels : List ℤ) (lent : Buffers) → length (ran_from block levels lent es).answers ≡ length es
unfolding ran_from
ran-length [] block levels lent = refl
ran-length (e ∷ es) block levels lent =
    let h : LevelLeft = held_edited block levels lent e in
    ap suc (ran-length es h.block h.levels h.buffers)

-- ---- how many edits
below : (a b : ℕ) → (min a b ≤ a) × (min a b ≤ b)
below a b = (omega arith, omega arith)

four : (x a b c d : ℕ) → x ≤ min (min a b) (min c d) → (x ≤ a) × (x ≤ b) × (x ≤ c) × (x ≤ d)
four x a b c d h = (omega (arith, h), omega (arith, h), omega (arith, h), omega (arith, h))

pub count_ask : (rows columns values ways : ℕ) (s : Slices) → ListNeeds (edit_count rows columns values ways s) rows columns values ways s
unfolding edit_count
count_ask rows columns values ways s =
    let both = below (min (min rows columns) (min values ways)) (min (min (length s.numbers) (length s.named)) (min (length s.across) (length s.limits))) in
    let given = four _ rows columns values ways both.0 in
    let told = four _ (length s.numbers) (length s.named) (length s.across) (length s.limits) both.1 in
    record {
      rows_long = given.0;
      columns_long = given.1;
      values_long = given.2;
      ways_long = given.3;
      numbers_long = told.0;
      named_long = told.1;
      across_long = told.2;
      limits_long = told.3;
    }

-- ---- the edits after an opening
pub runs_all : (opened : LevelsOpened) (levels : List ℤ) (lent : Buffers) (es : List Edit) (s : Slices) (count : ℕ) (last : EditedBlock) (ls d g e : List ℤ) (told : Slices) → count ≡ length es
    → RunsFrom (ran_from opened.block levels lent es) s last ls d g e told
    → RunsAfter opened levels lent es s (record { opened = levels_opened opened.limited last; edits = count }) ls d g e told
runs_all opened levels lent es s count last ls d g e told made w = record { limited = refl; edits = made ∙ sym (ran-length es opened.block levels lent); runs = w }
