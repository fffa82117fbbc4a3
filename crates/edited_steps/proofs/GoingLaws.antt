-- The loop over a list of edits: what is left of the run, from the record and the buffers at the loop's head, ends as the whole run does.
--   Going      its invariant; going_on and -ends are its needs
use Rattle.std.specs.Prelude.{Result}
use mathlib.Core.Path.{◌≡◌, sym, ap, ap₂, ◌∙◌}
use mathlib.Core.Bool.{Bool}
use mathlib.Core.List.{List, [], ◌∷◌}
use Prim.Native.Nat.{ℕ, suc, ◌+◌, ◌≤◌, ◌<◌}
use native.Mathlib.Numerals.{add-one}
use lib.IntN.{ℤ}
use lib.ListN.{length, length-set, get_or, drop, drop_of_length-le}
use lib.Seq.{drop-cons}
use Rattle.integers.proofs.ListsLaws.{tabulate-length, tabulate-get_or}
use Rattle.refusal.specs.Outcome.{outcome}
use Rattle.refusal.specs.declared.Refusal.{Refusal}
use Rattle.block_rules.specs.declared.EditedBlock.{EditedBlock}
use Rattle.block_rules.specs.declared.Limits.{Limits}
use Rattle.block_rules.specs.Edit.{Buffers, buffers}
use Rattle.block_rules.specs.Level.{LevelLeft, LevelEdits, no_limits}
use Rattle.edited_history.specs.History.{Edit}
use Rattle.edited_history.specs.Run.{Ran, held_edited, answered_first, ran_from}
use Rattle.edited_steps.specs.Steps.{Slices, put, put_one, edit_at, edits_of, RunsFrom}

pub record Going (b₀ : EditedBlock) (ls₀ : List ℤ) (lent : Buffers) (es : List Edit) (s₀ : Slices) (ls d g e : List ℤ) (s : Slices) (b : EditedBlock) (i : ℕ) : Type 0 where
  pub within : i ≤ length es
  pub levels_long : length ls ≡ length ls₀
  pub coeff_long : length d ≡ length lent.coeff
  pub inter_long : length g ≡ length lent.inter
  pub res_long : length e ≡ length lent.res
  pub numbers_long : length s.numbers ≡ length s₀.numbers
  pub named_long : length s.named ≡ length s₀.named
  pub across_long : length s.across ≡ length s₀.across
  pub limits_long : length s.limits ≡ length s₀.limits
  pub block_is : (ran_from b ls (buffers d g e) (drop i es)).block ≡ (ran_from b₀ ls₀ lent es).block
  pub levels_are : (ran_from b ls (buffers d g e) (drop i es)).levels ≡ (ran_from b₀ ls₀ lent es).levels
  pub buffers_are : (ran_from b ls (buffers d g e) (drop i es)).buffers ≡ (ran_from b₀ ls₀ lent es).buffers
  pub told_are : put s i (ran_from b ls (buffers d g e) (drop i es)).answers ≡ put s₀ 0 (ran_from b₀ ls₀ lent es).answers

-- the first edit of what is left
ran_from-drop : (b : EditedBlock) (ls : List ℤ) (now : Buffers) (es : List Edit) (i : ℕ) (e : Edit) → i < length es → get_or es i e ≡ e
    → ran_from b ls now (drop i es) ≡ answered_first (held_edited b ls now e).answer (ran_from (held_edited b ls now e).block (held_edited b ls now e).levels (held_edited b ls now e).buffers (drop (suc i) es))
unfolding ran_from
ran_from-drop b ls now es i e h is = rw (drop-cons es i e h, is)

module _ {b₀ b : EditedBlock} {lent : Buffers} {es : List Edit} {s₀ s : Slices} {ls₀ ls d g e : List ℤ} {i : ℕ}
    (going : Going b₀ ls₀ lent es s₀ ls d g e s b i) where
  -- one edit more, with what it hands back
  pub going_on : (t : Edit) → i < length es → get_or es i t ≡ t → (a : Result Limits Refusal) (block : EditedBlock) (ls' d' g' e' : List ℤ)
      → LevelEdits (held_edited b ls (buffers d g e) t) a block ls' d' g' e'
      → length ls' ≡ length ls → length d' ≡ length d → length g' ≡ length g → length e' ≡ length e
      → (s' : Slices) → s' ≡ put_one s i (outcome no_limits a)
      → Going b₀ ls₀ lent es s₀ ls' d' g' e' s' block (i + 1)
  going_on t h is a block ls' d' g' e' w ll ld lg le s' one =
      rw add-one
      (record {
        within = h;
        levels_long = ll ∙ going.levels_long;
        coeff_long = ld ∙ going.coeff_long;
        inter_long = lg ∙ going.inter_long;
        res_long = le ∙ going.res_long;
        numbers_long = ap (λ (x : Slices). length x.numbers) one ∙ length-set s.numbers i _ ∙ going.numbers_long;
        named_long = ap (λ (x : Slices). length x.named) one ∙ length-set s.named i _ ∙ going.named_long;
        across_long = ap (λ (x : Slices). length x.across) one ∙ length-set s.across i _ ∙ going.across_long;
        limits_long = ap (λ (x : Slices). length x.limits) one ∙ length-set s.limits i _ ∙ going.limits_long;
        block_is = ap (λ (r : Ran). r.block) went ∙ going.block_is;
        levels_are = ap (λ (r : Ran). r.levels) went ∙ going.levels_are;
        buffers_are = ap (λ (r : Ran). r.buffers) went ∙ going.buffers_are;
        told_are = ap (λ (x : Slices). put x (suc i) rest.answers) (one ∙ ap (put_one s i) w.answered) ∙ told_left ∙ going.told_are;
      })
    where
      left : LevelLeft
      left = held_edited b ls (buffers d g e) t

      rest : Ran
      rest = ran_from block ls' (buffers d' g' e') (drop (suc i) es)

      written : buffers d' g' e' ≡ left.buffers
      written k = record { coeff = w.coeff k; inter = w.inter k; res = w.res k }

      went : answered_first left.answer rest ≡ ran_from b ls (buffers d g e) (drop i es)
      went =
          ap (λ (k : List ℤ). answered_first left.answer (ran_from block k (buffers d' g' e') (drop (suc i) es))) w.levels
          ∙ ap₂ (λ (c : EditedBlock) (now : Buffers). answered_first left.answer (ran_from c left.levels now (drop (suc i) es))) w.block written
          ∙ sym (ran_from-drop b ls (buffers d g e) es i t h is)

      told_left : put s i (left.answer ∷ rest.answers) ≡ put s i (ran_from b ls (buffers d g e) (drop i es)).answers
      told_left = ap (λ (r : Ran). put s i r.answers) went

  -- no edit is left
  pub going_ends : length es ≤ i → RunsFrom (ran_from b₀ ls₀ lent es) s₀ b ls d g e s
  unfolding ran_from
  going_ends h =
      let none : drop i es ≡ [] = drop_of_length-le es h in
      record { block_is = rw none at going.block_is; levels_are = rw none at going.levels_are; buffers_are = rw none at going.buffers_are; told_are = rw none at going.told_are }

-- the list has as many edits as were asked for, and edit i is made of the slices' elements i
module _ (k : ℕ) (rows columns : List ℕ) (values : List ℤ) (ways : List Bool) where
  pub edits_of-length : length (edits_of k rows columns values ways) ≡ k
  unfolding edits_of
  edits_of-length = tabulate-length k (edit_at rows columns values ways)

  pub edits_of-get_or : (i : ℕ) → i < k → get_or (edits_of k rows columns values ways) i (edit_at rows columns values ways i) ≡ edit_at rows columns values ways i
  unfolding edits_of
  edits_of-get_or i h = tabulate-get_or k (edit_at rows columns values ways) i (edit_at rows columns values ways i) h
