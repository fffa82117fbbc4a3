-- A block opened either way and a list of edits after it: demand 3 as what one call hands back. docs/RULES.md, "The edited block"; change requests R-6 and R-9.
--   history_ran              after an opening that answered 0: the history's answers, record, levels and coefficients, and both stages over them;
--                           elements from n² on as lent
--   listed                  the same; after a refused opening no edit, the record of zeros, and the buffers as lent
--   Lists                   what the call hands back is what `listed` says, and the answers stand in its four slices from the start on
use Rattle.std.specs.Prelude.{◌≡◌, cond, List, [], ◌++◌, ℕ, ◌*◌, eqb, ℤ, length, drop, Result}
use Rattle.refusal.specs.declared.Refusal.{Refusal}
use Rattle.refusal.specs.Outcome.{outcome}
use Rattle.block_rules.specs.declared.EditedBlock.{EditedBlock}
use Rattle.block_rules.specs.Columns.{column_count}
use Rattle.block_rules.specs.Edit.{Buffers, buffers, zero_block, valued}
use Rattle.block_rules.specs.Opening.{Opening, block_of}
use Rattle.block_rules.specs.Level.{levels_opened}
use Rattle.edited_history.specs.History.{Edit, answers_to, coefficients_of, history_intermediate, history_residual}
use Rattle.edited_history.specs.Run.{Ran, held_opened, history_after}
use Rattle.edited_steps.specs.declared.Listed.{Listed}
use Rattle.edited_steps.specs.Steps.{Slices, put}

unfoldable pub history_ran : Opening → List ℤ → Buffers → List Edit → Ran
history_ran o levels lent es =
    let cells : ℕ = o.size * o.size in
    let vs : List ℤ = history_after o levels lent es in
    let d : List ℤ = coefficients_of o vs in
    record {
      answers = answers_to o es;
      block = block_of o (column_count o.size d);
      levels = cond o.source.levels (vs ++ drop cells levels) levels;
      buffers = buffers (d ++ drop cells lent.coeff) (history_intermediate o d ++ drop cells lent.inter) (history_residual o d ++ drop cells lent.res);
    }

unfoldable pub listed : Opening → List ℤ → Buffers → List Edit → Ran
listed o levels lent es =
    cond (eqb (held_opened o levels lent).answer.number 0) (history_ran o levels lent es) (record { answers = []; block = zero_block; levels = levels; buffers = lent })

-- what the call hands back: how many coefficients the opening limited, the record after the last edit, and how many edits there were
abbrev pub listed_as : ℕ → EditedBlock → ℕ → Listed
listed_as k block made = record { opened = levels_opened k block; edits = made }

-- a refused opening hands back nothing, which counts as zeros
pub record Lists (o : Opening) (levels : List ℤ) (lent : Buffers) (es : List Edit) (s : Slices) (r : Result Listed Refusal) (ls : List ℤ) (after : Buffers) (told : Slices) : Type 0 where
  pub answered : outcome (listed_as 0 zero_block 0) r
      ≡ valued (listed_as (held_opened o levels lent).answer.value (listed o levels lent es).block (length (listed o levels lent es).answers)) (held_opened o levels lent).answer
  pub levels_are : ls ≡ (listed o levels lent es).levels
  pub buffers : after ≡ (listed o levels lent es).buffers
  pub told_are : told ≡ put s 0 (listed o levels lent es).answers
