-- A list of edits of both kinds, each given the record and the four buffers as the call before left them.
--   held_opened          an opening, on coefficients or on levels; its answer has how many coefficients were limited
--   held_edited          one edit, of a coefficient or of a level; its answer has what was limited
--   Ran                 the answers in order, and the record and the buffers after the last edit
--   ran_from, ran        a list of edits from a record and buffers; an opening, and a list of edits after it
--   history_after        the history's values
--   FollowsHistory      the answers, the first n² of each buffer, the elements after them and the record are the history's
--   EditsFollowHistory  demand 3, over both ways of opening and every list: `edits_follow_history` of proofs/HistoryLaws
--   EditsKeepColumns    no edit alters the intermediate outside its own column: `edits_keep_columns` of proofs/EditLaws
--   RefusedEditsAlterNothing   a refused edit alters nothing: `refused_edits_alter_nothing` of proofs/EditLaws
use Rattle.std.specs.Prelude.{◌≡◌, cond, List, [], ◌∷◌, ◌++◌, ℕ, ◌*◌, ◌/◌, ◌%◌, ◌<◌, ℤ, pos, length, get_or, take, drop}
use Rattle.refusal.specs.Outcome.{Outcome}
use Rattle.block_rules.specs.declared.EditedBlock.{EditedBlock}
use Rattle.block_rules.specs.Columns.{column_count}
use Rattle.block_rules.specs.Edit.{Buffers, Left, edited, valued}
use Rattle.block_rules.specs.Opening.{Opening, opened_as, block_of}
use Rattle.block_rules.specs.declared.Limits.{Limits}
use Rattle.block_rules.specs.Level.{LevelLeft, OpenLeft, no_limits, level_edited, level_opened}
use Rattle.edited_history.specs.History.{Edit, answers_to, history_of, coefficients_of, history_intermediate, history_residual}

-- an opening on coefficients limits none
abbrev pub uncounted : Left → OpenLeft
uncounted h = record { answer = valued 0 h.answer; block = h.block; buffers = h.buffers }

unfoldable pub held_opened : Opening → List ℤ → Buffers → OpenLeft
held_opened o levels lent = cond o.source.levels (level_opened o levels lent) (uncounted (opened_as o lent))

-- an edit of a coefficient leaves the level buffer alone, and limits nothing
abbrev pub besides : List ℤ → Left → LevelLeft
besides levels h = record { answer = valued no_limits h.answer; block = h.block; levels = levels; buffers = h.buffers }

unfoldable pub held_edited : EditedBlock → List ℤ → Buffers → Edit → LevelLeft
held_edited block levels lent e =
    cond e.level (level_edited block levels lent e.row e.column e.value) (besides levels (edited block lent e.row e.column e.value))

pub record Ran : Type 0 where
  pub answers : List (Outcome Limits)
  pub block : EditedBlock
  pub levels : List ℤ
  pub buffers : Buffers

abbrev pub answered_first : Outcome Limits → Ran → Ran
answered_first a r = record { answers = a ∷ r.answers; block = r.block; levels = r.levels; buffers = r.buffers }

unfoldable pub ran_from : EditedBlock → List ℤ → Buffers → List Edit → Ran
ran_from block levels lent [] = record { answers = []; block = block; levels = levels; buffers = lent }
ran_from block levels lent (e ∷ es) =
    let h : LevelLeft = held_edited block levels lent e in
    answered_first h.answer (ran_from h.block h.levels h.buffers es)

-- an opening and what follows it; no opening writes the level buffer
unfoldable pub ran : Opening → List ℤ → Buffers → List Edit → Ran
ran o levels lent es = let h : OpenLeft = held_opened o levels lent in ran_from h.block levels h.buffers es

-- what the opening was on: the first n² of its levels, or of its coefficients
unfoldable pub opened_on : Opening → List ℤ → Buffers → List ℤ
opened_on o levels lent = take (o.size * o.size) (cond o.source.levels levels lent.coeff)

unfoldable pub history_after : Opening → List ℤ → Buffers → List Edit → List ℤ
history_after o levels lent es = history_of o es (opened_on o levels lent)

pub record FollowsHistory (o : Opening) (levels : List ℤ) (lent : Buffers) (es : List Edit) (r : Ran) : Type 0 where
  pub answers : r.answers ≡ answers_to o es
  pub levels_are : r.levels ≡ cond o.source.levels (history_after o levels lent es ++ drop (o.size * o.size) levels) levels
  pub coeff : take (o.size * o.size) r.buffers.coeff ≡ coefficients_of o (history_after o levels lent es)
  pub inter : take (o.size * o.size) r.buffers.inter ≡ history_intermediate o (coefficients_of o (history_after o levels lent es))
  pub res : take (o.size * o.size) r.buffers.res ≡ history_residual o (coefficients_of o (history_after o levels lent es))
  pub past_coeff : drop (o.size * o.size) r.buffers.coeff ≡ drop (o.size * o.size) lent.coeff
  pub past_inter : drop (o.size * o.size) r.buffers.inter ≡ drop (o.size * o.size) lent.inter
  pub past_res : drop (o.size * o.size) r.buffers.res ≡ drop (o.size * o.size) lent.res
  pub block : r.block ≡ block_of o (column_count o.size (coefficients_of o (history_after o levels lent es)))

-- two lists are as long as each other, and have the same element at an index
pub record SameAt (i : ℕ) (xs ys : List ℤ) : Type 0 where
  pub long : length ys ≡ length xs
  pub element : get_or ys i (pos 0) ≡ get_or xs i (pos 0)

-- from every opening that answered 0, and for every list of edits after it, the empty one too
abbrev pub EditsFollowHistory : Type 0
EditsFollowHistory =
    (o : Opening) (levels : List ℤ) (lent : Buffers) (es : List Edit) → (held_opened o levels lent).answer.number ≡ 0
    → FollowsHistory o levels lent es (ran o levels lent es)

-- on any record and buffers: an element of the intermediate that does not stand in the edit's own column of the block is as lent
abbrev pub EditsKeepColumns : Type 0
EditsKeepColumns =
    (block : EditedBlock) (levels : List ℤ) (lent : Buffers) (e : Edit) (i : ℕ) → (i % block.size ≡ e.column → i / block.size < block.size → ⊥)
    → SameAt i lent.inter (held_edited block levels lent e).buffers.inter

-- on any record and buffers
abbrev pub RefusedEditsAlterNothing : Type 0
RefusedEditsAlterNothing =
    (block : EditedBlock) (levels : List ℤ) (lent : Buffers) (e : Edit) → ((held_edited block levels lent e).answer.number ≡ 0 → ⊥)
    → held_edited block levels lent e ≡ record { answer = (held_edited block levels lent e).answer; block = block; levels = levels; buffers = lent }
