-- The text of a whole feed. docs/RULES.md, "The feed"; change requests R-6 and R-14.
-- It is a walk over the records that keeps of the open block what it was opened with, its levels, and the edits so far. So what an edit answers and what
-- a reading writes is the history's of `edited_history`, fresh from these: nothing that was computed is passed on from record to record.
--   text_by                      the text of the bytes from a state on: `effect` is what a record does, `last` what stands behind the last record
--   OpenBlock                   a block that was opened: with what, on which levels, and its edits so far
--   held_coefficients b          the scaling of its levels after the edits
--   History, in_history          the open block, if there is one; and how it is kept
--   beginning h                 the state before the first record
--   feed_text bytes              the text of a whole feed
use Rattle.std.specs.Prelude.{Bool, cond, List, [], ◌∷◌, ◌++◌, ℕ, zero, suc, ◌+◌, eqb, ℤ, length, take, drop, None}
use Rattle.h265.specs.ScalingFactor.{ScalingList}
use Rattle.h265.specs.ScalingFactor.ScalingList.{flat}
use Rattle.refusal.specs.declared.Refusal.TheVariants.{BlockMissing}
use Rattle.refusal.specs.Outcome.{Outcome, accepted, refused}
use Rattle.transform_1d.specs.declared.Kind.{Kind}
use Rattle.block_rules.specs.Columns.{column_count}
use Rattle.block_rules.specs.Opening.{Opening}
use Rattle.block_rules.specs.declared.Limits.{Limits}
use Rattle.edited_history.specs.History.{Edit, answer_to, history_of, coefficients_of, history_residual}
use Rattle.text.specs.Text.{block_text}
use Rattle.feed_format.specs.declared.Parameters.{Parameters}
use Rattle.feed_format.specs.Format.{record_length, levels_of, edit_row, edit_column, edit_level}
use Rattle.feed_lines.specs.Lines.{columns_text, refused_text, blocks_text}
use Rattle.feed_rules.specs.Block.{opening_of}
use Rattle.feed_rules.specs.Record.{FeedState, Effect, Keeper, record_effect}

-- ---- a walk over records
-- a record's text, then the rest; or, where it is refused, the line that says so, and nothing after it
abbrev pub and_then : {H : Type 0} → Outcome (Effect H) → ℕ → List ℕ → List ℕ
and_then o at rest = o.value.text ++ cond (eqb o.number 0) rest (refused_text o.number at)

unfoldable pub text_by : {H : Type 0} → (FeedState H → ℕ → List ℕ → Outcome (Effect H)) → (FeedState H → List ℕ) → ℕ → FeedState H → List ℕ → List ℕ
text_by effect last zero s bytes = []
text_by effect last (suc fuel) s [] = last s
text_by effect last (suc fuel) s (k ∷ bytes) =
    and_then (effect s k (take (record_length k) bytes)) s.offset
    (text_by effect last fuel (effect s k (take (record_length k) bytes)).value.state (drop (record_length k) bytes))

-- ---- the open block, by its history
pub record OpenBlock : Type 0 where
  pub opening : Opening
  pub levels : List ℤ
  pub edits : List Edit

abbrev pub held_coefficients : OpenBlock → List ℤ
held_coefficients b = coefficients_of b.opening (history_of b.opening b.edits b.levels)

pub data History : Type 0 where
  none : History
  block : OpenBlock → History

unfoldable pub opened_as : Kind → ScalingList → Parameters → ℕ → List ℕ → History
opened_as kind list p n body = block (record { opening = opening_of kind list p n; levels = levels_of n body; edits = [] })

-- what the body of an edit says
abbrev pub edit_in : List ℕ → Edit
edit_in body = record { row = edit_row body; column = edit_column body; value = edit_level body; level = Bool.true }

abbrev pub and_edit : OpenBlock → Edit → OpenBlock
and_edit b e = record { opening = b.opening; levels = b.levels; edits = b.edits ++ (e ∷ []) }

abbrev pub told_by : Outcome Limits → OpenBlock → Outcome History
told_by a b = record { number = a.number; place = a.place; row = a.row; column = a.column; value = block b }

-- the history's answer
unfoldable pub edited_by : History → List ℕ → Outcome History
edited_by none body = refused none BlockMissing
edited_by (block b) body = told_by (answer_to b.opening (edit_in body)) (and_edit b (edit_in body))

-- the history's residual and column count
unfoldable pub read_by : History → Outcome (List ℕ)
read_by none = refused [] BlockMissing
read_by (block b) =
    accepted (block_text b.opening.size (history_residual b.opening (held_coefficients b)) ++ columns_text (column_count b.opening.size (held_coefficients b)))

abbrev pub in_history : Keeper History
in_history =
    record {
      closed = λ (h : History). none;
      opened = λ (kind : Kind) (list : ScalingList) (p : Parameters) (n : ℕ) (body : List ℕ) (h : History). opened_as kind list p n body;
      edited = edited_by;
      reading = read_by;
    }

-- ---- a whole feed
unfoldable pub beginning : {H : Type 0} → H → FeedState H
beginning h = record { given = None; list = flat; block = h; blocks = 0; offset = 0 }

abbrev pub last_line : {H : Type 0} → FeedState H → List ℕ
last_line s = blocks_text s.blocks

-- a record takes at least a byte, so there are no more records than bytes
unfoldable pub feed_text : List ℕ → List ℕ
feed_text bytes = text_by (record_effect in_history) last_line (length bytes + 1) (beginning none) bytes
