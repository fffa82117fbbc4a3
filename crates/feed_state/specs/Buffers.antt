-- The open block of a feed as the code keeps it: its record, and four buffers that are passed on from call to call. Whatever they hold, a levels record, an
-- edit and a reading are what `level_block` says of an opening and of an edit. Change requests R-9 and R-14.
--   Lent, lent          the four buffers: levels, and what was made of them
--   Buffered            them, and the block's record while a block is open
--   read_text b res      the rows of a block, and its column count
--   closed w            no block is open, over four buffers
--   in_buffers           how the open block is kept
use Rattle.std.specs.Prelude.{cond, Option, Some, None, List, [], ◌++◌, ℕ, ◌*◌, ℤ, take}
use Rattle.integers.specs.Lists.{overwrite}
use Rattle.h265.specs.ScalingFactor.{ScalingList}
use Rattle.refusal.specs.declared.Refusal.TheVariants.{SizeInvalid, BlockMissing}
use Rattle.refusal.specs.Condition.{size_refused}
use Rattle.refusal.specs.Outcome.{Outcome, accepted, refused}
use Rattle.transform_1d.specs.declared.Kind.{Kind}
use Rattle.block_rules.specs.declared.EditedBlock.{EditedBlock}
use Rattle.block_rules.specs.Edit as edit
use Rattle.block_rules.specs.Level.{OpenLeft, LevelLeft, level_opened, level_edited}
use Rattle.text.specs.Text.{block_text}
use Rattle.feed_format.specs.declared.Parameters.{Parameters}
use Rattle.feed_format.specs.Format.{level_at, edit_row, edit_column, edit_level}
use Rattle.feed_lines.specs.Lines.{columns_text}
use Rattle.feed_rules.specs.Block.{opening_of}
use Rattle.feed_rules.specs.Record.{Keeper}

pub record Lent : Type 0 where
  pub levels : List ℤ
  pub buffers : edit.Buffers

abbrev pub lent : List ℤ → List ℤ → List ℤ → List ℤ → Lent
lent levels d g e = record { levels = levels; buffers = edit.buffers d g e }

pub record Buffered : Type 0 where
  pub held : Option EditedBlock
  pub lent_are : Lent

abbrev pub closed : Lent → Buffered
closed w = record { held = None; lent_are = w }

abbrev pub closed_in : Buffered → Buffered
closed_in h = record { held = None; lent_are = h.lent_are }

unfoldable pub opened_in : Kind → ScalingList → Parameters → ℕ → List ℕ → Buffered → Buffered
opened_in kind list p n body h =
    let levels : List ℤ = overwrite (n * n) (level_at body) h.lent_are.levels in
    let o : OpenLeft = level_opened (opening_of kind list p n) levels h.lent_are.buffers in
    record { held = Some o.block; lent_are = record { levels = levels; buffers = o.buffers } }

abbrev pub left_by : LevelLeft → Outcome Buffered
left_by h =
    record {
      number = h.answer.number;
      place = h.answer.place;
      row = h.answer.row;
      column = h.answer.column;
      value = record { held = Some h.block; lent_are = record { levels = h.levels; buffers = h.buffers } };
    }

unfoldable pub edited_in : Option EditedBlock → Buffered → List ℕ → Outcome Buffered
edited_in None h body = refused h BlockMissing
edited_in (Some b) h body = left_by (level_edited b h.lent_are.levels h.lent_are.buffers (edit_row body) (edit_column body) (edit_level body))

unfoldable pub read_text : EditedBlock → List ℤ → List ℕ
read_text b res = block_text b.size (take (b.size * b.size) res) ++ columns_text b.columns

-- no feed leaves a size that row 1 refuses; a state made by hand may have one
unfoldable pub read_in : Option EditedBlock → Buffered → Outcome (List ℕ)
read_in None h = refused [] BlockMissing
read_in (Some b) h = cond (size_refused b.size) (refused [] SizeInvalid) (accepted (read_text b h.lent_are.buffers.res))

abbrev pub in_buffers : Keeper Buffered
in_buffers =
    record {
      closed = closed_in;
      opened = opened_in;
      edited = λ (h : Buffered) (body : List ℕ). edited_in h.held h body;
      reading = λ (h : Buffered). read_in h.held h;
    }
