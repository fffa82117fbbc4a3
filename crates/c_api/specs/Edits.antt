-- Edited blocks: what C gets, and the buffers afterwards.
--   kind_of               a block's kind from a flag
--   of_block              the record of an edited block from what C gives and gets
--   BlockIs, LevelEditIs   an answer and a record as C gets them; the answer's value is how many coefficients were limited, or what a level edit limited
--   Opens, Edits, LevelOpens, LevelEdits, Lists   what C gets and the buffers are what the wrapped function's definition says
use Rattle.std.specs.Prelude.{◌≡◌, Bool, true, false, List, ℕ, ℤ, length}
use Rattle.refusal.specs.Outcome.{Outcome}
use Rattle.transform_1d.specs.declared.Kind.{Kind}
use Rattle.transform_1d.specs.declared.Kind.TheVariants.{Dct, Dst}
use Rattle.block_rules.specs.declared.EditedBlock.{EditedBlock}
use Rattle.block_rules.specs.Edit.{Buffers, Left, valued}
use Rattle.block_rules.specs.Opening.{Opening}
use Rattle.block_rules.specs.declared.Limits.{Limits}
use Rattle.block_rules.specs.Level.{LevelLeft, OpenLeft}
use Rattle.edited_history.specs.History.{Edit}
use Rattle.edited_history.specs.Run.{held_opened}
use Rattle.edited_steps.specs.Steps.{Slices, put}
use Rattle.edited_list.specs.Listed.{listed}
use Rattle.c_api.specs.declared.Block.{Block}
use Rattle.c_api.specs.declared.BlockAnswered.{BlockAnswered}
use Rattle.c_api.specs.declared.LevelEditAnswered.{LevelEditAnswered}
use Rattle.c_api.specs.declared.ListAnswered.{ListAnswered}

abbrev pub kind_of : Bool → Kind
kind_of true = Dst
kind_of false = Dct

abbrev pub of_block : Block → EditedBlock
of_block r =
    record {
      kind = kind_of r.dst;
      size = r.size;
      precision = record { bit_depth = r.depth; extended = r.extended };
      columns = r.columns;
      source = record { levels = r.levels; qp_prime = record { 0 = r.qp_prime }; listed = r.listed; dc = r.dc; entries = r.entries };
    }

abbrev pub of_answer : BlockAnswered → Outcome ℕ
of_answer r = record { number = r.number; row = r.row; column = r.column; place = r.place; value = r.limited }

abbrev pub of_level_edit : LevelEditAnswered → Outcome Limits
of_level_edit r = record { number = r.number; row = r.row; column = r.column; place = r.place; value = record { level = r.level_limited; result = r.result_limited } }

-- the answer and the record of a list without its count of edits
abbrev pub block_of_list : ListAnswered → BlockAnswered
block_of_list r = record { number = r.number; row = r.row; column = r.column; limited = r.limited; place = r.place; block = r.block }

pub record BlockIs (r : BlockAnswered) (answer : Outcome ℕ) (block : EditedBlock) : Type 0 where
  pub answered : of_answer r ≡ answer
  pub block_is : of_block r.block ≡ block

pub record LevelEditIs (r : LevelEditAnswered) (answer : Outcome Limits) (block : EditedBlock) : Type 0 where
  pub answered : of_level_edit r ≡ answer
  pub block_is : of_block r.block ≡ block

pub record Opens (h : Left) (r : BlockAnswered) (g e : List ℤ) : Type 0 where
  pub answered : BlockIs r (valued 0 h.answer) h.block
  pub inter : g ≡ h.buffers.inter
  pub res : e ≡ h.buffers.res

pub record Edits (h : Left) (r : BlockAnswered) (d g e : List ℤ) : Type 0 where
  pub answered : BlockIs r (valued 0 h.answer) h.block
  pub coeff : d ≡ h.buffers.coeff
  pub inter : g ≡ h.buffers.inter
  pub res : e ≡ h.buffers.res

pub record LevelOpens (h : OpenLeft) (r : BlockAnswered) (d g e : List ℤ) : Type 0 where
  pub answered : BlockIs r h.answer h.block
  pub coeff : d ≡ h.buffers.coeff
  pub inter : g ≡ h.buffers.inter
  pub res : e ≡ h.buffers.res

pub record LevelEdits (h : LevelLeft) (r : LevelEditAnswered) (ls d g e : List ℤ) : Type 0 where
  pub answered : LevelEditIs r h.answer h.block
  pub levels : ls ≡ h.levels
  pub coeff : d ≡ h.buffers.coeff
  pub inter : g ≡ h.buffers.inter
  pub res : e ≡ h.buffers.res

pub record Lists (o : Opening) (levels : List ℤ) (lent : Buffers) (es : List Edit) (s : Slices) (r : ListAnswered) (ls : List ℤ) (after : Buffers) (told : Slices) : Type 0 where
  pub answered : BlockIs (block_of_list r) (held_opened o levels lent).answer (listed o levels lent es).block
  pub edits : r.edits ≡ length (listed o levels lent es).answers
  pub levels_are : ls ≡ (listed o levels lent es).levels
  pub buffers : after ≡ (listed o levels lent es).buffers
  pub told_are : told ≡ put s 0 (listed o levels lent es).answers
