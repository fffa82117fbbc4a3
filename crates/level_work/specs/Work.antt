-- What one level of a block scaled gives, and what the refusals of a level edit leave. Letters: s source, n size, b depth, x extended precision,
-- i index.
--   limits_of r        the two flags of a scaled level
--   Scaled             value and flags are those that the source gives
--   LevelEditFits      nothing refuses a level edit of the block: size, depth, kind, lengths, way and place are right
--   LevelEditChecked   the test of a level edit's rows: it lets that pass, and else stops the edit as `level_edited` does
use Rattle.std.specs.Prelude.{◌≡◌, Bool, true, false, List, Result, Ok, Err, ℕ, ◌<◌, ℤ, length}
use Rattle.refusal.specs.declared.Refusal.{Refusal}
use Rattle.refusal.specs.Condition.{size_refused, depth_refused, block_refused}
use Rattle.transform_1d.specs.Kinds.{dst_refused}
use Rattle.scaling_values.specs.declared.ScaledLevel.{ScaledLevel}
use Rattle.block_rules.specs.declared.EditedBlock.{EditedBlock}
use Rattle.block_rules.specs.declared.Limits.{Limits}
use Rattle.block_rules.specs.declared.Source.{Source}
use Rattle.block_rules.specs.Edit.{Buffers}
use Rattle.block_rules.specs.Level.{scaled_by, limits_by, looked_at, level_stopped, level_edited}

abbrev pub limits_of : ScaledLevel → Limits
limits_of r = record { level = r.level_limited; result = r.result_limited }

pub record Scaled (r : ScaledLevel) (s : Source) (n b : ℕ) (x : Bool) (i : ℕ) (level : ℤ) : Type 0 where
  pub value : r.value ≡ scaled_by s n b x i level
  pub limits : limits_of r ≡ limits_by s n b x i level

pub record LevelEditFits (block : EditedBlock) (levels : List ℤ) (lent : Buffers) (k c : ℕ) : Type 0 where
  pub size : size_refused block.size ≡ false
  pub depth : depth_refused block.precision.bit_depth ≡ false
  pub dst : dst_refused block.kind block.size ≡ false
  pub held : block_refused block.size (looked_at block.source.levels (length levels) (length lent.coeff)) ≡ false
  pub coeff : block_refused block.size (length lent.coeff) ≡ false
  pub inter : block_refused block.size (length lent.inter) ≡ false
  pub res : block_refused block.size (length lent.res) ≡ false
  pub way : block.source.levels ≡ true
  pub row : k < block.size
  pub column : c < block.size

abbrev pub LevelEditChecked : EditedBlock → List ℤ → Buffers → ℕ → ℕ → Result (Unit {0}) Refusal → Type 0
LevelEditChecked block levels lent row column (Ok _) = LevelEditFits block levels lent row column
LevelEditChecked block levels lent row column (Err e) = (level : ℤ) → level_edited block levels lent row column level ≡ level_stopped block levels lent e
