-- What an opening got, but for the buffers. docs/RULES.md, "The edited block"; change request R-9.
--   Opening      kind, size, depth, flag, and the source: how it was opened, and what levels are scaled by
--   range_of      its range
--   on_coefficients   an opening on coefficients: nothing else is given, so all of its source is 0
--   opened_as     the opening that it makes on buffers
--   block_of      the record that it makes, with a column count
use Rattle.std.specs.Prelude.{Bool, ℕ}
use Rattle.h265.specs.Range.{transform_range}
use Rattle.transform_1d.specs.declared.Kind.{Kind}
use Rattle.block_rules.specs.declared.EditedBlock.{EditedBlock}
use Rattle.block_rules.specs.declared.Source.{Source}
use Rattle.block_rules.specs.Edit.{Buffers, Left, zero_source, opened}

pub record Opening : Type 0 where
  pub kind : Kind
  pub size : ℕ
  pub depth : ℕ
  pub extended : Bool
  pub source : Source

abbrev pub range_of : Opening → ℕ
range_of o = transform_range o.depth o.extended

abbrev pub on_coefficients : Kind → ℕ → ℕ → Bool → Opening
on_coefficients kind n b x = record { kind = kind; size = n; depth = b; extended = x; source = zero_source }

unfoldable pub opened_as : Opening → Buffers → Left
opened_as o lent = opened o.kind o.size o.depth o.extended o.source lent

abbrev pub block_of : Opening → ℕ → EditedBlock
block_of o c = record { kind = o.kind; size = o.size; precision = record { bit_depth = o.depth; extended = o.extended }; columns = c; source = o.source }
