-- `level_block::edit_level` meets its contract: what no row refuses meets what the stages ask.
use mathlib.Core.Path.{◌≡◌, refl, ap, ap₂, ◌∙◌}
use Prim.Native.Nat.{ℕ, ◌+◌, ◌*◌, ◌≤◌, ◌<◌}
use native.Mathlib.Omega.{arith}
use lib.Arith.{digits_lt}
use lib.IntN.{ℤ}
use lib.ListN.{length, set, length-set}
use Rattle.std.proofs.Common.{rules}
use mir.Facts.{to_z-of_z}
use mir.Syntax.{w32}
use mir.Val.{to_z, of_z}
use Rattle.h265.proofs.RangeLaws.{size_square}
use Rattle.h265.specs.Range.{transform_range}
use Rattle.refusal.specs.Condition.{list_refused}
use Rattle.refusal.specs.Outcome.{accepted}
use Rattle.refusal.proofs.ConditionLaws.{size_accepted, block_room}
use Rattle.block_rules.specs.Columns.{column_count}
use Rattle.block_rules.specs.Edit.{Buffers, buffers, edited_buffers, with_columns}
use Rattle.block_rules.specs.Work.{EditNeeds}
use Rattle.block_rules.specs.Level.{scaled_by, limits_by}
use Rattle.level_work.specs.Work.{limits_of}
use Rattle.block_laws.proofs.LevelLaws.{EditFits, level-edit_done, plain, plain_fits}
use Rattle.block_laws.proofs.LadderLaws.{fits_ask, opening_of}
use Rattle.level_block.proofs.edit_level.Goals as goal
use Rattle.level_block.proofs.edit_level.Goals.{After-coefficient_of-scaled, In_ok-check_edit, Start}

abbrev lent : Start → Buffers
lent s = buffers s.args.coeff.now s.args.inter.now s.args.residual.now

-- no condition of the ladder holds
fits : (c : In_ok-check_edit) → EditFits c.args.block.now c.args.levels.now (lent (goal.at.In_ok-check_edit c).Start)
unfolding list_refused
fits c =
    let f = c.in_ok-check_edit.ensures in
    record { size = f.size; depth = f.depth; dst = f.dst; list = refl; input = rw (f.held, f.coeff); work = rw (f.inter, f.res) }

-- the place lies in the block, which has at most 1024 places
in_block : (c : In_ok-check_edit) → (c.args.row * c.args.block.now.size + c.args.column < c.args.block.now.size * c.args.block.now.size) × (c.args.block.now.size * c.args.block.now.size ≤ 1024)
in_block c =
    let f = c.in_ok-check_edit.ensures in (
      digits_lt {q = c.args.row} {m = c.args.block.now.size} {r = c.args.column} {c = c.args.block.now.size} f.row f.column,
      size_square c.args.block.now.size (size_accepted c.args.block.now.size f.size),
    )

pub overflow_mul-at : goal.overflow_mul-at
overflow_mul-at c = let b = in_block (goal.at.overflow_mul-at c).In_ok-check_edit in record { fits = omega (arith, b.0, b.1) }

pub overflow_add-at : goal.overflow_add-at
overflow_add-at c = let b = in_block (goal.at.overflow_add-at c).In_ok-check_edit in record { fits = omega (arith, b.0, b.1) }

pub offset_bounds-levels-at : goal.offset_bounds-levels-at
offset_bounds-levels-at c = let b = in_block (goal.at.offset_bounds-levels-at c).In_ok-check_edit in record { fits = omega (arith, b.0, b.1) }

-- the level buffer was looked at, since the block was opened on levels
levels_long : (c : In_ok-check_edit) → c.args.block.now.size * c.args.block.now.size ≤ length c.args.levels.now
levels_long c =
    let f = c.in_ok-check_edit.ensures in
    block_room c.args.block.now.size (length c.args.levels.now) (rw f.way at f.held)

pub bounds-levels-at : goal.bounds-levels-at
bounds-levels-at c = let o = (goal.at.bounds-levels-at c).In_ok-check_edit in omega (arith, (in_block o).0, levels_long o)

-- the value that is set
value_is : (c : After-coefficient_of-scaled) → let s = c in
    to_z w32 (of_z w32 c.coefficient_of-scaled.result.value) ≡ scaled_by s.args.block.now.source s.args.block.now.size s.args.block.now.precision.bit_depth s.args.block.now.precision.extended (s.args.row * s.args.block.now.size + s.args.column) s.args.level
value_is c =
    let s = c in
    to_z-of_z {w = w32} (search rules) ∙ c.coefficient_of-scaled.ensures.value
    ∙ ap (scaled_by s.args.block.now.source s.args.block.now.size s.args.block.now.precision.bit_depth s.args.block.now.precision.extended (s.args.row * s.args.block.now.size + s.args.column)) (to_z-of_z s.ranges.level)

-- what was limited
limits_are : (c : After-coefficient_of-scaled) → let s = c in
    limits_of c.coefficient_of-scaled.result ≡ limits_by s.args.block.now.source s.args.block.now.size s.args.block.now.precision.bit_depth s.args.block.now.precision.extended (s.args.row * s.args.block.now.size + s.args.column) s.args.level
limits_are c =
    let s = c in
    c.coefficient_of-scaled.ensures.limits
    ∙ ap (limits_by s.args.block.now.source s.args.block.now.size s.args.block.now.precision.bit_depth s.args.block.now.precision.extended (s.args.row * s.args.block.now.size + s.args.column)) (to_z-of_z s.ranges.level)

-- what the stages ask
ask : (c : In_ok-check_edit) → EditNeeds c.args.block.now.kind c.args.block.now.size c.args.block.now.precision.bit_depth (transform_range c.args.block.now.precision.bit_depth c.args.block.now.precision.extended) (length c.args.coeff.now) (length c.args.inter.now) (length c.args.residual.now)
ask c = let s = (goal.at.In_ok-check_edit c).Start in fits_ask (opening_of (plain c.args.block.now)) (lent s) (plain_fits c.args.block.now c.args.levels.now (lent s) (fits c))

pub transform_range-range-requires : goal.transform_range-range-requires
transform_range-range-requires c = (ask (goal.at.transform_range-range-requires c).In_ok-check_edit).depth.1

pub edit_stages-requires : goal.edit_stages-requires
edit_stages-requires c =
    let f = c.in_ok-check_edit.ensures in
    (rw c.transform_range-range.ensures (ask (goal.at.edit_stages-requires c).In_ok-check_edit), f.row, f.column)

pub column_count-block-requires : goal.column_count-block-requires
column_count-block-requires c =
    let a = ask (goal.at.column_count-block-requires c).In_ok-check_edit in
    (a.size, rw c.edit_stages.ensures.0 (simp length-set a.coeff))

pub returns : goal.returns
unfolding edited_buffers
returns c =
    let s = (goal.at.returns c).Start in
    let f = c.in_ok-check_edit.ensures in
    let b = s.args.block.now in
    let z = value_is (goal.at.returns c).After-coefficient_of-scaled in
    let staged = c.edit_stages.ensures.1 in
    let after : ℕ → ℤ → Buffers = λ k v. edited_buffers b.kind b.size b.precision.bit_depth k (lent s) s.args.row s.args.column v in
    let coeff = c.edit_stages.ensures.0 ∙ ap (set s.args.coeff.now (s.args.row * b.size + s.args.column)) z in
    rw (level-edit_done b s.args.levels.now (lent s) s.args.row s.args.column s.args.level (fits (goal.at.returns c).In_ok-check_edit) f.way f.row f.column)
    (record {
      answered = ap accepted (limits_are (goal.at.returns c).After-coefficient_of-scaled);
      block = ap (with_columns b) (c.column_count-block.ensures ∙ ap (column_count b.size) coeff);
      levels = ap (set s.args.levels.now (s.args.row * b.size + s.args.column)) (to_z-of_z s.ranges.level);
      coeff = coeff;
      inter = staged.inter ∙ ap₂ (λ (k : ℕ) (v : ℤ). (after k v).inter) c.transform_range-range.ensures z;
      res = staged.res ∙ ap₂ (λ (k : ℕ) (v : ℤ). (after k v).res) c.transform_range-range.ensures z;
    })
