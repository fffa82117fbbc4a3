-- `edit_blocks::find` meets its contract: the tables are those of the block, so that the ends by them are the definition's.
use mathlib.Core.Path.{◌∙◌}
use Prim.Native.Nat.{ℕ, ◌+◌, ◌*◌, ◌≤◌, ◌<◌}
use native.Mathlib.Omega.{arith}
use lib.Arith.{digits_lt}
use Rattle.integers.specs.Within.{Within}
use Rattle.h265.specs.Range.{transform_range}
use Rattle.h265.specs.Transform.{block_at, stage_two_shift}
use Rattle.h265.proofs.RangeLaws.{transform_range_least, transform_range_most, transform_range_depth}
use Rattle.edit_tables.specs.Tables.{StageNeeds}
use Rattle.edit_blocks.proofs.FindLaws.{range_within, stage_ask, one_within, between_within, Prepared, prepared_ask, written_least, written_most}
use Rattle.edit_blocks.proofs.find.Goals as goal
use Rattle.edit_blocks.proofs.find.Goals.{After-twos-1, After-d-1, After-transform_range-range, Start}

module _ (c : After-transform_range-range) where
  abbrev r : ℕ
  r = let a = c.args in transform_range a.precision.bit_depth a.precision.extended

  range_is : (15 ≤ c.transform_range-range.result) × (c.transform_range-range.result ≤ 22) × (c.transform_range-range.result ≤ c.args.precision.bit_depth + 7)
  range_is =
      let a = c.args in
      let d = c.requires.depth in
      rw c.transform_range-range.ensures (transform_range_least a.precision.bit_depth a.precision.extended, transform_range_most a.precision.bit_depth a.precision.extended d.1, transform_range_depth a.precision.bit_depth a.precision.extended d.0)

-- a coefficient of the block
coeff_within : (c : Start) (k j : ℕ) → k < c.args.n → j < c.args.n → Within 4194304 (block_at c.args.n c.args.coeff.now k j)
unfolding block_at
coeff_within c k j hk hj =
    let a = c.args in
    range_within (transform_range a.precision.bit_depth a.precision.extended) _ (transform_range_most a.precision.bit_depth a.precision.extended c.requires.depth.1) (c.requires.range (k * a.n + j) (digits_lt hk hj))

pub stage_two_shift-shift-requires : goal.stage_two_shift-shift-requires
stage_two_shift-shift-requires c = (omega (arith, range_is (goal.at.stage_two_shift-shift-requires c).After-transform_range-range, c.requires.depth), (range_is (goal.at.stage_two_shift-shift-requires c).After-transform_range-range).1)

one_ask : (c : After-d-1) → StageNeeds c.args.n c.matrix-t.result c.widened-d.result
one_ask c =
    let s = c in
    stage_ask s.args.kind s.requires.size c.matrix-t.ensures c.widened-d.ensures (coeff_within (goal.at.down_columns-ones-requires c).Start)

pub down_columns-ones-requires : goal.down_columns-ones-requires
down_columns-ones-requires c =
    let s = c in
    stage_ask s.args.kind s.requires.size c.matrix-t.ensures c.widened-d.ensures (coeff_within (goal.at.down_columns-ones-requires c).Start)

pub limited-between-requires : goal.limited-between-requires
limited-between-requires c =
    let s = c in
    let r = c in
    (s.requires.size, (range_is (goal.at.limited-between-requires c).After-transform_range-range).1, one_within (one_ask (goal.at.limited-between-requires c).After-d-1) c.down_columns-ones.ensures)

pub along_rows-twos-requires : goal.along_rows-twos-requires
along_rows-twos-requires c =
    let g = c in
    let s = g in
    let m = g in
    stage_ask s.args.kind s.requires.size m.matrix-t.ensures g.limited-between.ensures (λ i j hi hj. between_within _ _ (range_is (goal.at.along_rows-twos-requires c).After-transform_range-range).1)

-- where the range was worked out
abbrev range_at : After-twos-1 → After-transform_range-range
range_at c = (goal.at.invariant_of-search c).After-transform_range-range

-- the tables
prepared : (c : After-twos-1)
    → let y = c in
    let g = y in
    let o = g in
    let w = o in
    let m = w in
    let a = c.args in
    Prepared a.kind a.n (range_at c).transform_range-range.result a.coeff.now m.matrix-t.result w.widened-d.result o.down_columns-ones.result g.limited-between.result y.along_rows-twos.result
prepared c =
    let y = c in
    let g = y in
    let o = g in
    let w = o in
    let m = w in
    let s = c in
    record {
      size = s.requires.size;
      range = (range_is (range_at c)).1;
      inside = coeff_within (goal.at.invariant_of-search c).Start;
      matrix = m.matrix-t.ensures;
      coeff = w.widened-d.ensures;
      one = o.down_columns-ones.ensures;
      between = g.limited-between.ensures;
      two = y.along_rows-twos.ensures;
    }

shift_within : (c : After-twos-1) → (1 ≤ c.stage_two_shift-shift.result) × (c.stage_two_shift-shift.result ≤ 12)
unfolding stage_two_shift
shift_within c = rw c.stage_two_shift-shift.ensures (omega (arith, range_is (range_at c), c.requires.depth), omega (arith, range_is (range_at c)))

pub invariant_of-search : goal.invariant_of-search
invariant_of-search c = record { ready = prepared_ask (prepared c) (shift_within c) c.requires.targets c.requires.wants }

pub returns : goal.returns
returns c =
    let d = c in
    let g = d in
    let t = range_at (goal.at.returns c).After-twos-1 in
    let s = t in
    let a = s.args in (
      (rw d.stage_two_shift-shift.ensures at d.all_indices.ensures.0) ∙ written_least a.precision.bit_depth a.precision.extended t.transform_range-range.ensures (prepared (goal.at.returns c).After-twos-1) a.target.now a.wanted.now s.requires.coeff a.least.now,
      (rw d.stage_two_shift-shift.ensures at d.all_indices.ensures.1) ∙ written_most a.precision.bit_depth a.precision.extended t.transform_range-range.ensures (prepared (goal.at.returns c).After-twos-1) a.target.now a.wanted.now s.requires.coeff a.most.now,
    )
