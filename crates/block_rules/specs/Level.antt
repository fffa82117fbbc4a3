-- The opening on levels and one level edit, on any buffers, refused calls included. Change requests R-6 and R-9; rows 1, 2, 4, 5, 6, 7, 8, 10.
-- Letters: n size, b depth, x extended precision, q QP' as given, r range, s source.
--   list_of s                     the list that a source holds
--   scaled_by s n b x i level     the coefficient that a level at index i gives
--   limits_by s n b x i level     whether that level was limited, and after that its result
--   level_ladder                  the conditions that an opening on levels and a level edit share
--   LevelLeft                    what a level edit leaves: outcome with these two flags, record, levels and buffers
--   OpenLeft                     what an opening on levels leaves: outcome with how many coefficients were limited, record and buffers
--   looked_at                     the length that row 6 looks at: of the level buffer where the block was opened on levels
--   level_edited                  one level edit
--   on_levels, on_scaled_levels     an opening on levels, without a list and with one; what it is not given is 0
--   source_by q list              the source of a block that is opened on levels; has_list, kept_dc, kept_entries: what it keeps of the list, zeros of none
--   on_levels_by                  an opening on levels, by what they are scaled by
--   scaled_buffers                the lent buffers with the coefficients of a block of levels
--   level_opened                  the opening
--   levels_opened                 what an opening on levels hands back: how many coefficients were limited, and the record
--   LevelEdits, LevelOpens       a call's answer, record and buffers are what `level_edited` or `level_opened` says
--   LevelEditsMeetNoRange        no level edit meets row 9 or 19
use Rattle.std.specs.Prelude.{◌≡◌, Bool, false, not, ◌||◌, cond, List, ℕ, ◌+◌, ◌*◌, leb, ℤ, nat_abs, length, set, replicate, Result}
use Rattle.integers.specs.Lists.{overwrite}
use Rattle.h265.specs.Range.{log2_size, transform_range, outside_range}
use Rattle.h265.specs.Quantization.{clip_qp_prime}
use Rattle.h265.specs.Scaling.{bd_shift, scale_level, scaled_at}
use Rattle.h265.specs.Limited.{level_limited, result_limited, limited_count}
use Rattle.h265.specs.ScalingFactor.{ScalingList, scaling_factor}
use Rattle.h265.specs.ScalingFactor.ScalingList.{flat, listed}
use Rattle.refusal.specs.declared.Refusal.{Refusal}
use Rattle.refusal.specs.declared.Refusal.TheVariants.{SizeInvalid, DepthInvalid, DstSizeInvalid, ListLengthInvalid, InputTooShort, OutputTooShort, PlaceOutside, WayMismatched}
use Rattle.refusal.specs.Condition.{size_refused, depth_refused, list_refused, block_refused}
use Rattle.refusal.specs.Outcome.{Outcome, accepted, refused, outcome}
use Rattle.scaling_values.specs.Given.{entries_of}
use Rattle.transform_1d.specs.declared.Kind.{Kind}
use Rattle.transform_1d.specs.Kinds.{dst_refused}
use Rattle.block_rules.specs.declared.EditedBlock.{EditedBlock}
use Rattle.block_rules.specs.declared.Source.{Source}
use Rattle.block_rules.specs.Columns.{column_count}
use Rattle.block_rules.specs.Edit.{Buffers, zero_block, opened_buffers, edited_buffers, with_columns, valued}
use Rattle.block_rules.specs.Opening.{Opening, range_of, block_of}
use Rattle.block_rules.specs.declared.Limits.{Limits}
use Rattle.block_rules.specs.declared.LevelsOpened.{LevelsOpened}

abbrev pub list_of : Source → ScalingList
list_of s = cond s.listed (listed s.entries s.dc) flat

unfoldable pub scaled_by : Source → ℕ → ℕ → Bool → ℕ → ℤ → ℤ
scaled_by s n b x i level =
    let r : ℕ = transform_range b x in
    scale_level r (bd_shift b (log2_size n) r) (nat_abs (clip_qp_prime b s.qp_prime.0)) (scaling_factor (list_of s) n i) level

unfoldable pub limits_by : Source → ℕ → ℕ → Bool → ℕ → ℤ → Limits
limits_by s n b x i level =
    let r : ℕ = transform_range b x in
    record { level = level_limited r level; result = result_limited r (bd_shift b (log2_size n) r) (nat_abs (clip_qp_prime b s.qp_prime.0)) (scaling_factor (list_of s) n i) level }

abbrev pub no_limits : Limits
no_limits = record { level = Bool.false; result = Bool.false }

-- `list` is the length of the list, and 64 where row 5 has none to look at; row 6 looks at the levels and at the coefficients
unfoldable pub level_ladder : {A : Type 0} → (Refusal → A) → A → Kind → ℕ → ℕ → ℕ → ℕ → ℕ → ℕ → ℕ → A
level_ladder stop go kind n b list levels coeff inter res =
    cond (size_refused n) (stop SizeInvalid)
    (cond (depth_refused b) (stop DepthInvalid)
    (cond (dst_refused kind n) (stop DstSizeInvalid)
    (cond (list_refused list) (stop ListLengthInvalid)
    (cond (block_refused n levels || block_refused n coeff) (stop InputTooShort)
    (cond (block_refused n inter || block_refused n res) (stop OutputTooShort) go)))))

pub record LevelLeft : Type 0 where
  pub answer : Outcome Limits
  pub block : EditedBlock
  pub levels : List ℤ
  pub buffers : Buffers

abbrev pub level_stopped : EditedBlock → List ℤ → Buffers → Refusal → LevelLeft
level_stopped block levels lent e = record { answer = refused no_limits e; block = block; levels = levels; buffers = lent }

-- of a block that was opened on coefficients the level buffer is not looked at
abbrev pub looked_at : Bool → ℕ → ℕ → ℕ
looked_at on levels coeff = cond on levels coeff

unfoldable pub level_edited : EditedBlock → List ℤ → Buffers → ℕ → ℕ → ℤ → LevelLeft
level_edited block levels lent row column level =
    let n : ℕ = block.size in
    let b : ℕ = block.precision.bit_depth in
    let x : Bool = block.precision.extended in
    let at : ℕ = row * n + column in
    let after : Buffers = edited_buffers block.kind n b (transform_range b x) lent row column (scaled_by block.source n b x at level) in
    level_ladder (level_stopped block levels lent)
    (cond (not block.source.levels) (level_stopped block levels lent WayMismatched)
    (cond (leb n row || leb n column) (level_stopped block levels lent PlaceOutside)
    (record { answer = accepted (limits_by block.source n b x at level); block = with_columns block (column_count n after.coeff); levels = set levels at level; buffers = after })))
    block.kind n b 64 (looked_at block.source.levels (length levels) (length lent.coeff)) (length lent.coeff) (length lent.inter) (length lent.res)

pub record LevelEdits (h : LevelLeft) (a : Result Limits Refusal) (left : EditedBlock) (ls d g e : List ℤ) : Type 0 where
  pub answered : outcome no_limits a ≡ h.answer
  pub block : left ≡ h.block
  pub levels : ls ≡ h.levels
  pub coeff : d ≡ h.buffers.coeff
  pub inter : g ≡ h.buffers.inter
  pub res : e ≡ h.buffers.res

-- ---- the opening
abbrev pub on_levels : Kind → ℕ → ℕ → Bool → ℤ → Opening
on_levels kind n b x q =
    record { kind = kind; size = n; depth = b; extended = x; source = record { levels = Bool.true; qp_prime = record { 0 = q }; listed = Bool.false; dc = 0; entries = replicate 64 0 } }

abbrev pub on_scaled_levels : Kind → ℕ → ℕ → Bool → ℤ → List ℕ → ℕ → Opening
on_scaled_levels kind n b x q entries d =
    record { kind = kind; size = n; depth = b; extended = x; source = record { levels = Bool.true; qp_prime = record { 0 = q }; listed = Bool.true; dc = d; entries = entries } }

abbrev pub has_list : ScalingList → Bool
has_list flat = false
has_list (listed entries d) = Bool.true

abbrev pub kept_dc : ScalingList → ℕ
kept_dc flat = 0
kept_dc (listed entries d) = d

abbrev pub kept_entries : ScalingList → List ℕ
kept_entries flat = replicate 64 0
kept_entries (listed entries d) = entries

abbrev pub source_by : ℤ → ScalingList → Source
source_by q list = record { levels = Bool.true; qp_prime = record { 0 = q }; listed = has_list list; dc = kept_dc list; entries = kept_entries list }

abbrev pub on_levels_by : Kind → ℕ → ℕ → Bool → ℤ → ScalingList → Opening
on_levels_by kind n b x q list = record { kind = kind; size = n; depth = b; extended = x; source = source_by q list }

unfoldable pub scaled_buffers : Opening → List ℤ → Buffers → Buffers
scaled_buffers o levels lent =
    record {
      coeff = overwrite (o.size * o.size) (scaled_at (list_of o.source) o.size o.depth o.extended o.source.qp_prime.0 levels) lent.coeff;
      inter = lent.inter;
      res = lent.res;
    }

pub record OpenLeft : Type 0 where
  pub answer : Outcome ℕ
  pub block : EditedBlock
  pub buffers : Buffers

abbrev pub open_stopped : Buffers → Refusal → OpenLeft
open_stopped lent e = record { answer = refused 0 e; block = zero_block; buffers = lent }

unfoldable pub level_opened : Opening → List ℤ → Buffers → OpenLeft
level_opened o levels lent =
    let scaled : Buffers = scaled_buffers o levels lent in
    level_ladder (open_stopped lent)
    (record { answer = accepted (limited_count (list_of o.source) o.size o.depth o.extended o.source.qp_prime.0 levels); block = block_of o (column_count o.size scaled.coeff); buffers = opened_buffers o.kind o.size o.depth (range_of o) scaled })
    o.kind o.size o.depth (entries_of (list_of o.source)) (length levels) (length lent.coeff) (length lent.inter) (length lent.res)

abbrev pub levels_opened : ℕ → EditedBlock → LevelsOpened
levels_opened k block = record { limited = k; block = block }

-- a refused opening hands back nothing, which counts as zeros
pub record LevelOpens (h : OpenLeft) (r : Result LevelsOpened Refusal) (d g e : List ℤ) : Type 0 where
  pub answered : outcome (levels_opened 0 zero_block) r ≡ valued (levels_opened h.answer.value h.block) h.answer
  pub coeff : d ≡ h.buffers.coeff
  pub inter : g ≡ h.buffers.inter
  pub res : e ≡ h.buffers.res

-- no level edit meets row 9 or 19: a scaled level lies in the range, and these rows speak of nothing else
pub record LevelMeetsNoRange (block : EditedBlock) (levels : List ℤ) (lent : Buffers) (row column : ℕ) (level : ℤ) : Type 0 where
  pub inside : outside_range (transform_range block.precision.bit_depth block.precision.extended) (scaled_by block.source block.size block.precision.bit_depth block.precision.extended (row * block.size + column) level) ≡ false
  pub not_above : (level_edited block levels lent row column level).answer.number ≡ 9 → ⊥
  pub not_below : (level_edited block levels lent row column level).answer.number ≡ 19 → ⊥

abbrev pub LevelEditsMeetNoRange : Type 0
LevelEditsMeetNoRange = (block : EditedBlock) (levels : List ℤ) (lent : Buffers) (row column : ℕ) (level : ℤ) → LevelMeetsNoRange block levels lent row column level
