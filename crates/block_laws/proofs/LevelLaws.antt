-- Laws of the conditions that an opening on levels and a level edit share.
--   LevelFits            none of them holds
--   levels_passed        where the ladder answers 0
--   levels_go            and then an opening or an edit goes on
--   levels-refused       where it is refused, the same refusal stops an opening and an edit
--   level-edit-refused, level-edit_way, level-edit-place, level-edit_done   what a level edit hands back, case by case
--   scaled-inside        a scaled level lies in the range: rows 9 and 19 cannot be met
--   level_edits_meet_no_range   no level edit meets row 9 or 19
use Rattle.std.specs.Prelude.{Ok, Err}
use mathlib.Core.Path.{◌≡◌, refl, sym, ap, ◌∙◌}
use mathlib.Core.Bool.{Bool, true, false, not, ◌||◌, cond}
use mathlib.Core.List.{List, [], ◌∷◌}
use Prim.Native.Nat.{ℕ, ◌+◌, ◌*◌, ◌<◌}
use native.Mathlib.Omega.{arith}
use borrow.Author.Tests.{lt-leb}
use lib.Dec.{leb}
use lib.IntN.{ℤ}
use lib.ListN.{length, set}
use Rattle.integers.proofs.MachineLaws.{lt_z_of_le}
use Rattle.h265.specs.Range.{transform_range, coeff_min, coeff_max, clip_coeff, outside_range}
use Rattle.h265.specs.Scaling.{scale_level}
use Rattle.h265.proofs.RangeLaws.{clip_coeff_between}
use Rattle.refusal.specs.declared.Refusal.{Refusal}
use Rattle.refusal.specs.declared.Refusal.TheVariants.{SizeInvalid, DepthInvalid, DstSizeInvalid, ListLengthInvalid, InputTooShort, OutputTooShort, PlaceOutside, WayMismatched}
use Rattle.refusal.specs.Refusal.{number}
use Rattle.refusal.specs.Condition.{size_refused, depth_refused, list_refused, block_refused}
use Rattle.refusal.specs.Outcome.{Outcome, accepted, refused, answer}
use Rattle.refusal.proofs.LadderLaws.{Rung, first_accepted, first_refused}
use Rattle.refusal.proofs.LadderLaws.Rung.{rung}
use Rattle.transform_1d.specs.declared.Kind.{Kind}
use Rattle.transform_1d.specs.Kinds.{dst_refused}
use Rattle.block_rules.specs.declared.EditedBlock.{EditedBlock}
use Rattle.block_rules.specs.declared.Source.{Source}
use Rattle.block_rules.specs.Columns.{column_count}
use Rattle.block_rules.specs.Edit.{Buffers, zero_source, edited_buffers, with_columns, valued}
use Rattle.integers.proofs.TestLaws.{neither}
use Rattle.block_laws.proofs.OpeningLaws.{Fits}
use Rattle.block_laws.proofs.LadderLaws.{opening_of}
use Rattle.block_rules.specs.Level.{scaled_by, limits_by, no_limits, level_ladder, LevelLeft, level_stopped, looked_at, level_edited, LevelEdits, LevelMeetsNoRange, LevelEditsMeetNoRange}

pub scaled-inside : (s : Source) (n b : ℕ) (x : Bool) (i : ℕ) (level : ℤ) → outside_range (transform_range b x) (scaled_by s n b x i level) ≡ false
unfolding scaled_by scale_level
scaled-inside s n b x i level = inside _
  where
    r : ℕ
    r = transform_range b x

    inside : (z : ℤ) → outside_range r (clip_coeff r z) ≡ false
    inside z =
        let h = clip_coeff_between r z in
        unfold outside_range in rw (lt_z_of_le {x = clip_coeff r z} {y = coeff_min r} h.0, lt_z_of_le {x = coeff_max r} {y = clip_coeff r z} h.1)

pub record LevelFits (kind : Kind) (n b len levels coeff inter res : ℕ) : Type 0 where
  pub size : size_refused n ≡ false
  pub depth : depth_refused b ≡ false
  pub dst : dst_refused kind n ≡ false
  pub list : list_refused len ≡ false
  pub input : block_refused n levels || block_refused n coeff ≡ false
  pub work : block_refused n inter || block_refused n res ≡ false

module _ (kind : Kind) (n b list levels coeff inter res : ℕ) where
  abbrev rungs : List Rung
  rungs = rung (size_refused n) SizeInvalid ∷ rung (depth_refused b) DepthInvalid ∷ rung (dst_refused kind n) DstSizeInvalid ∷ rung (list_refused list) ListLengthInvalid
      ∷ rung (block_refused n levels || block_refused n coeff) InputTooShort ∷ rung (block_refused n inter || block_refused n res) OutputTooShort ∷ []

  pub levels_passed : answer (Ok tt) ≡ level_ladder (refused tt) (accepted tt) kind n b list levels coeff inter res → LevelFits kind n b list levels coeff inter res
  unfolding level_ladder
  levels_passed p =
      let a = (first_accepted tt tt tt rungs p).0 in
      record { size = a.0; depth = a.1.0; dst = a.1.1.0; list = a.1.1.1.0; input = a.1.1.1.1.0; work = a.1.1.1.1.1.0 }

  pub levels_go : {A : Type 0} (stop : Refusal → A) (go : A) → LevelFits kind n b list levels coeff inter res → level_ladder stop go kind n b list levels coeff inter res ≡ go
  unfolding level_ladder
  levels_go stop go f = rw (f.size, f.depth, f.dst, f.list, f.input, f.work)

  pub levels-refused : {A : Type 0} (make : Outcome (Unit {0}) → A) (r : Refusal) (go : A) → answer (Err r) ≡ level_ladder (refused tt) (accepted tt) kind n b list levels coeff inter res
      → level_ladder (λ (e : Refusal). make (refused tt e)) go kind n b list levels coeff inter res ≡ make (refused tt r)
  unfolding level_ladder
  levels-refused {A} make r go p = first_refused tt tt (λ (e : Refusal). make (refused tt e)) go (λ (o : A). o ≡ make (refused tt r)) r (λ f h. ap make (sym h)) rungs p

-- ---- a level edit
abbrev pub EditFits : EditedBlock → List ℤ → Buffers → Type 0
EditFits block levels lent = LevelFits block.kind block.size block.precision.bit_depth 64 (looked_at block.source.levels (length levels) (length lent.coeff)) (length lent.coeff) (length lent.inter) (length lent.res)

-- the record of the same block as if it had been opened on its coefficients
abbrev pub plain : EditedBlock → EditedBlock
plain block = record { kind = block.kind; size = block.size; precision = block.precision; columns = block.columns; source = zero_source }

pub plain_fits : (block : EditedBlock) (levels : List ℤ) (lent : Buffers) → EditFits block levels lent → Fits (opening_of (plain block)) lent
plain_fits block levels lent f =
    record { size = f.size; depth = f.depth; dst = f.dst; coeff = (neither (block_refused block.size (looked_at block.source.levels (length levels) (length lent.coeff))) (block_refused block.size (length lent.coeff)) f.input).1; work = f.work }

module _ (block : EditedBlock) (levels : List ℤ) (lent : Buffers) (row column : ℕ) (level : ℤ) where
  pub level-edit-refused : (r : Refusal)
      → answer (Err r) ≡ level_ladder (refused tt) (accepted tt) block.kind block.size block.precision.bit_depth 64 (looked_at block.source.levels (length levels) (length lent.coeff)) (length lent.coeff) (length lent.inter) (length lent.res)
      → level_edited block levels lent row column level ≡ level_stopped block levels lent r
  unfolding level_edited
  level-edit-refused r p = levels-refused block.kind block.size block.precision.bit_depth 64 _ (length lent.coeff) (length lent.inter) (length lent.res) (λ a. record { answer = valued no_limits a; block = block; levels = levels; buffers = lent }) r _ p

  module _ (f : EditFits block levels lent) where
    goes : {A : Type 0} (stop : Refusal → A) (go : A) → level_ladder stop go block.kind block.size block.precision.bit_depth 64 (looked_at block.source.levels (length levels) (length lent.coeff)) (length lent.coeff) (length lent.inter) (length lent.res) ≡ go
    goes stop go = levels_go block.kind block.size block.precision.bit_depth 64 _ (length lent.coeff) (length lent.inter) (length lent.res) stop go f

    pub level-edit_way : block.source.levels ≡ false → level_edited block levels lent row column level ≡ level_stopped block levels lent WayMismatched
    unfolding level_edited
    level-edit_way w = goes _ _ ∙ rw w

    pub level-edit-place : block.source.levels ≡ true → leb block.size row || leb block.size column ≡ true → level_edited block levels lent row column level ≡ level_stopped block levels lent PlaceOutside
    unfolding level_edited
    level-edit-place w p = goes _ _ ∙ rw (w, p)

    pub level-edit_done : block.source.levels ≡ true → row < block.size → column < block.size
        → let at : ℕ = row * block.size + column in
        let after : Buffers = edited_buffers block.kind block.size block.precision.bit_depth (transform_range block.precision.bit_depth block.precision.extended) lent row column (scaled_by block.source block.size block.precision.bit_depth block.precision.extended at level) in
        level_edited block levels lent row column level ≡ record { answer = accepted (limits_by block.source block.size block.precision.bit_depth block.precision.extended at level); block = with_columns block (column_count block.size after.coeff); levels = set levels at level; buffers = after }
    unfolding level_edited
    level-edit_done w hr hc = goes _ _ ∙ rw (w, lt-leb block.size row hr, lt-leb block.size column hc)

  pub level_edits_stopped : (r : Refusal) → level_edited block levels lent row column level ≡ level_stopped block levels lent r
      → LevelEdits (level_edited block levels lent row column level) (Err r) block levels lent.coeff lent.inter lent.res
  level_edits_stopped r p = rw p (record { answered = refl; block = refl; levels = refl; coeff = refl; inter = refl; res = refl })

-- ---- no level edit meets row 9 or 19
abbrev Other : ℕ → LevelLeft → Type 0
Other k x = x.answer.number ≡ k → ⊥

module _ (block : EditedBlock) (levels : List ℤ) (lent : Buffers) (row column : ℕ) (level : ℤ) where
  -- nor any other row past 8, but for 10
  other_number : (k : ℕ) → 8 < k → (k ≡ 10 → ⊥) → (level_edited block levels lent row column level).answer.number ≡ k → ⊥
  unfolding level_edited level_ladder
  other_number k h not-ten =
      either (size_refused block.size) SizeInvalid _ (λ z. omega (arith, h))
      (either (depth_refused block.precision.bit_depth) DepthInvalid _ (λ z. omega (arith, h))
      (either (dst_refused block.kind block.size) DstSizeInvalid _ (λ z. omega (arith, h))
      (either (list_refused 64) ListLengthInvalid _ (λ z. omega (arith, h))
      (either (block_refused block.size (looked_at block.source.levels (length levels) (length lent.coeff)) || block_refused block.size (length lent.coeff)) InputTooShort _ (λ z. omega (arith, h))
      (either (block_refused block.size (length lent.inter) || block_refused block.size (length lent.res)) OutputTooShort _ (λ z. omega (arith, h))
      (either (not block.source.levels) WayMismatched _ (λ z. not-ten (sym z)) (either (leb block.size row || leb block.size column) PlaceOutside _ (λ z. omega (arith, h)) (λ (z : 0 ≡ k). omega (arith, h)))))))))
    where
      either : (t : Bool) (e : Refusal) (y : LevelLeft) → (number e ≡ k → ⊥) → Other k y → Other k (cond t (level_stopped block levels lent e) y)
      either true e y n q p = n p
      either false e y n q p = q p

  pub level_meets_no_range : LevelMeetsNoRange block levels lent row column level
  level_meets_no_range =
      record {
        inside = scaled-inside block.source block.size block.precision.bit_depth block.precision.extended (row * block.size + column) level;
        not_above = other_number 9 (omega arith) (λ z. omega arith);
        not_below = other_number 19 (omega arith) (λ z. omega arith);
      }

pub level_edits_meet_no_range : LevelEditsMeetNoRange
level_edits_meet_no_range = level_meets_no_range
