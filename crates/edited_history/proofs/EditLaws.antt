-- One edit of either kind, on any record and buffers.
--   edits_keep_columns           no edit alters the intermediate outside its own column
--   refused_edits_alter_nothing  a refused edit alters nothing
use mathlib.Core.Path.{◌≡◌, refl, sym, subst, ◌∙◌}
use mathlib.Core.Bool.{Bool, true, false, not, ◌&&◌, ◌||◌, cond}
use mathlib.Core.List.{List, [], ◌∷◌}
use Prim.Native.Nat.{ℕ, ◌+◌, ◌*◌, ◌/◌, ◌%◌, ◌<◌}
use native.Mathlib.Decide.{dec_lt, ℕ_discrete}
use native.Mathlib.Omega.{arith}
use borrow.Author.Tests.{eq-eqb, ne_eqb, le-ltb}
use lib.Dec.{eqb, ltb, leb}
use lib.IntN.{ℤ, pos}
use lib.ListN.{length, get_or, get_or-eq_default}
use Rattle.integers.proofs.ListsLaws.{tabulate-get_or}
use Rattle.h265.specs.Range.{outside_range, transform_range}
use Rattle.refusal.specs.declared.Refusal.{Refusal}
use Rattle.refusal.specs.declared.Refusal.TheVariants.{SizeInvalid, DepthInvalid, DstSizeInvalid, ListLengthInvalid, InputTooShort, OutputTooShort, PlaceOutside, WayMismatched}
use Rattle.refusal.specs.Condition.{size_refused, depth_refused, list_refused, block_refused}
use Rattle.refusal.proofs.LadderLaws.{first_both}
use Rattle.refusal.proofs.LadderLaws.Rung.{rung}
use Rattle.transform_1d.specs.Kinds.{dst_refused}
use Rattle.coefficients.specs.Outside.{outside_refusal}
use Rattle.stages_wide.specs.Wide.{column_replaced}
use Rattle.block_rules.specs.declared.EditedBlock.{EditedBlock}
use Rattle.block_rules.specs.Edit.{Buffers, Left, block_ladder, stopped, edited, edited_buffers}
use Rattle.block_laws.proofs.ColumnsLaws.{column_replaced-length}
use Rattle.block_rules.specs.Level.{scaled_by, LevelLeft, level_ladder, level_stopped, looked_at, level_edited}
use Rattle.edited_history.specs.Run.{besides, held_edited, SameAt, EditsKeepColumns, RefusedEditsAlterNothing}

-- ---- what holds of every refused edit and of what passes the ladder holds of an edit
module _ (block : EditedBlock) (levels : List ℤ) (lent : Buffers) (row column : ℕ) (value : ℤ) where
  edited-all : (P : Left → Type 0) → ((e : Refusal) → P (stopped block lent e))
      → ((answered : Left) → answered.buffers ≡ edited_buffers block.kind block.size block.precision.bit_depth (transform_range block.precision.bit_depth block.precision.extended) lent row column value → answered.answer.number ≡ 0 → P answered)
      → P (edited block lent row column value)
  unfolding edited block_ladder
  edited-all P stop done =
      let n = block.size in
      first_both (λ (h : Left) (t : Unit {0}). P h) (stopped block lent) _ (λ e. tt) tt
      (rung (size_refused n) SizeInvalid ∷ rung (depth_refused block.precision.bit_depth) DepthInvalid ∷ rung (dst_refused block.kind n) DstSizeInvalid ∷ rung (block_refused n (length lent.coeff)) InputTooShort
      ∷ rung (block_refused n (length lent.inter) || block_refused n (length lent.res)) OutputTooShort ∷ rung block.source.levels WayMismatched ∷ rung (leb n row || leb n column) PlaceOutside
      ∷ rung (outside_range (transform_range block.precision.bit_depth block.precision.extended) value) (outside_refusal (transform_range block.precision.bit_depth block.precision.extended) value row column) ∷ [])
      stop (λ passed. done _ refl refl)

  level-edited-all : (P : LevelLeft → Type 0) → ((e : Refusal) → P (level_stopped block levels lent e))
      → ((answered : LevelLeft) → answered.buffers ≡ edited_buffers block.kind block.size block.precision.bit_depth (transform_range block.precision.bit_depth block.precision.extended) lent row column
      (scaled_by block.source block.size block.precision.bit_depth block.precision.extended (row * block.size + column) value) → answered.answer.number ≡ 0 → P answered)
      → P (level_edited block levels lent row column value)
  unfolding level_edited level_ladder
  level-edited-all P stop done =
      let n = block.size in
      first_both (λ (h : LevelLeft) (t : Unit {0}). P h) (level_stopped block levels lent) _ (λ e. tt) tt
      (rung (size_refused n) SizeInvalid ∷ rung (depth_refused block.precision.bit_depth) DepthInvalid ∷ rung (dst_refused block.kind n) DstSizeInvalid ∷ rung (list_refused 64) ListLengthInvalid
      ∷ rung (block_refused n (looked_at block.source.levels (length levels) (length lent.coeff)) || block_refused n (length lent.coeff)) InputTooShort
      ∷ rung (block_refused n (length lent.inter) || block_refused n (length lent.res)) OutputTooShort ∷ rung (not block.source.levels) WayMismatched ∷ rung (leb n row || leb n column) PlaceOutside ∷ [])
      stop (λ passed. done _ refl refl)

-- ---- the intermediate
replaced_at : (n c : ℕ) (f : ℕ → ℤ) (xs : List ℤ) (i : ℕ) → i < length xs → get_or (column_replaced n c f xs) i (pos 0) ≡ cond (eqb (i % n) c && ltb (i / n) n) (f (i / n)) (get_or xs i (pos 0))
unfolding column_replaced
replaced_at n c f xs i l = tabulate-get_or (length xs) (λ j. cond (eqb (j % n) c && ltb (j / n) n) (f (j / n)) (get_or xs j (pos 0))) i (pos 0) l

replaced_other : (n c : ℕ) (f : ℕ → ℤ) (xs : List ℤ) (i : ℕ) → (i % n ≡ c → i / n < n → ⊥) → SameAt i xs (column_replaced n c f xs)
replaced_other n c f xs i h = record { long = column_replaced-length n c f xs; element = element }
  where
    kept : cond (eqb (i % n) c && ltb (i / n) n) (f (i / n)) (get_or xs i (pos 0)) ≡ get_or xs i (pos 0)
    kept =
        elim (ℕ_discrete (i % n) c) [
          | yes e ↦ elim (dec_lt (i / n) n) [
            | yes l ↦ absurd (h e l)
            | no l ↦ rw (eq-eqb (i % n) c e, le-ltb (i / n) n (omega arith))
          ]
          | no e ↦ rw (ne_eqb (i % n) c e)
        ]

    element : get_or (column_replaced n c f xs) i (pos 0) ≡ get_or xs i (pos 0)
    element =
        elim (dec_lt i (length xs)) [
          | yes l ↦ replaced_at n c f xs i l ∙ kept
          | no l ↦ get_or-eq_default (column_replaced n c f xs) (pos 0) (rw (column_replaced-length n c f xs) (omega arith)) ∙ sym (get_or-eq_default xs (pos 0) (omega arith))
        ]

edited_other : (block : EditedBlock) (lent : Buffers) (row column : ℕ) (value : ℤ) (i : ℕ) → (i % block.size ≡ column → i / block.size < block.size → ⊥)
    → SameAt i lent.inter (edited_buffers block.kind block.size block.precision.bit_depth (transform_range block.precision.bit_depth block.precision.extended) lent row column value).inter
unfolding edited_buffers
edited_other block lent row column value i h = replaced_other block.size column _ lent.inter i h

pub edits_keep_columns : EditsKeepColumns
unfolding held_edited
edits_keep_columns block levels lent e i h = by_level e.level
  where
    other : (b : Buffers) (value : ℤ) → b ≡ edited_buffers block.kind block.size block.precision.bit_depth (transform_range block.precision.bit_depth block.precision.extended) lent e.row e.column value → SameAt i lent.inter b.inter
    other b value p = subst (λ (x : Buffers). SameAt i lent.inter x.inter) (sym p) (edited_other block lent e.row e.column value i h)

    by_level : (t : Bool) → SameAt i lent.inter (cond t (level_edited block levels lent e.row e.column e.value) (besides levels (edited block lent e.row e.column e.value))).buffers.inter
    by_level true =
        level-edited-all block levels lent e.row e.column e.value (λ (x : LevelLeft). SameAt i lent.inter x.buffers.inter) (λ r. record { long = refl; element = refl })
        (λ x p z. other x.buffers _ p)
    by_level false =
        edited-all block levels lent e.row e.column e.value (λ (x : Left). SameAt i lent.inter x.buffers.inter) (λ r. record { long = refl; element = refl })
        (λ x p z. other x.buffers _ p)

-- ---- a refused edit
abbrev Unaltered : EditedBlock → List ℤ → Buffers → LevelLeft → Type 0
Unaltered block levels lent x = (x.answer.number ≡ 0 → ⊥) → x ≡ record { answer = x.answer; block = block; levels = levels; buffers = lent }

pub refused_edits_alter_nothing : RefusedEditsAlterNothing
unfolding held_edited
refused_edits_alter_nothing block levels lent e = by_level e.level
  where
    by_level : (t : Bool) → Unaltered block levels lent (cond t (level_edited block levels lent e.row e.column e.value) (besides levels (edited block lent e.row e.column e.value)))
    by_level true = level-edited-all block levels lent e.row e.column e.value (Unaltered block levels lent) (λ r no_zero. refl) (λ x p z no_zero. absurd (no_zero z))
    by_level false =
        edited-all block levels lent e.row e.column e.value (λ (x : Left). Unaltered block levels lent (besides levels x)) (λ r no_zero. refl) (λ x p z no_zero. absurd (no_zero z))
