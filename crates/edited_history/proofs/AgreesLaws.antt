-- Agreement of record and buffers with coefficients, kept by an accepted edit of either kind.
--   after_agrees       an accepted edit
--   fits_now           buffers that agree are as long as at the opening
--   agrees_history     both stages, as the history has them
use mathlib.Core.Path.{◌≡◌, sym, ap, ap₂, ◌∙◌}
use mathlib.Core.Bool.{false}
use mathlib.Core.List.{List, ◌++◌}
use Prim.Native.Nat.{ℕ, ◌+◌, ◌-◌, ◌*◌, ◌%◌, ◌<◌}
use native.Mathlib.Decide.{ℕ_discrete}
use native.Mathlib.Omega.{arith}
use lib.Arith.{digits_lt, digits_mod}
use lib.IntN.{ℤ, pos}
use lib.ListN.{length, set, take, drop, length-set, length-append, length-drop}
use lib.Seq.{get_or-set_same, get_or-set_other, set-append_left}
use Rattle.integers.specs.Lists.{overwrite}
use Rattle.integers.proofs.ListsLaws.{overwrite-length, overwrite_twice, overwrite-take, tabulate_cong}
use Rattle.h265.specs.Range.{outside_range}
use Rattle.h265.specs.Transform.{block_at, columns_read, row_order, intermediate, residual, stage_two_shift}
use Rattle.h265.proofs.TransformLaws.{intermediate_cong, stage_two_cong, row_order_cong, columns_read_in}
use Rattle.transform_1d.specs.MatrixOf.{matrix_of}
use Rattle.block_rules.specs.declared.EditedBlock.{EditedBlock}
use Rattle.stages_wide.specs.Wide.{column_replaced}
use Rattle.block_rules.specs.Columns.{column_count}
use Rattle.block_rules.specs.Edit.{Buffers, intermediate_of, residual_of, edited_buffers}
use Rattle.block_rules.specs.Opening.{Opening, range_of, block_of}
use Rattle.edited_history.specs.History.{history_intermediate, history_residual}
use Rattle.block_laws.proofs.ColumnsLaws.{column_replaced-overwrite, column_count-append}
use Rattle.block_laws.proofs.OpeningLaws.{Fits, coeff_long, inter_long, res_long, stage_one_of, stage_two_of, InRange, intermediate_of_is, written-residual, Agrees}

same_column : (n a b k l : ℕ) → a < n → b < n → k * n + a ≡ l * n + b → a ≡ b
same_column n a b k l ha hb e = sym (digits_mod k {m = n} {r = a} ha) ∙ ap (λ (i : ℕ). i % n) e ∙ digits_mod l {m = n} {r = b} hb

-- ---- an accepted edit
module _ (o : Opening) (lent : Buffers) (f : Fits o lent) (d : List ℤ) (now : Buffers) (row column : ℕ) (value : ℤ)
    (hr : row < o.size) (hc : column < o.size) (hv : outside_range (range_of o) value ≡ false) where
  abbrev pub at : ℕ
  at = row * o.size + column

  abbrev pub after : List ℤ
  after = set d at value

  in_block : row * o.size + column < o.size * o.size
  in_block = digits_lt {q = row} {m = o.size} {r = column} {c = o.size} hr hc

  range_after : InRange o d → InRange o after
  range_after r =
      record {
        long = length-set d at value ∙ r.long;
        inside = λ i h.
            elim (ℕ_discrete i at) [
              | yes q ↦ rw (q, get_or-set_same d at value (pos 0) (rw r.long in_block)) hv
              | no q ↦ rw (get_or-set_other d at i value (pos 0) q) (r.inside i h)
            ];
      }

  -- the coefficients afterwards, with what stands behind the block
  coeff_after : length d ≡ o.size * o.size → (xs : List ℤ) → set (d ++ xs) at value ≡ after ++ xs
  coeff_after long xs = set-append_left d xs at value (rw long in_block)

  -- the other columns of the intermediate are as they were
  other_column : (m c : ℕ) → c < o.size → (c ≡ column → ⊥) → stage_one_of o after m c ≡ stage_one_of o d m c
  unfolding stage_one_of block_at
  other_column m c h q =
      intermediate_cong (matrix_of o.kind o.size) o.size (range_of o) (block_at o.size after) (block_at o.size d) m c
      (λ k hk. get_or-set_other d at (k * o.size + c) value (pos 0) (λ s. q (same_column o.size c column k row h hc s)))

  inter_after : InRange o d → (xs : List ℤ)
      → column_replaced o.size column (λ m. intermediate_of o.kind o.size (range_of o) (after ++ xs) m column) (overwrite (o.size * o.size) (row_order o.size (stage_one_of o d)) lent.inter)
      ≡ overwrite (o.size * o.size) (row_order o.size (stage_one_of o after)) lent.inter
  inter_after r xs =
      column_replaced-overwrite o.size column (λ m. intermediate_of o.kind o.size (range_of o) (after ++ xs) m column) (stage_one_of o d) (stage_one_of o after) lent.inter (inter_long o lent f)
      (λ m hm. sym (intermediate_of_is o after (range_after r) xs m column hc)) (λ m c hm h q. other_column m c h q)

  pub after_agrees : (block : EditedBlock) → Agrees o lent d block now
      → Agrees o lent after (block_of o (column_count o.size (edited_buffers o.kind o.size o.depth (range_of o) now row column value).coeff))
      (edited_buffers o.kind o.size o.depth (range_of o) now row column value)
  unfolding edited_buffers
  after_agrees block a =
      record {
        range = range_after a.range;
        block_is = ap (block_of o) (ap (column_count o.size) coeff ∙ column_count-append o.size after rest (range_after a.range).long);
        coeff_is = coeff;
        inter_is = inter;
        res_is = ap₂ (λ (g ys : List ℤ). overwrite (o.size * o.size) (row_order o.size (residual_of o.kind o.size o.depth (range_of o) g)) ys) inter a.res_is ∙ rewritten;
      }
    where
      rest : List ℤ
      rest = drop (o.size * o.size) lent.coeff

      coeff : set now.coeff (row * o.size + column) value ≡ after ++ rest
      coeff = ap (λ (xs : List ℤ). set xs (row * o.size + column) value) a.coeff_is ∙ coeff_after a.range.long rest

      inter : column_replaced o.size column (λ m. intermediate_of o.kind o.size (range_of o) (set now.coeff (row * o.size + column) value) m column) now.inter
          ≡ overwrite (o.size * o.size) (row_order o.size (stage_one_of o after)) lent.inter
      inter =
          ap₂ (λ (xs ys : List ℤ). column_replaced o.size column (λ m. intermediate_of o.kind o.size (range_of o) xs m column) ys) coeff a.inter_is
          ∙ inter_after a.range rest

      rewritten : overwrite (o.size * o.size) (row_order o.size (residual_of o.kind o.size o.depth (range_of o) (overwrite (o.size * o.size) (row_order o.size (stage_one_of o after)) lent.inter))) (overwrite (o.size * o.size) (row_order o.size (stage_two_of o d)) lent.res)
          ≡ overwrite (o.size * o.size) (row_order o.size (stage_two_of o after)) lent.res
      rewritten =
          written-residual o after lent.inter (overwrite (o.size * o.size) (row_order o.size (stage_two_of o d)) lent.res)
          ∙ overwrite_twice (o.size * o.size) (row_order o.size (stage_two_of o after)) (row_order o.size (stage_two_of o d)) lent.res

module _ (o : Opening) (lent : Buffers) (f : Fits o lent) (d : List ℤ) (block : EditedBlock) (now : Buffers) (a : Agrees o lent d block now) where
  pub coeff_length : length now.coeff ≡ length lent.coeff
  coeff_length =
      ap length a.coeff_is ∙ length-append d (drop (o.size * o.size) lent.coeff)
      ∙ ap₂ ◌+◌ a.range.long (length-drop (o.size * o.size) lent.coeff) ∙ whole
    where
      whole : o.size * o.size + (length lent.coeff - o.size * o.size) ≡ length lent.coeff
      whole = omega (arith, coeff_long o lent f)

  inter_length : length now.inter ≡ length lent.inter
  inter_length = ap length a.inter_is ∙ overwrite-length (o.size * o.size) (row_order o.size (stage_one_of o d)) lent.inter (inter_long o lent f)

  res_length : length now.res ≡ length lent.res
  res_length = ap length a.res_is ∙ overwrite-length (o.size * o.size) (row_order o.size (stage_two_of o d)) lent.res (res_long o lent f)

  -- the buffers are as long as at the opening, so that no condition on them holds
  pub fits_now : Fits o now
  fits_now =
      record { size = f.size; depth = f.depth; dst = f.dst; coeff = rw coeff_length f.coeff; work = rw (inter_length, res_length) f.work }

-- ---- the history's stages read all n columns
stage_one-all : (o : Opening) (d : List ℤ) (m c : ℕ) → c < o.size → stage_one_of o d m c ≡ intermediate (matrix_of o.kind o.size) o.size (range_of o) (columns_read o.size (block_at o.size d)) m c
unfolding stage_one_of
stage_one-all o d m c h =
    intermediate_cong (matrix_of o.kind o.size) o.size (range_of o) (block_at o.size d) (columns_read o.size (block_at o.size d)) m c
    (λ k hk. sym (columns_read_in o.size (block_at o.size d) k c h))

stage_two_all : (o : Opening) (d : List ℤ) (m j : ℕ) → stage_two_of o d m j ≡ residual (matrix_of o.kind o.size) o.size o.depth (range_of o) o.size d m j
unfolding stage_two_of residual
stage_two_all o d m j =
    stage_two_cong (matrix_of o.kind o.size) o.size (stage_two_shift o.depth (range_of o)) (stage_one_of o d) _ m j (λ c h. stage_one-all o d m c h)

pub agrees_history : (o : Opening) (lent : Buffers) (d : List ℤ) (block : EditedBlock) (now : Buffers) → Agrees o lent d block now
    → (take (o.size * o.size) now.inter ≡ history_intermediate o d) × (take (o.size * o.size) now.res ≡ history_residual o d)
unfolding history_intermediate history_residual
agrees_history o lent d block now a =
    let n : ℕ = o.size in (
      ap (take (n * n)) a.inter_is ∙ overwrite-take (n * n) (row_order n (stage_one_of o d)) lent.inter
          ∙ tabulate_cong (n * n) (row_order n (stage_one_of o d)) _ (row_order_cong n (stage_one_of o d) _ (λ m c hm hc. stage_one-all o d m c hc)),
      ap (take (n * n)) a.res_is ∙ overwrite-take (n * n) (row_order n (stage_two_of o d)) lent.res
          ∙ tabulate_cong (n * n) (row_order n (stage_two_of o d)) _ (row_order_cong n (stage_two_of o d) _ (λ m c hm hc. stage_two_all o d m c)),
    )
