-- What an opening that answered 0 gives, and what a record and buffers must hold to agree with the history.
--   Accepted             no condition of the table holds of the opening
--   opened-accepted      an opening that answered 0 is such a one
--   opened_is            what it then hands back
--   Agrees               record and buffers are those of the history's coefficients d
--   opened_agrees        so they are after the opening
use mathlib.Core.Path.{◌≡◌, refl, sym, ap, ◌∙◌}
use mathlib.Core.Bool.{Bool, true, false, ◌||◌, cond}
use mathlib.Core.List.{List, ◌++◌}
use Prim.Native.Nat.{ℕ, ◌+◌, ◌*◌, ◌%◌, ◌≤◌, ◌<◌}
use native.Mathlib.Omega.{arith}
use borrow.Author.Tests.{ltb-false, lt-ltb}
use lib.Arith.{digits_lt}
use lib.Dec.{ltb}
use lib.IntN.{ℤ, pos}
use lib.ListN.{length, get_or, take, drop, take-append-drop}
use lib.Seq.{length-take-le, get_or-take}
use Rattle.integers.specs.Lists.{overwrite}
use Rattle.integers.proofs.ListsLaws.{overwrite_cong}
use Rattle.integers.proofs.SearchLaws.{First, first_where_first}
use Rattle.h265.specs.Range.{clip_coeff, outside_range}
use Rattle.h265.specs.Transform.{block_at, row_order, intermediate, stage_two, stage_two_shift}
use Rattle.h265.proofs.RangeLaws.{clip_coeff_id, outside_range_false}
use Rattle.h265.proofs.TransformLaws.{intermediate_cong, stage_two_cong, intermediate_clipped, row_order_cong, block_at_overwrite, block_at_append, cell_column}
use Rattle.refusal.specs.Condition.{size_refused, depth_refused, block_refused}
use Rattle.refusal.specs.Outcome.{accepted}
use Rattle.stages_wide.specs.Wide.{limited_block}
use Rattle.transform_1d.specs.MatrixOf.{matrix_of}
use Rattle.refusal.proofs.RefusalLaws.{number_least}
use Rattle.coefficients.specs.Outside.{outside_at, first_outside, refusal_at}
use Rattle.block_rules.specs.declared.EditedBlock.{EditedBlock}
use Rattle.block_rules.specs.Columns.{column_count}
use Rattle.transform_1d.specs.Kinds.{dst_refused}
use Rattle.block_rules.specs.Edit.{Buffers, Left, intermediate_of, residual_of, block_ladder, opened, opened_buffers}
use Rattle.block_rules.specs.Opening.{Opening, range_of, opened_as, block_of}
use Rattle.refusal.proofs.ConditionLaws.{block_room}
use Rattle.integers.proofs.TestLaws.{neither}
use Rattle.block_laws.proofs.ColumnsLaws.{column_count-append}

-- the conditions that an opening and an edit share
pub record Fits (o : Opening) (lent : Buffers) : Type 0 where
  pub size : size_refused o.size ≡ false
  pub depth : depth_refused o.depth ≡ false
  pub dst : dst_refused o.kind o.size ≡ false
  pub coeff : block_refused o.size (length lent.coeff) ≡ false
  pub work : block_refused o.size (length lent.inter) || block_refused o.size (length lent.res) ≡ false

pub record Accepted (o : Opening) (lent : Buffers) : Type 0 where
  pub fits : Fits o lent
  pub first : ltb (first_outside (range_of o) o.size o.size lent.coeff) (o.size * o.size) ≡ false

-- a ladder that answered 0 has passed its first condition
passed : (t : Bool) (a b : Left) → (cond t a b).answer.number ≡ 0 → (a.answer.number ≡ 0 → ⊥) → (t ≡ false) × (b.answer.number ≡ 0)
passed true a b e no_zero = absurd (no_zero e)
passed false a b e no_zero = (refl, e)

pub opened-accepted : (o : Opening) (lent : Buffers) → (opened_as o lent).answer.number ≡ 0 → Accepted o lent
unfolding opened_as opened block_ladder
opened-accepted o lent e =
    let p₁ = passed (size_refused o.size) _ _ e (λ z. omega arith) in
    let p₂ = passed (depth_refused o.depth) _ _ p₁.1 (λ z. omega arith) in
    let p₃ = passed (dst_refused o.kind o.size) _ _ p₂.1 (λ z. omega arith) in
    let p₄ = passed (block_refused o.size (length lent.coeff)) _ _ p₃.1 (λ z. omega arith) in
    let p₅ = passed (block_refused o.size (length lent.inter) || block_refused o.size (length lent.res)) _ _ p₄.1 (λ z. omega arith) in
    let first = first_outside (range_of o) o.size o.size lent.coeff in
    let p₆ = passed (ltb first (o.size * o.size)) _ _ p₅.1 (λ z. omega (arith, number_least (refusal_at (range_of o) o.size lent.coeff first), z)) in
    record { fits = record { size = p₁.0; depth = p₂.0; dst = p₃.0; coeff = p₄.0; work = p₅.0 }; first = p₆.0 }

pub opened_is : (o : Opening) (lent : Buffers) → Accepted o lent
    → opened_as o lent ≡ record { answer = accepted tt; block = block_of o (column_count o.size lent.coeff); buffers = opened_buffers o.kind o.size o.depth (range_of o) lent }
unfolding opened_as opened block_ladder
opened_is o lent a = rw (a.fits.size, a.fits.depth, a.fits.dst, a.fits.coeff, a.fits.work, a.first)

-- ---- lengths
module _ (o : Opening) (lent : Buffers) (f : Fits o lent) where
  pub coeff_long : o.size * o.size ≤ length lent.coeff
  coeff_long = block_room o.size (length lent.coeff) f.coeff

  pub inter_long : o.size * o.size ≤ length lent.inter
  inter_long = block_room o.size (length lent.inter) (neither (block_refused o.size (length lent.inter)) (block_refused o.size (length lent.res)) f.work).0

  pub res_long : o.size * o.size ≤ length lent.res
  res_long = block_room o.size (length lent.res) (neither (block_refused o.size (length lent.inter)) (block_refused o.size (length lent.res)) f.work).1

-- ---- both stages over coefficients in the range
unfoldable pub stage_one_of : Opening → List ℤ → ℕ → ℕ → ℤ
stage_one_of o d = intermediate (matrix_of o.kind o.size) o.size (range_of o) (block_at o.size d)

unfoldable pub stage_two_of : Opening → List ℤ → ℕ → ℕ → ℤ
stage_two_of o d = stage_two (matrix_of o.kind o.size) o.size (stage_two_shift o.depth (range_of o)) (stage_one_of o d)

pub record InRange (o : Opening) (d : List ℤ) : Type 0 where
  pub long : length d ≡ o.size * o.size
  pub inside : (i : ℕ) → i < o.size * o.size → outside_range (range_of o) (get_or d i (pos 0)) ≡ false

module _ (o : Opening) (d : List ℤ) (h : InRange o d) where
  limited_id : (xs : List ℤ) (k c : ℕ) → k < o.size → c < o.size → limited_block (range_of o) o.size (d ++ xs) k c ≡ block_at o.size d k c
  unfolding block_at
  limited_id xs k c hk hc =
      let e = block_at_append o.size d xs k c h.long hk hc in
      let b = outside_range_false (range_of o) (get_or d (k * o.size + c) (pos 0)) (h.inside (k * o.size + c) (digits_lt {q = k} {m = o.size} {r = c} {c = o.size} hk hc)) in
      ap (clip_coeff (range_of o)) e ∙ clip_coeff_id (range_of o) (get_or d (k * o.size + c) (pos 0)) b.0 b.1

  pub intermediate_of_is : (xs : List ℤ) (m c : ℕ) → c < o.size → intermediate_of o.kind o.size (range_of o) (d ++ xs) m c ≡ stage_one_of o d m c
  unfolding intermediate_of stage_one_of
  intermediate_of_is xs m c hc =
      intermediate_cong (matrix_of o.kind o.size) o.size (range_of o) (limited_block (range_of o) o.size (d ++ xs)) (block_at o.size d) m c (λ k hk. limited_id xs k c hk hc)

pub residual_of_is : (o : Opening) (d xs : List ℤ) (m j : ℕ) → m < o.size
    → residual_of o.kind o.size o.depth (range_of o) (overwrite (o.size * o.size) (row_order o.size (stage_one_of o d)) xs) m j ≡ stage_two_of o d m j
unfolding residual_of stage_two_of
residual_of_is o d xs m j hm =
    stage_two_cong (matrix_of o.kind o.size) o.size (stage_two_shift o.depth (range_of o)) _ (stage_one_of o d) m j
    (λ c hc. ap (clip_coeff (range_of o)) (block_at_overwrite o.size (stage_one_of o d) xs m c hm hc) ∙ clipped m c)
  where
    clipped : (m c : ℕ) → clip_coeff (range_of o) (stage_one_of o d m c) ≡ stage_one_of o d m c
    clipped m c = unfold stage_one_of in intermediate_clipped (matrix_of o.kind o.size) o.size (range_of o) (block_at o.size d) m c

pub written-residual : (o : Opening) (d xs ys : List ℤ)
    → overwrite (o.size * o.size) (row_order o.size (residual_of o.kind o.size o.depth (range_of o) (overwrite (o.size * o.size) (row_order o.size (stage_one_of o d)) xs))) ys ≡ overwrite (o.size * o.size) (row_order o.size (stage_two_of o d)) ys
written-residual o d xs ys =
    let n : ℕ = o.size in
    let g : List ℤ = overwrite (n * n) (row_order n (stage_one_of o d)) xs in
    overwrite_cong (n * n) (row_order n (residual_of o.kind n o.depth (range_of o) g)) (row_order n (stage_two_of o d)) ys
    (row_order_cong n (residual_of o.kind n o.depth (range_of o) g) (stage_two_of o d) (λ m j hm hj. residual_of_is o d xs m j hm))

-- ---- the record and the buffers of a history's coefficients
pub record Agrees (o : Opening) (lent : Buffers) (d : List ℤ) (block : EditedBlock) (now : Buffers) : Type 0 where
  pub range : InRange o d
  pub block_is : block ≡ block_of o (column_count o.size d)
  pub coeff_is : now.coeff ≡ d ++ drop (o.size * o.size) lent.coeff
  pub inter_is : now.inter ≡ overwrite (o.size * o.size) (row_order o.size (stage_one_of o d)) lent.inter
  pub res_is : now.res ≡ overwrite (o.size * o.size) (row_order o.size (stage_two_of o d)) lent.res

-- the coefficients that the opening got lie in the range
first_inside : (o : Opening) (lent : Buffers) → Accepted o lent → InRange o (take (o.size * o.size) lent.coeff)
unfolding first_outside outside_at
first_inside o lent a =
    record { long = length-take-le (o.size * o.size) lent.coeff (coeff_long o lent a.fits); inside = at }
  where
    found : First (o.size * o.size) (outside_at (range_of o) o.size o.size lent.coeff) (first_outside (range_of o) o.size o.size lent.coeff)
    found = first_where_first (o.size * o.size) (outside_at (range_of o) o.size o.size lent.coeff)

    at : (i : ℕ) → i < o.size * o.size → outside_range (range_of o) (get_or (take (o.size * o.size) lent.coeff) i (pos 0)) ≡ false
    at i h =
        rw (get_or-take (o.size * o.size) lent.coeff i (pos 0) h)
        (rw (lt-ltb (i % o.size) o.size (cell_column o.size i h)) at (found.before.at i (omega (arith, ltb-false (first_outside (range_of o) o.size o.size lent.coeff) (o.size * o.size) a.first))))

pub opened_agrees : (o : Opening) (lent : Buffers) → Accepted o lent
    → Agrees o lent (take (o.size * o.size) lent.coeff) (block_of o (column_count o.size lent.coeff)) (opened_buffers o.kind o.size o.depth (range_of o) lent)
unfolding opened_buffers
opened_agrees o lent a =
    record {
      range = r;
      block_is = ap (block_of o) (ap (column_count o.size) whole ∙ column_count-append o.size d rest r.long);
      coeff_is = whole;
      inter_is = inter;
      res_is = ap (λ (g : List ℤ). overwrite (o.size * o.size) (row_order o.size (residual_of o.kind o.size o.depth (range_of o) g)) lent.res) inter ∙ res;
    }
  where
    d : List ℤ
    d = take (o.size * o.size) lent.coeff

    rest : List ℤ
    rest = drop (o.size * o.size) lent.coeff

    r : InRange o d
    r = first_inside o lent a

    whole : lent.coeff ≡ d ++ rest
    whole = sym (take-append-drop (o.size * o.size) lent.coeff)

    inter : overwrite (o.size * o.size) (row_order o.size (intermediate_of o.kind o.size (range_of o) lent.coeff)) lent.inter ≡ overwrite (o.size * o.size) (row_order o.size (stage_one_of o d)) lent.inter
    inter =
        ap (λ (xs : List ℤ). overwrite (o.size * o.size) (row_order o.size (intermediate_of o.kind o.size (range_of o) xs)) lent.inter) whole
        ∙ overwrite_cong (o.size * o.size) (row_order o.size (intermediate_of o.kind o.size (range_of o) (d ++ rest))) (row_order o.size (stage_one_of o d)) lent.inter
        (row_order_cong o.size (intermediate_of o.kind o.size (range_of o) (d ++ rest)) (stage_one_of o d) (λ m c hm hc. intermediate_of_is o d r rest m c hc))

    res : overwrite (o.size * o.size) (row_order o.size (residual_of o.kind o.size o.depth (range_of o) (overwrite (o.size * o.size) (row_order o.size (stage_one_of o d)) lent.inter))) lent.res ≡ overwrite (o.size * o.size) (row_order o.size (stage_two_of o d)) lent.res
    res = written-residual o d lent.inter lent.res
