-- The ladder of `inverted`, and a column count above the size.
--   writes_refused           a refusal leaves the output as lent
--   of_dct                   a DCT has any size
--   Checked                  no condition before row 9 holds
--   rungs                    the conditions of the ladder
--   ladder_refused, ladder_passed   what an answer of the ladder says
--   inverted_outside, inverted_done   what each step below it answers
--   residual_least, first_outside_least          a count above n means n
--   plain_needs, plain_result   what the stages of the plain range ask and give, of lists of numbers as they are
use Rattle.std.specs.Prelude.{Ok, Err, map}
use Rattle.std.proofs.lemmas.List.{map-id}
use mathlib.Core.Path.{◌≡◌, refl, sym, ap, ap₂, ◌∙◌, subst}
use mathlib.Core.Bool.{Bool, true, false, ◌&&◌, cond}
use mathlib.Core.List.{List, [], ◌∷◌}
use Prim.Native.Nat.{ℕ, ◌*◌, ◌%◌, min, ◌≤◌, ◌<◌}
use native.Mathlib.Decide.{dec_lt}
use native.Mathlib.Omega.{arith}
use borrow.Author.Tests.{lt-ltb, le-ltb}
use lib.Dec.{ltb}
use lib.IntN.{ℤ, pos}
use lib.ListN.{length, get_or}
use Rattle.integers.specs.Lists.{overwrite}
use Rattle.integers.proofs.ListsLaws.{overwrite_cong}
use Rattle.integers.proofs.SearchLaws.{first_where_cong}
use Rattle.h265.specs.Range.{transform_range, outside_range}
use Rattle.h265.specs.Transform.{block_at, row_order, columns_read, stage_two_shift, residual}
use Rattle.h265.proofs.TransformLaws.{intermediate_cong, stage_two_cong, cell_column, row_order_cong}
use Rattle.refusal.specs.declared.Refusal.{Refusal}
use Rattle.refusal.specs.declared.Refusal.TheVariants.{SizeInvalid, DepthInvalid, WidthTooNarrow, InputTooShort, OutputTooShort}
use Rattle.refusal.specs.Condition.{size_refused, depth_refused, width_refused, block_refused}
use Rattle.refusal.specs.Outcome.{accepted, refused, answer}
use Rattle.refusal.specs.Written.{Written, left, wrote, Writes}
use Rattle.refusal.proofs.LadderLaws.{Rung, first_accepted, first_refused}
use Rattle.refusal.proofs.LadderLaws.Rung.{rung}
use Rattle.coefficients.specs.Outside.{outside_at, first_outside, refusal_at}
use Rattle.transform_1d.specs.declared.Kind.{Kind}
use Rattle.transform_1d.specs.declared.Kind.TheVariants.{Dct}
use Rattle.transform_1d.specs.MatrixOf.{matrix_of}
use Rattle.stages.specs.Plain.{PlainNeeds}
use Rattle.transform_blocks.specs.Blocks.{transform_ladder, inverted, OfKind}

pub writes_refused : {w : Written} {out : List ℤ} (e : Refusal) → w ≡ left out e → Writes (Err e) out w
writes_refused e h = record { answered = sym (ap (λ (v : Written). v.answer) h); out = sym (ap (λ (v : Written). v.out) h) }

pub writes_done : {w : Written} {out : List ℤ} → w ≡ wrote out → Writes (Ok tt) out w
writes_done h = record { answered = sym (ap (λ (v : Written). v.answer) h); out = sym (ap (λ (v : Written). v.out) h) }

-- the DCT has any size
pub of_dct : (n : ℕ) → OfKind Dct n
of_dct n = record { dst = λ e. absurd (let z : ◌≡◌ {A = ℕ} 0 1 = cc in let b : ⊥ = omega arith in b) }

pub record Checked (narrow : Bool) (n b : ℕ) (x : Bool) (coeff out : ℕ) : Type 0 where
  pub size : size_refused n ≡ false
  pub depth : depth_refused b ≡ false
  pub width : narrow && width_refused b x ≡ false
  pub input : block_refused n coeff ≡ false
  pub output : block_refused n out ≡ false

-- the conditions of the ladder
abbrev rungs : Bool → ℕ → ℕ → Bool → ℕ → ℕ → List Rung
rungs narrow n b x coeff out =
    rung (size_refused n) SizeInvalid
    ∷ rung (depth_refused b) DepthInvalid
    ∷ rung (narrow && width_refused b x) WidthTooNarrow
    ∷ rung (block_refused n coeff) InputTooShort
    ∷ rung (block_refused n out) OutputTooShort
    ∷ []

module _ (narrow : Bool) (kind : Kind) (n b : ℕ) (x : Bool) (nx : ℕ) (coeff out : List ℤ) where
  pub ladder_refused : (e : Refusal) → answer (Err e) ≡ transform_ladder (refused tt) (accepted tt) narrow n b x (length coeff) (length out)
      → Writes (Err e) out (inverted narrow kind n b x nx coeff out)
  unfolding inverted
  ladder_refused e h =
      let r = transform_range b x in
      let first = first_outside r n nx coeff in
      first_refused tt tt (left out)
      (cond (ltb first (n * n)) (left out (refusal_at r n coeff first)) (wrote (overwrite (n * n) (row_order n (residual (matrix_of kind n) n b r nx coeff)) out)))
      (λ w. Writes (Err e) out w) e (λ f k. record { answered = k; out = refl }) (rungs narrow n b x (length coeff) (length out)) h

  pub ladder_passed : answer (Ok tt) ≡ transform_ladder (refused tt) (accepted tt) narrow n b x (length coeff) (length out) → Checked narrow n b x (length coeff) (length out)
  ladder_passed h =
      let p = (first_accepted tt tt tt (rungs narrow n b x (length coeff) (length out)) h).0 in
      record { size = p.0; depth = p.1.0; width = p.1.1.0; input = p.1.1.1.0; output = p.1.1.1.1.0 }

  pub inverted_outside : Checked narrow n b x (length coeff) (length out) → ltb (first_outside (transform_range b x) n nx coeff) (n * n) ≡ true
      → inverted narrow kind n b x nx coeff out ≡ left out (refusal_at (transform_range b x) n coeff (first_outside (transform_range b x) n nx coeff))
  unfolding inverted
  inverted_outside c h = rw (c.size, c.depth, c.width, c.input, c.output, h)

  pub inverted_done : Checked narrow n b x (length coeff) (length out) → n * n ≤ first_outside (transform_range b x) n nx coeff
      → inverted narrow kind n b x nx coeff out ≡ wrote (overwrite (n * n) (row_order n (residual (matrix_of kind n) n b (transform_range b x) nx coeff)) out)
  unfolding inverted
  inverted_done c h = rw (c.size, c.depth, c.width, c.input, c.output, le-ltb (first_outside (transform_range b x) n nx coeff) (n * n) h)

-- ---- a count above n means n
least_test : (n nx c : ℕ) → c < n → ltb c (min nx n) ≡ ltb c nx
least_test n nx c h =
    elim (dec_lt c nx) [
      | yes q ↦ lt-ltb c (min nx n) (omega arith) ∙ sym (lt-ltb c nx q)
      | no q ↦ le-ltb c (min nx n) (omega arith) ∙ sym (le-ltb c nx (omega arith))
    ]

pub residual_least : (t : ℕ → ℕ → ℤ) (n b r nx : ℕ) (xs : List ℤ) (m j : ℕ) → residual t n b r (min nx n) xs m j ≡ residual t n b r nx xs m j
unfolding residual
residual_least t n b r nx xs m j =
    stage_two_cong t n (stage_two_shift b r) _ _ m j
    (λ c hc. intermediate_cong t n r (columns_read (min nx n) (block_at n xs)) (columns_read nx (block_at n xs)) m c (λ k hk. read k c hc))
  where
    read : (k c : ℕ) → c < n → columns_read (min nx n) (block_at n xs) k c ≡ columns_read nx (block_at n xs) k c
    read k c hc = unfold columns_read in ap (λ (s : Bool). cond s (block_at n xs k c) (pos 0)) (least_test n nx c hc)

pub block_least : (t : ℕ → ℕ → ℤ) (n b r nx : ℕ) (xs out : List ℤ)
    → overwrite (n * n) (row_order n (residual t n b r (min nx n) xs)) out ≡ overwrite (n * n) (row_order n (residual t n b r nx xs)) out
block_least t n b r nx xs out =
    overwrite_cong (n * n) (row_order n (residual t n b r (min nx n) xs)) (row_order n (residual t n b r nx xs)) out
    (row_order_cong n (residual t n b r (min nx n) xs) (residual t n b r nx xs) (λ m c hm hc. residual_least t n b r nx xs m c))

pub first_outside_least : (r n nx : ℕ) (xs : List ℤ) → first_outside r n (min nx n) xs ≡ first_outside r n nx xs
unfolding first_outside outside_at
first_outside_least r n nx xs =
    first_where_cong (n * n) (outside_at r n (min nx n) xs) (outside_at r n nx xs)
    (λ i h. ap (λ (s : Bool). s && outside_range r (get_or xs i (pos 0))) (least_test n nx (i % n) (cell_column n i h)))

pub plain_needs : (kind : Kind) (n b nx : ℕ) (xs : List ℤ) (room : ℕ) → PlainNeeds kind n b nx xs room → PlainNeeds kind n b nx (map (λ (x : ℤ). x) xs) room
plain_needs kind n b nx xs room p = subst (λ (zs : List ℤ). PlainNeeds kind n b nx zs room) (sym (map-id xs)) p

pub plain_result : (t : ℕ → ℕ → ℤ) (n b nx : ℕ) (xs ys zs : List ℤ)
    → map (λ (x : ℤ). x) zs ≡ overwrite (n * n) (row_order n (residual t n b 15 nx (map (λ (x : ℤ). x) xs))) (map (λ (x : ℤ). x) ys)
    → zs ≡ overwrite (n * n) (row_order n (residual t n b 15 nx xs)) ys
plain_result t n b nx xs ys zs e =
    sym (map-id zs) ∙ e ∙ ap₂ (λ (u v : List ℤ). overwrite (n * n) (row_order n (residual t n b 15 nx u)) v) (map-id xs) (map-id ys)
