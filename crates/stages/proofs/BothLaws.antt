-- Laws of both stages by lines over columns: what they give is the residual.
--   stored_small         what stage one stored is 16 bits wide
--   line_two             a line over what stage one stored is the residual
--   both_rows            so are its rows, by a function of them
--   wide_not             one of the two outputs is used
--   rows_all             a block has no row past its last
--   rows_rest            where the rest of a block is zero, its first rows are in use
--   read_rows            the first rows of a block, as they are read, are the block
--   same_block           what both stages give of values that are the block's is the residual of the block
use mathlib.Core.Path.{◌≡◌, sym, ap, ◌∙◌, subst}
use mathlib.Core.Bool.{true, false}
use mathlib.Core.List.{List}
use Prim.Native.Nat.{ℕ, ◌+◌, ◌-◌, ◌*◌, ◌≤◌, ◌<◌}
use native.Mathlib.Nat.{mul-le-mul_right}
use native.Mathlib.Decide.{dec_lt}
use native.Mathlib.Omega.{arith}
use lib.Arith.{digits_lt}
use lib.IntN.{ℤ, pos}
use lib.ListN.{length, get_or, replicate}
use mir.Syntax.{w16}
use mir.Val.{SFits}
use Rattle.std.specs.Prelude.{map}
use Rattle.integers.specs.Lists.{overwrite}
use Rattle.integers.specs.Shift.{pow2}
use Rattle.integers.specs.Within.{Within}
use Rattle.h265.specs.Range.{clip_coeff}
use Rattle.h265.specs.Transform.{block_at, row_order, columns_read, stage_one_value, intermediate}
use Rattle.h265.proofs.TransformLaws.{intermediate_cong, stage_two_cong, columns_read_in}
use Rattle.transform_1d.specs.Rows.{Filled}
use Rattle.transform_1d.proofs.RowsLaws.{row_unique, filled_cong, filled-overwrite, zeros-get_or}
use Rattle.coefficients.specs.Rows.{RowsUsed}
use Rattle.tiles.specs.Tile.{first_rows, line_by}
use Rattle.tiles.proofs.TileLaws.{rows_in, rows_past, line_by-stage_two, line_by-intermediate}
use Rattle.stages.specs.Passes.{shifted_residual}
use Rattle.stages.proofs.FinishLaws.{same_read}
use Rattle.stages.proofs.BlockLaws.{intermediate-past, clip_coeff_within}

-- ---- both stages
module _ (t : ℕ → ℕ → ℤ) (n nx w : ℕ) (xs : List ℤ) {d : List ℤ} (f : Filled n n (λ c m. clip_coeff 15 (line_by t n (pos 64) 7 xs c m)) nx (replicate w (pos 0)) d) where
  stored : (m c : ℕ) → m < n → block_at n d c m ≡ intermediate t n 15 (columns_read nx (block_at n xs)) m c
  unfolding block_at
  stored m c h =
      elim (dec_lt c nx) [
        | yes y ↦ f.done c m y h ∙ line_by-intermediate t n xs c m
            ∙ intermediate_cong t n 15 (block_at n xs) (columns_read nx (block_at n xs)) m c (λ k l. sym (columns_read_in nx (block_at n xs) k c y))
        | no b ↦ f.kept (c * n + m) (λ r j p q e. b (subst (λ (i : ℕ). i < nx) (sym (row_unique n c r m j h q e)) p))
            ∙ zeros-get_or w (c * n + m) ∙ sym (intermediate-past t n nx (block_at n xs) m c (omega arith))
      ]

  pub stored_small : (c m : ℕ) → m < n → Within 32768 (get_or d (c * n + m) (pos 0))
  unfolding block_at intermediate
  stored_small c m h =
      subst (λ (z : ℤ). Within 32768 z) (sym (stored m c h)) (clip_coeff_within (stage_one_value t n (columns_read nx (block_at n xs)) m c))

  pub line_two : (s m j : ℕ) → m < n → line_by t n (pow2 (s - 1)) s d m j ≡ shifted_residual t n s nx xs m j
  unfolding shifted_residual
  line_two s m j h =
      line_by-stage_two t n s d m j
      ∙ stage_two_cong t n s (λ i k. block_at n d k i) (intermediate t n 15 (columns_read nx (block_at n xs))) m j (λ c l. stored m c h)

  pub both_rows : (g : ℤ → ℤ) (s : ℕ) {h : ℤ} {out r : List ℤ} → h ≡ pow2 (s - 1) → Filled n n (λ m j. g (line_by t n h s d m j)) n out r
      → Filled n n (λ m j. g (shifted_residual t n s nx xs m j)) n out r
  both_rows g s e p = filled_cong (λ m j a b. ap g (ap (λ (h : ℤ). line_by t n h s d m j) e ∙ line_two s m j a)) p

pub wide_not : {A : Type 0} → false ≡ true → A
wide_not e = absurd (let z : ◌≡◌ {A = ℕ} 0 1 = cc in let b : ⊥ = omega arith in b)

-- ---- the first rows of a block
pub rows_all : (coeff : List ℤ) (n nx : ℕ) → RowsUsed coeff n nx n
rows_all coeff n nx = record { most = omega arith; zero = λ k c l h. absurd (let x : ⊥ = omega arith in x) }

pub rows_rest : {coeff : List ℤ} {n nx q from to : ℕ} → from ≡ q * n → to ≡ n * n → q ≤ n → nx ≤ n
    → ((i : ℕ) → from ≤ i → i < to → get_or coeff i (pos 0) ≡ pos 0) → RowsUsed coeff n nx q
rows_rest {coeff} {n} {nx} {q} {from} {to} e g l h z =
    record {
      most = l;
      zero = λ k c a b d.
          z (k * n + c) (omega (arith, e, mul-le-mul_right n a)) (rw g (digits_lt {q = k} {m = n} {r = c} {c = n} b (omega arith)));
    }

pub read_rows : {A : Type 0} (read value : A → ℤ) → ((x : A) → SFits w16 (value x) → read x ≡ value x) → (q n nx : ℕ) (xs : List A) → nx ≤ n
    → ((k c : ℕ) → k < n → c < nx → SFits w16 (get_or (map value xs) (k * n + c) (pos 0))) → RowsUsed (map value xs) n nx q
    → (k c : ℕ) → k < n → c < nx → get_or (first_rows q n (map read xs)) (k * n + c) (pos 0) ≡ get_or (map value xs) (k * n + c) (pos 0)
read_rows read value law q n nx xs l f u k c hk hc =
    elim (dec_lt k q) [
      | yes y ↦ rows_in q n (map read xs) (k * n + c) (digits_lt {q = k} {m = q} {r = c} {c = n} y (omega arith))
          ∙ same_read read value law xs (k * n + c) (f k c hk hc)
      | no d ↦ rows_past q n (map read xs) (k * n + c) (omega (arith, mul-le-mul_right n (let z : q ≤ k = omega arith in z)))
          ∙ sym (u.zero k c (omega arith) hk hc)
    ]

module _ (t : ℕ → ℕ → ℤ) {n nx : ℕ} (coeff a : List ℤ) (same : (k c : ℕ) → k < n → c < nx → get_or a (k * n + c) (pos 0) ≡ get_or coeff (k * n + c) (pos 0)) where
  same_inter : (m c : ℕ) → intermediate t n 15 (columns_read nx (block_at n a)) m c ≡ intermediate t n 15 (columns_read nx (block_at n coeff)) m c
  unfolding block_at
  same_inter m c =
      elim (dec_lt c nx) [
        | yes y ↦ intermediate_cong t n 15 (columns_read nx (block_at n a)) (columns_read nx (block_at n coeff)) m c
            (λ k h. columns_read_in nx (block_at n a) k c y ∙ same k c h y ∙ sym (columns_read_in nx (block_at n coeff) k c y))
        | no d ↦ intermediate-past t n nx (block_at n a) m c (omega arith) ∙ sym (intermediate-past t n nx (block_at n coeff) m c (omega arith))
      ]

  same_residual : (s m j : ℕ) → shifted_residual t n s nx a m j ≡ shifted_residual t n s nx coeff m j
  unfolding shifted_residual
  same_residual s m j =
      stage_two_cong t n s (intermediate t n 15 (columns_read nx (block_at n a))) (intermediate t n 15 (columns_read nx (block_at n coeff))) m j
      (λ c h. same_inter m c)

  pub same_block : (s : ℕ) {out r : List ℤ} → 0 < n → n * n ≤ length out → Filled n n (shifted_residual t n s nx a) n out r
      → r ≡ overwrite (n * n) (row_order n (shifted_residual t n s nx coeff)) out
  same_block s o h b = filled-overwrite n o (filled_cong (λ m j x y. same_residual s m j) b) h
