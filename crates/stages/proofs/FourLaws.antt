-- A block of 4 points, whose intermediate is held in four vectors.
--   turned            the intermediate as a list, of which vector r holds row r
--   turned_filled     it is what stage one stores of the columns read
--   turned_values     and what stage two reads
--   column_as         a value of a column that is read, or zero
--   line_none         a column of zeros gives a row of zeros
use mathlib.Core.Path.{◌≡◌, sym, ap, ap₂, ◌∙◌}
use mathlib.Core.List.{List, []}
use Prim.Native.Nat.{ℕ, ◌+◌, ◌*◌, ◌/◌, ◌%◌, ◌≤◌, ◌<◌}
use native.Mathlib.Decide.{dec_lt}
use native.Mathlib.Omega.{arith}
use lib.IntN.{ℤ, pos, ◌+ℤ◌, ◌*ℤ◌, *ℤ-zero}
use lib.ListN.{get_or, replicate, length-replicate, get_or-eq_default}
use Rattle.integers.specs.Clip.{clip3}
use Rattle.integers.specs.Lists.{tabulate}
use Rattle.integers.specs.Shift.{shift_right}
use Rattle.integers.proofs.SumLaws.{sum-none}
use Rattle.integers.proofs.ListsLaws.{tabulate-length, tabulate-get_or}
use Rattle.h265.specs.Range.{coeff_min, coeff_max, clip_coeff}
use Rattle.h265.specs.Transform.{transform_line, block_at}
use Rattle.transform_1d.specs.Rows.{Filled}
use Rattle.transform_1d.proofs.RowsLaws.{zeros-get_or}
use Rattle.tiles.specs.Tile.{line_by, Values}

-- a value of one of the first nx columns by another name, or zero
pub column_as : {j nx : ℕ} {x y z : ℤ} → (j < nx → x ≡ y) × (nx ≤ j → x ≡ pos 0) → y ≡ z → (j < nx → x ≡ z) × (nx ≤ j → x ≡ pos 0)
column_as p e = (λ h. p.0 h ∙ e, p.1)

pub line_none : (t : ℕ → ℕ → ℤ) (j m : ℕ) → clip_coeff 15 (line_by t 4 (pos 64) 7 [] j m) ≡ pos 0
unfolding line_by transform_line block_at shift_right clip_coeff coeff_min coeff_max clip3
line_none t j m = ap (λ (z : ℤ). clip_coeff 15 (shift_right (z +ℤ pos 64) 7)) (sum-none 4 (λ k. t k m *ℤ pos 0) (λ k l. *ℤ-zero (t k m)))

-- the lists are the columns of the vectors
module _ (ys : ℕ → List ℤ) where
  abbrev turned_at : ℕ → ℤ
  turned_at i = get_or (ys (i % 4)) (i / 4) (pos 0)

  abbrev pub turned : List ℤ
  turned = tabulate 16 turned_at

  turned_in : (r c : ℕ) → r < 4 → c < 4 → get_or turned (r * 4 + c) (pos 0) ≡ get_or (ys c) r (pos 0)
  turned_in r c h l =
      tabulate-get_or 16 turned_at (r * 4 + c) (pos 0) (omega arith)
      ∙ ap₂ (λ (p q : ℕ). get_or (ys p) q (pos 0)) (let e : (r * 4 + c) % 4 ≡ c = omega arith in e) (let e : (r * 4 + c) / 4 ≡ r = omega arith in e)

  pub turned_filled : {g : ℕ → ℕ → ℤ} {nx : ℕ} → nx ≤ 4
      → ((r c : ℕ) → r < 4 → c < 4 → (r < nx → get_or (ys c) r (pos 0) ≡ g r c) × (nx ≤ r → get_or (ys c) r (pos 0) ≡ pos 0))
      → Filled 4 4 g nx (replicate 16 (pos 0)) turned
  turned_filled {g} {nx} h p =
      record {
        long = tabulate-length 16 turned_at ∙ sym (length-replicate 16 (pos 0));
        done = λ r c a b. turned_in r c (omega arith) b ∙ (p r c (omega arith) b).0 a;
        kept = λ i k.
            elim (dec_lt i 16) [
              | yes y ↦ tabulate-get_or 16 turned_at i (pos 0) y ∙ (p (i / 4) (i % 4) (omega arith) (omega arith)).1 (past i k) ∙ sym (zeros-get_or 16 i)
              | no d ↦ get_or-eq_default turned (pos 0) (omega (arith, tabulate-length 16 turned_at)) ∙ sym (zeros-get_or 16 i)
            ];
      }
    where
      past : (i : ℕ) → ((r c : ℕ) → r < nx → c < 4 → i ≡ r * 4 + c → ⊥) → nx ≤ i / 4
      past i k = elim (dec_lt (i / 4) nx) [ yes y ↦ absurd (k (i / 4) (i % 4) y (omega arith) (omega arith)) | no d ↦ omega arith ]

  pub turned_values : (c : ℕ) → c < 4 → Values 4 turned c (ys c)
  turned_values c l = record { at = λ k h. sym (turned_in k c h l) }
