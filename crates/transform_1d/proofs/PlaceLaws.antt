-- What stands at a place of the table of 32 points, and of the DST's.
--   TablePlace, table_place, table_entry   the place of an entry of the n-point DCT in the table, and what stands there
--   dst_entry               what stands at place 4 × k + m of the DST's table
use mathlib.Core.Path.{◌≡◌, ap, ap₂, ◌∙◌}
use Prim.Native.Nat.{ℕ, ◌+◌, ◌*◌, ◌/◌, ◌%◌, ◌<◌}
use native.Mathlib.Omega.{arith}
use lib.Dec.{T}
use mathlib.Core.List.{List}
use lib.IntN.{ℤ, pos}
use lib.ListN.{get_or}
use Rattle.integers.specs.Lists.{tabulate}
use Rattle.integers.proofs.ListsLaws.{tabulate-get_or}
use Rattle.h265.specs.Matrix.{trans_matrix32, trans_matrix, dst_matrix}
use Rattle.h265.specs.Range.{is_size}
use Rattle.h265.proofs.RangeLaws.{size_cases}

pub record TablePlace (n k m : ℕ) : Type 0 where
  pub inside : k * (1024 / n) + m < 1024
  pub row : (k * (1024 / n) + m) / 32 ≡ k * (32 / n)
  pub column : (k * (1024 / n) + m) % 32 ≡ m

pub table_place : (n k m : ℕ) → T (is_size n) → k < n → m < n → TablePlace n k m
table_place n k m t hk hm =
    size_cases (λ (s : ℕ). k < s → m < s → TablePlace s k m)
    (λ a b. record { inside = omega arith; row = omega arith; column = omega arith })
    (λ a b. record { inside = omega arith; row = omega arith; column = omega arith })
    (λ a b. record { inside = omega arith; row = omega arith; column = omega arith })
    (λ a b. record { inside = omega arith; row = omega arith; column = omega arith })
    n t hk hm

pub table_entry : {xs : List ℤ} (n k m : ℕ) → xs ≡ tabulate 1024 (λ i. trans_matrix32 (i / 32) (i % 32)) → T (is_size n) → k < n → m < n
    → get_or xs (k * (1024 / n) + m) (pos 0) ≡ trans_matrix n k m
unfolding trans_matrix
table_entry n k m e t hk hm =
    let p = table_place n k m t hk hm in
    ap (λ (l : List ℤ). get_or l (k * (1024 / n) + m) (pos 0)) e
    ∙ tabulate-get_or 1024 (λ i. trans_matrix32 (i / 32) (i % 32)) (k * (1024 / n) + m) (pos 0) p.inside
    ∙ ap₂ trans_matrix32 p.row p.column

pub dst_entry : {xs : List ℤ} (k m : ℕ) → xs ≡ tabulate 16 (λ i. dst_matrix (i / 4) (i % 4)) → k < 4 → m < 4 → get_or xs (4 * k + m) (pos 0) ≡ dst_matrix k m
dst_entry k m e hk hm =
    ap (λ (l : List ℤ). get_or l (4 * k + m) (pos 0)) e
    ∙ tabulate-get_or 16 (λ i. dst_matrix (i / 4) (i % 4)) (4 * k + m) (pos 0) (omega arith)
    ∙ ap₂ dst_matrix (let r : (4 * k + m) / 4 ≡ k = omega arith in r) (let c : (4 * k + m) % 4 ≡ m = omega arith in c)
