-- Laws of runs and rows that a loop stores.
--   row_unique             two places of one block are in one row only if their rows are equal
--   placed_zero, -suc      no store; one store more
--   placed_all             a run by another name of its length
--   placed_cong            a run of equal values
--   placed_append          a run after a run
--   filled_zero, -suc      no row; one row more, stored as a run
--   filled-all             the same rows by another name of their number
--   filled-overwrite       all columns of the first r rows: the list with its first r × n elements replaced
--   filled_cong            rows of equal values
--   zeros-get_or             a list of zeros reads as zero
use mathlib.Core.Path.{◌≡◌, refl, sym, ap, ◌∙◌, subst}
use mathlib.Core.List.{List}
use Prim.Native.Nat.{ℕ, zero, suc, ◌+◌, ◌*◌, ◌-◌, ◌/◌, ◌%◌, ◌≤◌, ◌<◌}
use native.Mathlib.Nat.{not-suc-le-zero, div-add-mod', mod-lt, div-lt_iff_lt-mul}
use native.Mathlib.Decide.{ℕ_discrete, dec_lt}
use native.Mathlib.Omega.{arith}
use lib.Arith.{digits_lt, digits_div}
use lib.IntN.{ℤ, pos}
use lib.ListN.{length, get_or, set, length-set, replicate}
use lib.Seq.{ext_get_or, get_or-set_same, get_or-set_other}
use Rattle.integers.specs.Lists.{overwrite}
use Rattle.integers.proofs.ListsLaws.{overwrite-length, overwrite-get_or, overwrite-get_or-past}
use Rattle.h265.specs.Transform.{row_order}
use Rattle.transform_1d.specs.Rows.{Placed, Filled}

pub row_unique : (n r q c d : ℕ) → c < n → d < n → r * n + c ≡ q * n + d → r ≡ q
row_unique n r q c d h k e = sym (digits_div r h) ∙ ap (λ (i : ℕ). i / n) e ∙ digits_div q k

-- ---- runs
pub placed_zero : {at : ℕ} {f : ℕ → ℤ} {xs : List ℤ} → Placed at 0 f xs xs
placed_zero = record { long = refl; done = λ j h. absurd (not-suc-le-zero h); kept = λ i h. refl }

pub placed_suc : {at w : ℕ} {f : ℕ → ℤ} {xs ys : List ℤ} {i : ℕ} {v : ℤ}
    → Placed at w f xs ys → i ≡ at + w → i < length xs → v ≡ f w → Placed at (w + 1) f xs (set ys i v)
placed_suc {at} {w} {f} {xs} {ys} {i} {v} p q h e =
    subst (λ (k : ℕ). Placed at (w + 1) f xs (set ys k v)) (sym q) record {
      long = length-set ys (at + w) v ∙ p.long;
      done = λ j l.
          elim (ℕ_discrete j w) [
            | yes y ↦ rw y (get_or-set_same ys (at + w) v (pos 0) (omega (arith, p.long, q)) ∙ e)
            | no d ↦ get_or-set_other ys (at + w) (at + j) v (pos 0) (λ q. d (omega arith)) ∙ p.done j (omega arith)
          ];
      kept = λ i k. get_or-set_other ys (at + w) i v (pos 0) (λ q. k w (omega arith) q) ∙ p.kept i (λ j l q. k j (omega arith) q);
    }

pub placed_all : {at : ℕ} (w : ℕ) {v : ℕ} {f : ℕ → ℤ} {xs ys : List ℤ} → v ≡ w → Placed at v f xs ys → Placed at w f xs ys
placed_all {at} w {f = f} {xs} {ys} e p = subst (λ (k : ℕ). Placed at k f xs ys) e p

pub placed_cong : {at w : ℕ} {f g : ℕ → ℤ} {xs ys : List ℤ} → ((j : ℕ) → j < w → f j ≡ g j) → Placed at w f xs ys → Placed at w g xs ys
placed_cong h p = record { long = p.long; done = λ j l. p.done j l ∙ h j l; kept = p.kept }

pub placed_append : {at w v : ℕ} {f : ℕ → ℤ} {xs ys zs : List ℤ}
    → Placed at w f xs ys → Placed (at + w) v (λ j. f (w + j)) ys zs → Placed at (w + v) f xs zs
placed_append {at} {w} {v} {f} {xs} {ys} {zs} p q =
    record {
      long = q.long ∙ p.long;
      done = λ j l.
          elim (dec_lt j w) [
            | yes y ↦ q.kept (at + j) (λ k m e. omega arith) ∙ p.done j y
            | no d ↦ ap (λ (i : ℕ). get_or zs i (pos 0)) (let e : at + j ≡ at + w + (j - w) = omega arith in e) ∙ q.done (j - w) (omega arith) ∙ ap f (let e : w + (j - w) ≡ j = omega arith in e)
          ];
      kept = λ i k. q.kept i (λ j l e. k (w + j) (omega arith) (omega arith)) ∙ p.kept i (λ j l e. k j (omega arith) e);
    }

-- ---- rows
pub filled_zero : {n w : ℕ} {g : ℕ → ℕ → ℤ} {xs : List ℤ} → Filled n w g 0 xs xs
filled_zero = record { long = refl; done = λ r c h. absurd (not-suc-le-zero h); kept = λ i h. refl }

pub filled_suc : {n w r : ℕ} {g : ℕ → ℕ → ℤ} {xs ys zs : List ℤ}
    → w ≤ n → Filled n w g r xs ys → Placed (r * n) w (g r) ys zs → Filled n w g (r + 1) xs zs
filled_suc {n} {w} {r} {g} {xs} {ys} {zs} h p q =
    record {
      long = q.long ∙ p.long;
      done = λ k c l m.
          elim (ℕ_discrete k r) [
            | yes y ↦ rw y (q.done c m)
            | no d ↦ q.kept (k * n + c) (λ j a e. d (row_unique n k r c j (omega arith) (omega arith) e)) ∙ p.done k c (omega arith) m
          ];
      kept = λ i k. q.kept i (λ j l e. k r j (omega arith) l e) ∙ p.kept i (λ a c l m e. k a c (omega arith) m e);
    }

pub filled-all : {n w : ℕ} (r : ℕ) {q : ℕ} {g : ℕ → ℕ → ℤ} {xs ys : List ℤ} → q ≡ r → Filled n w g q xs ys → Filled n w g r xs ys
filled-all {n} {w} r {g = g} {xs} {ys} e p = subst (λ (k : ℕ). Filled n w g k xs ys) e p

pub filled-overwrite : {n : ℕ} (r : ℕ) {g : ℕ → ℕ → ℤ} {xs ys : List ℤ}
    → 0 < n → Filled n n g r xs ys → r * n ≤ length xs → ys ≡ overwrite (r * n) (row_order n g) xs
unfolding row_order
filled-overwrite {n} r {g} {xs} {ys} h p long =
    ext_get_or (pos 0) ys (overwrite (r * n) (row_order n g) xs) (p.long ∙ sym (overwrite-length (r * n) (row_order n g) xs long))
    (λ i l. elim (dec_lt i (r * n)) [
      | yes y ↦ ap (λ (j : ℕ). get_or ys j (pos 0)) (sym (div-add-mod' i n))
          ∙ p.done (i / n) (i % n) ((div-lt_iff_lt-mul h).1 y) (mod-lt i h)
          ∙ sym (overwrite-get_or (r * n) (row_order n g) xs i (pos 0) y)
      | no d ↦ p.kept i (λ k c a b e. absurd (let m = digits_lt {q = k} {m = r} {r = c} {c = n} a b in omega arith))
          ∙ sym (overwrite-get_or-past (r * n) (row_order n g) xs i (pos 0) (omega arith))
    ])

pub filled_cong : {n w r : ℕ} {f g : ℕ → ℕ → ℤ} {xs ys : List ℤ} → ((k c : ℕ) → k < r → c < w → f k c ≡ g k c) → Filled n w f r xs ys → Filled n w g r xs ys
filled_cong h p = record { long = p.long; done = λ k c a b. p.done k c a b ∙ h k c a b; kept = p.kept }

-- ---- lists of zeros
pub zeros-get_or : (k i : ℕ) → get_or (replicate k (pos 0)) i (pos 0) ≡ pos 0
zeros-get_or zero i = refl
zeros-get_or (suc k) zero = refl
zeros-get_or (suc k) (suc i) = zeros-get_or k i
