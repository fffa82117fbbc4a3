-- Laws of rotation.
--   rotated_index_lem                  at size 4 rotation exchanges index i and index 15 - i
--   Turned, turned_none, -more, -all   a loop that has exchanged the first and the last k of 16 elements
--   rotated_cong, rotated_within   blocks that agree, and their bound
--   rotates, rotates_not           a block of any size, rotated or not
use mathlib.Core.Path.{◌≡◌, refl, sym, ap, subst, ◌∙◌}
use mathlib.Core.Bool.{Bool, true, false, cond}
use mathlib.Core.List.{List}
use Prim.Native.Nat.{ℕ, ◌+◌, ◌-◌, ◌*◌, ◌/◌, ◌%◌, ◌≤◌, ◌<◌}
use native.Mathlib.Nat.{not-suc-le-zero}
use native.Mathlib.Decide.{ℕ_discrete, dec_lt}
use native.Mathlib.Omega.{arith}
use lib.Arith.{digits_lt}
use lib.Dec.{T}
use lib.IntN.{ℤ, pos}
use lib.ListN.{length}
use lib.Seq.{ext_get_or}
use Rattle.std.specs.List.{SwappedAt}
use Rattle.integers.specs.Lists.{overwrite}
use Rattle.integers.specs.Within.{Within}
use Rattle.integers.proofs.ListsLaws.{overwrite-length, overwrite-get_or, overwrite-get_or-past}
use Rattle.refusal.specs.Condition.{rotation_refused}
use Rattle.refusal.proofs.ConditionLaws.{rotation_accepted}
use Rattle.block_tool_rules.specs.Modification.{rotated_index, rotated}
use Rattle.h265.proofs.TransformLaws.{cell_row}
use Rattle.block_tool_work.specs.Work.{at}

pub rotated_index_lem : (f : ℕ → ℤ) (i : ℕ) → i < 16 → rotated true 4 f i ≡ f (15 - i)
unfolding rotated rotated_index
rotated_index_lem f i h = ap f (let e : (3 - i / 4) * 4 + (3 - i % 4) ≡ 15 - i = omega arith in e)

-- ---- one pair after the other
pub record Turned (k : ℕ) (xs ys : List ℤ) : Type 0 where
  pub same : length ys ≡ length xs
  pub low : (j : ℕ) → j < k → at ys j ≡ at xs (15 - j)
  pub high : (j : ℕ) → j < k → at ys (15 - j) ≡ at xs j
  pub rest : (j : ℕ) → k ≤ j → j + k < 16 → at ys j ≡ at xs j
  pub past : (j : ℕ) → 16 ≤ j → at ys j ≡ at xs j

pub turned_none : {xs : List ℤ} → Turned 0 xs xs
turned_none = record { same = refl; low = λ j h. absurd (not-suc-le-zero h); high = λ j h. absurd (not-suc-le-zero h); rest = λ j a b. refl; past = λ j h. refl }

pub turned_more : {k : ℕ} {xs ys zs : List ℤ} → Turned k xs ys → k < 8 → length zs ≡ length ys → SwappedAt ys zs k (15 - k) → Turned (k + 1) xs zs
turned_more {k} {xs} {ys} {zs} t h e s =
    record {
      same = e ∙ t.same;
      low = λ j a.
          elim (ℕ_discrete j k) [
            | yes q ↦ rw q (s.0 (pos 0) ∙ t.rest (15 - k) (omega arith) (omega arith))
            | no q ↦ other j q (λ w. omega arith) ∙ t.low j (omega arith)
          ];
      high = λ j a.
          elim (ℕ_discrete j k) [
            | yes q ↦ rw q (s.1 (pos 0) ∙ t.rest k (omega arith) (omega arith))
            | no q ↦ other (15 - j) (λ w. omega arith) (λ w. omega arith) ∙ t.high j (omega arith)
          ];
      rest = λ j a b. other j (λ w. omega arith) (λ w. omega arith) ∙ t.rest j (omega arith) (omega arith);
      past = λ j a. other j (λ w. omega arith) (λ w. omega arith) ∙ t.past j a;
    }
  where
    other : (j : ℕ) → (j ≡ k → ⊥) → (j ≡ 15 - k → ⊥) → at zs j ≡ at ys j
    other j a b = s.2 j (pos 0) a b

pub turned_all : {xs ys : List ℤ} → Turned 8 xs ys → 16 ≤ length xs → ys ≡ overwrite 16 (rotated true 4 (at xs)) xs
turned_all {xs} {ys} t l =
    ext_get_or (pos 0) ys (overwrite 16 (rotated true 4 (at xs)) xs) (t.same ∙ sym (overwrite-length 16 (rotated true 4 (at xs)) xs l)) each
  where
    inside : (j : ℕ) → j < 16 → at ys j ≡ at xs (15 - j)
    inside j h =
        elim (dec_lt j 8) [
          | yes q ↦ t.low j q
          | no q ↦ subst (λ (i : ℕ). at ys i ≡ at xs (15 - j)) (omega arith) (t.high (15 - j) (omega arith))
        ]

    each : (j : ℕ) → j < length ys → at ys j ≡ at (overwrite 16 (rotated true 4 (at xs)) xs) j
    each j h =
        elim (dec_lt j 16) [
          | yes q ↦ inside j q ∙ sym (rotated_index_lem (at xs) j q) ∙ sym (overwrite-get_or 16 (rotated true 4 (at xs)) xs j (pos 0) q)
          | no q ↦ t.past j (omega arith) ∙ sym (overwrite-get_or-past 16 (rotated true 4 (at xs)) xs j (pos 0) (omega arith))
        ]

-- ---- whole blocks
-- a place of the block, rotated or not
place_lt : (t : Bool) (n i : ℕ) → i < n * n → cond t (rotated_index n i) i < n * n
unfolding rotated_index
place_lt true n i h =
    let l : i / n < n = cell_row n i h in
    digits_lt {q = n - 1 - i / n} {m = n} {r = n - 1 - i % n} {c = n} (omega arith) (omega arith)
place_lt false n i h = h

pub rotated_cong : (t : Bool) (n : ℕ) (f g : ℕ → ℤ) → ((j : ℕ) → j < n * n → f j ≡ g j) → (i : ℕ) → i < n * n → rotated t n f i ≡ rotated t n g i
unfolding rotated
rotated_cong t n f g e i h = e (cond t (rotated_index n i) i) (place_lt t n i h)

pub rotated_within : (t : Bool) (n : ℕ) (f : ℕ → ℤ) {b : ℕ} → ((j : ℕ) → j < n * n → Within b (f j)) → (i : ℕ) → i < n * n → Within b (rotated t n f i)
unfolding rotated
rotated_within t n f w i h = w (cond t (rotated_index n i) i) (place_lt t n i h)

-- a block written onto itself
pub overwrite_self : (k : ℕ) (xs : List ℤ) → k ≤ length xs → overwrite k (at xs) xs ≡ xs
overwrite_self k xs l = ext_get_or (pos 0) (overwrite k (at xs) xs) xs (overwrite-length k (at xs) xs l) each
  where
    each : (i : ℕ) → i < length (overwrite k (at xs) xs) → at (overwrite k (at xs) xs) i ≡ at xs i
    each i h =
        elim (dec_lt i k) [
          | yes q ↦ overwrite-get_or k (at xs) xs i (pos 0) q
          | no q ↦ overwrite-get_or-past k (at xs) xs i (pos 0) (omega arith)
        ]

module _ (n : ℕ) (xs : List ℤ) {ys : List ℤ} where
  pub rotates : (t : Bool) → rotation_refused t n ≡ false → t ≡ true → ys ≡ overwrite 16 (rotated true 4 (at xs)) xs → ys ≡ overwrite (n * n) (rotated t n (at xs)) xs
  rotates true r e q = q ∙ ap (λ (m : ℕ). overwrite (m * m) (rotated true m (at xs)) xs) (sym (rotation_accepted n r))
  rotates false r e q = absurd (subst T (sym e) tt)

  pub rotates_not : (t : Bool) → t ≡ false → n * n ≤ length xs → ys ≡ xs → ys ≡ overwrite (n * n) (rotated t n (at xs)) xs
  unfolding rotated
  rotates_not true e l q = absurd (subst T e tt)
  rotates_not false e l q = q ∙ sym (overwrite_self (n * n) xs l)
