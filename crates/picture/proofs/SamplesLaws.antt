-- Laws of rebuilt samples and of their places in a plane.
--   sample_max_most             a sample has at most 16 bits
--   rebuilt_moved              the limited sum is the prediction and the residual limited to what it leaves
--   sum_least, sum_most        the sum of a residual in between
--   placed_none, placed_more   a row of which c samples are put
--   Rows, rows_none, rows_more, rows_all            a block of which k rows are put
--   rebuilt_stands             where a sample of the block stands in the plane
--   below_more                 bits gathered from one sample more
use mathlib.Core.Path.{◌≡◌, refl, sym, ap, ap₂, subst, ◌∙◌}
use mathlib.Core.Bool.{Bool, true, false, ◌&&◌, cond}
use mathlib.Core.List.{List}
use mathlib.Core.Logic.{◌⊎◌, ⊎_elim, inl, inr}
use Prim.Native.Nat.{ℕ, ◌+◌, ◌-◌, ◌*◌, ◌/◌, ◌%◌, ◌≤◌, ◌<◌}
use native.Mathlib.Nat.{div-add-mod', le_trans}
use native.Mathlib.Decide.{ℕ_discrete, dec_lt}
use native.Mathlib.Omega.{arith}
use borrow.Author.Tests.{lt-ltb, le-ltb, le-leb, lt-leb}
use lib.Arith.{digits_div, digits_mod}
use lib.Bits.{bit_or, or_add_and, and_le_l, and_le_r}
use lib.IntN.{ℤ, pos, neg_ℤ, ◌+ℤ◌, ◌-ℤ◌}
use lib.ListN.{length, get_or, set, length-set}
use lib.Pow.{pow_mono}
use lib.Seq.{get_or-set_same, get_or-set_other, ext_get_or}
use lib.Signed.{lt_z, ◌≤ℤ◌, ◌<ℤ◌}
use Rattle.std.proofs.Math.IntN.{+ℤ_comm, -ℤ-+ℤ_cancel}
use Rattle.integers.specs.Clip.{clip3}
use Rattle.integers.specs.Lists.{tabulate}
use Rattle.integers.proofs.LinearLaws.{parts_add, parts_neg, le_in, le_out, lt_in, lt_out}
use Rattle.integers.proofs.MachineLaws.{lt_z_true, lt_z_false}
use Rattle.integers.proofs.ClipLaws.{clip3_low, clip3_high, clip3_id}
use Rattle.integers.proofs.ListsLaws.{tabulate-length, tabulate-get_or}
use Rattle.picture.specs.Samples.{sample_max, rebuilt_at, among, placed_at, rebuilt_plane}
use Rattle.picture.specs.Rebuild.{Below, Placed}

pub sample_max_most : (b : ℕ) → b ≤ 16 → sample_max b ≤ 65535
unfolding sample_max
sample_max_most b h = omega (arith, pow_mono h)

-- ---- one sample
module _ (top p : ℕ) (z : ℤ) where
  below : lt_z z (pos 0 -ℤ pos p) ≡ true → (pos p +ℤ z) <ℤ pos 0
  below e =
      let h : z <ℤ (pos 0 -ℤ pos p) = lt_z_true e in
      lt_out (pos p +ℤ z) (pos 0) (omega (arith, lt_in h, parts_add (pos 0) (neg_ℤ (pos p)), parts_neg (pos p), parts_add (pos p) z))

  above : lt_z (pos top -ℤ pos p) z ≡ true → pos top <ℤ (pos p +ℤ z)
  above e =
      let h : (pos top -ℤ pos p) <ℤ z = lt_z_true e in
      lt_out (pos top) (pos p +ℤ z) (omega (arith, lt_in h, parts_add (pos top) (neg_ℤ (pos p)), parts_neg (pos p), parts_add (pos p) z))

  pub sum_least : lt_z z (pos 0 -ℤ pos p) ≡ false → pos 0 ≤ℤ (pos p +ℤ z)
  sum_least e =
      let h : (pos 0 -ℤ pos p) ≤ℤ z = lt_z_false e in
      le_out (pos 0) (pos p +ℤ z) (omega (arith, le_in h, parts_add (pos 0) (neg_ℤ (pos p)), parts_neg (pos p), parts_add (pos p) z))

  pub sum_most : lt_z (pos top -ℤ pos p) z ≡ false → (pos p +ℤ z) ≤ℤ pos top
  sum_most e =
      let h : z ≤ℤ (pos top -ℤ pos p) = lt_z_false e in
      le_out (pos p +ℤ z) (pos top) (omega (arith, le_in h, parts_add (pos top) (neg_ℤ (pos p)), parts_neg (pos p), parts_add (pos p) z))

  -- the sum limited, with the limit at the residual
  pub rebuilt_moved : p ≤ top → pos p +ℤ clip3 (pos 0 -ℤ pos p) (pos top -ℤ pos p) z ≡ clip3 (pos 0) (pos top) (pos p +ℤ z)
  rebuilt_moved h = by_tests (lt_z z (pos 0 -ℤ pos p)) (lt_z (pos top -ℤ pos p) z) refl refl
    where
      back : (t : ℤ) → pos p +ℤ (t -ℤ pos p) ≡ t
      back t = +ℤ_comm (pos p) (t -ℤ pos p) ∙ -ℤ-+ℤ_cancel t (pos p)

      by_tests : (u v : Bool) → lt_z z (pos 0 -ℤ pos p) ≡ u → lt_z (pos top -ℤ pos p) z ≡ v → pos p +ℤ clip3 (pos 0 -ℤ pos p) (pos top -ℤ pos p) z ≡ clip3 (pos 0) (pos top) (pos p +ℤ z)
      by_tests true v e d = rw (clip3_low (pos 0 -ℤ pos p) (pos top -ℤ pos p) z (lt_z_true e), clip3_low (pos 0) (pos top) (pos p +ℤ z) (below e)) (back (pos 0))
      by_tests false true e d = rw (clip3_high (pos 0 -ℤ pos p) (pos top -ℤ pos p) z (lt_z_false e) (lt_z_true d), clip3_high (pos 0) (pos top) (pos p +ℤ z) (sum_least e) (above d)) (back (pos top))
      by_tests false false e d = rw (clip3_id (pos 0 -ℤ pos p) (pos top -ℤ pos p) z (lt_z_false e) (lt_z_false d), clip3_id (pos 0) (pos top) (pos p +ℤ z) (sum_least e) (sum_most d))

or_le : (a b : ℕ) → (a ≤ bit_or a b) × (b ≤ bit_or a b)
or_le a b = (omega (arith, or_add_and a b, and_le_r a b), omega (arith, or_add_and a b, and_le_l a b))

-- bits gathered reach every sample
pub below_more : {bits k : ℕ} {xs : List ℕ} → Below bits k xs → Below (bit_or bits (get_or xs k 0)) (k + 1) xs
below_more {bits} {k} {xs} f =
    record {
      at = λ i l. elim (ℕ_discrete i k) [
        | yes q ↦ rw q (or_le bits (get_or xs k 0)).1
        | no q ↦ le_trans (f.at i (omega arith)) (or_le bits (get_or xs k 0)).0
      ];
    }

-- ---- numbers from `first` on
module _ (first k i : ℕ) where
  among_true : first ≤ i → i < first + k → among first k i ≡ true
  unfolding among
  among_true h l = rw (le-leb first i h, lt-ltb i (first + k) l)

  among-before : i < first → among first k i ≡ false
  unfolding among
  among-before h = rw (lt-leb first i h)

  among-past : first ≤ i → first + k ≤ i → among first k i ≡ false
  unfolding among
  among-past h l = rw (le-leb first i h, le-ltb i (first + k) l)

  among_cases : (Q : Bool → Type 0) → (first ≤ i → i < first + k → Q true) → (i < first → Q false) → (first + k ≤ i → Q false) → Q (among first k i)
  among_cases Q f g h =
      elim (dec_lt i first) [
        | yes q ↦ subst Q (sym (among-before q)) (g q)
        | no q ↦ elim (dec_lt i (first + k)) [
          | yes l ↦ subst Q (sym (among_true (omega arith) l)) (f (omega arith) l)
          | no l ↦ subst Q (sym (among-past (omega arith) (omega arith))) (h (omega arith))
        ]
      ]

  -- one number more changes nothing for the others
  among_other : (i ≡ first + k → ⊥) → among first k i ≡ among first (k + 1) i
  among_other ne =
      among_cases (λ t. t ≡ among first (k + 1) i)
      (λ h l. sym (more_true h l)) (λ h. sym (more_before h)) (λ h. sym (more_past h))
    where
      more_true : first ≤ i → i < first + k → among first (k + 1) i ≡ true
      more_true h l = unfold among in rw (le-leb first i h, lt-ltb i (first + (k + 1)) (omega arith))

      more_before : i < first → among first (k + 1) i ≡ false
      more_before h = unfold among in rw (lt-leb first i h)

      more_past : first + k ≤ i → among first (k + 1) i ≡ false
      more_past h =
          let l : first + (k + 1) ≤ i = omega (arith, ne) in
          unfold among in rw (le-leb first i (omega arith), le-ltb i (first + (k + 1)) l)

-- ---- one row
pub placed_none : {at : ℕ} {f : ℕ → ℕ} {xs : List ℕ} → Placed at 0 f xs xs
placed_none {at} {f} {xs} =
    record {
      same = refl;
      is = λ i. among_cases at 0 i (λ t. get_or xs i 0 ≡ cond t (f (i - at)) (get_or xs i 0)) (λ h l. absurd (let b : ⊥ = omega arith in b)) (λ h. refl) (λ h. refl);
    }

pub placed_more : {at c : ℕ} {f : ℕ → ℕ} {xs zs : List ℕ} {v : ℕ} → Placed at c f xs zs → at + c < length xs → v ≡ f c → Placed at (c + 1) f xs (set zs (at + c) v)
placed_more {at} {c} {f} {xs} {zs} {v} s h e =
    record { same = length-set zs (at + c) v ∙ s.same; is = λ i. elim (ℕ_discrete i (at + c)) [ yes q ↦ at_last i q | no q ↦ elsewhere i q ] }
  where
    at_last : (i : ℕ) → i ≡ at + c → get_or (set zs (at + c) v) i 0 ≡ cond (among at (c + 1) i) (f (i - at)) (get_or xs i 0)
    at_last i q =
        rw (among_true at (c + 1) i (omega arith) (omega arith))
        (ap (λ (j : ℕ). get_or (set zs (at + c) v) j 0) q
        ∙ get_or-set_same zs (at + c) v 0 (omega (arith, s.same))
        ∙ e ∙ ap f (omega arith))

    elsewhere : (i : ℕ) → (i ≡ at + c → ⊥) → get_or (set zs (at + c) v) i 0 ≡ cond (among at (c + 1) i) (f (i - at)) (get_or xs i 0)
    elsewhere i q =
        get_or-set_other zs (at + c) i v 0 q ∙ s.is i ∙ ap (λ (t : Bool). cond t (f (i - at)) (get_or xs i 0)) (among_other at c i q)

-- ---- a block
pub record Rows (k n stride x y : ℕ) (f : ℕ → ℕ) (before after : List ℕ) : Type 0 where
  pub same : length after ≡ length before
  pub is : (i : ℕ) → get_or after i 0 ≡ placed_at k n stride x y f before i

and_false : (t : Bool) → t && false ≡ false
and_false true = refl
and_false false = refl

module _ {n stride x y : ℕ} {f : ℕ → ℕ} {before : List ℕ} where
  pub rows_none : Rows 0 n stride x y f before before
  unfolding placed_at
  rows_none =
      record {
        same = refl;
        is = λ i. among_cases y 0 (i / stride) (λ t. get_or before i 0 ≡ cond (t && among x n (i % stride)) (f ((i / stride - y) * n + (i % stride - x))) (get_or before i 0))
            (λ h l. absurd (let b : ⊥ = omega arith in b)) (λ h. refl) (λ h. refl);
      }

  pub rows_all : {after : List ℕ} → Rows n n stride x y f before after → after ≡ tabulate (length before) (placed_at n n stride x y f before)
  rows_all {after} s =
      ext_get_or 0 after (tabulate (length before) (placed_at n n stride x y f before)) (s.same ∙ sym (tabulate-length _ _))
      (λ i h. s.is i ∙ sym (tabulate-get_or (length before) (placed_at n n stride x y f before) i 0 (omega (arith, s.same))))

  module _ {k : ℕ} {mid after : List ℕ} (s : Rows k n stride x y f before mid) (t : Placed ((y + k) * stride + x) n (λ c. f (k * n + c)) mid after) (h : x + n ≤ stride) where
    -- an index of row k
    inside : (i : ℕ) → (y + k) * stride + x ≤ i → i < (y + k) * stride + x + n → f (k * n + (i - ((y + k) * stride + x))) ≡ placed_at (k + 1) n stride x y f before i
    unfolding placed_at
    inside i l m =
        let c : ℕ = i - ((y + k) * stride + x) in
        let q : i ≡ (y + k) * stride + (x + c) = omega arith in
        let short : x + c < stride = omega arith in
        let row : i / stride ≡ y + k = ap (λ (j : ℕ). j / stride) q ∙ digits_div (y + k) short in
        let column : i % stride ≡ x + c = ap (λ (j : ℕ). j % stride) q ∙ digits_mod (y + k) short in
        rw (row, column, among_true y (k + 1) (y + k) (omega arith) (omega arith), among_true x n (x + c) (omega arith) (omega arith))
        (ap₂ (λ (a b : ℕ). f (a * n + b)) (omega arith) (omega arith))

    -- any other index
    outside : (i : ℕ) → (i < (y + k) * stride + x) ⊎ ((y + k) * stride + x + n ≤ i) → placed_at k n stride x y f before i ≡ placed_at (k + 1) n stride x y f before i
    unfolding placed_at
    outside i e =
        elim (ℕ_discrete (i / stride) (y + k)) [
          | yes q ↦ beside q k ∙ sym (beside q (k + 1))
          | no q ↦ ap (λ (v : Bool). cond (v && among x n (i % stride)) (f ((i / stride - y) * n + (i % stride - x))) (get_or before i 0)) (among_other y k (i / stride) q)
        ]
      where
        whole : i / stride ≡ y + k → (y + k) * stride + i % stride ≡ i
        whole q = ap (λ (j : ℕ). j * stride + i % stride) (sym q) ∙ div-add-mod' i stride

        column : i / stride ≡ y + k → among x n (i % stride) ≡ false
        column q =
            ⊎_elim (λ l. among-before x n (i % stride) (omega (arith, whole q)))
            (λ l. among-past x n (i % stride) (omega (arith, whole q)) (omega (arith, whole q))) e

        beside : i / stride ≡ y + k → (m : ℕ) → placed_at m n stride x y f before i ≡ get_or before i 0
        beside q m = rw (column q, and_false (among y m (i / stride)))

    pub rows_more : Rows (k + 1) n stride x y f before after
    rows_more =
        record {
          same = t.same ∙ s.same;
          is = λ i. t.is i ∙ among_cases ((y + k) * stride + x) n i (λ v. cond v (f (k * n + (i - ((y + k) * stride + x)))) (get_or mid i 0) ≡ placed_at (k + 1) n stride x y f before i)
              (inside i) (λ l. s.is i ∙ outside i (inl l)) (λ l. s.is i ∙ outside i (inr l));
        }

-- ---- the definition in the request's terms: sample (r, c) of the block stands at (y + r) × stride + x + c
pub rebuilt_stands : (n b : ℕ) (residual : List ℤ) (prediction : List ℕ) (stride x y : ℕ) (plane : List ℕ) (r c : ℕ)
    → r < n → c < n → x + n ≤ stride → (y + r) * stride + (x + c) < length plane
    → get_or (rebuilt_plane n b residual prediction stride x y plane) ((y + r) * stride + (x + c)) 0 ≡ rebuilt_at (sample_max b) residual prediction (r * n + c)
unfolding rebuilt_plane placed_at
rebuilt_stands n b residual prediction stride x y plane r c hr hc h l =
    let short : x + c < stride = omega arith in
    tabulate-get_or (length plane) (placed_at n n stride x y (rebuilt_at (sample_max b) residual prediction) plane) ((y + r) * stride + (x + c)) 0 l
    ∙ rw (digits_div (y + r) short, digits_mod (y + r) short, among_true y n (y + r) (omega arith) (omega arith), among_true x n (x + c) (omega arith) (omega arith))
    (ap₂ (λ (i j : ℕ). rebuilt_at (sample_max b) residual prediction (i * n + j)) (omega arith) (omega arith))
