-- Laws of the working loops, over the width of the output.
--   flat_at_within, listed_at_within         it is at most 2^22 in size
--   residual_holds                         a residual fits the output
--   output_within                          what an output holds, 32 bits hold
--   by_entry_same, by_entry_fits, by_entry_listed   what is written and counted by the m at every index: the same by equal m, fitting, the block's
--   flat_listed                            without a list every m is 16
--   laid_small, laid_few                   its size, and how often an entry is repeated
--   row_small                              where a row begins
--   row_position                           the position of an index of a row
--   shared_row                             a row that is not the first of those that share their entries has the quotient of the row above
--   stored_rest                            a place that a loop has not come to is as lent
--   fills_none, -more, -to, -then, -first  a loop that lays entries out, one after the other, and the DC number last
--   fills_copy                             the next entry is one that is there
--   coefficients_of_lem, residuals_of          coefficients where they stand, and residuals in their place
--   skip_counted                           the same with the count of the coefficients
--   reads_more                             a store more into an output, by what its elements read as
use mathlib.Core.Path.{◌≡◌, refl, sym, ap, ap₂, subst, ◌∙◌}
use mathlib.Core.Bool.{Bool, true, false}
use mathlib.Core.List.{List, map}
use Prim.Native.Nat.{ℕ, ◌+◌, ◌-◌, ◌*◌, ◌/◌, ◌%◌, ◌^◌, ◌≤◌, ◌<◌}
use native.Mathlib.Nat.{mod-lt, mul-le-mul}
use native.Mathlib.Decide.{dec_lt}
use native.Mathlib.Omega.{arith}
use lib.Arith.{digits_div, digits_mod}
use lib.IntN.{ℤ, pos, ◌*ℤ◌, *ℤ_comm, pos-*ℤ-pos}
use lib.ListN.{length, get_or, set, length-set}
use lib.Signed.{◌≤ℤ◌}
use lib.Pow.{pow_pos, split, high}
use lib.Seq.{get_or-set_same, get_or-set_other}
use mir.Syntax.{Width, w16, w32}
use mir.Val.{SFits}
use mir.Facts.{sfits_widen}
use Rattle.integers.specs.Lists.{overwrite}
use Rattle.integers.specs.Shift.{shift_right}
use Rattle.integers.specs.Within.{Within}
use Rattle.integers.proofs.BoundLaws.{within_eq}
use Rattle.integers.proofs.ListsLaws.{Stored, stored_more, overwrite_cong, overwrite-get_or, overwrite-get_or-past, overwrite_twice}
use Rattle.h265.specs.Range.{log2_size}
use Rattle.h265.specs.ScalingFactor.{ScalingList, repeated_position, factor_source, factor_by, scaling_factor}
use Rattle.h265.specs.ScalingFactor.ScalingList.{flat}
use Rattle.h265.specs.TransformSkip.{ts_residual}
use Rattle.parameters.specs.declared.DequantParams.{DequantParams}
use Rattle.scaling_values.specs.Level.{level_by, flat_level, listed_level, listed_limited, Manageable, Ends}
use Rattle.scaling_values.specs.Flat.{Regular}
use Rattle.scaling_values.specs.Work.{flat_at, listed_at, flat_limited_at, listed_limited_at, residual_at, Counted, Rows, Coefficients, Fills}
use Rattle.scaling_values.proofs.CountLaws.{count_cong}
use Rattle.std.proofs.lemmas.List.{map-set}
use Rattle.scaling_blocks.specs.Blocks.{output_width}
use Rattle.scaling_blocks.specs.Each.{by_entry}
use Rattle.h265.proofs.RangeLaws.{size_bound, log2_size_bound}
use Rattle.scaling_blocks.specs.Spread.{Laid}
use Rattle.scaling_values.proofs.FlatLaws.{base_eq}
use Rattle.scaling_values.proofs.SkipLaws.{ts_residual_fits}
use Rattle.scaling_values.proofs.LevelLaws.{flat_level_within, listed_level_fits, listed_level_within}

module _ (levels : List ℤ) (i : ℕ) {p : DequantParams} (m : Manageable p) where
  pub flat_at_within : Within 4194304 (flat_at p levels i)
  unfolding flat_at
  flat_at_within = flat_level_within (get_or levels i (pos 0)) m

  pub listed_at_within : (list : ScalingList) (n : ℕ) → Within 4194304 (listed_at p list n levels i)
  unfolding listed_at
  listed_at_within list n = listed_level_within (scaling_factor list n i) (get_or levels i (pos 0)) m

-- without a list every m is 16
pub flat_listed : {p : DequantParams} → Regular p → (n : ℕ) (levels : List ℤ) {k r : ℕ} {xs ys : List ℤ}
    → Counted (flat_at p levels) (flat_limited_at p levels) k xs ys r → Counted (listed_at p flat n levels) (listed_limited_at p flat n levels) k xs ys r
unfolding flat_at listed_at flat_limited_at listed_limited_at scaling_factor factor_source factor_by flat_level listed_level
flat_listed {p} g n levels {k} {xs = xs} c =
    let e : p.factor ≡ shift_right p.factor 4 *ℤ pos 16 =
    g.factor ∙ sym (pos-*ℤ-pos 16 g.scale) ∙ *ℤ_comm (pos 16) (pos g.scale) ∙ ap (λ (z : ℤ). z *ℤ pos 16) (sym (base_eq p g.scale g.factor g.add g.low))
    in
    record {
      out = c.out ∙ overwrite_cong k (flat_at p levels) (listed_at p flat n levels) xs (λ i a. ap (λ (z : ℤ). level_by p z (get_or levels i (pos 0))) e);
      count = c.count;
    }

pub row_small : {n row : ℕ} → n ≤ 32 → row < n → row * n ≤ 32 * 32
row_small {n} {row} b h = mul-le-mul (let e : row ≤ 32 = omega (arith, b, h) in e) b

pub row_position : (n r row c : ℕ) → Rows n r → c < n → row / 2 ^ r * 8 + c / 2 ^ r ≡ repeated_position n (row * n + c)
unfolding repeated_position
row_position n r row c s h =
    rw s.repeats
    (sym (ap₂ (λ (a : ℕ) (b : ℕ). a / 2 ^ (log2_size n - 3) * 8 + b / 2 ^ (log2_size n - 3)) (digits_div row h) (digits_mod row h)))

-- rows that share their entries have the same quotient
pub shared_row : (row r : ℕ) → (row / 2 ^ r * 2 ^ r ≡ row → ⊥) → (row - 1) / 2 ^ r ≡ row / 2 ^ r
shared_row row r h =
    let e = split row r in
    let l : row % 2 ^ r < 2 ^ r = mod-lt row (pow_pos r) in
    let o : row - 1 ≡ row / 2 ^ r * 2 ^ r + (row % 2 ^ r - 1) = elim (dec_lt 0 (row % 2 ^ r)) [
      | yes a ↦ omega (arith, e, a)
      | no a ↦ absurd (h (omega (arith, e, a)))
    ]
    in
    ap (λ (k : ℕ). k / 2 ^ r) o ∙ high (row / 2 ^ r) r {lo = row % 2 ^ r - 1} (omega (arith, l, pow_pos r))

-- ---- entries laid out
pub fills_none : {f : ℕ → ℕ} {i j : ℕ} {xs : List ℕ} → i ≡ j → Fills f i j xs xs
fills_none q = record { same = refl; more = λ h k a. h k (omega (arith, q)) }

module _ {f : ℕ → ℕ} {i j : ℕ} {xs ys : List ℕ} (s : Fills f i j xs ys) where
  -- one entry more
  pub fills_more : {v : ℕ} (k : ℕ) → k ≡ j + 1 → j < length xs → v ≡ f j → Fills f i k xs (set ys j v)
  fills_more {v} k q b e =
      record {
        same = length-set ys j v ∙ s.same;
        more = λ h m a. elim (dec_lt m j) [
          | yes l ↦ get_or-set_other ys j m v 0 (λ w. let x : ⊥ = omega arith in x) ∙ s.more h m l
          | no l ↦ let w : m ≡ j = omega (arith, q) in rw w (get_or-set_same ys j v 0 (omega (arith, b, s.same)) ∙ e)
        ];
      }

  -- the next entry is one that is there
  pub fills_copy : (k a : ℕ) → k ≡ j + 1 → j < length xs → a < j → f a ≡ f j → Fills f i k xs (set ys j (get_or ys a 0))
  fills_copy k a q b l e =
      record {
        same = length-set ys j (get_or ys a 0) ∙ s.same;
        more = λ h m n. elim (dec_lt m j) [
          | yes o ↦ get_or-set_other ys j m (get_or ys a 0) 0 (λ w. let x : ⊥ = omega arith in x) ∙ s.more h m o
          | no o ↦ let w : m ≡ j = omega (arith, q) in rw w (get_or-set_same ys j (get_or ys a 0) 0 (omega (arith, b, s.same)) ∙ s.more h a l ∙ e)
        ];
      }

  pub fills_to : {k : ℕ} → j ≡ k → Fills f i k xs ys
  fills_to q = subst (λ (m : ℕ). Fills f i m xs ys) q s

  pub fills_then : {k : ℕ} {zs : List ℕ} → Fills f j k ys zs → Fills f i k xs zs
  fills_then t = record { same = t.same ∙ s.same; more = λ h. t.more (s.more h) }

-- index 0 by another number
pub fills_first : {f g : ℕ → ℕ} {j : ℕ} {xs ys : List ℕ} {v : ℕ} → Fills f 0 j xs ys → 1 ≤ length xs → v ≡ g 0 → ((k : ℕ) → 1 ≤ k → f k ≡ g k) → Fills g 0 j xs (set ys 0 v)
fills_first {f} {g} {j} {xs} {ys} {v} s b e h =
    record {
      same = length-set ys 0 v ∙ s.same;
      more = λ o m a. elim (dec_lt 0 m) [
        | yes l ↦ get_or-set_other ys 0 m v 0 (λ w. let x : ⊥ = omega arith in x) ∙ s.more (λ k y. absurd (let x : ⊥ = omega arith in x)) m a ∙ h m l
        | no l ↦ let w : m ≡ 0 = omega arith in rw w (get_or-set_same ys 0 v 0 (omega (arith, b, s.same)) ∙ e)
      ];
    }

-- ---- loops
pub stored_rest : {A : Type 0} {f : ℕ → A} {xs : List A} {k : ℕ} {ys : List A} → Stored f xs k ys → (i : ℕ) (z : A) → k ≤ i → get_or ys i z ≡ get_or xs i z
stored_rest {A} {f} {xs} {k} s i z h = ap (λ (l : List A). get_or l i z) s.is ∙ overwrite-get_or-past k f xs i z h

-- ---- transform skip where the coefficients stand
module _ (k : ℕ) (f : ℕ → ℤ) (xs : List ℤ) {ys : List ℤ} (e : ys ≡ overwrite k f xs) where
  pub coefficients_of_lem : ((i : ℕ) → Within 4194304 (f i)) → Coefficients k ys
  coefficients_of_lem h =
      record { at = λ i a. within_eq (ap (λ (l : List ℤ). get_or l i (pos 0)) e ∙ overwrite-get_or k f xs i (pos 0) a) (h i) }

  pub residuals_of : (t : ℤ) {zs : List ℤ} → zs ≡ overwrite k (residual_at t ys) ys → zs ≡ overwrite k (λ i. ts_residual t (f i)) xs
  unfolding residual_at
  residuals_of t q =
      q ∙ ap (λ (l : List ℤ). overwrite k (residual_at t l) l) e
      ∙ overwrite_twice k (residual_at t (overwrite k f xs)) f xs
      ∙ overwrite_cong k (residual_at t (overwrite k f xs)) (λ i. ts_residual t (f i)) xs (λ i a. ap (ts_residual t) (overwrite-get_or k f xs i (pos 0) a))

-- the same with the count of the coefficients
pub skip_counted : {k m : ℕ} {f : ℕ → ℤ} {g : ℕ → Bool} {xs ys : List ℤ} → Counted f g k xs ys m → (t : ℤ) {zs : List ℤ} → zs ≡ overwrite k (residual_at t ys) ys
    → Counted (λ i. ts_residual t (f i)) g k xs zs m
skip_counted {k} {f = f} {xs = xs} c t q = record { out = residuals_of k f xs c.out t q; count = c.count }

-- ---- an output that is read
module _ {A : Type 0} (r : A → ℤ) {f : ℕ → ℤ} {xs : List ℤ} {k : ℕ} (ys : List A) (s : Stored f xs k (map r ys)) where
  pub reads_more : {v : A} → k < length xs → r v ≡ f k → Stored f xs (k + 1) (map r (set ys k v))
  reads_more {v} h e = subst (λ (l : List ℤ). Stored f xs (k + 1) l) (sym (map-set r ys k v)) (stored_more s h e)

-- what an output holds, 32 bits hold
pub output_within : (narrow : Bool) {z : ℤ} → SFits (output_width narrow) z → SFits w32 z
output_within true f = sfits_widen tt f
output_within false f = f

-- a residual fits the output where its coefficient does and, in 16 bits, the shift rounds
pub residual_holds : (narrow : Bool) {t c r : ℤ} → (narrow ≡ true → pos 1 ≤ℤ t) → SFits (output_width narrow) c → r ≡ ts_residual t c → SFits w32 r → SFits (output_width narrow) r
residual_holds true {t} {c} h f e g = subst (λ (z : ℤ). SFits w16 z) (sym e) (ts_residual_fits t c (h refl) f)
residual_holds false h f e g = g

-- ---- f and g of the m and of the level at every index
pub by_entry_same : (f : ℕ → ℤ → ℤ) (g : ℕ → ℤ → Bool) (m m' : ℕ → ℕ) (levels : List ℤ) {k r : ℕ} {xs ys : List ℤ} → ((i : ℕ) → i < k → m i ≡ m' i)
    → Counted (by_entry f m levels) (by_entry g m levels) k xs ys r → Counted (by_entry f m' levels) (by_entry g m' levels) k xs ys r
by_entry_same f g m m' levels {k} {xs = xs} h c =
    record {
      out = c.out ∙ overwrite_cong k (by_entry f m levels) (by_entry f m' levels) xs (λ i a. ap (λ (e : ℕ). f e (get_or levels i (pos 0))) (h i a));
      count = c.count ∙ count_cong (by_entry g m levels) (by_entry g m' levels) k (λ i a. ap (λ (e : ℕ). g e (get_or levels i (pos 0))) (h i a));
    }

module _ (p : DequantParams) (f : ℕ → ℤ → ℤ) where
  pub by_entry_fits : {w : Width} → Ends w p → ((m : ℕ) (level : ℤ) → f m level ≡ listed_level p m level) → (m : ℕ) (level : ℤ) → SFits w (f m level)
  by_entry_fits {w} e v m level = subst (λ (z : ℤ). SFits w z) (sym (v m level)) (listed_level_fits m level e)

  pub by_entry_listed : (g : ℕ → ℤ → Bool) (list : ScalingList) (n : ℕ) (levels : List ℤ) {k r : ℕ} {xs ys : List ℤ}
      → ((m : ℕ) (level : ℤ) → f m level ≡ listed_level p m level) → ((m : ℕ) (level : ℤ) → g m level ≡ listed_limited p m level)
      → Counted (by_entry f (scaling_factor list n) levels) (by_entry g (scaling_factor list n) levels) k xs ys r
      → Counted (listed_at p list n levels) (listed_limited_at p list n levels) k xs ys r
  unfolding listed_at listed_limited_at
  by_entry_listed g list n levels {k} {xs = xs} v l c =
      record {
        out = c.out ∙ overwrite_cong k (by_entry f (scaling_factor list n) levels) (listed_at p list n levels) xs (λ i a. v (scaling_factor list n i) (get_or levels i (pos 0)));
        count = c.count ∙ count_cong (by_entry g (scaling_factor list n) levels) (listed_limited_at p list n levels) k (λ i a. l (scaling_factor list n i) (get_or levels i (pos 0)));
      }

-- ---- the numbers that a list is laid out by
pub laid_small : {len n r places : ℕ} → Laid len n r places → n ≤ 32
laid_small {n = n} l = (size_bound n l.rows.size).1

pub laid_few : {len n r places : ℕ} → Laid len n r places → r ≤ 2
laid_few {n = n} l = omega (arith, l.rows.repeats, log2_size_bound n l.rows.size)
