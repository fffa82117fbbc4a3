-- Laws of the two parts of a value.
--   parts_exact            2^k × the high part + the low part is the value limited to the range
--   rest_fits              what is left after the high part fits 32 bits
--   low_rest               to limit to 16 bits first changes no low part
--   rest_lanes, low_lane   the same of the lanes of vectors
--   part_at                a part of a value that was read
--   sum_small              what a line gives, shifted
--   parts_row              the sums of both lines, shifted, are a row of the stage
--   block_back             numbers that stand for themselves, back
use mathlib.Core.Path.{◌≡◌, refl, sym, ap, ap₂, ◌∙◌, subst}
use mathlib.Core.List.{List, map}
use Prim.Native.Nat.{ℕ, ◌+◌, ◌*◌, ◌^◌, ◌≤◌, ◌<◌}
use native.Mathlib.Nat.{mul-le-mul_left, mul-add}
use native.Mathlib.Decide.{dec_lt}
use native.Mathlib.Omega.{arith}
use lib.Arith.{digits_lt}
use lib.IntN.{ℤ, pos, negsuc, neg_ℤ, ◌+ℤ◌, ◌-ℤ◌, ◌*ℤ◌}
use lib.ListN.{length, get_or, get_or-eq_default}
use lib.Pow.{pow_pos, pow-add, pow_mono}
use lib.Signed.{shr_z, ◌≤ℤ◌, ◌<ℤ◌}
use mir.Syntax.{w32}
use mir.Val.{SFits}
use Rattle.std.proofs.lemmas.List.{get_or-map, map-id}
use Rattle.integers.specs.Clip.{clip3}
use Rattle.integers.specs.Shift.{pow2, shift_right}
use Rattle.integers.specs.Within.{Within}
use Rattle.integers.proofs.LinearLaws.{pos_part, neg_part, split, ring, diff_ext, parts_ext, parts_add, parts_add_le, parts_mul, parts_neg, le_in, le_out, lt_in, lt_out}
use Rattle.integers.proofs.MachineLaws.{sfits_out, sfits_pos_part, sfits_neg_part}
use Rattle.integers.proofs.OrderLaws.{Floor, shr_floor}
use Rattle.integers.proofs.BoundLaws.{within_out, within_fits, within_le, within_eq}
use Rattle.integers.proofs.ShiftLaws.{shift_right_within}
use Rattle.integers.proofs.ClipLaws.{clip3_low, clip3_high, clip3_id, clip3_cases}
use Rattle.h265.specs.Range.{clip_coeff, coeff_min, coeff_max}
use Rattle.lines.specs.Fold.{Twice}
use Rattle.vectors.specs.Lanes.{lane}
use Rattle.tiles.specs.Tile.{first_rows, line_value, Head, Block}
use Rattle.tiles.specs.Parts.{high_of, low_of}
use Rattle.tiles.proofs.TileLaws.{head_values, line_row}

-- ---- the parts of x, with m for 2^k
module _ (m : ℕ) (h : 0 < m) (x : ℤ) where
  floor : Floor x m (shr_z x m)
  floor = shr_floor x m h

  abbrev left : ℤ → ℤ
  left q = x -ℤ pos m *ℤ q

  abbrev lowest : ℤ
  lowest = neg_ℤ (pos (32768 * m))

  abbrev highest : ℤ
  highest = pos (32768 * m) -ℤ pos 1

  -- the parts of what is left, for omega
  left_parts : (q : ℤ) → (pos_part (left q) + (neg_part x + m * pos_part q) ≡ pos_part x + m * neg_part q + neg_part (left q))
      × (pos_part (left q) ≤ pos_part x + m * neg_part q) × (neg_part (left q) ≤ neg_part x + m * pos_part q)
  left_parts q =
      let a = parts_mul (pos m) q in
      let b = parts_neg (pos m *ℤ q) in
      let c = parts_add x (neg_ℤ (pos m *ℤ q)) in
      let d = parts_add_le x (neg_ℤ (pos m *ℤ q)) in
      (omega arith, omega arith, omega arith)

  under : shr_z x m <ℤ negsuc 32767 → pos_part x + 32768 * m < neg_part x
  under e =
      let q = shr_z x m in
      omega (arith, floor, mul-le-mul_left m (let l : pos_part q + 32769 ≤ neg_part q = omega (arith, lt_in e) in l), mul-add m (pos_part q) 32769)

  over : pos 32767 <ℤ shr_z x m → neg_part x + 32768 * m ≤ pos_part x
  over e =
      let q = shr_z x m in
      omega (arith, floor, mul-le-mul_left m (let l : neg_part q + 32768 ≤ pos_part q = omega (arith, lt_in e) in l), mul-add m (neg_part q) 32768)

  inside : negsuc 32767 ≤ℤ shr_z x m → shr_z x m ≤ℤ pos 32767 → (pos_part x < neg_part x + 32768 * m) × (neg_part x ≤ pos_part x + 32768 * m)
  inside e g =
      let q = shr_z x m in
      let l = mul-le-mul_left m (let l : pos_part q ≤ neg_part q + 32767 = omega (arith, le_in g) in l) in
      let u = mul-le-mul_left m (let l : neg_part q ≤ pos_part q + 32768 = omega (arith, le_in e) in l) in
      (omega (arith, floor, mul-add m (neg_part q) 32767), omega (arith, floor, mul-add m (pos_part q) 32768))

  exact_low : shr_z x m <ℤ negsuc 32767 → pos m *ℤ negsuc 32767 +ℤ clip3 (pos 0) (pos m -ℤ pos 1) (left (negsuc 32767)) ≡ clip3 lowest highest x
  exact_low e =
      let f = under e in
      ap (λ (z : ℤ). pos m *ℤ negsuc 32767 +ℤ z) (clip3_low (pos 0) (pos m -ℤ pos 1) (left (negsuc 32767)) (lt_out (left (negsuc 32767)) (pos 0) (omega (arith, left_parts (negsuc 32767)))))
      ∙ parts_ext (pos m *ℤ negsuc 32767 +ℤ pos 0) lowest (omega (arith, parts_mul (pos m) (negsuc 32767), parts_add (pos m *ℤ negsuc 32767) (pos 0), parts_neg (pos (32768 * m))))
      ∙ sym (clip3_low lowest highest x (lt_out x lowest (omega (arith, parts_neg (pos (32768 * m))))))

  exact_high : pos 32767 <ℤ shr_z x m → pos m *ℤ pos 32767 +ℤ clip3 (pos 0) (pos m -ℤ pos 1) (left (pos 32767)) ≡ clip3 lowest highest x
  exact_high e =
      let f = over e in
      ap (λ (z : ℤ). pos m *ℤ pos 32767 +ℤ z)
      (clip3_high (pos 0) (pos m -ℤ pos 1) (left (pos 32767)) (le_out (pos 0) (left (pos 32767)) (omega (arith, left_parts (pos 32767))))
      (lt_out (pos m -ℤ pos 1) (left (pos 32767)) (omega (arith, left_parts (pos 32767), parts_add (pos m) (negsuc 0)))))
      ∙ parts_ext (pos m *ℤ pos 32767 +ℤ (pos m -ℤ pos 1)) highest
      (omega (arith, parts_mul (pos m) (pos 32767), parts_add (pos m *ℤ pos 32767) (pos m -ℤ pos 1), parts_add (pos m) (negsuc 0), parts_add (pos (32768 * m)) (negsuc 0)))
      ∙ sym (clip3_high lowest highest x (le_out lowest x (omega (arith, parts_neg (pos (32768 * m))))) (lt_out highest x (omega (arith, parts_add (pos (32768 * m)) (negsuc 0)))))

  regroup : (y : ℤ) → y +ℤ (x -ℤ y) ≡ x
  regroup y = rw (← split x, ← split y) (simp ring (diff_ext _ _ _ _ (omega arith)))

  exact_in : negsuc 32767 ≤ℤ shr_z x m → shr_z x m ≤ℤ pos 32767 → pos m *ℤ shr_z x m +ℤ clip3 (pos 0) (pos m -ℤ pos 1) (left (shr_z x m)) ≡ clip3 lowest highest x
  exact_in e g =
      let q = shr_z x m in
      let f = inside e g in
      ap (λ (z : ℤ). pos m *ℤ q +ℤ z)
      (clip3_id (pos 0) (pos m -ℤ pos 1) (left q) (le_out (pos 0) (left q) (omega (arith, left_parts q, floor))) (le_out (left q) (pos m -ℤ pos 1) (omega (arith, left_parts q, floor, parts_add (pos m) (negsuc 0)))))
      ∙ regroup (pos m *ℤ q)
      ∙ sym (clip3_id lowest highest x (le_out lowest x (omega (arith, parts_neg (pos (32768 * m))))) (le_out x highest (omega (arith, parts_add (pos (32768 * m)) (negsuc 0)))))

  exact : pos m *ℤ clip3 (negsuc 32767) (pos 32767) (shr_z x m) +ℤ clip3 (pos 0) (pos m -ℤ pos 1) (left (clip3 (negsuc 32767) (pos 32767) (shr_z x m))) ≡ clip3 lowest highest x
  exact =
      clip3_cases (λ q. pos m *ℤ q +ℤ clip3 (pos 0) (pos m -ℤ pos 1) (left q) ≡ clip3 lowest highest x) (negsuc 32767) (pos 32767) (shr_z x m)
      exact_low (λ a. exact_high) exact_in

  left_fits : m ≤ 128 → SFits w32 x → SFits w32 (left (clip3 (negsuc 32767) (pos 32767) (shr_z x m)))
  left_fits l s =
      let p = sfits_pos_part s in
      let n = sfits_neg_part s in
      clip3_cases (λ q. SFits w32 (left q)) (negsuc 32767) (pos 32767) (shr_z x m)
      (λ e. let f = under e in sfits_out (omega (arith, left_parts (negsuc 32767))) (omega (arith, left_parts (negsuc 32767))))
      (λ a e. let f = over e in sfits_out (omega (arith, left_parts (pos 32767))) (omega (arith, left_parts (pos 32767))))
      (λ e g. within_fits {b = 128} tt (within_out (left (shr_z x m)) (omega (arith, left_parts (shr_z x m), floor))))

-- ---- the parts of x at k
pub parts_exact : (k : ℕ) (x : ℤ) → pow2 k *ℤ high_of k x +ℤ low_of k x ≡ clip_coeff (15 + k) x
unfolding high_of low_of clip_coeff coeff_min coeff_max shift_right
parts_exact k x = exact (2 ^ k) (pow_pos k) x ∙ ap (λ (p : ℕ). clip3 (neg_ℤ (pos p)) (pos p -ℤ pos 1) x) (sym (pow-add 2 15 k))

pub rest_fits : (k : ℕ) (x : ℤ) → k ≤ 7 → SFits w32 x → SFits w32 (x -ℤ pow2 k *ℤ high_of k x)
unfolding high_of clip_coeff coeff_min coeff_max shift_right
rest_fits k x h s = left_fits (2 ^ k) (pow_pos k) x (pow_mono {j = 7} h) s

pub low_rest : (k : ℕ) (x : ℤ) → k ≤ 7 → clip3 (pos 0) (pow2 k -ℤ pos 1) (clip_coeff 15 (x -ℤ pow2 k *ℤ high_of k x)) ≡ low_of k x
unfolding low_of clip_coeff coeff_min coeff_max
low_rest k x h =
    let d = x -ℤ pow2 k *ℤ high_of k x in
    let l : 2 ^ k ≤ 128 = pow_mono {j = 7} h in
    let o = pow_pos k in
    clip3_cases (λ z. clip3 (pos 0) (pow2 k -ℤ pos 1) z ≡ clip3 (pos 0) (pow2 k -ℤ pos 1) d) (negsuc 32767) (pos 32767) d
    (λ e. clip3_low (pos 0) (pow2 k -ℤ pos 1) (negsuc 32767) (lt_out (negsuc 32767) (pos 0) (omega arith)) ∙ sym (clip3_low (pos 0) (pow2 k -ℤ pos 1) d (lt_out d (pos 0) (omega (arith, lt_in e)))))
    (λ a e. clip3_high (pos 0) (pow2 k -ℤ pos 1) (pos 32767) (le_out (pos 0) (pos 32767) (omega arith)) (lt_out (pow2 k -ℤ pos 1) (pos 32767) (omega (arith, parts_add (pos (2 ^ k)) (negsuc 0))))
    ∙ sym (clip3_high (pos 0) (pow2 k -ℤ pos 1) d (le_out (pos 0) d (omega (arith, lt_in e))) (lt_out (pow2 k -ℤ pos 1) d (omega (arith, lt_in e, parts_add (pos (2 ^ k)) (negsuc 0))))))
    (λ a b. refl)

-- ---- in vectors: xs the values, hs their high parts, ts these times 2^k
pub rest_lanes : {k : ℕ} (xs hs ts : List ℤ) → k ≤ 7 → length xs ≡ 4 → length ts ≡ 4 → ((j : ℕ) → SFits w32 (lane j xs)) → ((j : ℕ) → j < 4 → lane j hs ≡ high_of k (lane j xs))
    → ((j : ℕ) → lane j ts ≡ pow2 k *ℤ lane j hs) → (j : ℕ) → SFits w32 (lane j xs -ℤ lane j ts)
rest_lanes {k} xs hs ts o l m f h t j =
    elim (dec_lt j 4) [
      | yes y ↦ subst (λ (z : ℤ). SFits w32 (lane j xs -ℤ z)) (sym (t j ∙ ap (λ (z : ℤ). pow2 k *ℤ z) (h j y))) (rest_fits k (lane j xs) o (f j))
      | no d ↦ rw (get_or-eq_default xs (pos 0) (let e : length xs ≤ j = omega arith in e), get_or-eq_default ts (pos 0) (let e : length ts ≤ j = omega arith in e))
          (record { sfits = omega arith })
    ]

pub low_lane : {k : ℕ} (x : ℤ) {h t r most l : ℤ} → k ≤ 7 → h ≡ high_of k x → t ≡ pow2 k *ℤ h → r ≡ clip_coeff 15 (x -ℤ t) → most ≡ pow2 k -ℤ pos 1 → l ≡ clip3 (pos 0) most r → l ≡ low_of k x
low_lane {k} x o h t r m l =
    l ∙ ap₂ (λ (a b : ℤ). clip3 (pos 0) a b) m (r ∙ ap (λ (z : ℤ). clip_coeff 15 (x -ℤ z)) (t ∙ ap (λ (z : ℤ). pow2 k *ℤ z) h)) ∙ low_rest k x o

pub part_at : (f : ℤ → ℤ) {q n : ℕ} (b : ℕ) (xs : List ℤ) (i j : ℕ) {x y : ℤ} → i < q → b + 4 ≤ n → q * n ≤ length xs → j < 4 → y ≡ f x → x ≡ get_or xs (i * n + b + j) (pos 0)
    → y ≡ get_or (map f xs) (i * n + (b + j)) (pos 0)
part_at f {q} {n} b xs i j h l m o e g =
    e ∙ ap f (g ∙ ap (λ (a : ℕ). get_or xs a (pos 0)) (let u : i * n + b + j ≡ i * n + (b + j) = omega arith in u))
    ∙ sym (get_or-map f xs (i * n + (b + j)) (pos 0) (pos 0) (omega (arith, m, digits_lt {q = i} {m = q} {r = b + j} {c = n} h (let u : b + j < n = omega arith in u))))

-- ---- the lines over both parts
pub sum_small : {n : ℕ} {xs : List ℤ} {r : ℤ} {z : List ℤ} (s m : ℕ) {v : ℤ} → n ≤ 32 → Twice n 1 xs r z → v ≡ shift_right (get_or z m (pos 0)) s → Within (2 ^ 29) v
sum_small s m o t e = within_eq e (shift_right_within s (within_le (omega arith) (t.small.at m)))

pub parts_row : {q n : ℕ} (k by : ℕ) (b : ℤ) (xs : List ℤ) {c : ℕ} (m : ℕ) {hs ls zs ys : List ℤ} {w tw g d v : ℤ} → c < n → m < n → Head q n (map (high_of k) xs) c hs
    → Head q n (map (low_of k) xs) c ls → Twice n 1 hs w zs → Twice n 1 ls tw ys → w ≡ pos 0 → tw ≡ pos 2 *ℤ b → g ≡ shift_right (get_or zs m (pos 0)) 1
    → d ≡ shift_right (get_or ys m (pos 0)) (k + 1) → v ≡ shift_right (d +ℤ g) by
    → v ≡ shift_right (line_value n b k (first_rows q n (map (low_of k) xs)) c m +ℤ line_value n (pos 0) 0 (first_rows q n (map (high_of k) xs)) c m) by
parts_row k by b xs m o l hs ls zs ys w t g d v =
    v
    ∙ ap₂ (λ (x y : ℤ). shift_right (x +ℤ y) by) (d ∙ line_row b k (head_values o ls) ys t m l) (g ∙ line_row (pos 0) 0 (head_values o hs) zs w m l)

pub block_back : {at n e w : ℕ} {f : ℕ → ℕ → ℤ} {xs ys : List ℤ} → Block at n e f w (map (λ x. x) xs) (map (λ x. x) ys) → Block at n e f w xs ys
block_back {xs = xs} {ys} p = rw (map-id xs, map-id ys) at p
