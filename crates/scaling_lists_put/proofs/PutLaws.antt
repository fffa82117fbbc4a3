-- Lists put into bits.
--   code_below, code_above    the code of a difference
--   deltas_more, deltas_done  the turns of the loop over the entries of a list in full
--   deltas_whole              the entries at the positions of a size
--   full_dc, full_plain       a list in full, with a DC of its own and without one
--   is_default, list_default, list_back, list_full   list j by its form
--   lists_more                one list more
use mathlib.Core.Path.{◌≡◌, refl, sym, ap, ◌∙◌}
use mathlib.Core.Bool.{Bool, true, false, cond}
use mathlib.Core.List.{List, ◌∷◌, ◌++◌}
use Prim.Native.Nat.{ℕ, zero, suc, ◌+◌, ◌-◌, ◌*◌, ◌≤◌, ◌<◌}
use native.Mathlib.Numerals.{add-one}
use native.Mathlib.Omega.{arith}
use borrow.Author.Tests.{lt-ltb, le-ltb}
use lib.IntN.{pos, neg_ℤ}
use lib.ListN.{length, get_or, set, drop, drop_of_length-le}
use lib.Seq.{drop-cons}
use Rattle.text.specs.Text.{Wrote, WroteUpTo}
use Rattle.text.proofs.WroteLaws.{Left, left_more, left_done, wrote_one, wrote_more}
use Rattle.bits_written.specs.Codes.{unsigned_bits, code_number, signed_bits}
use Rattle.scaling_lists_codes.specs.Syntax.{FactorList, Defaults, size_id, matrix_id, positions}
use Rattle.scaling_lists.proofs.ListLaws.{positions_inside}
use Rattle.scaling_lists_written.specs.Same.{has_dc, same_list, list_at}
use Rattle.scaling_lists_written.specs.Written.{difference, delta_from, delta_bits, full_bits, default_list, earlier, nearest, form_of, form_bits, list_bits, written_up_to}

-- ---- codes
code_negative : (n : ℕ) → code_number (neg_ℤ (pos n)) ≡ 2 * n
unfolding code_number
code_negative zero = refl
code_negative (suc n) = refl

pub code_below : (a b : ℕ) → a < b → 2 * (b - a) ≡ code_number (difference a b)
unfolding difference
code_below a b h = sym (ap (λ (t : Bool). code_number (cond t (neg_ℤ (pos (b - a))) (pos (a - b)))) (lt-ltb a b h) ∙ code_negative (b - a))

pub code_above : (a b : ℕ) → b ≤ a → 2 * (a - b) - 1 ≡ code_number (difference a b)
unfolding difference code_number
code_above a b h = sym (ap (λ (t : Bool). code_number (cond t (neg_ℤ (pos (b - a))) (pos (a - b)))) (le-ltb a b h))

-- ---- entries
module _ {l t m : List ℕ} {i j : ℕ} (scan es : List ℕ) (p next : ℕ) (g : Left l i t m j (delta_bits (drop p scan) next es)) where
  delta_first : p < length scan → delta_bits (drop p scan) next es
      ≡ signed_bits (delta_from next (get_or es (get_or scan p 0) 0)) ++ delta_bits (drop (p + 1) scan) (get_or es (get_or scan p 0) 0) es
  unfolding delta_bits
  delta_first h = rw (add-one p, drop-cons scan p 0 h)

  pub deltas_more : {o : List ℕ} {k : ℕ} (v : ℕ) → p < length scan → v ≡ get_or es (get_or scan p 0) 0 → Wrote m j (signed_bits (delta_from next v)) o k
      → Left l i t o k (delta_bits (drop (p + 1) scan) v es)
  deltas_more v h e w = rw e (left_more (rw (delta_first h) at g) (rw e at w))

  pub deltas_done : length scan ≤ p → Wrote l i t m j
  unfolding delta_bits
  deltas_done h = left_done (rw (drop_of_length-le scan h) at g)

-- ---- a list in full
pub deltas_whole : {b n : List ℕ} {i r : ℕ} {scan : List ℕ} (s next : ℕ) (es : List ℕ) → scan ≡ positions s
    → WroteUpTo b i (delta_bits scan next es) n r (i + 17 * length scan) → WroteUpTo b i (delta_bits (positions s) next es) n r (i + 1088)
deltas_whole s next es e w = record { wrote = rw e at w.wrote; bound = omega (arith, w.bound, ap length e, (positions_inside s).few) }

module _ {b n : List ℕ} {i r : ℕ} (s : ℕ) (l : FactorList) where
  pub full_dc : {m : List ℕ} {k : ℕ} → has_dc s ≡ true → WroteUpTo b i (signed_bits (difference l.dc 8)) m k (i + 17)
      → WroteUpTo m k (delta_bits (positions s) l.dc l.entries) n r (k + 1088) → WroteUpTo b i (full_bits s l) n r (i + 1105)
  unfolding full_bits
  full_dc h v w =
      record { wrote = rw h (wrote_more v.wrote w.wrote); bound = omega (arith, v.bound, w.bound) }

  pub full_plain : has_dc s ≡ false → WroteUpTo b i (delta_bits (positions s) 8 l.entries) n r (i + 1088) → WroteUpTo b i (full_bits s l) n r (i + 1105)
  unfolding full_bits
  full_plain h w = record { wrote = rw h w.wrote; bound = omega (arith, w.bound) }

-- ---- a list by its form
abbrev pub is_default : Defaults → List FactorList → ℕ → Bool
is_default lent lists j = same_list (size_id j) (list_at lists j) (default_list lent (size_id j) (matrix_id j))

module _ {b n : List ℕ} {i r : ℕ} (lent : Defaults) (lists : List FactorList) (j : ℕ) where
  pub list_default : is_default lent lists j ≡ true → WroteUpTo b i (0 ∷ unsigned_bits 0) n r (i + 18) → WroteUpTo b i (list_bits lent lists j) n r (i + 1106)
  unfolding list_bits form_of form_bits
  list_default h w = record { wrote = rw h w.wrote; bound = omega (arith, w.bound) }

  pub list_back : (d : ℕ) → is_default lent lists j ≡ false → nearest lists j ≡ d → d < earlier j → WroteUpTo b i (0 ∷ unsigned_bits (d + 1)) n r (i + 18)
      → WroteUpTo b i (list_bits lent lists j) n r (i + 1106)
  unfolding list_bits form_of form_bits
  list_back d h e g w =
      record { wrote = rw (h, e, lt-ltb d (earlier j) g) w.wrote; bound = omega (arith, w.bound) }

  pub list_full : is_default lent lists j ≡ false → nearest lists j ≡ earlier j → WroteUpTo (set b i 1) (i + 1) (full_bits (size_id j) (list_at lists j)) n r (i + 1 + 1105)
      → WroteUpTo b i (list_bits lent lists j) n r (i + 1106)
  unfolding list_bits form_of form_bits
  list_full h e w =
      record { wrote = rw (h, e, le-ltb (earlier j) (earlier j) (omega arith)) (wrote_more (wrote_one b i 1) w.wrote); bound = omega (arith, w.bound) }

pub lists_more : {b m n : List ℕ} {i r : ℕ} (lent : Defaults) (lists : List FactorList) (j : ℕ) → Wrote b 0 (written_up_to lent lists j) m i
    → Wrote m i (list_bits lent lists j) n r → Wrote b 0 (written_up_to lent lists (j + 1)) n r
unfolding written_up_to
lists_more lent lists j v w = rw (add-one j) (wrote_more v w)
