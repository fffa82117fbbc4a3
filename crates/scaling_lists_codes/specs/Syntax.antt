-- Scaling list data: H.265 clause 7.3.4 with its meaning in 7.4.5, as reading from an offset in bits on. Change request R-5.
-- Letters: s size_id, m matrix_id, at the offset of the code that is read, read the lists that stand before this one.
--   Reading A             a value and the offset behind it, or why reading stopped; and_then reads on
--   FactorList            one list: entries in row order, and the DC number
--   Defaults              the default lists that are lent: Table 7-5, and Table 7-6 for intra (m < 3) and for inter
--   size_id, matrix_id j    of the list that j others stand before: six a size, and at 32×32 every third matrix
--   list_number s m        how many lists stand before that of s and m
--   default_for lent s m   the default list of s and m
--   outside_of low high z  z is below -low or above high
--   added n z             n + z, for n + z from 0 on
--   number_at              the number of ue(v)
--   next_coef next delta   the entry after `next`: their sum modulo 256
--   delta_code             scaling_list_delta_coef after an entry: the next entry
--   entries_from           the entries for the positions that are left, put where they belong
--   dc_code                scaling_list_dc_coef_minus8: DC
--   positions s           where the entries of a size go, in coding order
--   coded_list             a list that is coded in full; coded_entries has its entries, with a DC that is known
--   reference_code         scaling_list_pred_matrix_id_delta
--   referred              the list that it means
--   taken_over             a list that is taken over
--   list_code              one list, from scaling_list_pred_mode_flag on
--   lists_from             the lists that are left, behind those read
--   scaling_list_data       all 20 lists
use Rattle.std.specs.Prelude.{Bool, cond, List, [], ◌∷◌, ◌++◌, ℕ, zero, suc, ◌+◌, ◌-◌, ◌*◌, ◌/◌, ◌%◌, eqb, ltb, ℤ, pos, negsuc, length, get_or, set, replicate, Result, Ok, Err}
use Rattle.refusal.specs.declared.Refusal.{Refusal}
use Rattle.refusal.specs.declared.Refusal.TheVariants.{BitsEnded, ReferenceMissing, ListValueInvalid}
use Rattle.bits.specs.declared.CodeError.TheVariants.{TooLong, Ended}
use Rattle.bits.specs.Bits.{is_there, bit_at}
use Rattle.bits.specs.ExpGolomb.{Code, unsigned_code, signed_number}
use Rattle.diagonal.specs.Scan.{up_right}

abbrev pub Reading : Type 0 → Type 0
Reading A = Result (A × ℕ) Refusal

abbrev pub and_then : {A B : Type 0} → Reading A → (A → ℕ → Reading B) → Reading B
and_then (Ok (v, at)) f = f v at
and_then (Err e) f = Err e

pub record FactorList : Type 0 where
  pub entries : List ℕ
  pub dc : ℕ

pub record Defaults : Type 0 where
  pub four : List ℕ
  pub intra : List ℕ
  pub inter : List ℕ

abbrev pub defaults : List ℕ → List ℕ → List ℕ → Defaults
defaults four intra inter = record { four = four; intra = intra; inter = inter }

-- ---- which list
unfoldable pub matrix_step : ℕ → ℕ
matrix_step s = cond (eqb s 3) 3 1

unfoldable pub size_id : ℕ → ℕ
size_id j = j / 6

unfoldable pub matrix_id : ℕ → ℕ
matrix_id j = j % 6 * matrix_step (size_id j)

unfoldable pub list_number : ℕ → ℕ → ℕ
list_number s m = 6 * s + m / matrix_step s

unfoldable pub default_for : Defaults → ℕ → ℕ → List ℕ
default_for lent s m = cond (eqb s 0) lent.four (cond (ltb m 3) lent.intra lent.inter)

-- ---- numbers
unfoldable pub outside_of : ℕ → ℕ → ℤ → Bool
outside_of low high (pos n) = ltb high n
outside_of low high (negsuc n) = ltb low (suc n)

unfoldable pub added : ℕ → ℤ → ℕ
added n (pos d) = n + d
added n (negsuc d) = n - suc d

unfoldable pub next_coef : ℕ → ℤ → ℕ
next_coef next delta = added (next + 256) delta % 256

-- ue(v); a code that is too long is refused with e
abbrev pub number_of : ℕ → Refusal → Code → Reading ℕ
number_of at e (Ok code) = Ok code
number_of at e (Err TooLong) = Err e
number_of at e (Err Ended) = Err (BitsEnded at)

unfoldable pub number_at : List ℕ → ℕ → Refusal → Reading ℕ
number_at bytes at e = number_of at e (unsigned_code bytes at)

-- ---- a list that is coded in full
abbrev pub delta_of : ℕ → ℕ → ℕ → ℕ → Reading ℕ
delta_of next at k behind =
    cond (outside_of 128 127 (signed_number k)) (Err (ListValueInvalid at))
    (cond (eqb (next_coef next (signed_number k)) 0) (Err (ListValueInvalid at)) (Ok (next_coef next (signed_number k), behind)))

unfoldable pub delta_code : List ℕ → ℕ → ℕ → Reading ℕ
delta_code bytes next at = and_then (number_at bytes at (ListValueInvalid at)) (delta_of next at)

unfoldable pub entries_from : List ℕ → List ℕ → ℕ → ℕ → List ℕ → Reading (List ℕ)
entries_from bytes [] next at es = Ok (es, at)
entries_from bytes (p ∷ ps) next at es =
    and_then (delta_code bytes next at) (λ v behind. entries_from bytes ps v behind (set es p v))

abbrev pub dc_of : ℕ → ℕ → ℕ → Reading ℕ
dc_of at k behind = cond (outside_of 7 247 (signed_number k)) (Err (ListValueInvalid at)) (Ok (added 8 (signed_number k), behind))

unfoldable pub dc_code : List ℕ → ℕ → Reading ℕ
dc_code bytes at = and_then (number_at bytes at (ListValueInvalid at)) (dc_of at)

-- coefNum is min(64, 1 << (4 + (size_id << 1))): as many as the positions
unfoldable pub positions : ℕ → List ℕ
positions s = cond (eqb s 0) (up_right 4) (up_right 8)

abbrev pub blank : List ℕ
blank = replicate 64 0

-- the entries, the first of which is a delta from next
unfoldable pub coded_entries : List ℕ → ℕ → ℕ → ℕ → ℕ → Reading FactorList
coded_entries bytes s dc next at =
    and_then (entries_from bytes (positions s) next at blank) (λ es behind. Ok (record { entries = es; dc = dc }, behind))

unfoldable pub coded_list : List ℕ → ℕ → ℕ → Reading FactorList
coded_list bytes s at =
    cond (ltb 1 s) (and_then (dc_code bytes at) (λ dc behind. coded_entries bytes s dc dc behind)) (coded_entries bytes s 16 8 at)

-- ---- a list that is taken over
abbrev pub reference_of : ℕ → ℕ → ℕ → ℕ → ℕ → Reading ℕ
reference_of s m at delta behind = cond (ltb (m / matrix_step s) delta) (Err (ReferenceMissing at)) (Ok (delta, behind))

unfoldable pub reference_code : List ℕ → ℕ → ℕ → ℕ → Reading ℕ
reference_code bytes s m at = and_then (number_at bytes at (ReferenceMissing at)) (reference_of s m at)

abbrev pub none : FactorList
none = record { entries = []; dc = 0 }

unfoldable pub referred : Defaults → List FactorList → ℕ → ℕ → ℕ → FactorList
referred lent read s m delta =
    cond (eqb delta 0) (record { entries = default_for lent s m; dc = 16 })
    (get_or read (list_number s (m - delta * matrix_step s)) none)

unfoldable pub taken_over : Defaults → List ℕ → List FactorList → ℕ → ℕ → ℕ → Reading FactorList
taken_over lent bytes read s m at =
    and_then (reference_code bytes s m at) (λ delta behind. Ok (referred lent read s m delta, behind))

-- ---- the lists
unfoldable pub list_by : Defaults → List ℕ → List FactorList → ℕ → ℕ → ℕ → Reading FactorList
list_by lent bytes read s m at =
    cond (is_there bytes at)
    (cond (eqb (bit_at bytes at) 0) (taken_over lent bytes read s m (at + 1)) (coded_list bytes s (at + 1)))
    (Err (BitsEnded at))

unfoldable pub list_code : Defaults → List ℕ → List FactorList → ℕ → Reading FactorList
list_code lent bytes read at = list_by lent bytes read (size_id (length read)) (matrix_id (length read)) at

unfoldable pub lists_from : ℕ → Defaults → List ℕ → List FactorList → ℕ → Reading (List FactorList)
lists_from zero lent bytes read at = Ok (read, at)
lists_from (suc k) lent bytes read at =
    and_then (list_code lent bytes read at) (λ l behind. lists_from k lent bytes (read ++ (l ∷ [])) behind)

unfoldable pub scaling_list_data : Defaults → List ℕ → Reading (List FactorList)
scaling_list_data lent bytes = lists_from 20 lent bytes [] 0
