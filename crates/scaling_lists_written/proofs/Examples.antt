-- The bits of small sets of lists, and that the reader reads them.
--   deltas_hold       deltas at both ends of their range, and across 256
--   defaults_hold     20 defaults: twenty times `0 1`
--   references_hold   the nearest of two earlier lists that are the same, a default of another matrix, and a list whose DC alone is new
--   unused_hold       the entries that a 4×4 list does not use are not compared
--   full_holds        a 4×4 list in full
--   reader_holds      what the reader gets of the last two
use mathlib.Core.Path.{◌≡◌, refl}
use mathlib.Core.List.{List, [], ◌∷◌, ◌++◌, map}
use Prim.Native.Nat.{ℕ, zero, suc}
use lib.IntN.{pos, negsuc}
use lib.ListN.{replicate}
use Rattle.std.specs.Prelude.{Ok}
use Rattle.integers.specs.Lists.{tabulate_from, tabulate}
use Rattle.integers.specs.Search.{first_where}
use Rattle.bits.specs.Bits.{is_there, bit_at, bits_number}
use Rattle.bits.specs.ExpGolomb.{leading_zeros, code_of, unsigned_code, signed_number}
use Rattle.bits_written.specs.Codes.{bits_of, zeros_of, unsigned_bits, code_number, signed_bits}
use Rattle.bits_written.specs.Bytes.{bits_value, byte_count, byte_of, bytes_of}
use Rattle.diagonal.specs.Scan.{inside, diagonal, diagonals, up_right}
use Rattle.scaling_lists_codes.specs.Syntax.{number_at, FactorList, Defaults, matrix_step, size_id, matrix_id, list_number, default_for, outside_of, added, next_coef, delta_code, entries_from, dc_code, positions, coded_entries, coded_list, reference_code, referred, taken_over, list_by, list_code, lists_from, scaling_list_data}
use Rattle.scaling_lists_written.specs.Same.{every, has_dc, used_count, same_list}
use Rattle.scaling_lists_written.specs.Written.{difference, delta_from, delta_bits, full_bits, earlier, nearest, form_of, form_bits, list_bits, written_up_to, written_lists}

-- 8 to 8, 9, 7; 1 to 128 and 129; 255 to 1; 200 to 72 and 71
pub deltas_hold : delta_from 8 8 ∷ delta_from 8 9 ∷ delta_from 8 7 ∷ delta_from 1 128 ∷ delta_from 1 129 ∷ delta_from 255 1 ∷ delta_from 200 72 ∷ delta_from 200 71 ∷ []
    ≡ pos 0 ∷ pos 1 ∷ negsuc 0 ∷ pos 127 ∷ negsuc 127 ∷ pos 2 ∷ negsuc 127 ∷ pos 127 ∷ []
unfolding difference delta_from
deltas_hold = refl

abbrev flat : ℕ → List ℕ
flat n = replicate 64 n

abbrev lent : Defaults
lent = record { four = flat 1; intra = flat 2; inter = flat 3 }

abbrev list : ℕ → ℕ → FactorList
list n dc = record { entries = flat n; dc = dc }

-- six lists of a size, each its default
abbrev six : ℕ → List FactorList
six dc = replicate 3 (list 2 dc) ++ replicate 3 (list 3 dc)

-- every list its default, but the first 4×4 list and the 16×16 lists
abbrev set : FactorList → List FactorList → ℕ → List FactorList
set first sixteens dc = first ∷ replicate 5 (list 1 dc) ++ six dc ++ sixteens ++ (list 2 16 ∷ list 3 16 ∷ [])

abbrev pairs : ℕ → List ℕ
pairs zero = []
pairs (suc n) = 0 ∷ 1 ∷ pairs n

pub defaults_hold : written_lists lent (set (list 1 0) (six 16) 0) ≡ pairs 20
unfolding first_where bits_of zeros_of unsigned_bits code_number signed_bits inside diagonal diagonals up_right matrix_step size_id matrix_id default_for positions every has_dc used_count same_list difference delta_from delta_bits full_bits earlier nearest form_of form_bits list_bits written_up_to written_lists
defaults_hold = refl

-- the fourth is the second again, the fifth the third, which is no default there
abbrev sixteens : List FactorList
sixteens = list 5 16 ∷ list 5 16 ∷ list 2 16 ∷ list 5 16 ∷ list 2 16 ∷ list 5 17 ∷ []

-- DC - 8 is 8 and 9, the first delta -11 and -12, the others 0
pub references_hold : map (list_bits lent (set (list 1 0) sixteens 0)) (12 ∷ 13 ∷ 14 ∷ 15 ∷ 16 ∷ 17 ∷ [])
    ≡ (1 ∷ 0 ∷ 0 ∷ 0 ∷ 0 ∷ 1 ∷ 0 ∷ 0 ∷ 0 ∷ 0 ∷ 0 ∷ 0 ∷ 0 ∷ 0 ∷ 1 ∷ 0 ∷ 1 ∷ 1 ∷ 1 ∷ replicate 63 1)
    ∷ (0 ∷ 0 ∷ 1 ∷ 0 ∷ []) ∷ (0 ∷ 1 ∷ []) ∷ (0 ∷ 0 ∷ 1 ∷ 1 ∷ []) ∷ (0 ∷ 0 ∷ 1 ∷ 1 ∷ [])
    ∷ (1 ∷ 0 ∷ 0 ∷ 0 ∷ 0 ∷ 1 ∷ 0 ∷ 0 ∷ 1 ∷ 0 ∷ 0 ∷ 0 ∷ 0 ∷ 0 ∷ 1 ∷ 1 ∷ 0 ∷ 0 ∷ 1 ∷ replicate 63 1) ∷ []
unfolding first_where bits_of zeros_of unsigned_bits code_number signed_bits inside diagonal diagonals up_right matrix_step size_id matrix_id default_for positions every has_dc used_count same_list difference delta_from delta_bits full_bits earlier nearest form_of form_bits list_bits written_up_to written_lists
references_hold = refl

-- a 4×4 list with entries behind the 16 that it uses
abbrev four : List ℕ → ℕ → FactorList
four used dc = record { entries = used ++ replicate 48 7; dc = dc }

pub unused_hold : list_bits lent (set (four (replicate 16 1) 0) (six 16) 0) 0 ≡ 0 ∷ 1 ∷ []
unfolding first_where bits_of zeros_of unsigned_bits code_number signed_bits inside diagonal diagonals up_right matrix_step size_id matrix_id default_for positions every has_dc used_count same_list difference delta_from delta_bits full_bits earlier nearest form_of form_bits list_bits written_up_to written_lists
unused_hold = refl

-- the diagonal order: 8, 8, 9, then 8 on; the third delta takes the 9 back
abbrev bump : List ℕ
bump = 8 ∷ 9 ∷ replicate 14 8

pub full_holds : list_bits lent (set (four bump 0) (six 16) 0) 0 ≡ 1 ∷ 1 ∷ 1 ∷ 0 ∷ 1 ∷ 0 ∷ 0 ∷ 1 ∷ 1 ∷ replicate 12 1
unfolding first_where bits_of zeros_of unsigned_bits code_number signed_bits inside diagonal diagonals up_right matrix_step size_id matrix_id default_for positions every has_dc used_count same_list difference delta_from delta_bits full_bits earlier nearest form_of form_bits list_bits written_up_to written_lists
full_holds = refl

pub reader_holds : scaling_list_data lent (bytes_of (written_lists lent (set (four bump 0) sixteens 0)))
    ≡ Ok (set (record { entries = bump ++ replicate 48 0; dc = 16 }) sixteens 16, 225)
unfolding first_where bits_of zeros_of unsigned_bits code_number signed_bits inside diagonal diagonals up_right matrix_step size_id matrix_id default_for positions every has_dc used_count same_list difference delta_from delta_bits full_bits earlier nearest form_of form_bits list_bits written_up_to written_lists tabulate tabulate_from bits_value byte_count byte_of bytes_of is_there bit_at bits_number leading_zeros code_of unsigned_code signed_number list_number outside_of added next_coef number_at delta_code entries_from dc_code coded_entries coded_list reference_code referred taken_over list_by list_code lists_from scaling_list_data
reader_holds = refl
