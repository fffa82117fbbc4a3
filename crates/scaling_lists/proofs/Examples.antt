-- The syntax by its definitions, on small streams; the defaults are lists of one entry, so that each can be told.
--   order_holds      size_id and matrix_id of the 20 lists
--   defaults_hold    twenty times `0 1`: every list a default, 40 bits
--   missing_holds    a reference from the first list of 32×32, whose code begins at bit 37
use mathlib.Core.Path.{◌≡◌, refl}
use mathlib.Core.List.{List, [], ◌∷◌, ◌++◌}
use Prim.Native.Nat.{ℕ, ◌+◌, ◌*◌}
use lib.ListN.{replicate}
use Rattle.std.specs.Prelude.{Ok, Err}
use Rattle.integers.specs.Lists.{tabulate_from, tabulate}
use Rattle.integers.specs.Search.{first_where}
use Rattle.refusal.specs.declared.Refusal.TheVariants.{ReferenceMissing}
use Rattle.bits.specs.Bits.{is_there, bit_at, bits_number}
use Rattle.bits.specs.ExpGolomb.{leading_zeros, code_of, unsigned_code, signed_number}
use Rattle.diagonal.specs.Scan.{inside, diagonal, diagonals, up_right}
use Rattle.scaling_lists_codes.specs.Syntax.{FactorList, Defaults, matrix_step, size_id, matrix_id, list_number, default_for, outside_of, added, next_coef, number_at, delta_code, entries_from, dc_code, positions, coded_entries, coded_list, reference_code, referred, taken_over, list_by, list_code, lists_from, scaling_list_data}

-- 10 × size_id + matrix_id
pub order_holds : tabulate 20 (λ j. 10 * size_id j + matrix_id j)
    ≡ 0 ∷ 1 ∷ 2 ∷ 3 ∷ 4 ∷ 5 ∷ 10 ∷ 11 ∷ 12 ∷ 13 ∷ 14 ∷ 15 ∷ 20 ∷ 21 ∷ 22 ∷ 23 ∷ 24 ∷ 25 ∷ 30 ∷ 33 ∷ []
unfolding tabulate tabulate_from size_id matrix_step matrix_id
order_holds = refl

abbrev lent : Defaults
lent = record { four = 1 ∷ []; intra = 2 ∷ []; inter = 3 ∷ [] }

abbrev list : ℕ → FactorList
list n = record { entries = n ∷ []; dc = 16 }

abbrev six : List FactorList
six = replicate 3 (list 2) ++ replicate 3 (list 3)

pub defaults_hold : scaling_list_data lent (85 ∷ 85 ∷ 85 ∷ 85 ∷ 85 ∷ []) ≡ Ok (replicate 6 (list 1) ++ six ++ six ++ (list 2 ∷ list 3 ∷ []), 40)
unfolding first_where is_there bit_at bits_number leading_zeros code_of unsigned_code signed_number inside diagonal diagonals up_right matrix_step size_id matrix_id list_number default_for outside_of added next_coef number_at delta_code entries_from dc_code positions coded_entries coded_list reference_code referred taken_over list_by list_code lists_from scaling_list_data
defaults_hold = refl

pub missing_holds : scaling_list_data lent (85 ∷ 85 ∷ 85 ∷ 85 ∷ 82 ∷ []) ≡ Err (ReferenceMissing 37)
unfolding first_where is_there bit_at bits_number leading_zeros code_of unsigned_code signed_number inside diagonal diagonals up_right matrix_step size_id matrix_id list_number default_for outside_of added next_coef number_at delta_code entries_from dc_code positions coded_entries coded_list reference_code referred taken_over list_by list_code lists_from scaling_list_data
missing_holds = refl
