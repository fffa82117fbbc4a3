-- What holds of the bits written, as statements; proofs/WrittenLaws.antt proves both. Change request R-12.
--   ReadBack                   the reader gets the lists that were written, as far as their sizes use them, and ends behind their bits
--   ReaderGetsWhatWasWritten   that, from any bytes that begin with the bits written
--   EqualBitsMeanEqualLists    under the same defaults two sets of lists give equal bits exactly when they are equal as their sizes use them
use Rattle.std.specs.Prelude.{◌≡◌, List, ◌↔◌, ℕ, length, Ok}
use Rattle.bits_written.specs.Bytes.{Begins}
use Rattle.scaling_lists_codes.specs.Syntax.{FactorList, Defaults, scaling_list_data}
use Rattle.scaling_lists_written.specs.Same.{used_lists, Writable}
use Rattle.scaling_lists_written.specs.Written.{written_lists, read_lists, Whole}

pub record ReadBack (lent : Defaults) (lists : List FactorList) (bytes : List ℕ) : Type 0 where
  pub read : scaling_list_data lent bytes ≡ Ok (read_lists lent lists, length (written_lists lent lists))
  pub as_written : used_lists (read_lists lent lists) ≡ used_lists lists

abbrev pub ReaderGetsWhatWasWritten : Type 0
ReaderGetsWhatWasWritten =
    (lent : Defaults) (lists : List FactorList) → Whole lent → Writable lists
    → (bytes : List ℕ) → Begins bytes 0 (written_lists lent lists) → ReadBack lent lists bytes

abbrev pub EqualBitsMeanEqualLists : Type 0
EqualBitsMeanEqualLists =
    (lent : Defaults) (a b : List FactorList) → Whole lent → Writable a → Writable b
    → (written_lists lent a ≡ written_lists lent b) ↔ (used_lists a ≡ used_lists b)
