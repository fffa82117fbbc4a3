-- What holds of the buffers that accepted calls leave, as statements; proofs/ReadBackLaws.antt proves both. Change request R-12.
--   Bytes xs               each element is a byte, as every slice of bytes has it
--   ReaderReadsTheBuffer   where a call answers 0, the reader gets the lists from the buffer as it is then, under the same defaults, and the
--                          number of bits that the call answers is that of the bits written
--   SameBits v w           two calls left equal bits: as many, and the bytes that hold them are equal
--   EqualCallsMeanEqualLists   under the same defaults two calls that answer 0 leave equal bits exactly when their lists are equal as their
--                          sizes use them
use Rattle.std.specs.Prelude.{◌≡◌, List, ◌↔◌, ℕ, ◌≤◌, ◌<◌, length, get_or}
use Rattle.bits_written.specs.Bytes.{byte_count}
use Rattle.scaling_lists_codes.specs.Syntax.{Defaults}
use Rattle.scaling_lists_taken.specs.Held.{held}
use Rattle.scaling_lists_written.specs.Same.{used_lists}
use Rattle.scaling_lists_written.specs.Written.{written_lists}
use Rattle.scaling_lists_written.specs.Statements.{ReadBack}
use Rattle.scaling_lists_writer.specs.Answers.{ListsWritten, lists_written}

pub record Bytes (xs : List ℕ) : Type 0 where
  pub small : (i : ℕ) → get_or xs i 0 ≤ 255

abbrev pub ReaderReadsTheBuffer : Type 0
ReaderReadsTheBuffer =
    (lent : Defaults) (lists dcs out : List ℕ) → Bytes lists → Bytes dcs → (lists_written lent lists dcs out).answer.number ≡ 0
    → ReadBack lent (held 20 lists dcs) (lists_written lent lists dcs out).out
    × ((lists_written lent lists dcs out).answer.value ≡ length (written_lists lent (held 20 lists dcs)))

pub record SameBits (v w : ListsWritten) : Type 0 where
  pub count : v.answer.value ≡ w.answer.value
  pub bytes : (k : ℕ) → k < byte_count v.answer.value → get_or v.out k 0 ≡ get_or w.out k 0

abbrev pub EqualCallsMeanEqualLists : Type 0
EqualCallsMeanEqualLists =
    (lent : Defaults) (lists dcs out lists' dcs' out' : List ℕ) → Bytes lists → Bytes dcs → Bytes lists' → Bytes dcs'
    → (lists_written lent lists dcs out).answer.number ≡ 0 → (lists_written lent lists' dcs' out').answer.number ≡ 0
    → SameBits (lists_written lent lists dcs out) (lists_written lent lists' dcs' out') ↔ (used_lists (held 20 lists dcs) ≡ used_lists (held 20 lists' dcs'))
