-- What writing scaling lists hands back. Change request R-12, and rows 5, 7 and 16 of the table.
--   nonzero s l             no entry that the size uses is 0, nor DC where it has one
--   values_refused lists     16: one of the 20 lists has such a 0
--   room_refused bits room   7: fewer bytes have room than the bits take
--   lists_written            the answer and the buffer: the bits as bytes from the start on, as lent where the call is refused
--   Writes                  a call's answer and its buffer are what that says
-- Row 5 is asked first, of the defaults as the reader asks it and of what is to be written, and 16 before 7. Buffers of lists and DC numbers may be longer: what stands behind the 20 is not looked at.
use Rattle.std.specs.Prelude.{◌≡◌, Bool, true, cond, not, ◌||◌, ◌&&◌, List, ℕ, eqb, ltb, length, Result}
use Rattle.integers.specs.Lists.{overwrite}
use Rattle.refusal.specs.declared.Refusal.{Refusal}
use Rattle.refusal.specs.declared.Refusal.TheVariants.{ListLengthInvalid, OutputTooShort, ListValueInvalid}
use Rattle.refusal.specs.Outcome.{Outcome, accepted, refused, outcome}
use Rattle.bits_written.specs.Bytes.{byte_count, byte_of}
use Rattle.scaling_lists_codes.specs.Syntax.{FactorList, Defaults, size_id}
use Rattle.scaling_lists_taken.specs.Held.{defaults_refused, held}
use Rattle.scaling_lists_written.specs.Same.{every, has_dc, used_count, entry, list_at}
use Rattle.scaling_lists_written.specs.Written.{written_lists}
use Rattle.scaling_lists_put.specs.Lists.{set_refused}

unfoldable pub nonzero : ℕ → FactorList → Bool
nonzero s l = every (used_count s) (λ i. not (eqb (entry l i) 0)) && cond (has_dc s) (not (eqb l.dc 0)) true

unfoldable pub values_refused : List FactorList → Bool
values_refused lists = not (every 20 (λ j. nonzero (size_id j) (list_at lists j)))

unfoldable pub room_refused : ℕ → ℕ → Bool
room_refused bits room = ltb room (byte_count bits)

pub record ListsWritten : Type 0 where
  pub answer : Outcome ℕ
  pub out : List ℕ

abbrev pub untouched : List ℕ → Refusal → ListsWritten
untouched out e = record { answer = refused 0 e; out = out }

unfoldable pub written : List ℕ → List ℕ → ListsWritten
written out bits =
    cond (room_refused (length bits) (length out)) (untouched out OutputTooShort)
    (record { answer = accepted (length bits); out = overwrite (byte_count (length bits)) (byte_of bits) out })

unfoldable pub lists_written : Defaults → List ℕ → List ℕ → List ℕ → ListsWritten
lists_written lent lists dcs out =
    cond (defaults_refused lent || set_refused (length lists) (length dcs)) (untouched out ListLengthInvalid)
    (cond (values_refused (held 20 lists dcs)) (untouched out (ListValueInvalid 0))
    (written out (written_lists lent (held 20 lists dcs))))

pub record Writes (r : Result ℕ Refusal) (out : List ℕ) (w : ListsWritten) : Type 0 where
  pub answered : outcome 0 r ≡ w.answer
  pub out_is : out ≡ w.out
