-- What an accepted call leaves in its buffer is read as the lists that were written, and two calls leave equal bits exactly for equal lists.
--   writable_held            lists of bytes that row 16 does not refuse can be written
--   reader_reads_the_buffer, equal_calls_mean_equal_lists   the statements of specs/Statements.antt
use mathlib.Core.Path.{◌≡◌, refl, sym, ap, ◌∙◌}
use mathlib.Core.Bool.{Bool, true, false, cond, not, ◌||◌}
use mathlib.Core.List.{List}
use Prim.Native.Nat.{ℕ, ◌+◌, ◌-◌, ◌*◌, ◌/◌, ◌%◌, ◌^◌, ◌≤◌, ◌<◌}
use native.Mathlib.Omega.{arith}
use borrow.Author.Tests.{ltb-false, not-true, not-false, eqb-false}
use lib.Dec.{eqb}
use lib.ListN.{length, get_or}
use lib.Seq.{ext_get_or}
use Rattle.integers.specs.Lists.{overwrite}
use Rattle.integers.proofs.ListsLaws.{tabulate-get_or, overwrite-get_or, overwrite-length}
use Rattle.integers.proofs.TestLaws.{neither}
use Rattle.refusal.specs.declared.Refusal.TheVariants.{ListLengthInvalid, OutputTooShort, ListValueInvalid}
use Rattle.refusal.specs.Outcome.{accepted}
use Rattle.bits.specs.Bits.{bit_at}
use Rattle.bits_written.specs.Bytes.{byte_count, byte_of, Begins}
use Rattle.bits_written.proofs.BytesLaws.{begins_bytes}
use Rattle.scaling_lists_codes.specs.Syntax.{FactorList, Defaults, size_id}
use Rattle.scaling_lists_taken.specs.Held.{defaults_refused, held_at, held}
use Rattle.scaling_lists_written.specs.Same.{every, has_dc, used_count, entry, Proper, list_at, Writable}
use Rattle.scaling_lists_written.specs.Written.{written_lists, Whole}
use Rattle.scaling_lists_written.proofs.SameLaws.{both, every-at, used_few}
use Rattle.scaling_lists_written.proofs.WrittenLaws.{written_binary, reader_gets_what_was_written, equal_bits_mean_equal_lists}
use Rattle.scaling_lists_put.specs.Lists.{set_refused}
use Rattle.scaling_lists_put.proofs.CompareLaws.{held-list}
use Rattle.scaling_lists_writer.specs.Answers.{nonzero, values_refused, room_refused, untouched, written, lists_written, ListsWritten}
use Rattle.scaling_lists_writer.specs.Statements.{Bytes, ReaderReadsTheBuffer, SameBits, EqualCallsMeanEqualLists}
use Rattle.scaling_lists_writer.proofs.ValueLaws.{whole_accepted}

least : (n : ℕ) → not (eqb n 0) ≡ true → 1 ≤ n
least n e = let h = eqb-false n 0 (not-true (eqb n 0) e) in omega arith

-- ---- lists that can be written
module _ (s : ℕ) (l : FactorList) (few : (i : ℕ) → i < 64 → entry l i ≤ 255) (small : l.dc ≤ 255) where
  pub proper_list : nonzero s l ≡ true → Proper s l
  unfolding nonzero
  proper_list e =
      let b = both (every (used_count s) (λ i. not (eqb (entry l i) 0))) (cond (has_dc s) (not (eqb l.dc 0)) true) e in
      record {
        entries_least = λ i h. least (entry l i) (every-at (used_count s) (λ i. not (eqb (entry l i) 0)) b.0 i h);
        entries_most = λ i h. few i (omega (arith, used_few s));
        dc_least = λ d. least l.dc (rw d at b.1);
        dc_most = λ d. small;
      }

module _ (lists dcs : List ℕ) (f : Bytes lists) (g : Bytes dcs) where
  pub writable_held : values_refused (held 20 lists dcs) ≡ false → Writable (held 20 lists dcs)
  unfolding values_refused
  writable_held e =
      let all = not-false (every 20 (λ j. nonzero (size_id j) (list_at (held 20 lists dcs) j))) e in
      record {
        proper = λ j h.
            let is = held-list lists dcs j h in
            rw is
            (proper_list (size_id j) (held_at lists dcs j)
            (λ i l. rw (tabulate-get_or 64 (λ i. get_or lists (64 * j + i) 0) i 0 l) (f.small (64 * j + i)))
            (g.small j)
            (rw is at (every-at 20 (λ j. nonzero (size_id j) (list_at (held 20 lists dcs) j)) all j h)));
      }

-- ---- a call that answers 0
record Accepted (lent : Defaults) (lists dcs out : List ℕ) (w : ListsWritten) : Type 0 where
  pub whole : Whole lent
  pub writable : Writable (held 20 lists dcs)
  pub count : w.answer.value ≡ length (written_lists lent (held 20 lists dcs))
  pub room : byte_count (length (written_lists lent (held 20 lists dcs))) ≤ length out
  pub buffer : w.out ≡ overwrite (byte_count (length (written_lists lent (held 20 lists dcs)))) (byte_of (written_lists lent (held 20 lists dcs))) out

module _ (lent : Defaults) (lists dcs out : List ℕ) (f : Bytes lists) (g : Bytes dcs) where
  abbrev bits : List ℕ
  bits = written_lists lent (held 20 lists dcs)

  abbrev IfAccepted : ListsWritten → Type 0
  IfAccepted w = w.answer.number ≡ 0 → Accepted lent lists dcs out w

  by_room : (t : Bool) → room_refused (length bits) (length out) ≡ t → Whole lent → values_refused (held 20 lists dcs) ≡ false
      → IfAccepted (cond t (untouched out OutputTooShort) (record { answer = accepted (length bits); out = overwrite (byte_count (length bits)) (byte_of bits) out }))
  unfolding room_refused
  by_room true e long v z = absurd (let b : ⊥ = omega arith in b)
  by_room false e long v z =
      record {
        whole = long;
        writable = writable_held lists dcs f g v;
        count = refl;
        room = ltb-false (length out) (byte_count (length bits)) e;
        buffer = refl;
      }

  by_values : (t : Bool) → values_refused (held 20 lists dcs) ≡ t → Whole lent → IfAccepted (cond t (untouched out (ListValueInvalid 0)) (written out bits))
  unfolding written
  by_values true e long z = absurd (let b : ⊥ = omega arith in b)
  by_values false e long z = by_room (room_refused (length bits) (length out)) refl long e z

  by_lengths : (t : Bool) → defaults_refused lent || set_refused (length lists) (length dcs) ≡ t
      → IfAccepted (cond t (untouched out ListLengthInvalid) (cond (values_refused (held 20 lists dcs)) (untouched out (ListValueInvalid 0)) (written out bits)))
  by_lengths true e z = absurd (let b : ⊥ = omega arith in b)
  by_lengths false e z =
      by_values (values_refused (held 20 lists dcs)) refl (whole_accepted lent (neither (defaults_refused lent) (set_refused (length lists) (length dcs)) e).0) z

  call_accepted : IfAccepted (lists_written lent lists dcs out)
  unfolding lists_written
  call_accepted = by_lengths (defaults_refused lent || set_refused (length lists) (length dcs)) refl

module _ {lent : Defaults} {lists dcs out : List ℕ} {w : ListsWritten} (a : Accepted lent lists dcs out w) where
  buffer_byte : (k : ℕ) → k < byte_count (length (written_lists lent (held 20 lists dcs))) → get_or w.out k 0 ≡ byte_of (written_lists lent (held 20 lists dcs)) k
  buffer_byte k l = ap (λ (b : List ℕ). get_or b k 0) a.buffer ∙ overwrite-get_or _ (byte_of (written_lists lent (held 20 lists dcs))) out k 0 l

  buffer_begins : Begins w.out 0 (written_lists lent (held 20 lists dcs))
  buffer_begins =
      begins_bytes (written_lists lent (held 20 lists dcs)) w.out (written_binary lent (held 20 lists dcs))
      (rw (a.buffer, overwrite-length _ (byte_of (written_lists lent (held 20 lists dcs))) out a.room) a.room)
      buffer_byte

-- ---- what the reader gets from the buffer
pub reader_reads_the_buffer : ReaderReadsTheBuffer
reader_reads_the_buffer lent lists dcs out f g z =
    let a = call_accepted lent lists dcs out f g z in
    (reader_gets_what_was_written lent (held 20 lists dcs) a.whole a.writable _ (buffer_begins a), a.count)

-- ---- two calls
module _ {lent : Defaults} {lists dcs out lists' dcs' out' : List ℕ} {v w : ListsWritten} (a : Accepted lent lists dcs out v) (b : Accepted lent lists' dcs' out' w) where
  abbrev first : List ℕ
  first = written_lists lent (held 20 lists dcs)

  abbrev second : List ℕ
  second = written_lists lent (held 20 lists' dcs')

  bits_same : SameBits v w → first ≡ second
  unfolding byte_count bit_at
  bits_same s =
      let n : length first ≡ length second = sym a.count ∙ s.count ∙ b.count in
      ext_get_or 0 first second n
      (λ i l. sym ((buffer_begins a).same i l)
      ∙ bit_same i (rw a.count l)
      ∙ (buffer_begins b).same i (omega (arith, n)))
    where
      bit_same : (i : ℕ) → i < v.answer.value → bit_at v.out (0 + i) ≡ bit_at w.out (0 + i)
      bit_same i l = ap (λ (byte : ℕ). byte / 2 ^ (7 - (0 + i) % 8) % 2) (s.bytes ((0 + i) / 8) (omega arith))

  calls_same : first ≡ second → SameBits v w
  calls_same e =
      record {
        count = a.count ∙ ap length e ∙ sym b.count;
        bytes = λ k l.
            let h : k < byte_count (length first) = rw a.count at l in
            buffer_byte a k h ∙ ap (λ (bits : List ℕ). byte_of bits k) e ∙ sym (buffer_byte b k (rw e at h));
      }

pub equal_calls_mean_equal_lists : EqualCallsMeanEqualLists
equal_calls_mean_equal_lists lent lists dcs out lists' dcs' out' f g f' g' y z =
    let a = call_accepted lent lists dcs out f g y in
    let b = call_accepted lent lists' dcs' out' f' g' z in
    let e = equal_bits_mean_equal_lists lent (held 20 lists dcs) (held 20 lists' dcs') a.whole a.writable b.writable in
    ((λ s. e.0 (bits_same a b s)), (λ u. calls_same a b (e.1 u)))
