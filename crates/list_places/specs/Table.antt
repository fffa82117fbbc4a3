-- Both streams in one lent table of bytes. A place is 66 bytes: 0 where it is free and 1 where it is held (any other byte counts as held), DC,
-- and the 64 entries. Number i of stream d stands at place 12 × d + i.
-- Letters: d which stream, i a number, p a place.
--   entries_at table p        the 64 bytes of a place's entries
--   place_at table p          what stands at a place
--   stream_of table d         the places of a stream; one that is not of the two holds nothing
--   short table              7: fewer than 24 places
--   TableChecked table r     the test of it
--   put table p list dc      a list and its DC put at a place: 66 bytes replaced
use Rattle.std.specs.Prelude.{◌≡◌, Bool, true, false, cond, List, ◌∷◌, Result, Ok, Err, ℕ, ◌+◌, ◌*◌, ◌≤◌, eqb, ltb, length, get_or}
use Rattle.std.proofs.Math.Seq.{paste}
use Rattle.integers.specs.Lists.{tabulate}
use Rattle.refusal.specs.declared.Refusal.{Refusal}
use Rattle.refusal.specs.declared.Refusal.TheVariants.{OutputTooShort}
use Rattle.list_places.specs.Stream.{Place, Stream, empty_stream, stream_refused}
use Rattle.list_places.specs.Stream.Place.{free, held}

unfoldable pub entries_at : List ℕ → ℕ → List ℕ
entries_at table p = tabulate 64 (λ j. get_or table (66 * p + 2 + j) 0)

unfoldable pub place_at : List ℕ → ℕ → Place
place_at table p = cond (eqb (get_or table (66 * p) 0) 0) free (held (entries_at table p) (get_or table (66 * p + 1) 0))

unfoldable pub stream_of : List ℕ → ℕ → Stream
stream_of table d = cond (stream_refused d) empty_stream (tabulate 12 (λ i. place_at table (12 * d + i)))

unfoldable pub short : List ℕ → Bool
short table = ltb (length table) 1584

abbrev pub TableChecked : List ℕ → Result (Unit {0}) Refusal → Type 0
TableChecked table (Ok _) = (short table ≡ false) × (1584 ≤ length table)
TableChecked table (Err e) = (short table ≡ true) × (e ≡ OutputTooShort)

abbrev pub put : List ℕ → ℕ → List ℕ → ℕ → List ℕ
put table p list dc = paste table (66 * p) (1 ∷ dc ∷ list) 66
