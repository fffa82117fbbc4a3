-- One stream of the two (change request R-10: a deck), from its own calls alone: twelve numbers, each free or holding a list and a DC.
-- Letters: d which stream, s its places, i a number.
--   Place             free, or held: a list and its DC, as last stored there
--   Stream            the places of the numbers 0 to 11
--   empty_stream       every number is free
--   numbered s i      the place of a number; one above 11 holds nothing
--   lowest_free s      the lowest free number, and 12 where none is
--   stream_refused d   18: the stream is not one of the two
--   missing d s i     18: so it is, or it does not hold the number
--   full s            17: it holds 12 already
--   LowestFree s r     a search answers the lowest free number, or none where the stream is full
--   number_ladder      rows 7 and 18 of a call that names a number; `short` says that the lent table has no room for 24 places
--   number_answer      the answer of such a call, where it hands back no value
use Rattle.std.specs.Prelude.{◌≡◌, Bool, true, false, ◌||◌, cond, List, [], Option, Some, None, ℕ, ◌<◌, leb, ltb, get_or, replicate}
use Rattle.integers.specs.Search.{first_where}
use Rattle.refusal.specs.declared.Refusal.{Refusal}
use Rattle.refusal.specs.declared.Refusal.TheVariants.{OutputTooShort, ListMissing}
use Rattle.refusal.specs.Outcome.{Outcome, accepted, refused}

pub data Place : Type 0 where
  free : Place
  held : List ℕ → ℕ → Place

abbrev pub is_free : Place → Bool
is_free free = true
is_free (held entries dc) = false

abbrev pub entries_of : Place → List ℕ
entries_of free = []
entries_of (held entries dc) = entries

abbrev pub dc_of : Place → ℕ
dc_of free = 0
dc_of (held entries dc) = dc

abbrev pub Stream : Type 0
Stream = List Place

unfoldable pub empty_stream : Stream
empty_stream = replicate 12 free

abbrev pub numbered : Stream → ℕ → Place
numbered s i = get_or s i free

unfoldable pub lowest_free : Stream → ℕ
lowest_free s = first_where 12 (λ i. is_free (numbered s i))

unfoldable pub stream_refused : ℕ → Bool
stream_refused d = ltb 1 d

unfoldable pub missing : ℕ → Stream → ℕ → Bool
missing d s i = stream_refused d || is_free (numbered s i)

unfoldable pub full : Stream → Bool
full s = leb 12 (lowest_free s)

-- a search for the lowest free number
abbrev pub LowestFree : Stream → Option ℕ → Type 0
LowestFree s None = full s ≡ true
LowestFree s (Some i) = (full s ≡ false) × (i < 12) × (i ≡ lowest_free s)

-- `stop` makes something of a refusal
unfoldable pub number_ladder : {A : Type 0} → (Refusal → A) → A → Bool → ℕ → Stream → ℕ → A
number_ladder stop done short d s i = cond short (stop OutputTooShort) (cond (missing d s i) (stop ListMissing) done)

unfoldable pub number_answer : Bool → ℕ → Stream → ℕ → Outcome (Unit {0})
number_answer short d s i = number_ladder (refused tt) (accepted tt) short d s i
