-- The next record of an input, and the turns over a feed, as relations.
--   Ended old new                 the input has ended, and lost no byte
--   RecordRead old kind body new  it lost a byte of kind and its body, all of it, or as much as there was
--   NextRead old next new         what it says next: a record, or that it has ended
--   Turned step before s after    one turn, of closure and state, which answers the state that comes next
--   TurnsFrom step old s new      turns from a state on, each on what the one before it answered, until one answers none, or as many as 64 bits count, and no turn more
use Rattle.std.specs.Prelude.{◌≡◌, ◌⊎◌, ◌<◌, ◌≤◌, ℕ, List, [], ◌∷◌, length, None, Some}
use Rattle.std.specs.declared.option.Option.{Option}
use Rattle.std.specs.List.{FoldsTo}
use Rattle.std.specs.Borrow.{Bor}
use Rattle.std.specs.Io.KnownBytes.{Consumes, IsAtEnd}
use Rattle.feed_format.specs.Format.{record_length}

abbrev pub Ended : Option (List ℕ) → Option (List ℕ) → Type 0
Ended old new = Consumes old new [] × IsAtEnd new

abbrev pub RecordRead : Option (List ℕ) → ℕ → List ℕ → Option (List ℕ) → Type 0
RecordRead old kind body new =
    Consumes old new (kind ∷ body) × (length body ≤ record_length kind) × (length body < record_length kind → IsAtEnd new)

abbrev pub NextRead : Option (List ℕ) → Option (ℕ × Bor (List ℕ)) → Option (List ℕ) → Type 0
NextRead old None new = Ended old new
NextRead old (Some r) new = RecordRead old r.0 r.1.now new

abbrev pub Turned : {F S : Type 0} → (F → S → Option S → F → Type 0) → F × S → S → F × S → Type 0
Turned step before state after = step before.0 before.1 (Some state) after.0 × (after.1 ≡ state)

abbrev pub TurnsFrom : {F S : Type 0} → (F → S → Option S → F → Type 0) → F → S → F → Type 0
TurnsFrom {F} {S} step old first new =
    (states : List S) × (last : F × S) × FoldsTo (Turned step) (old, first) states last × ((length states ≡ 18446744073709551615) × (new ≡ last.0) ⊎ step last.0 last.1 None new)
