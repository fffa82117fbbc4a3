-- The bytes that the text of a whole feed may take.
--   room_from asks fuel bytes   what each record asks, up to one of unknown kind, and 40 for the last line
--   feed_room bytes             the same of a feed's own text
use Rattle.std.specs.Prelude.{cond, List, [], ◌∷◌, ℕ, zero, suc, ◌+◌, length, drop}
use Rattle.feed_format.specs.Format.{kind_of, is_unknown, record_length, record_room}

-- by the bytes that the text of a record may take; what follows a record of unknown kind is not looked at
unfoldable pub room_from : (ℕ → ℕ) → ℕ → List ℕ → ℕ
room_from asks zero bytes = 40
room_from asks (suc fuel) [] = 40
room_from asks (suc fuel) (k ∷ bytes) = cond (is_unknown (kind_of k)) 40 (asks k + room_from asks fuel (drop (record_length k) bytes))

unfoldable pub feed_room : List ℕ → ℕ
feed_room bytes = room_from record_room (length bytes + 1) bytes
