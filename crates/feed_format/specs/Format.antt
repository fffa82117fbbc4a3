-- The format of a feed's records: one byte of kind, then a body whose length the kind fixes. docs/RULES.md, "The feed".
--   kind_of k          what a byte of kind stands for, if it stands for one
--   body_length kind   how many bytes of body follow it
--   by_kind f k        f of a kind, 0 of none
--   record_length k    the same by the byte: 4, 65, 0 for 1, 2, 3, 4 n² for 4 .. 7, and 6, 0 for 8, 9; a kind that is not known has none
--   text_room kind     the bytes that the text of a record may take: 12 for each number of its rows, and 29 for the line behind them
--   record_room k      the same by the byte
--   is_unknown kind    a byte that is no kind
--   size_known kind    levels of one of the four sizes, or none
--   flag_of f          a flag of 0 or 1
--   mode_of m          DCT and DST for 0 and 1, transform skip for any other number
--   known_mode m       the same for 0, 1, 2, and none for any other number
--   dst_refused mode n    row 4: the DST has size 4 only
--   list_ignored mode n   a block that is scaled without a list, though one may be in force
--   signed32 u        the signed number that 32 bits stand for
--   level_at body i    level i of a body: four bytes, low byte first, signed
--   levels_of n body   the n² levels of a body
--   list_of body      64 entries, then DC
--   edit_row, edit_column, edit_level   what the body of an edit holds: one byte, one byte, and a level
use Rattle.std.specs.Prelude.{Bool, true, false, cond, List, ℕ, ◌+◌, ◌*◌, eqb, ltb, ℤ, pos, ◌-ℤ◌, get_or, take, drop, Option, Some, None}
use Rattle.integers.specs.Lists.{tabulate}
use Rattle.h265.specs.Range.{is_size}
use Rattle.feed_format.specs.declared.Kind.{Kind}
use Rattle.feed_format.specs.declared.Kind.TheVariants.{Parameters, List as ListKind, NoList, Levels, Edit, Reading}
use Rattle.feed_format.specs.declared.List.{List as FeedList}
use Rattle.feed_format.specs.declared.Mode.{Mode}
use Rattle.feed_format.specs.declared.Mode.TheVariants.{Transform, Skip}
use Rattle.transform_1d.specs.declared.Kind.TheVariants.{Dct, Dst}
use Rattle.transform_1d.specs.Kinds.{dst_refused as kind_refused}

unfoldable pub kind_of : ℕ → Option Kind
kind_of k =
    cond (eqb k 1) (Some Parameters)
    (cond (eqb k 2) (Some ListKind)
    (cond (eqb k 3) (Some NoList)
    (cond (eqb k 4) (Some (Levels 4))
    (cond (eqb k 5) (Some (Levels 8))
    (cond (eqb k 6) (Some (Levels 16))
    (cond (eqb k 7) (Some (Levels 32))
    (cond (eqb k 8) (Some Edit)
    (cond (eqb k 9) (Some Reading) None))))))))

abbrev pub is_unknown : Option Kind → Bool
is_unknown (Some kind) = false
is_unknown None = true

abbrev pub by_kind : (Kind → ℕ) → Option Kind → ℕ
by_kind f (Some kind) = f kind
by_kind f None = 0

abbrev pub size_known : Kind → Bool
size_known Parameters = true
size_known ListKind = true
size_known NoList = true
size_known (Levels n) = is_size n
size_known Edit = true
size_known Reading = true

abbrev pub body_length : Kind → ℕ
body_length Parameters = 4
body_length ListKind = 65
body_length NoList = 0
body_length (Levels n) = 4 * (n * n)
body_length Edit = 6
body_length Reading = 0

unfoldable pub record_length : ℕ → ℕ
record_length k = by_kind body_length (kind_of k)

-- a reading may be of the largest size
abbrev pub text_room : Kind → ℕ
text_room Parameters = 0
text_room ListKind = 0
text_room NoList = 0
text_room (Levels n) = 12 * (n * n) + 29
text_room Edit = 0
text_room Reading = 12317

unfoldable pub record_room : ℕ → ℕ
record_room k = by_kind text_room (kind_of k)

unfoldable pub flag_of : ℕ → Option Bool
flag_of f = cond (eqb f 0) (Some false) (cond (eqb f 1) (Some true) None)

unfoldable pub mode_of : ℕ → Mode
mode_of m = cond (eqb m 0) (Transform Dct) (cond (eqb m 1) (Transform Dst) Skip)

unfoldable pub known_mode : ℕ → Option Mode
known_mode m = cond (ltb 2 m) None (Some (mode_of m))

unfoldable pub dst_refused : Mode → ℕ → Bool
dst_refused (Transform kind) n = kind_refused kind n
dst_refused Skip n = false

-- clause 8.6: m is 16 for a transform-skip block with nTbS above 4
unfoldable pub list_ignored : Mode → ℕ → Bool
list_ignored (Transform kind) n = false
list_ignored Skip n = ltb 4 n

unfoldable pub signed32 : ℕ → ℤ
signed32 u = cond (ltb u 2147483648) (pos u) (pos u -ℤ pos 4294967296)

unfoldable pub level_at : List ℕ → ℕ → ℤ
level_at body i =
    let byte : ℕ → ℕ = λ k. get_or body (4 * i + k) 0 in
    signed32 (byte 0 + 256 * (byte 1 + 256 * (byte 2 + 256 * byte 3)))

unfoldable pub levels_of : ℕ → List ℕ → List ℤ
levels_of n body = tabulate (n * n) (level_at body)

abbrev pub list_of : List ℕ → FeedList
list_of body = record { entries = take 64 body; dc = get_or body 64 0 }

abbrev pub edit_row : List ℕ → ℕ
edit_row body = get_or body 0 0

abbrev pub edit_column : List ℕ → ℕ
edit_column body = get_or body 1 0

unfoldable pub edit_level : List ℕ → ℤ
edit_level body = level_at (drop 2 body) 0
