-- Examples of the rules as one list of cases under one statement, worked out by clause 8.6 and the table of refusals: an opening, an edit right of
-- the columns in use, edits that are refused, levels that are limited. All but the last are of a 4×4 DCT block at depth 8, in buffers that have
-- one element more than the block.
--   examples       the list of cases
--   ExamplesHold   the statement: every definition gives what is right
use Rattle.std.specs.Prelude.{Bool, false, cond, List, [], ◌∷◌, ◌++◌, map, ℕ, ℤ, pos, neg_ℤ, set, replicate}
use Rattle.integers.specs.Examples.{Case, AllHold, ◌gives◌}
use Rattle.refusal.specs.Outcome.{Outcome}
use Rattle.transform_1d.specs.declared.Kind.TheVariants.{Dct}
use Rattle.block_rules.specs.declared.EditedBlock.{EditedBlock}
use Rattle.block_rules.specs.declared.Source.{Source}
use Rattle.block_rules.specs.Edit.{Buffers, Left, buffers, zero_block, edited}
use Rattle.block_rules.specs.Opening.{Opening, on_coefficients, opened_as, block_of}
use Rattle.block_rules.specs.Level.{scaled_by, LevelLeft, level_edited, on_levels, on_scaled_levels, OpenLeft, level_opened}

-- ---- blocks, with 7 behind each
-- four equal rows
rows : ℤ → ℤ → ℤ → ℤ → List ℤ
rows a b c d = let row : List ℤ = a ∷ b ∷ c ∷ d ∷ [] in row ++ (row ++ (row ++ (row ++ (pos 7 ∷ []))))

zeros : List ℤ
unfolding rows
zeros = rows (pos 0) (pos 0) (pos 0) (pos 0)

-- zeros but for one element
only : ℕ → ℤ → List ℤ
only i z = set zeros i z

on_zeros : Buffers
on_zeros = buffers zeros zeros zeros

-- an opening on coefficients, one on levels with QP' 4, and one with a list, too; and the first two's records, no column in use
coefficients : Opening
coefficients = on_coefficients Dct 4 8 false

levels : Opening
levels = on_levels Dct 4 8 false (pos 4)

listed : Opening
listed = on_scaled_levels Dct 4 8 false (pos 4) (20 ∷ replicate 63 7) 30

blank : Opening → EditedBlock
blank o = block_of o 0

-- ---- what a call hands back, as numbers
flag : Bool → ℤ
flag t = cond t (pos 1) (pos 0)

-- number, row and column of an answer
numbers : {A : Type 0} → Outcome A → List ℤ
numbers o = pos o.number ∷ pos o.row ∷ pos o.column ∷ []

held : Buffers → List ℤ
held lent = lent.coeff ++ (lent.inter ++ lent.res)

-- answer, column count and buffers
left : Left → List ℤ
left h = numbers h.answer ++ (pos h.block.columns ∷ held h.buffers)

-- the same of a level edit, with its flags before and the levels behind
level_left : LevelLeft → List ℤ
level_left h =
    flag h.answer.value.level
    ∷ flag h.answer.value.result
    ∷ (numbers h.answer ++ (pos h.block.columns ∷ (held h.buffers ++ h.levels)))

-- the same of an opening on levels, with how many were limited before and the record's source behind
open_left : OpenLeft → List ℤ
open_left h =
    let s : Source = h.block.source in
    let source : List ℤ = flag s.levels ∷ s.qp_prime.0 ∷ flag s.listed ∷ pos s.dc ∷ map pos s.entries in
    pos h.answer.value ∷ (numbers h.answer ++ (pos h.block.columns ∷ (held h.buffers ++ source)))

-- what is right: the numbers of an answer, then lists
answer : ℕ → ℕ → ℕ → ℕ → List ℤ → List ℤ
answer number row column columns rest = pos number ∷ pos row ∷ pos column ∷ pos columns ∷ rest

three : List ℤ → List ℤ → List ℤ → List ℤ
three d g e = d ++ (g ++ e)

-- 64 at row 0 and column 3 gives 32 down column 3 of the intermediate, and these rows of the residual
one_edit : List ℤ
unfolding only zeros rows three
one_edit = three (only 3 (pos 64)) (rows (pos 0) (pos 0) (pos 0) (pos 32)) (rows (pos 0) (neg_ℤ (pos 1)) (pos 1) (pos 0))

unfoldable pub examples : List (Case (List ℤ))
unfolding rows zeros only on_zeros coefficients levels listed blank flag numbers held left level_left open_left answer three one_edit
examples =
    -- an opening, and one that is refused: the record is zeros
    (left (opened_as coefficients (buffers (only 0 (pos 64)) zeros zeros)) gives
    answer 0 0 0 1 (three (only 0 (pos 64)) (rows (pos 32) (pos 0) (pos 0) (pos 0)) (rows (pos 1) (pos 1) (pos 1) (pos 1))))
    ∷ (left (opened_as coefficients (buffers (only 15 (pos 32768)) zeros zeros)) gives answer 9 3 3 0 (three (only 15 (pos 32768)) zeros zeros))
    -- an edit right of the columns in use
    ∷ (left (edited (blank coefficients) on_zeros 0 3 (pos 64)) gives answer 0 0 0 4 one_edit)
    -- refused edits: a value above the range and one below it, a place, a block that was opened on levels, a record of zeros
    ∷ (left (edited (blank coefficients) on_zeros 0 3 (pos 32768)) gives answer 9 0 3 0 (three zeros zeros zeros))
    ∷ (left (edited (blank coefficients) on_zeros 2 1 (neg_ℤ (pos 32769))) gives answer 19 2 1 0 (three zeros zeros zeros))
    ∷ (left (edited (blank coefficients) on_zeros 0 4 (pos 64)) gives answer 8 0 0 0 (three zeros zeros zeros))
    ∷ (left (edited (blank levels) on_zeros 0 3 (pos 64)) gives answer 10 0 0 0 (three zeros zeros zeros))
    ∷ (left (edited zero_block on_zeros 0 3 (pos 64)) gives answer 1 0 0 0 (three zeros zeros zeros))
    -- a level edit: 32 times the level; and one that is limited, and so is its result: the level stays as it was given
    ∷ (level_left (level_edited (blank levels) zeros on_zeros 0 3 (pos 2)) gives (pos 0 ∷ pos 0 ∷ answer 0 0 0 4 (one_edit ++ only 3 (pos 2))))
    ∷ (level_left (level_edited (blank levels) zeros on_zeros 0 3 (pos 40000)) gives
    (pos 1
    ∷ pos 1
    ∷ answer 0 0 0 4
    (three (only 3 (pos 32767)) (rows (pos 0) (pos 0) (pos 0) (pos 16384)) (rows (pos 144) (neg_ℤ (pos 332)) (pos 332) (neg_ℤ (pos 144))) ++ only 3 (pos 40000))))
    -- of a block that was opened on coefficients: 10 before 8
    ∷ (level_left (level_edited (blank coefficients) zeros on_zeros 9 3 (pos 2)) gives (pos 0 ∷ pos 0 ∷ answer 10 0 0 0 (three zeros zeros zeros ++ zeros)))
    -- openings on levels, without a list and with one: one level is limited, and the record keeps what levels are scaled by
    ∷ (open_left (level_opened levels (only 3 (pos 40000)) on_zeros) gives
    (pos 1
    ∷ answer 0 0 0 4
    (three (only 3 (pos 32767)) (rows (pos 0) (pos 0) (pos 0) (pos 16384)) (rows (pos 144) (neg_ℤ (pos 332)) (pos 332) (neg_ℤ (pos 144)))
    ++ (pos 1 ∷ pos 4 ∷ pos 0 ∷ pos 0 ∷ replicate 64 (pos 0)))))
    ∷ (open_left (level_opened listed (only 3 (pos 40000)) on_zeros) gives
    (pos 1
    ∷ answer 0 0 0 4
    (three (only 3 (pos 32767)) (rows (pos 0) (pos 0) (pos 0) (pos 16384)) (rows (pos 144) (neg_ℤ (pos 332)) (pos 332) (neg_ℤ (pos 144)))
    ++ (pos 1 ∷ pos 4 ∷ pos 1 ∷ pos 30 ∷ pos 20 ∷ replicate 63 (pos 7)))))
    -- at size 8 index 0 has an entry, and at size 16 the DC number: 16 and 8 times m
    ∷ ((scaled_by listed.source 8 8 false 0 (pos 16) ∷ scaled_by listed.source 16 8 false 0 (pos 16) ∷ []) gives (pos 320 ∷ pos 240 ∷ []))
    ∷ []

unfoldable pub ExamplesHold : Type 0
ExamplesHold = AllHold examples
