-- Small feeds and their texts as one list of cases under one statement: a record of each kind, each refusal in its place of the order, and an edit whose
-- reading has the rows and the columns of the edited block. The feed program writes the same of the same bytes.
--   examples       the list of cases
--   ExamplesHold   the statement: every definition gives what is expected of it
use Rattle.std.specs.Prelude.{List, [], ◌∷◌, ◌++◌, ℕ, ◌/◌, ◌%◌, replicate, None}
use Prim.Native.Char.{code}
use Prim.Native.String.{String, len, char_at}
use Rattle.integers.specs.Examples.{Case, AllHold}
use Rattle.integers.specs.Lists.{tabulate}
use Rattle.h265.specs.ScalingFactor.ScalingList.{flat}
use Rattle.refusal.specs.Outcome.{Outcome}
use Rattle.feed_rules.specs.Record.{FeedState, Effect, record_effect}
use Rattle.feed_rules.specs.Feed.{History, in_history, feed_text}
use Rattle.feed_rules.specs.Feed.History.{none}

-- ---- records
-- depth, extended precision, QP' and mode
parameters : ℕ → ℕ → ℕ → ℕ → List ℕ
parameters b x q mode = 1 ∷ b ∷ x ∷ q ∷ mode ∷ []

-- 64 times the same entry, and DC
list : ℕ → ℕ → List ℕ
list m d = 2 ∷ (replicate 64 m ++ (d ∷ []))

no_list : List ℕ
no_list = 3 ∷ []

-- a level from 0 to 65535
level : ℕ → List ℕ
level v = v % 256 ∷ v / 256 ∷ 0 ∷ 0 ∷ []

-- 4×4 levels, zeros behind the first two
levels : ℕ → ℕ → List ℕ
levels v w = 4 ∷ (level v ++ (level w ++ replicate 56 0))

edit : ℕ → ℕ → ℕ → List ℕ
edit r c v = 8 ∷ r ∷ c ∷ level v

reading : List ℕ
reading = 9 ∷ []

-- ---- what they give
bytes : String → List ℕ
bytes s = tabulate (len s) (λ i. code (char_at s i))

infix 20 ◌writes◌
◌writes◌ : List ℕ → String → Case (List ℕ)
feed writes text = record { found = feed_text feed; expected = bytes text }

-- a record by itself, behind three blocks and 70 bytes: its number, and the blocks and the offset after it
leaves : ℕ → List ℕ → List ℕ → Case (List ℕ)
leaves k body expected =
    let s : FeedState History = record { given = None; list = flat; block = none; blocks = 3; offset = 70 } in
    let o : Outcome (Effect History) = record_effect in_history s k body in
    record { found = o.number ∷ o.value.state.blocks ∷ o.value.state.offset ∷ []; expected = expected }

-- at depth 8 and QP' 4 a level gives 32 times itself, and a first coefficient of 128 a residual of 1
dct : List ℕ
dct = parameters 8 0 4 0

unfoldable pub examples : List (Case (List ℕ))
unfolding parameters list no_list level levels edit reading bytes ◌writes◌ leaves dct
examples =
    -- no record, and records without a block
    ([] writes "blocks 0\n")
    ∷ ((dct ++ (list 32 16 ++ no_list)) writes "blocks 0\n")
    -- a block; the same by DST and by transform skip; one of which a coefficient is limited
    ∷ ((dct ++ levels 4 0) writes "1 1 1 1\n1 1 1 1\n1 1 1 1\n1 1 1 1\nlimited 0\nblocks 1\n")
    ∷ ((parameters 8 0 4 1 ++ levels 4 0) writes "0 0 1 1\n0 1 1 1\n1 1 1 2\n1 1 2 2\nlimited 0\nblocks 1\n")
    ∷ ((parameters 8 0 4 2 ++ levels 4 7) writes "4 7 0 0\n0 0 0 0\n0 0 0 0\n0 0 0 0\nlimited 0\nblocks 1\n")
    ∷ ((parameters 8 0 4 2 ++ levels 4 40000) writes "4 1024 0 0\n0 0 0 0\n0 0 0 0\n0 0 0 0\nlimited 1\nblocks 1\n")
    -- a list with entries of twice 16, and none after it
    ∷ ((dct ++ (list 32 16 ++ (levels 4 0 ++ (no_list ++ levels 4 0)))) writes
    "2 2 2 2\n2 2 2 2\n2 2 2 2\n2 2 2 2\nlimited 0\n1 1 1 1\n1 1 1 1\n1 1 1 1\n1 1 1 1\nlimited 0\nblocks 2\n")
    -- a reading, and one after an edit: rows and columns of the edited block, which is the latest; only levels are counted
    ∷ ((dct ++ (levels 4 0 ++ (levels 8 0 ++ (reading ++ (edit 0 1 8 ++ reading))))) writes
    "1 1 1 1\n1 1 1 1\n1 1 1 1\n1 1 1 1\nlimited 0\n2 2 2 2\n2 2 2 2\n2 2 2 2\n2 2 2 2\nlimited 0\n2 2 2 2\n2 2 2 2\n2 2 2 2\n2 2 2 2\ncolumns 1\n5 3 1 -1\n5 3 1 -1\n5 3 1 -1\n5 3 1 -1\ncolumns 2\nblocks 2\n")
    -- an edit outside the block
    ∷ ((dct ++ (levels 4 0 ++ (edit 4 0 8 ++ reading))) writes "1 1 1 1\n1 1 1 1\n1 1 1 1\n1 1 1 1\nlimited 0\nrefused 8 70\n")
    -- parameters, a list, none, and a block by transform skip close the open block
    ∷ ((dct ++ (levels 0 0 ++ (dct ++ reading))) writes "0 0 0 0\n0 0 0 0\n0 0 0 0\n0 0 0 0\nlimited 0\nrefused 24 75\n")
    ∷ ((dct ++ (levels 0 0 ++ (list 16 16 ++ edit 0 0 1))) writes "0 0 0 0\n0 0 0 0\n0 0 0 0\n0 0 0 0\nlimited 0\nrefused 24 136\n")
    ∷ ((dct ++ (levels 0 0 ++ (no_list ++ reading))) writes "0 0 0 0\n0 0 0 0\n0 0 0 0\n0 0 0 0\nlimited 0\nrefused 24 71\n")
    ∷ ((parameters 8 0 4 2 ++ (levels 0 0 ++ reading)) writes "0 0 0 0\n0 0 0 0\n0 0 0 0\n0 0 0 0\nlimited 0\nrefused 24 70\n")
    -- what a record is examined for, in this order: its kind, the length of its body, what is missing before it, and its values
    ∷ ((dct ++ (10 ∷ dct)) writes "refused 20 5\n")
    ∷ ((4 ∷ 0 ∷ []) writes "refused 21 0\n")
    ∷ ((8 ∷ 0 ∷ []) writes "refused 21 0\n")
    ∷ (levels 0 0 writes "refused 22 0\n")
    ∷ (edit 0 0 1 writes "refused 24 0\n")
    ∷ (reading writes "refused 24 0\n")
    ∷ (parameters 7 2 4 0 writes "refused 2 0\n")
    ∷ (parameters 8 2 4 0 writes "refused 23 0\n")
    ∷ (parameters 8 0 4 3 writes "refused 23 0\n")
    ∷ ((parameters 8 0 4 1 ++ (5 ∷ replicate 256 0)) writes "refused 4 5\n")
    -- a refused record changes nothing
    ∷ leaves 10 [] (20 ∷ 3 ∷ 70 ∷ [])
    ∷ leaves 4 [] (21 ∷ 3 ∷ 70 ∷ [])
    ∷ leaves 8 (0 ∷ 0 ∷ level 1) (24 ∷ 3 ∷ 70 ∷ [])
    ∷ leaves 3 [] (0 ∷ 3 ∷ 71 ∷ [])
    ∷ []

unfoldable pub ExamplesHold : Type 0
ExamplesHold = AllHold examples
