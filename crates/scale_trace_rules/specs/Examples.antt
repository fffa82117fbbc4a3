-- Small feeds and their listings as one list of cases under one statement: a line for each index of a block, none for an edit or a reading, and the line
-- of a refusal alone. The listing program writes the same of the same bytes.
--   examples       the list of cases
--   ExamplesHold   the statement: every definition gives what is expected of it
use Rattle.std.specs.Prelude.{List, [], ◌∷◌, ◌++◌, ℕ, replicate}
use Prim.Native.Char.{code}
use Prim.Native.String.{String, len, char_at}
use Rattle.integers.specs.Examples.{Case, AllHold}
use Rattle.integers.specs.Lists.{tabulate}
use Rattle.scale_trace_rules.specs.Trace.{trace_text}

bytes : String → List ℕ
bytes s = tabulate (len s) (λ i. code (char_at s i))

infix 20 ◌writes◌
◌writes◌ : List ℕ → String → Case (List ℕ)
feed writes text = record { found = trace_text feed; expected = bytes text }

-- depth 8, QP' 4, and a mode
parameters : ℕ → List ℕ
parameters mode = 1 ∷ 8 ∷ 0 ∷ 4 ∷ mode ∷ []

-- 64 times the same entry, and DC
list : ℕ → ℕ → List ℕ
list m d = 2 ∷ (replicate 64 m ++ (d ∷ []))

-- 4×4 levels, all zero
levels : List ℕ
levels = 4 ∷ replicate 64 0

unfoldable pub examples : List (Case (List ℕ))
unfolding bytes ◌writes◌ parameters list levels
examples =
    -- a block, then an edit and a reading of it
    ((parameters 0 ++ (levels ++ (8 ∷ 0 ∷ 1 ∷ 8 ∷ 0 ∷ 0 ∷ 0 ∷ 9 ∷ []))) writes
    "0 16 none -\n1 16 none -\n2 16 none -\n3 16 none -\n4 16 none -\n5 16 none -\n6 16 none -\n7 16 none -\n8 16 none -\n9 16 none -\n10 16 none -\n11 16 none -\n12 16 none -\n13 16 none -\n14 16 none -\n15 16 none -\n")
    -- a list, which transform skip of size 4 uses too
    ∷ ((parameters 2 ++ (list 20 30 ++ levels)) writes
    "0 20 four 0\n1 20 four 1\n2 20 four 2\n3 20 four 3\n4 20 four 4\n5 20 four 5\n6 20 four 6\n7 20 four 7\n8 20 four 8\n9 20 four 9\n10 20 four 10\n11 20 four 11\n12 20 four 12\n13 20 four 13\n14 20 four 14\n15 20 four 15\n")
    -- a refused record, here levels before the parameters, has its line alone
    ∷ ((3 ∷ levels) writes "refused 22 1\n")
    ∷ []

unfoldable pub ExamplesHold : Type 0
ExamplesHold = AllHold examples
