-- Which m scaling uses at each index of a block, and which rule supplies it. Change requests R-1 and R-3; docs/RULES.md, "The listing of
-- scaling factors". The rules are those of "Scaling" there, as `h265` has them, and that of the feed, by which a block may ignore the list.
--   BlockSource                    the rule that supplies m: one of `h265`, or that the block ignores the list in force
--   block_source list mode n i      the rule for index i of a block of that mode and size
--   block_factor list mode n i      m, by the list that the feed hands to scaling
--   reason_text src                 the rule's word: none, four, eight, dc, repeat, skip
--   position_text src               the position in the list; a hyphen where the rule has none
--   rule_text src                   both, and the line end
--   line_text list mode n i         index, m, reason and position of one index
--   lines_from list mode n i k      the lines of k indices from i on
--   block_lines list mode n         those of a whole block, in row order
use Rattle.std.specs.Prelude.{cond, List, [], ◌∷◌, ◌++◌, ℕ, zero, suc, ◌*◌}
use Rattle.h265.specs.ScalingFactor.{ScalingList, FactorSource, factor_source, scaling_factor}
use Rattle.h265.specs.ScalingFactor.ScalingList.{flat, listed}
use Rattle.h265.specs.ScalingFactor.FactorSource.{none, four, eight, dc, repeated}
use Rattle.text.specs.Text.{space, line_end, minus, unsigned_text}
use Rattle.feed_format.specs.Format.{list_ignored}
use Rattle.feed_format.specs.declared.Mode.{Mode}
use Rattle.feed_rules.specs.Block.{list_for}

-- ---- m and its rule
pub data BlockSource : Type 0 where
  rule : FactorSource → BlockSource
  skip : BlockSource

-- without a list in force there is none to ignore
unfoldable pub block_source : ScalingList → Mode → ℕ → ℕ → BlockSource
block_source flat mode n i = rule (factor_source flat n i)
block_source (listed entries d) mode n i = cond (list_ignored mode n) skip (rule (factor_source (listed entries d) n i))

unfoldable pub block_factor : ScalingList → Mode → ℕ → ℕ → ℕ
block_factor list mode n i = scaling_factor (list_for mode n list) n i

-- ---- one line
abbrev pub reason_text : BlockSource → List ℕ
reason_text (rule none) = 110 ∷ 111 ∷ 110 ∷ 101 ∷ []
reason_text (rule (four p)) = 102 ∷ 111 ∷ 117 ∷ 114 ∷ []
reason_text (rule (eight p)) = 101 ∷ 105 ∷ 103 ∷ 104 ∷ 116 ∷ []
reason_text (rule dc) = 100 ∷ 99 ∷ []
reason_text (rule (repeated p)) = 114 ∷ 101 ∷ 112 ∷ 101 ∷ 97 ∷ 116 ∷ []
reason_text skip = 115 ∷ 107 ∷ 105 ∷ 112 ∷ []

abbrev pub position_text : BlockSource → List ℕ
position_text (rule none) = minus ∷ []
position_text (rule (four p)) = unsigned_text p
position_text (rule (eight p)) = unsigned_text p
position_text (rule dc) = minus ∷ []
position_text (rule (repeated p)) = unsigned_text p
position_text skip = minus ∷ []

unfoldable pub rule_text : BlockSource → List ℕ
rule_text src = reason_text src ++ (space ∷ (position_text src ++ (line_end ∷ [])))

unfoldable pub line_text : ScalingList → Mode → ℕ → ℕ → List ℕ
line_text list mode n i =
    unsigned_text i ++ (space ∷ (unsigned_text (block_factor list mode n i) ++ (space ∷ rule_text (block_source list mode n i))))

-- ---- one block
unfoldable pub lines_from : ScalingList → Mode → ℕ → ℕ → ℕ → List ℕ
lines_from list mode n i zero = []
lines_from list mode n i (suc k) = line_text list mode n i ++ lines_from list mode n (suc i) k

unfoldable pub block_lines : ScalingList → Mode → ℕ → List ℕ
block_lines list mode n = lines_from list mode n 0 (n * n)
