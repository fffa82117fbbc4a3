-- The lines of a feed's text that are not rows. docs/RULES.md, "The feed"; change requests R-6 and R-14.
--   limited_text k               `limited`, and how many coefficients of a block were
--   columns_text k               `columns`, and a block's column count
--   refused_text number offset   `refused`, the number, and the byte offset of the refused record's kind
--   blocks_text n                `blocks`, and how many there were
--   blank_line                   40 zero bytes
--   Lines r t                   a line holds the text t, over zeros
use Rattle.std.specs.Prelude.{List, [], ◌∷◌, ◌++◌, ℕ}
use Rattle.integers.specs.Lists.{tabulate}
use Rattle.text.specs.Text.{space, line_end, unsigned_text, Wrote}
use Rattle.feed_lines.specs.declared.Line.{Line}

-- ---- behind a block's rows
-- the word `limited` and a space
abbrev pub limited_word : List ℕ
limited_word = 108 ∷ 105 ∷ 109 ∷ 105 ∷ 116 ∷ 101 ∷ 100 ∷ 32 ∷ []

-- the word `columns` and a space
abbrev pub columns_word : List ℕ
columns_word = 99 ∷ 111 ∷ 108 ∷ 117 ∷ 109 ∷ 110 ∷ 115 ∷ 32 ∷ []

unfoldable pub limited_text : ℕ → List ℕ
limited_text k = limited_word ++ (unsigned_text k ++ (line_end ∷ []))

unfoldable pub columns_text : ℕ → List ℕ
columns_text k = columns_word ++ (unsigned_text k ++ (line_end ∷ []))

-- ---- the two last lines
-- the word `refused` and a space
abbrev pub refused_word : List ℕ
refused_word = 114 ∷ 101 ∷ 102 ∷ 117 ∷ 115 ∷ 101 ∷ 100 ∷ 32 ∷ []

-- the word `blocks` and a space
abbrev pub blocks_word : List ℕ
blocks_word = 98 ∷ 108 ∷ 111 ∷ 99 ∷ 107 ∷ 115 ∷ 32 ∷ []

unfoldable pub refused_text : ℕ → ℕ → List ℕ
refused_text number offset = refused_word ++ (unsigned_text number ++ (space ∷ (unsigned_text offset ++ (line_end ∷ []))))

unfoldable pub blocks_text : ℕ → List ℕ
blocks_text n = blocks_word ++ (unsigned_text n ++ (line_end ∷ []))

-- ---- a line by itself
-- what a line is written over
abbrev pub blank_line : List ℕ
blank_line = tabulate 40 (λ i. 0)

abbrev pub Lines : Line → List ℕ → Type 0
Lines r t = Wrote blank_line 0 t r.bytes r.end
