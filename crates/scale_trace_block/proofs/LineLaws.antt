-- Laws of the lines of a block.
--   within                            a text that was written, with a bound on its length
--   position_short, number_short      how many digits a position and an index have at most
--   line_wrote                        a line from its parts
--   lines_start, -more, -done         the invariant of a block's lines
use mathlib.Core.Path.{◌≡◌, refl}
use mathlib.Core.List.{List, [], ◌∷◌, ◌++◌, append_assoc}
use Prim.Native.Nat.{ℕ, suc, ◌+◌, ◌-◌, ◌*◌, ◌≤◌, ◌<◌}
use native.Mathlib.Nat.{sub-zero}
use native.Mathlib.Numerals.{add-one}
use native.Mathlib.Omega.{arith}
use lib.ListN.{length}
use Rattle.h265.specs.ScalingFactor.{ScalingList}
use Rattle.text.specs.Text.{space, unsigned_text, Wrote, WroteUpTo}
use Rattle.text.proofs.WroteLaws.{Left, wrote_more, left_start, left_more, left_done}
use Rattle.text.proofs.NumberLaws.{unsigned_length}
use Rattle.feed_format.specs.declared.Mode.{Mode}
use Rattle.scale_trace_rules.specs.Block.{BlockSource, block_source, block_factor, rule_text, line_text, lines_from, block_lines}

-- ---- one line
pub within : {l t m : List ℕ} {i j k : ℕ} → Wrote l i t m j → length t ≤ k → WroteUpTo l i t m j (i + k)
within w h = record { wrote = w; bound = omega (arith, w.end) }

pub position_short : (p : ℕ) → p < 64 → length (unsigned_text p) ≤ 2
position_short p h = unsigned_length 1 p (omega arith)

pub number_short : (n : ℕ) → n < 1024 → length (unsigned_text n) ≤ 4
number_short n h = unsigned_length 3 n (omega arith)

pub line_wrote : {l a b m : List ℕ} {i j k e f : ℕ} {src : BlockSource} (list : ScalingList) (mode : Mode) (n x : ℕ)
    → f ≡ block_factor list mode n x → src ≡ block_source list mode n x
    → Wrote l i (unsigned_text x ++ (space ∷ [])) a j → Wrote a j (unsigned_text f ++ (space ∷ [])) b k → Wrote b k (rule_text src) m e
    → Wrote l i (line_text list mode n x) m e
unfolding line_text
line_wrote list mode n x ef es u v w = rw (← ef, ← es) (simp append_assoc at (wrote_more u (wrote_more v w)))

-- ---- the lines of a block
pub lines_start : (l : List ℕ) (at : ℕ) (list : ScalingList) (mode : Mode) (n : ℕ) → Left l at (block_lines list mode n) l at (lines_from list mode n 0 (n * n - 0))
unfolding block_lines
lines_start l at list mode n = rw (sub-zero (n * n)) (left_start l at (lines_from list mode n 0 (n * n)))

lines_step : (list : ScalingList) (mode : Mode) (n i k : ℕ) → i < k → lines_from list mode n i (k - i) ≡ line_text list mode n i ++ lines_from list mode n (i + 1) (k - (i + 1))
unfolding lines_from
lines_step list mode n i k h = rw (one_less, add-one i) refl
  where
    one_less : k - i ≡ suc (k - (i + 1))
    one_less = omega arith

pub lines_more : {l t m o : List ℕ} {at j e : ℕ} (list : ScalingList) (mode : Mode) (n i k : ℕ) → i < k → Left l at t m j (lines_from list mode n i (k - i))
    → Wrote m j (line_text list mode n i) o e → Left l at t o e (lines_from list mode n (i + 1) (k - (i + 1)))
lines_more list mode n i k h g w = left_more (rw (lines_step list mode n i k h) at g) w

pub lines_done : {l t m : List ℕ} {at j : ℕ} (list : ScalingList) (mode : Mode) (n i k : ℕ) → k ≤ i → Left l at t m j (lines_from list mode n i (k - i)) → Wrote l at t m j
unfolding lines_from
lines_done list mode n i k h g = left_done (rw none at g)
  where
    none : k - i ≡ 0
    none = omega arith
