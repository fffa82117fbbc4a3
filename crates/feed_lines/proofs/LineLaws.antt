-- Laws of the lines that are not rows.
--   line_is, line_fits   a line's text, which has 40 bytes at most
use mathlib.Core.Path.{◌≡◌}
use mathlib.Core.List.{List}
use Prim.Native.Nat.{ℕ, ◌+◌, ◌≤◌}
use native.Mathlib.Omega.{arith}
use lib.ListN.{length, take, drop}
use lib.Seq.{take-append_seam, sets-eq}
use Rattle.integers.specs.Lists.{tabulate, tabulate_from}
use Rattle.text.specs.Text.{Wrote}
use Rattle.text.proofs.WroteLaws.{wrote-length}
use Rattle.feed_lines.specs.declared.Line.{Line}
use Rattle.feed_lines.specs.Lines.{Lines}

pub line_fits : {t : List ℕ} (r : Line) → Lines r t → length t ≤ 40
unfolding tabulate tabulate_from
line_fits r h = omega (arith, h.end, r.counts.0, wrote-length h)

first_is : (l t m : List ℕ) (j : ℕ) → Wrote l 0 t m j → j ≤ length m → take j m ≡ t
first_is l t m j w h =
    let long : 0 + length t ≤ length l = omega (arith, w.end, wrote-length w) in
    let none : 0 + length t ≡ length t = omega arith in
    rw (w.is, w.end, sets-eq t l 0 long, none) (take-append_seam t (drop (length t) l))

pub line_is : {t : List ℕ} (r : Line) → Lines r t → take r.end r.bytes ≡ t
line_is {t} r h = first_is _ t r.bytes r.end h r.counts.0
