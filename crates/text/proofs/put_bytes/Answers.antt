-- `text::put_bytes` meets its contract: the bytes stand between what was before and behind them.
use mathlib.Core.Path.{◌≡◌, refl, sym}
use mathlib.Core.List.{append_assoc}
use Prim.Native.Nat.{◌+◌, ◌-◌}
use native.Mathlib.Omega.{arith}
use lib.ListN.{length}
use lib.Seq.{drop-drop}
use Rattle.std.proofs.lemmas.List.Edits.{sets-eq}
use Rattle.text.proofs.put_bytes.Goals as goal

pub returns : goal.returns
returns c =
    let a = c.args in
    let n : a.at + length a.bytes.now - a.at ≡ length a.bytes.now = omega arith in
    record { is = rw (c.copy_from_slice.ensures.after, n, drop-drop (length a.bytes.now) a.at a.out.now) (simp append_assoc at (sym (sets-eq a.bytes.now a.out.now a.at c.requires))); end = refl }
