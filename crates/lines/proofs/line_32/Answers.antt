-- `lines::line_32` meets its contract: the even and the odd part, put together by the one law.
use mathlib.Core.Path.{refl}
use native.Mathlib.Omega.{arith}
use Rattle.lines.proofs.FoldLaws.{parts_fit, fold_16}
use Rattle.lines.proofs.line_32.Goals as goal

pub fold-requires : goal.fold-requires
fold-requires c = (omega arith, (omega arith, λ j. parts_fit refl (omega arith) (c.line_16-e.ensures j) (c.odd_32-o.ensures j)))

pub returns : goal.returns
returns c j = fold_16 (c.line_16-e.ensures j) (c.odd_32-o.ensures j) (c.fold.ensures j)
