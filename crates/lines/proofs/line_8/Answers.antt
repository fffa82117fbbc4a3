-- `lines::line_8` meets its contract: the even and the odd part, put together by the one law.
use mathlib.Core.Path.{refl}
use native.Mathlib.Omega.{arith}
use Rattle.lines.proofs.FoldLaws.{parts_fit, fold_4}
use Rattle.lines.proofs.line_8.Goals as goal

pub fold-requires : goal.fold-requires
fold-requires c = (omega arith, (omega arith, λ j. parts_fit refl (omega arith) (c.line_4-e.ensures j) (c.odd_8-o.ensures j)))

pub returns : goal.returns
returns c j = fold_4 (c.line_4-e.ensures j) (c.odd_8-o.ensures j) (c.fold.ensures j)
