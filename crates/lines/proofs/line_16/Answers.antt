-- `lines::line_16` meets its contract: the even and the odd part, put together by the one law.
use mathlib.Core.Path.{refl}
use native.Mathlib.Omega.{arith}
use Rattle.lines.proofs.FoldLaws.{parts_fit, fold_8}
use Rattle.lines.proofs.line_16.Goals as goal

pub fold-requires : goal.fold-requires
fold-requires c = (omega arith, (omega arith, λ j. parts_fit refl (omega arith) (c.line_8-e.ensures j) (c.odd_16-o.ensures j)))

pub returns : goal.returns
returns c j = fold_8 (c.line_8-e.ensures j) (c.odd_16-o.ensures j) (c.fold.ensures j)
