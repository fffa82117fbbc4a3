-- `tiles_wide::pass` meets its contract, by its branches: values that fit 16 bits are their own limits, and two parts make the limited values.
use mathlib.Core.Path.{◌∙◌, subst}
use Prim.Native.Nat.{ℕ}
use borrow.Author.Rules.{sfits_of}
use mir.Syntax.{w32}
use mir.Facts.{to_z-of_z}
use Rattle.integers.specs.Within.{Narrow}
use Rattle.tiles.proofs.TileLaws.{filled_same}
use Rattle.tiles_wide.proofs.PassLaws.{parts_give, narrow_gives}
use Rattle.tiles_wide.proofs.pass.Goals as goal

pub returns-then-all_narrow : goal.returns-then-all_narrow
returns-then-all_narrow g c =
    let p = c.requires in
    let h = to_z-of_z {w = w32} (sfits_of c.half.type_inv) ∙ c.half.ensures.0 in
    let narrow = subst (λ (w : ℕ). Narrow w c.args.s.now) p.1 (c.all_narrow.ensures c.if-all_narrow.true) in
    narrow_gives c.args.s.now p.0.range_least p.0.source narrow h (filled_same c.stage.ensures)

pub returns-else-all_narrow : goal.returns-else-all_narrow
returns-else-all_narrow g c =
    let p = c.requires.0 in
    let h = to_z-of_z {w = w32} (sfits_of c.half-else-all_narrow.type_inv) ∙ c.half-else-all_narrow.ensures.0 in
    parts_give c.args.s.now p.range_least p.parts p.source h c.parts.ensures
