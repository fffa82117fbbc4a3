-- `contributions::products::products` meets its contract: the loop has stored the products of the coefficients passed.
use mir.Syntax.{w64}
use mathlib.Core.Path.{◌≡◌, refl, ap₂, ◌∙◌}
use Prim.Native.Nat.{◌/◌, ◌%◌}
use native.Mathlib.Omega.{arith}
use borrow.Author.Rules.{sfits_of}
use lib.IntN.{pos, ◌*ℤ◌}
use lib.ListN.{get_or}
use mir.Syntax.{w16, w32}
use mir.Val.{SFits}
use Rattle.integers.proofs.ListsLaws.{stored_none, stored_more}
use Rattle.integers.proofs.MachineLaws.{round_trip}
use Rattle.h265.specs.Transform.{row_order}
use Rattle.contributions.specs.Work.{product_of}
use Rattle.contributions.proofs.ColumnLaws.{product_at}
use Rattle.contributions.proofs.products.products.Goals as goal
use Rattle.contributions.proofs.products.products.Goals.{After-product, After-product-arg-1, In-loop-i}

pub loop-i-init : goal.loop-i-init
loop-i-init c = (omega arith, refl, stored_none)

value_is : (c : After-product)
    → let l = c in
    let a = l.args in
    c.product.result ≡ row_order a.n (product_of a.down.now a.across.now a.n a.coeff.now) l.loop-i.i
value_is c =
    let l = c in
    let a = l.args in
    let f : SFits w16 (get_or a.down.now (l.loop-i.i / a.n) (pos 0)) = record { sfits = c.product-arg-1.given } in
    let g : SFits w16 (get_or a.across.now (l.loop-i.i % a.n) (pos 0)) = record { sfits = c.product-arg-in-loop-i-1.given } in
    let h : SFits w32 (get_or a.coeff.now l.loop-i.i (pos 0)) = record { sfits = c.product-arg-in-loop-i-2-1.given } in
    c.product.ensures ∙ ap₂ ◌*ℤ◌ (ap₂ ◌*ℤ◌ (round_trip f) (round_trip g)) (round_trip h) ∙ product_at a.down.now a.across.now a.n a.coeff.now l.loop-i.i

pub loop-i-preserved : goal.loop-i-preserved
loop-i-preserved c =
    (omega arith, refl, stored_more c.loop-i.invariant.2 (omega (arith, c.requires.2)) (round_trip {w = w64} (sfits_of c.product.type_inv) ∙ value_is c))
