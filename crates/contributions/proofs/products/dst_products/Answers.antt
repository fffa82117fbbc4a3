-- `contributions::products::dst_products` meets its contract: the products by two columns of the matrix are the contributions.
use mathlib.Core.Path.{◌∙◌}
use Rattle.contributions.proofs.ColumnLaws.{products_are}
use Rattle.contributions.proofs.products.dst_products.Goals as goal

pub returns : goal.returns
returns c =
    let a = c.args in
    c.products.ensures ∙ products_are a.coeff.now a.out.now c.dst_column-down.ensures c.dst_column-across.ensures
