-- `contributions::products::block_products` meets its contract: a kind is the DCT, or the DST, whose size is 4.
use mathlib.Core.Path.{◌≡◌, ap}
use Prim.Native.Nat.{ℕ, ◌*◌}
use native.Mathlib.Omega.{arith}
use Rattle.contributions.proofs.ColumnLaws.{kind_dct, kind_dst}
use Rattle.contributions.proofs.products.block_products.Goals as goal

pub dst_products-requires : goal.dst_products-requires
dst_products-requires c =
    let four : c.args.n ≡ 4 = c.requires.1 c.in-Dst.is in
    let cells : c.args.n * c.args.n ≡ 16 = ap (λ (n : ℕ). n * n) four in
    (omega (arith, four, c.requires.2), omega (arith, four, c.requires.3), omega (arith, cells, c.requires.4), omega (arith, cells, c.requires.5))

pub returns-in-Dct : goal.returns-in-Dct
returns-in-Dct c =
    let a = c.args in
    kind_dct a.n a.coeff.now a.row a.column a.out.now c.in-Dct.is c.dct_products.ensures

pub returns-in-Dst : goal.returns-in-Dst
returns-in-Dst c =
    let a = c.args in
    let e = c.in-Dst.is in
    kind_dst a.n a.coeff.now a.row a.column a.out.now e (c.requires.1 e) c.dst_products.ensures
