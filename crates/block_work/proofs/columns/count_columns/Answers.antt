-- `block_work::columns::count_columns` meets its contract: the columns passed, from the last one leftwards, have zeros only.
use mathlib.Core.Path.{◌≡◌, refl, sym, ap, ◌∙◌}
use Prim.Native.Nat.{ℕ, suc, ◌+◌, ◌-◌}
use native.Mathlib.Omega.{arith}
use Rattle.block_rules.specs.Columns.{last_where, column_used, column_count}
use Rattle.block_laws.proofs.ColumnsLaws.{count_used, count_unused}
use Rattle.block_work.proofs.columns.count_columns.Goals as goal

pub loop-c-init : goal.loop-c-init
unfolding column_count
loop-c-init c = refl

pub loop-c-preserved : goal.loop-c-preserved
loop-c-preserved c =
    let a = c.args in
    let b = c.loop-c.c - 1 in
    let e : c.loop-c.c ≡ suc b = omega (arith, c.loop-c-test.true) in
    c.loop-c.invariant ∙ ap (λ (i : ℕ). last_where i (column_used a.n a.coeff.now)) e
    ∙ count_unused a.n a.coeff.now b (sym c.is_used.ensures ∙ c.if-is_used.false)

pub returns-then-is_used : goal.returns-then-is_used
returns-then-is_used c =
    let a = c.args in
    let b = c.loop-c.c - 1 in
    let e : c.loop-c.c ≡ suc b = omega (arith, c.loop-c-test.true) in
    let one : b + 1 ≡ suc b = omega arith in
    one ∙ sym (c.loop-c.invariant ∙ ap (λ (i : ℕ). last_where i (column_used a.n a.coeff.now)) e
    ∙ count_used a.n a.coeff.now b (sym c.is_used.ensures ∙ c.if-is_used.true))

pub returns : goal.returns
unfolding last_where
returns c =
    let a = c.args in
    let none : c.loop-c.c ≡ 0 = omega (arith, c.loop-c-test.false) in
    sym (c.loop-c.invariant ∙ ap (λ (i : ℕ). last_where i (column_used a.n a.coeff.now)) none)
