-- `scaling_values::listed::listed_params` meets its contract: the remainder by 64 changes nothing, and either way the numbers are the block's.
use mathlib.Core.Path.{ap₂, subst, sym, ◌∙◌}
use Prim.Native.Nat.{ℕ, ◌-◌, ◌<◌, ◌≤◌}
use native.Mathlib.Omega.{arith}
use borrow.Author.Rules.{sfits_of}
use lib.IntN.{ℤ}
use mir.Syntax.{w32}
use Rattle.integers.proofs.MachineLaws.{round_trip}
use Rattle.scaling_values.specs.declared.ListedParams.{ListedParams}
use Rattle.scaling_values.specs.Listed.{zeros_by, lowered_by, raised_by, ListedFor}
use Rattle.scaling_values.proofs.ListedLaws.{zeros_by_is, odd_by_is, lowered_by_for, raised_by_for}
use Rattle.scaling_values.proofs.listed.listed_params.Goals as goal

pub returns-then-zeros-by : goal.returns-then-zeros-by
returns-then-zeros-by c =
    let by = c.args.by in
    let zeros = zeros_by_is by c.scale_of-scale.ensures in
    let base = round_trip {w = w32} (sfits_of c.odd_of-base.type_inv) ∙ odd_by_is by c.odd_of-base.ensures c.scale_of-scale.ensures c.requires.listable.odd in
    let h : zeros_by by < by.shift = subst (λ (z : ℕ). z < by.shift) zeros c.if-zeros-by.true in
    subst (λ (k : ListedParams). ListedFor by k)
    (sym (c.lowered.ensures ∙ ap₂ (λ (b : ℤ) (z : ℕ). lowered_by b (by.shift - z)) base zeros))
    (lowered_by_for c.requires.listable h)

pub returns : goal.returns
returns c =
    let by = c.args.by in
    let zeros = zeros_by_is by c.scale_of-scale.ensures in
    let base = round_trip {w = w32} (sfits_of c.odd_of-base.type_inv) ∙ odd_by_is by c.odd_of-base.ensures c.scale_of-scale.ensures c.requires.listable.odd in
    let h : by.shift ≤ zeros_by by = subst (λ (z : ℕ). by.shift ≤ z) zeros (omega (arith, c.if-zeros-by.false)) in
    subst (λ (k : ListedParams). ListedFor by k)
    (sym (c.raised.ensures ∙ ap₂ (λ (b : ℤ) (z : ℕ). raised_by b (z - by.shift)) base zeros))
    (raised_by_for c.requires.listable h)
