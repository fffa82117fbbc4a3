-- `scaling_lists_codes::delta_of` meets its contract: a delta in the range and then the entry, which is not 0.
use mathlib.Core.Path.{◌≡◌, sym, ap, ◌∙◌}
use Prim.Native.Nat.{ℕ, ◌+◌, ◌%◌}
use native.Mathlib.Omega.{arith}
use borrow.Author.Rules.{rules}
use Rattle.std.specs.Prelude.{Err, eqb}
use Rattle.bits.specs.ExpGolomb.{signed_number}
use Rattle.scaling_lists_codes.specs.Syntax.{next_coef}
use Rattle.scaling_lists_codes.proofs.ValueLaws.{outside_wider}
use Rattle.scaling_lists_codes.proofs.delta_of.Goals as goal
use Rattle.scaling_lists_codes.proofs.delta_of.Goals.{After-sum_of-entry}

pub sum_of-entry-requires : goal.sum_of-entry-requires
sum_of-entry-requires c =
    let a = c in
    (omega arith, outside_wider (signed_number a.args.number) 128 127 (a.args.next + 256) 255 (omega arith) (omega arith) (sym c.outside_of.ensures ∙ c.in_ok-check.ensures))

-- the entry is the definition's
entry : (c : After-sum_of-entry) → let a = c.args in c.sum_of-entry.result % 256 ≡ next_coef a.next (signed_number a.number)
unfolding next_coef
entry c = ap (λ (n : ℕ). n % 256) c.sum_of-entry.ensures

pub returns-in_err-check-2 : goal.returns-in_err-check-2
returns-in_err-check-2 c =
    let e = entry (goal.at.returns-in_err-check-2 c).After-sum_of-entry in
    let told : c.from_residual-in_err-check-2.result ≡ Err c.in_err-check-2.field-0.0 = search rules in
    rw told (rw (sym c.outside_of.ensures ∙ c.in_ok-check.ensures, ap (λ (n : ℕ). eqb n 0) (sym e) ∙ c.in_err-check-2.ensures.0, c.in_err-check-2.ensures.1), tt)

pub returns : goal.returns
returns c =
    let e = entry (goal.at.returns c).After-sum_of-entry in
    (rw (sym c.outside_of.ensures ∙ c.in_ok-check.ensures, ap (λ (n : ℕ). eqb n 0) (sym e) ∙ c.in_ok-check-2.ensures, e), omega arith)
