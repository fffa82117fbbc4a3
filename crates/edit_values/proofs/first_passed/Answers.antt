-- `edit_values::first_passed` meets its contract: where the last place is not past the target, no place is.
use mathlib.Core.Path.{sym, ◌∙◌}
use native.Mathlib.Omega.{arith}
use mathlib.Core.Bool.{true}
use Rattle.edit_values.proofs.OrderedLaws.{past-none}
use Rattle.edit_values.proofs.first_passed.Goals as goal

pub returns-then-not-past : goal.returns-then-not-past
returns-then-not-past c =
    record {
      least = omega arith;
      most = omega arith;
      none = λ o h l. past-none c.args.p true (omega arith) (sym c.past.ensures ∙ c.if-not-past.true);
      all = λ o h l. absurd (let b : ⊥ = omega arith in b);
    }
