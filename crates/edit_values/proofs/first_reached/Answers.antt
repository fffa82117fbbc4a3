-- `edit_values::first_reached` meets its contract: where the first place reaches the target, every place does.
use mathlib.Core.Path.{sym, ◌∙◌}
use native.Mathlib.Omega.{arith}
use mathlib.Core.Bool.{false}
use Rattle.edit_values.proofs.OrderedLaws.{past_mono}
use Rattle.edit_values.proofs.first_reached.Goals as goal

pub returns-then-past : goal.returns-then-past
returns-then-past c =
    record {
      least = omega arith;
      most = omega arith;
      none = λ o h l. absurd (let b : ⊥ = omega arith in b);
      all = λ o h l. past_mono c.args.p false h (sym c.past.ensures ∙ c.if-past.true);
    }
