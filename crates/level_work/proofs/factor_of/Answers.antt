-- `level_work::factor_of` meets its contract: the list of a record is whole.
use mathlib.Core.Path.{◌≡◌, ap, ◌∙◌}
use borrow.Author.Rules.{rules}
use lib.ListN.{length}
use Rattle.refusal.proofs.ConditionLaws.{size_accepted}
use Rattle.scaling_values.specs.declared.ScalingList.{ScalingList}
use Rattle.scaling_values.specs.Given.{list_of, entries_of}
use Rattle.level_work.proofs.factor_of.Goals as goal
use Rattle.level_work.proofs.factor_of.Goals.{Start, Joined-source, then-source, else-source}

-- the record's list is whole
whole : (s : Start) → length s.args.source.entries ≡ 64
whole s = search rules

pub factor_at-requires-clause-whole_list : goal.factor_at-requires-clause-whole_list
factor_at-requires-clause-whole_list c =
    record {
      size = size_accepted c.args.n c.requires.0;
      whole = elim c.if-source.branch [
        | then-source w ↦ ap (λ (l : ScalingList). entries_of (list_of l)) w.list-is ∙ whole (goal.at.factor_at-requires-clause-whole_list c).Start
        | else-source w ↦ ap (λ (l : ScalingList). entries_of (list_of l)) w.list-is
      ];
    }
