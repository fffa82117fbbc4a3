-- What C gets of a list of edits.
--   lists_told   a result and the answer made of it say the same
use mathlib.Core.Path.{◌≡◌, ap, subst, ◌∙◌}
use mathlib.Core.List.{List}
use lib.IntN.{ℤ}
use Rattle.std.specs.Prelude.{Result}
use Rattle.refusal.specs.declared.Refusal.{Refusal}
use Rattle.refusal.specs.Outcome.{Outcome, outcome}
use Rattle.block_rules.specs.Edit.{Buffers, zero_block, valued}
use Rattle.block_rules.specs.Opening.{Opening}
use Rattle.edited_history.specs.History.{Edit}
use Rattle.edited_steps.specs.declared.Listed.{Listed}
use Rattle.edited_steps.specs.Steps.{Slices}
use Rattle.edited_list.specs.Listed.{listed_as, Lists as ListsBy}
use Rattle.c_api.specs.declared.ListAnswered.{ListAnswered}
use Rattle.c_api.specs.Edits.{BlockIs, block_of_list, Lists}

pub lists_told : (o : Opening) (levels : List ℤ) (lent : Buffers) (es : List Edit) (s : Slices) {r : Result Listed Refusal} {told : ListAnswered} {ls : List ℤ} {after : Buffers} {sl : Slices}
    → ListsBy o levels lent es s r ls after sl
    → (let l : Outcome Listed = outcome (listed_as 0 zero_block 0) r in (BlockIs (block_of_list told) (valued l.value.opened.limited l) l.value.opened.block) × (told.edits ≡ l.value.edits))
    → Lists o levels lent es s told ls after sl
lists_told o levels lent es s {told = told} g f =
    record {
      answered = subst (λ (l : Outcome Listed). BlockIs (block_of_list told) (valued l.value.opened.limited l) l.value.opened.block) g.answered f.0;
      edits = f.1 ∙ ap (λ (l : Outcome Listed). l.value.edits) g.answered;
      levels_are = g.levels_are;
      buffers = g.buffers;
      told_are = g.told_are;
    }
