-- `edit_blocks::spans::most_of` meets its contract: a value of the range fits 32 bits.
use mir.Syntax.{w64}
use mathlib.Core.Path.{◌∙◌}
use borrow.Author.Rules.{sfits_of}
use borrow.Author.Tests.{lt-ltb, le-ltb}
use Rattle.integers.proofs.MachineLaws.{round_trip}
use Rattle.integers.proofs.BoundLaws.{within_fits}
use Rattle.edit_blocks.specs.Work.{most_of}
use Rattle.edit_blocks.proofs.spans.most_of.Goals as goal

pub returns-then-is_empty : goal.returns-then-is_empty
unfolding most_of
returns-then-is_empty c = let s = c in rw (le-ltb s.args.span.from s.args.span.to (c.is_empty.ensures.0 c.if-is_empty.true))

pub overflow_cast-result : goal.overflow_cast-result
overflow_cast-result c = rw (round_trip (sfits_of c.value_at.type_inv)) (within_fits {b = 12582912} tt c.value_at.ensures.1)

pub returns : goal.returns
unfolding most_of
returns c =
    round_trip (overflow_cast-result c) ∙ round_trip {w = w64} (sfits_of c.value_at.type_inv) ∙ c.value_at.ensures.0 ∙ rw (lt-ltb c.args.span.from c.args.span.to (c.is_empty.ensures.1 c.if-is_empty.false))
