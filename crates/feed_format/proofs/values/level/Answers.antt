-- `feed_format::values::level` meets its contract: the four bytes are the bits of the number.
use mathlib.Core.Path.{ap, ◌∙◌}
use native.Mathlib.Omega.{arith}
use borrow.Author.Rules.{sfits_of}
use mir.Syntax.{w32}
use Rattle.integers.proofs.MachineLaws.{round_trip}
use Rattle.feed_format.specs.Format.{signed32, level_at}
use Rattle.feed_format.proofs.ValueLaws.{machine_is}
use Rattle.feed_format.proofs.values.level.Goals as goal

pub returns : goal.returns
unfolding level_at
returns c =
    let u = c.from_le_bytes in
    round_trip {w = w32} (sfits_of c.cast_signed.type_inv) ∙ c.cast_signed.ensures ∙ machine_is u.result u.type_inv ∙ ap signed32 (omega (arith, u.ensures))
