-- `tiles::high` meets its contract: a shifted sum, limited, is the high part.
use mathlib.Core.Path.{ap, ◌∙◌}
use Rattle.h265.specs.Range.{clip_coeff}
use Rattle.tiles.specs.Parts.{high_of}
use Rattle.tiles.proofs.high.Goals as goal

pub returns : goal.returns
unfolding high_of
returns c = λ j l. c.limited.ensures j l ∙ ap (clip_coeff 15) (c.shifted.ensures j)
