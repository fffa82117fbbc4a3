-- `scaling_lists_put::same::has_dc` meets its contract.
use mathlib.Core.Path.{refl}
use Rattle.scaling_lists_codes.specs.Syntax.{size_id}
use Rattle.scaling_lists_written.specs.Same.{has_dc}
use Rattle.scaling_lists_put.proofs.same.has_dc.Goals as goal

pub returns : goal.returns
unfolding has_dc size_id
returns c = refl
