-- `edit_values::falls` meets its contract: the entries' signs differ.
use mathlib.Core.Path.{◌≡◌, refl}
use mathlib.Core.Bool.{Bool, true, false, not, cond, beq}
use lib.IntN.{pos}
use lib.Signed.{lt_z}
use Rattle.integers.proofs.MachineLaws.{round_trip}
use Rattle.edit_values.specs.Sample.{falls}
use Rattle.edit_values.proofs.ProbeLaws.{entry-one_fits, entry_two_fits}
use Rattle.edit_values.proofs.falls.Goals as goal

differ : (a b : Bool) → not (beq a b) ≡ cond a (not b) b
differ true true = refl
differ true false = refl
differ false true = refl
differ false false = refl

pub returns : goal.returns
unfolding falls
returns c =
    rw (round_trip (entry-one_fits c.requires), round_trip (entry_two_fits c.requires))
    (differ (lt_z c.args.p.entry_one (pos 0)) (lt_z c.args.p.entry_two (pos 0)))
