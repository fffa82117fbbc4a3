-- `vectors::Sums::plus` meets its contract: the sum of each lane fits 32 bits.
use mathlib.Core.Path.{◌∙◌, sym, refl}
use lib.ListN.{length-map}
use mir.Syntax.{w32}
use mir.Val.{of_z}
use Rattle.vectors.proofs.LanesLaws.{lanes_fit, two_long, two_lanes, plus_is}
use Rattle.vectors.proofs.Sums.plus.Goals as goal

pub invariant_of-result : goal.invariant_of-result
invariant_of-result c = record { four = two_long w32 _ c.args.self.v _ c.args.self.four (length-map c.args.o.v (of_z w32) ∙ c.args.o.four) }

pub returns : goal.returns
returns c j =
    two_lanes w32 _ refl c.args.self.v c.args.o.v (c.args.self.four ∙ sym c.args.o.four) j
    ∙ plus_is w32 (lanes_fit w32 _ c.well_formed.0 j) (lanes_fit w32 _ c.well_formed.1.0 j) (c.requires j)
