-- `vectors::values_turned` meets its contract: the lanes move as bits.
use mir.Syntax.{w16}
use mir.Facts.{to_z-of_z}
use Rattle.vectors.proofs.LanesLaws.{lanes_fit, written_out}
use Rattle.vectors.proofs.values_turned.Goals as goal

pub returns : goal.returns
returns c =
    let f = lanes_fit w16 _ c.well_formed.0 in
    let g = lanes_fit w16 _ c.well_formed.1.0 in
    let h = lanes_fit w16 _ c.well_formed.1.1.0 in
    let k = lanes_fit w16 _ c.well_formed.1.1.1.0 in
    rw (written_out 4 c.args.a.v c.args.a.four, written_out 4 c.args.b.v c.args.b.four, written_out 4 c.args.c.v c.args.c.four, written_out 4 c.args.d.v c.args.d.four)
    record {
      first = simp (to_z-of_z, f 0, g 0, h 0, k 0);
      second = simp (to_z-of_z, f 1, g 1, h 1, k 1);
      third = simp (to_z-of_z, f 2, g 2, h 2, k 2);
      fourth = simp (to_z-of_z, f 3, g 3, h 3, k 3);
    }
