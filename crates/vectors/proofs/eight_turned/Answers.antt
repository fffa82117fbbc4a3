-- `vectors::eight_turned` meets its contract: the lanes move as bits.
use mir.Syntax.{w16}
use mir.Facts.{to_z-of_z}
use Rattle.vectors.proofs.LanesLaws.{lanes_fit, written_out}
use Rattle.vectors.proofs.eight_turned.Goals as goal

pub returns : goal.returns
returns c =
    let f = lanes_fit w16 _ c.well_formed.0 in
    let g = lanes_fit w16 _ c.well_formed.1.0 in
    let h = lanes_fit w16 _ c.well_formed.1.1.0 in
    let k = lanes_fit w16 _ c.well_formed.1.1.1.0 in
    rw (written_out 8 c.args.a.v c.args.a.eight, written_out 8 c.args.b.v c.args.b.eight, written_out 8 c.args.c.v c.args.c.eight, written_out 8 c.args.d.v c.args.d.eight)
    record {
      first = simp (to_z-of_z, f 0, f 4, g 0, g 4, h 0, h 4, k 0, k 4);
      second = simp (to_z-of_z, f 1, f 5, g 1, g 5, h 1, h 5, k 1, k 5);
      third = simp (to_z-of_z, f 2, f 6, g 2, g 6, h 2, h 6, k 2, k 6);
      fourth = simp (to_z-of_z, f 3, f 7, g 3, g 7, h 3, h 7, k 3, k 7);
    }
