-- `stages::residual_plain` meets its contract: 20 less the depth is the shift of stage two in the plain range, and each arm runs its kind.
use mathlib.Core.Path.{◌≡◌, subst}
use Prim.Native.Nat.{ℕ, ◌-◌}
use native.Mathlib.Omega.{arith}
use lib.ListN.{length}
use Rattle.std.specs.Prelude.{map}
use Rattle.h265.specs.Transform.{stage_two_shift}
use Rattle.stages.specs.Passes.{BlockNeeds}
use Rattle.stages.proofs.PlainLaws.{result_dct, result_size_4}
use Rattle.stages.proofs.residual_plain.Goals as goal
use Rattle.stages.proofs.residual_plain.Goals.{After-stage_two_shift-s}

module _ (g : _) (c : After-stage_two_shift-s g) where
  shift_is : c.stage_two_shift-s.result ≡ 20 - c.args.bit_depth
  unfolding stage_two_shift
  shift_is = c.stage_two_shift-s.ensures

  needs : BlockNeeds c.args.n c.stage_two_shift-s.result c.args.nx (map g.V.Output.value c.args.coeff.now) (length c.args.out.now)
  needs =
      let p = c.requires.0 in
      record {
        least = rw shift_is (omega (arith, p.most));
        most = rw shift_is (omega (arith, p.least));
        columns = p.columns;
        long = p.long;
        room = p.room;
        fits = p.fits;
      }

pub dct_plain-requires : goal.dct_plain-requires
dct_plain-requires g c =
    let s = (goal.at.dct_plain-requires g c).After-stage_two_shift-s in
    (c.requires.0.size, needs g s, rw (shift_is g s) c.requires.1)

pub block_4-requires : goal.block_4-requires
block_4-requires g c =
    let s = (goal.at.block_4-requires g c).After-stage_two_shift-s in
    (subst (λ (n : ℕ). BlockNeeds n c.stage_two_shift-s.result c.args.nx (map g.V.Output.value c.args.coeff.now) (length c.args.out.now)) (c.requires.0.dst c.in-Dst.is) (needs g s), rw (shift_is g s) c.requires.1)

pub returns-in-Dct : goal.returns-in-Dct
returns-in-Dct g c =
    let s = (goal.at.returns-in-Dct g c).After-stage_two_shift-s in
    result_dct _ _ _ _ _ _ c.in-Dct.is (rw (shift_is g s) at c.dct_plain.ensures)

pub returns-in-Dst : goal.returns-in-Dst
returns-in-Dst g c =
    let s = (goal.at.returns-in-Dst g c).After-stage_two_shift-s in
    result_size_4 c.args.kind _ _ _ _ _ (c.requires.0.dst c.in-Dst.is) (rw (shift_is g s) at c.block_4.ensures)
