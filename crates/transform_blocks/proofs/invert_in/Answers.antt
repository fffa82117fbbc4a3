-- `transform_blocks::invert_in` meets its contract: the stages of the range meet it, and the plain range is that of 16 bits.
use mathlib.Core.Path.{◌≡◌, subst}
use mathlib.Core.Bool.{false}
use Prim.Native.Nat.{ℕ, ◌+◌, ◌-◌, ◌*◌, ◌≤◌}
use native.Mathlib.Omega.{arith}
use lib.IntN.{pos}
use lib.ListN.{get_or, length}
use Rattle.h265.specs.Range.{outside_range}
use Rattle.h265.proofs.RangeLaws.{outside_range_false}
use Rattle.transform_blocks.proofs.BlocksLaws.{plain_needs}
use Rattle.transform_blocks.proofs.NarrowLaws.{inside_fits}
use Rattle.transform_blocks.proofs.invert_in.Goals as goal

pub residual_plain-requires : goal.residual_plain-requires
residual_plain-requires c =
    let s = c in
    let p = s.requires in
    let shift : 0 ≤ 20 - s.args.bit_depth = omega arith in (
      plain_needs s.args.kind s.args.n s.args.bit_depth s.args.nx s.args.coeff.now (length s.args.out.now) record {
        size = p.size;
        dst = p.dst;
        least = p.depth.0;
        most = p.depth.1;
        columns = p.columns;
        long = p.long;
        room = p.room;
        fits = λ k j hk hj. inside_fits (get_or s.args.coeff.now (k * s.args.n + j) (pos 0)) (subst (λ (r : ℕ). outside_range r (get_or s.args.coeff.now (k * s.args.n + j) (pos 0)) ≡ false) c.if-range-eq15.true (p.inside k j hk hj));
      },
      shift,
    )

pub residual_wide-requires : goal.residual_wide-requires
residual_wide-requires c =
    let s = c in
    let p = s.requires in (
      record { size = p.size; dst = p.dst; least = p.range.0; most = p.range.1; source = p.long; room = p.room },
      record { least = p.depth.0; most = p.depth.1; above = p.range.2; below = omega (arith, p.range) },
      record { columns = p.columns; at = λ k j hk hj. outside_range_false s.args.range (get_or s.args.coeff.now (k * s.args.n + j) (pos 0)) (p.inside k j hk hj) },
    )
