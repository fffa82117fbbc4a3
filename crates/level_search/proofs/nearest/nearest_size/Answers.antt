-- `level_search::nearest::nearest_size` meets its contract. The loop's invariant: no size below `low` reaches x, and `high` does, or is the end.
use mathlib.Core.Path.{sym, ap, ◌∙◌}
use Prim.Native.Nat.{◌≤◌}
use native.Mathlib.Omega.{arith}
use mir.Syntax.{w32}
use mir.Val.{to_z, of_z}
use Rattle.integers.proofs.MachineLaws.{round_trip}
use Rattle.scaling_values.specs.Level.{listed_level}
use Rattle.level_search.specs.Work.{side_end, reaches, nearest_size}
use Rattle.level_search.proofs.SideLaws.{reaches_below}
use Rattle.level_search.proofs.NearestLaws.{side_end_bound, halved}
use Rattle.level_search.proofs.nearest.nearest_size.Goals as goal
use Rattle.level_search.proofs.nearest.nearest_size.Goals.{At-loop-low}

-- the end of the side, which every size in the loop is at most
bound : (c : At-loop-low) → side_end c.args.by (to_z w32 (of_z w32 c.args.x)) ≤ 4194304
bound c =
    let s = c in
    side_end_bound s.args.by (to_z w32 (of_z w32 s.args.x)) s.requires.manageable

pub overflow_add-middle : goal.overflow_add-middle
overflow_add-middle c = omega (arith, bound (goal.at.overflow_add-middle c).At-loop-low)

pub reaches-requires : goal.reaches-requires
reaches-requires c = record { manageable = c.requires.manageable; size_bound = omega (arith, bound (goal.at.reaches-requires c).At-loop-low) }

pub loop-low-preserved : goal.loop-low-preserved
loop-low-preserved c =
    let l = c in
    let s = l in (
      omega arith,
      l.loop-low.invariant.1,
      record { at = λ i h. reaches_below (listed_level s.args.by s.args.m) (s.requires.scales s.args.m) _ i _ (omega arith) (sym c.reaches.ensures ∙ c.if-reaches.false) },
      l.loop-low.invariant.3,
    )

pub returns : goal.returns
unfolding nearest_size
returns c =
    let l = c in
    let s = l in
    let f = listed_level s.args.by s.args.m in
    let v = l.loop-low.invariant in
    halved _ (reaches f (to_z w32 (of_z w32 s.args.x))) l.loop-low.low l.loop-low.high (omega arith) v.0 v.1 v.2 v.3
    ∙ ap (nearest_size s.args.by f) (round_trip s.ranges.x)
