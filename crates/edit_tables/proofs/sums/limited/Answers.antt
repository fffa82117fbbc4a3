-- `edit_tables::sums::limited` meets its contract: each number is the value there, limited.
use mir.Syntax.{w64}
use mir.Val.{SFits}
use Prim.Native.Nat.{◌+◌, ◌*◌, ◌<◌}
use native.Mathlib.Omega.{arith}
use lib.IntN.{pos}
use lib.ListN.{get_or}
use Rattle.std.proofs.Common.{rules}
use Rattle.integers.specs.Within.{Within}
use Rattle.integers.proofs.BoundLaws.{within_le, within_fits}
use Rattle.integers.proofs.MachineLaws.{round_trip}
use Rattle.h265.specs.Transform.{block_at}
use Rattle.h265.proofs.RangeLaws.{size_bound}
use Rattle.edit_tables.proofs.TableLaws.{filled_holds, place}
use Rattle.edit_tables.proofs.sums.limited.Goals as goal

pub filled-requires : goal.filled-requires
unfolding block_at
filled-requires c =
    let a = c.args in (
      c.requires.0,
      λ m d hm hd.
          let q : m * a.n + d < 1024 = place a.n m d ((size_bound a.n c.requires.0).1, hm, hd) in
          let w : Within 12079595520 (get_or a.ones.now (m * a.n + d) (pos 0)) = c.requires.2 m d hm hd in
          let f : SFits w64 (get_or a.ones.now (m * a.n + d) (pos 0)) = within_fits tt w in (
            λ κs p e r f. record { fits = omega (arith, q) },
            λ κs p e r f. record { fits = omega (arith, q) },
            λ κs p e r f. record { fits = omega (arith, q) },
            λ κs p e r f. q,
            λ κs p e r u i v l. (rw (round_trip f) (within_le (omega arith) w), c.requires.1),
          ),
    )

pub returns : goal.returns
unfolding block_at
returns c = filled_holds c.filled.ensures (λ m d x hm hd p. search rules)
