-- `level_search::block::search` meets its contract. The loop's invariant: every coefficient before i has a level, and the first i places hold them.
use mathlib.Core.Path.{◌≡◌, sym, ap, ◌∙◌}
use mathlib.Core.Bool.{not}
use Prim.Native.Nat.{◌*◌}
use native.Mathlib.Omega.{arith}
use borrow.Author.Rules.{sfits_of}
use lib.IntN.{pos}
use lib.ListN.{get_or}
use mir.Syntax.{w32}
use mir.Val.{SFits}
use Rattle.integers.proofs.MachineLaws.{round_trip}
use Rattle.integers.proofs.ListsLaws.{stored_none, stored_more, stored_length, stored_all}
use Rattle.integers.proofs.SearchLaws.{none_zero, none_suc, first_where-none, first_where_found}
use Rattle.scaling_values.specs.Given.{list_of}
use Rattle.h265.proofs.RangeLaws.{size_square}
use Rattle.level_search.specs.Work.{scaling_by, nearest_at, misses_at, first_miss}
use Rattle.level_search.proofs.block.search.Goals as goal
use Rattle.level_search.proofs.block.search.Goals.{After-nearest-arg-1, After-nearest-level, After-scales_to}

pub loop-i-init : goal.loop-i-init
loop-i-init c = (omega arith, none_zero, stored_none)

-- the coefficient that was read, its level, and whether that scales back to it
read_fits : (c : After-nearest-arg-1)
    → let l = c in SFits w32 (get_or l.args.coeff.now l.loop-i.i (pos 0))
read_fits c = record { sfits = c.nearest-arg-1.given }

level_is : (c : After-nearest-level)
    → let l = c in let a = l.args in
    c.nearest-level.result ≡ nearest_at a.by (list_of a.list) a.n a.coeff.now l.loop-i.i
unfolding nearest_at scaling_by
level_is c = rw (round_trip (read_fits (goal.at.After-nearest-level c).After-nearest-arg-1), c.factor_at-m.ensures) at c.nearest-level.ensures

miss_is : (c : After-scales_to)
    → let l = c in let a = l.args in
    not c.scales_to.result ≡ misses_at a.by (list_of a.list) a.n a.coeff.now l.loop-i.i
unfolding misses_at scaling_by
miss_is c =
    let d = c in
    ap not (rw (round_trip (sfits_of d.nearest-level.type_inv), round_trip (read_fits (goal.at.After-scales_to c).After-nearest-arg-1), d.factor_at-m.ensures, level_is (goal.at.After-scales_to c).After-nearest-level) at c.scales_to.ensures)

pub returns-then-not-scales_to : goal.returns-then-not-scales_to
unfolding first_miss
returns-then-not-scales_to c = (
  first_where_found (c.args.n * c.args.n) c.loop-i.i c.loop-i-test.true c.loop-i.invariant.1 (sym (miss_is (goal.at.returns-then-not-scales_to c).After-scales_to) ∙ (ap not c.if-not-scales_to.true)),
  c.loop-i-test.true,
)

pub loop-i-preserved : goal.loop-i-preserved
loop-i-preserved c = (
  omega (arith, c.loop-i-test.true),
  none_suc c.loop-i.invariant.1 (sym (miss_is (goal.at.loop-i-preserved c).After-scales_to) ∙ (ap not c.if-not-scales_to.false)),
  stored_more c.loop-i.invariant.2 (omega (arith, c.loop-i-test.true, size_square c.args.n c.requires.whole_list.size)) (round_trip {w = w32} (sfits_of c.nearest-level.type_inv) ∙ level_is (goal.at.loop-i-preserved c).After-nearest-level),
)

pub returns : goal.returns
unfolding first_miss
returns c =
    record {
      none = first_where-none (c.args.n * c.args.n) (omega (arith, c.loop-i-test.false)) c.loop-i.invariant.1;
      same = stored_length c.loop-i.invariant.2;
      levels = stored_all c.loop-i.invariant.2 (omega (arith, c.loop-i-test.false));
    }
