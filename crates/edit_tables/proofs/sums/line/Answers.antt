-- `edit_tables::sums::line` meets its contract: the loop has added the products passed.
use mathlib.Core.Path.{sym, ◌∙◌}
use Prim.Native.Nat.{◌+◌, ◌*◌}
use native.Mathlib.Omega.{arith}
use lib.IntN.{ℤ, pos}
use lib.ListN.{get_or}
use mir.Syntax.{w64}
use mir.Val.{SFits}
use Rattle.h265.specs.Transform.{block_at, transform_line}
use borrow.Author.Rules.{sfits_of}
use Rattle.integers.specs.Within.{Within}
use Rattle.integers.proofs.MachineLaws.{round_trip}
use Rattle.integers.proofs.BoundLaws.{within_le, within_fits}
use Rattle.edit_tables.proofs.TableLaws.{line_zero, line_suc, line_within}
use Rattle.edit_tables.proofs.sums.line.Goals as goal
use Rattle.edit_tables.proofs.sums.line.Goals.{After-mac-arg-1, After-mac-arg-in-loop-k-1, At-loop-k, In-loop-k}

-- the sum so far
module _ (c : At-loop-k) where
  abbrev so_far : ℤ
  so_far =
      let a = c.args in
      transform_line (block_at a.n a.t.now) c.loop-k.k (λ i. get_or a.x.now (a.base + i * a.stride) (pos 0)) a.m

  so_far_within : Within 12079595520 so_far
  so_far_within =
      let s = c in
      line_within (block_at s.args.n s.args.t.now) c.loop-k.k _ s.args.m (omega (arith, c.loop-k.invariant.0, s.requires.few))
      (λ i l. s.requires.entries i (omega (arith, c.loop-k.invariant.0))) (λ i l. (s.requires.reads i (omega (arith, c.loop-k.invariant.0))).1)

  so_far_fits : SFits w64 so_far
  so_far_fits = within_fits tt so_far_within

module _ (c : After-mac-arg-in-loop-k-1) where
  entry_within : let l = c in let a = l.args in Within 90 (get_or a.t.now (l.loop-k.k * a.n + a.m) (pos 0))
  unfolding block_at
  entry_within = let l = c in l.requires.entries l.loop-k.k (omega arith)

  value_within : let l = c in let a = l.args in Within 4194304 (get_or a.x.now (a.base + l.loop-k.k * a.stride) (pos 0))
  value_within = let l = c in (l.requires.reads l.loop-k.k (omega arith)).1

  entry_fits : let l = c in let a = l.args in SFits w64 (get_or a.t.now (l.loop-k.k * a.n + a.m) (pos 0))
  entry_fits = within_fits tt entry_within

  value_fits : let l = c in let a = l.args in SFits w64 (get_or a.x.now (a.base + l.loop-k.k * a.stride) (pos 0))
  value_fits = within_fits tt value_within

pub loop-k-init : goal.loop-k-init
loop-k-init c = (omega arith, sym (line_zero _ _ _))

pub mac-more-requires : goal.mac-more-requires
mac-more-requires c =
    let l = c in
    let s = l in
    rw (l.loop-k.invariant.1, round_trip (entry_fits c), round_trip (value_fits c))
    (within_le (omega arith) (so_far_within (goal.at.mac-more-requires c).At-loop-k), entry_within c, within_le (omega arith) (value_within c))

pub loop-k-preserved : goal.loop-k-preserved
unfolding block_at
loop-k-preserved c =
    let l = c in
    let a = l.args in (
      omega arith,
      round_trip {w = w64} (sfits_of c.mac-more.type_inv)
          ∙ ((rw (l.loop-k.invariant.1, round_trip (entry_fits (goal.at.loop-k-preserved c).After-mac-arg-in-loop-k-1), round_trip (value_fits (goal.at.loop-k-preserved c).After-mac-arg-in-loop-k-1)) at c.mac-more.ensures.0)
          ∙ sym (line_suc (block_at a.n a.t.now) l.loop-k.k (λ i. get_or a.x.now (a.base + i * a.stride) (pos 0)) a.m)),
    )
