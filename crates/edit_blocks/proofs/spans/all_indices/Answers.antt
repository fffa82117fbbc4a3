-- `edit_blocks::spans::all_indices` meets its contract: the loop has stored the ends of the indices passed.
use mir.Syntax.{w32}
use Prim.Native.Nat.{◌/◌, ◌%◌}
use native.Mathlib.Omega.{arith}
use mathlib.Core.Path.{◌≡◌, ◌∙◌}
use borrow.Author.Rules.{sfits_of}
use Rattle.integers.proofs.MachineLaws.{round_trip}
use Rattle.integers.proofs.ListsLaws.{stored_none, stored_more}
use Rattle.edit_blocks.specs.Needs.{Tables}
use Rattle.edit_blocks.specs.Work.{tables_of, sampled_by, least_of, most_of, least_by, most_by}
use Rattle.edit_blocks.proofs.SieveLaws.{sieved_least, sieved_most}
use Rattle.edit_blocks.proofs.spans.all_indices.Goals as goal
use Rattle.edit_blocks.proofs.spans.all_indices.Goals.{After-index_span-span, After-most_of-high}

pub loop-i-init : goal.loop-i-init
loop-i-init c = (omega arith, stored_none, stored_none)

-- the ends of what `index_span` leaves
module _ (c : After-index_span-span) where
  abbrev given : Tables
  given = let a = c.args in tables_of a.search.now

  least_is : let l = c in let a = l.args in least_of a.search.now.range c.index_span-span.result ≡ least_by given a.search.now.wanted.now a.search.now.n a.search.now.range a.search.now.shift l.loop-i.i
  unfolding least_by
  least_is =
      let l = c in
      let a = l.args in
      sieved_least a.search.now.range a.search.now.n (sampled_by given a.search.now.n a.search.now.range a.search.now.shift (l.loop-i.i / a.search.now.n) (l.loop-i.i % a.search.now.n)) a.search.now.target.now a.search.now.wanted.now c.index_span-span.ensures

  most_is : let l = c in let a = l.args in most_of a.search.now.range c.index_span-span.result ≡ most_by given a.search.now.wanted.now a.search.now.n a.search.now.range a.search.now.shift l.loop-i.i
  unfolding most_by
  most_is =
      let l = c in
      let a = l.args in
      sieved_most a.search.now.range a.search.now.n (sampled_by given a.search.now.n a.search.now.range a.search.now.shift (l.loop-i.i / a.search.now.n) (l.loop-i.i % a.search.now.n)) a.search.now.target.now a.search.now.wanted.now c.index_span-span.ensures

pub loop-i-preserved : goal.loop-i-preserved
loop-i-preserved c =
    let x = c in
    let l = x in
    let s = l in (
      omega arith,
      stored_more l.loop-i.invariant.1 (omega (arith, s.requires.0)) (round_trip {w = w32} (sfits_of c.least_of-low.type_inv) ∙ c.least_of-low.ensures ∙ least_is (goal.at.loop-i-preserved c).After-index_span-span),
      stored_more l.loop-i.invariant.2 (omega (arith, s.requires.1)) (round_trip {w = w32} (sfits_of c.most_of-high.type_inv) ∙ c.most_of-high.ensures ∙ most_is (goal.at.loop-i-preserved c).After-index_span-span),
    )
