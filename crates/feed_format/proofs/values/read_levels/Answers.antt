-- `feed_format::values::read_levels` meets its contract: the first i levels are stored.
use Rattle.std.proofs.Common.{w32}
use mathlib.Core.Path.{◌≡◌, ◌∙◌}
use mathlib.Core.List.{[]}
use Prim.Native.Nat.{◌≤◌, ◌<◌}
use native.Mathlib.Omega.{arith}
use borrow.Author.Rules.{sfits_of}
use lib.ListN.{length, take, get_or}
use lib.Seq.{get_or-take, length-take-le}
use Rattle.integers.proofs.ListsLaws.{stored_none, stored_more, stored_all}
use Rattle.integers.proofs.MachineLaws.{round_trip}
use Rattle.feed_format.specs.Format.{level_at}
use Rattle.feed_format.proofs.ValueLaws.{level_in_chunk}
use Rattle.feed_format.proofs.values.read_levels.Goals as goal

pub loop-i-init : goal.loop-i-init
loop-i-init c = stored_none

pub loop-i-preserved : goal.loop-i-preserved
loop-i-preserved c =
    let l = c.loop-i in
    let n = c.args.count in
    let chunks = c.as_chunks.result.0.now in
    let few : n ≤ length chunks = omega (arith, c.as_chunks.ensures.front_len, c.requires.count_in_bounds) in
    let inside : l.i < n = omega (arith, c.loop-i-test.true, length-take-le n chunks few) in
    let here : level_at (get_or (take n chunks) l.i []) 0 ≡ level_at c.args.body.now l.i =
    rw (get_or-take n chunks l.i [] inside, c.as_chunks.ensures.front) (level_in_chunk _ c.args.body.now l.i [] (omega (arith, c.as_chunks.ensures.front_len, few, inside))) in
    stored_more l.invariant (omega arith) (round_trip {w = w32} (sfits_of c.level.type_inv) ∙ c.level.ensures ∙ here)

pub returns : goal.returns
returns c =
    let n = c.args.count in
    let chunks = c.as_chunks.result.0.now in
    let few : n ≤ length chunks = omega (arith, c.as_chunks.ensures.front_len, c.requires.count_in_bounds) in
    stored_all c.loop-i.invariant (omega (arith, c.loop-i-test.false, c.loop-i.auto.i-end, length-take-le n chunks few))
