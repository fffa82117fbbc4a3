-- `edit_blocks::spans::sample_span` meets its contract: a sample that is not wanted leaves the span, and so does an empty span; else it is narrowed.
use Prim.Native.Nat.{◌+◌, ◌*◌}
use native.Mathlib.Omega.{arith}
use Rattle.edit_blocks.specs.Needs.{Tables}
use Rattle.edit_blocks.specs.Work.{tables_of}
use Rattle.edit_blocks.proofs.ProbeLaws.{probe_bounded, narrowed_sieved, unwanted_hit, wanted_is}
use Rattle.edit_blocks.proofs.SieveLaws.{sieved_none, sieved_skip}
use Rattle.edit_blocks.proofs.spans.sample_span.Goals as goal
use Rattle.edit_blocks.proofs.spans.sample_span.Goals.{Start}

abbrev given : Start → Tables
given c = let a = c.args in tables_of a.search.now

pub returns-then-search-m-eq0 : goal.returns-then-search-m-eq0
returns-then-search-m-eq0 c =
    let s = c in
    let a = s.args in
    sieved_skip (sieved_none a.span s.requires.4) (unwanted_hit (given (goal.at.returns-then-search-m-eq0 c).Start) a.search.now.n a.search.now.range a.search.now.shift a.k a.c (a.m * a.search.now.n + a.j) a.search.now.wanted.now c.if-search-m-eq0.true)

pub narrow-requires : goal.narrow-requires
narrow-requires c =
    let s = c in
    let h = s.requires in (
      probe_bounded s.args.search.now.ready h.0 h.1 h.2 h.3 c.probe_at.ensures.0 c.probe_at.ensures.1,
      omega (arith, c.is_empty.ensures.1 c.if-is_empty.false),
    )

pub returns : goal.returns
returns c =
    let q = c in
    let s = q in
    let a = s.args in
    narrowed_sieved (given (goal.at.returns c).Start) a.search.now.n a.search.now.range a.search.now.shift a.k a.c a.m a.j a.search.now.wanted.now s.requires.3 q.probe_at.ensures.0 a.span
    (wanted_is a.search.now.wanted.now (a.m * a.search.now.n + a.j) q.if-search-m-eq0.false) s.requires.4 c.narrow.ensures
