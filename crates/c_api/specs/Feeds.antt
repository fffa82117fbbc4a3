-- A whole feed from C, and the listing of its scaling factors.
--   ran_of r               what an answer stands for: where the text ends, or that there was no room
--   Tells r ran           an answer stands for what a run did; without room the end is 0
--   RunsTo r l m bytes    what a call handed back is what `run` of the feed does; without room the end is 0
--   ListsTo r l m bytes   the same of `run` of the listing
use Rattle.std.specs.Prelude.{◌≡◌, false, cond, List, ℕ, Option, Some, None}
use Rattle.feed.specs.Answers.{Runs}
use Rattle.scale_trace.specs.Work.{Lists}
use Rattle.c_api.specs.declared.FeedRan.{FeedRan}

abbrev pub ran_of : FeedRan → Option ℕ
ran_of r = cond r.room (Some r.end) None

pub record Tells (r : FeedRan) (ran : Option ℕ) : Type 0 where
  pub is : ran_of r ≡ ran
  pub none : r.room ≡ false → r.end ≡ 0

pub record RunsTo (r : FeedRan) (l m : List ℕ) (bytes : List ℕ) : Type 0 where
  pub runs : Runs (ran_of r) l m bytes
  pub none : r.room ≡ false → r.end ≡ 0

pub record ListsTo (r : FeedRan) (l m : List ℕ) (bytes : List ℕ) : Type 0 where
  pub lists : Lists (ran_of r) l m bytes
  pub none : r.room ≡ false → r.end ≡ 0
