-- What the functions below `take_record` rely on and hand back.
--   Whole kind len          a body of len bytes is whole, and levels have one of the four sizes
--   Skips, Reads            a block by transform skip, and a reading: a record was taken that leaves the four buffers
use Rattle.std.specs.Prelude.{ℕ, ◌≤◌, List, T, ℤ, Some, Result}
use Rattle.refusal.specs.declared.Refusal.{Refusal}
use Rattle.feed_format.specs.declared.Kind.{Kind}
use Rattle.feed_format.specs.declared.Kind.TheVariants.{Levels, Reading}
use Rattle.feed_format.specs.declared.Parameters.{Parameters}
use Rattle.feed_format.specs.Format.{size_known, body_length, text_room}
use Rattle.feed_rules.specs.Record.{levels_by, reading_effect}
use Rattle.feed_state.specs.declared.State.{State}
use Rattle.feed_state.specs.declared.Taken.{Taken}
use Rattle.feed_state.specs.Buffers.{Lent, lent, in_buffers}
use Rattle.feed_state.specs.Taken.{state_of, Takes}

pub record Whole (kind : Kind) (len : ℕ) : Type 0 where
  pub long : body_length kind ≤ len
  pub size : T (size_known kind)

pub record Skips (s : State) (p : Parameters) (r : Result Taken Refusal) (n : ℕ) (body l : List ℕ) (at : ℕ) (m : List ℕ) : Type 0 where
  pub leaves : (w : Lent) → Takes s r w l at m (levels_by in_buffers (Some p) (state_of s w) n body) (text_room (Levels n))

pub record Reads (s : State) (r : Result Taken Refusal) (e : List ℤ) (l : List ℕ) (at : ℕ) (m : List ℕ) : Type 0 where
  pub leaves : (ls d g : List ℤ) → Takes s r (lent ls d g e) l at m (reading_effect in_buffers (state_of s (lent ls d g e))) (text_room Reading)
