-- Laws of states and of what a record hands back.
--   none_said                    what `ok_or` says of a value that is not there
--   capped_id, capped_offset     numbers that fit are held as they are; the same where the offset was limited already
--   quiet_kept, quiet_moved      what a refused record, and an accepted one without text, hand back
--   refused_takes                what a refused record hands back, whatever room there is
--   quiet_takes                  a record without text leaves the buffer of texts as it is
--   block_takes                  what a record with text hands back
--   levels_given                 a block of levels, by what is known of the parameters
use Rattle.feed_format.specs.declared.Parameters.{Parameters}
use Rattle.std.specs.Prelude.{Result, Ok, Err, Option, Some, None}
use Rattle.std.proofs.Common.{ok_or}
use mathlib.Core.Path.{◌≡◌, refl, sym, ap, ◌∙◌}
use mathlib.Core.List.{List, []}
use Prim.Native.Nat.{ℕ, ◌+◌, ◌≤◌, min}
use native.Mathlib.Omega.{arith}
use Rattle.refusal.specs.declared.Refusal.{Refusal}
use Rattle.refusal.specs.Outcome.{Outcome, accepted, refused}
use Rattle.text.specs.Text.{WroteUpTo}
use Rattle.text.proofs.WroteLaws.{wrote_none}
use Rattle.feed_rules.specs.Record.{FeedState, Effect, Keeper, unchanged, levels_by, levels_effect}
use Rattle.feed_state.specs.declared.State.{State}
use Rattle.feed_state.specs.declared.Taken.{Taken}
use Rattle.feed_state.specs.Buffers.{Lent, Buffered}
use Rattle.feed_state.specs.Taken.{state_of, capped, Takes, Quiet}

pub none_said : {A : Type 0} (o : Option A) (why e : Refusal) → Err e ≡ ok_or o why → (o ≡ None) × (e ≡ why)
none_said None why e h = (refl, cc)
none_said (Some a) why e h = absurd (cc)

abbrev pub at_offset : {H : Type 0} → FeedState H → ℕ → FeedState H
at_offset s o = record { given = s.given; list = s.list; block = s.block; blocks = s.blocks; offset = o }

pub capped_offset : {H : Type 0} (s : FeedState H) (o : ℕ) → s.blocks ≤ 18446744073709551615 → o ≡ min s.offset 18446744073709551615 → at_offset s o ≡ capped s
unfolding capped
capped_offset s o h e = let b : min s.blocks 18446744073709551615 ≡ s.blocks = omega arith in rw (b, e) refl

pub capped_id : {H : Type 0} (s : FeedState H) → s.blocks ≤ 18446744073709551615 → s.offset ≤ 18446744073709551615 → capped s ≡ s
capped_id s h k = sym (capped_offset s s.offset h (omega arith))

pub quiet_kept : (s : State) (why : Refusal) (at : ℕ) (w : Lent) → s.blocks ≤ 18446744073709551615 → s.offset ≤ 18446744073709551615
    → Quiet s (Err why) w at (refused (unchanged (state_of s w)) why)
quiet_kept s why at w h k = record { answered = refl; state = sym (capped_id (state_of s w) h k); end = refl; none = refl }

pub quiet_moved : (s next : State) (w : Lent) (t : FeedState Buffered) (at : ℕ) → t.blocks ≤ 18446744073709551615 → next.offset ≡ min t.offset 18446744073709551615
    → state_of next w ≡ at_offset t next.offset → Quiet s (Ok (record { state = next; end = at })) w at (accepted (record { text = []; state = t }))
quiet_moved s next w t at h k e = record { answered = refl; state = e ∙ capped_offset t next.offset h k; end = refl; none = refl }

pub quiet_takes : {s : State} {r : Result Taken Refusal} {w : Lent} {at : ℕ} {o : Outcome (Effect Buffered)} (l : List ℕ) (room : ℕ) → Quiet s r w at o → Takes s r w l at l o room
quiet_takes {s} {r} {w} {at} {o} l room q =
    record {
      answered = q.answered;
      state = q.state;
      text = record { wrote = rw (q.none, q.end) (wrote_none l at); bound = omega (arith, q.end) };
    }

-- a state of the code holds no larger numbers
pub refused_takes : (s : State) (why : Refusal) (l : List ℕ) (at : ℕ) (w : Lent) (room : ℕ) → s.blocks ≤ 18446744073709551615 → s.offset ≤ 18446744073709551615
    → Takes s (Err why) w l at l (refused (unchanged (state_of s w)) why) room
refused_takes s why l at w room h k = quiet_takes l room (quiet_kept s why at w h k)

pub block_takes : {l t m : List ℕ} {at end e : ℕ} (s next : State) (w : Lent) (f : FeedState Buffered) (room : ℕ) → state_of next w ≡ capped f → e ≤ at + room
    → WroteUpTo l at t m end e → Takes s (Ok (record { state = next; end = end })) w l at m (accepted (record { text = t; state = f })) room
block_takes s next w f room q h k =
    record { answered = refl; state = q; text = record { wrote = k.wrote; bound = omega (arith, k.bound) } }

pub levels_given : {H : Type 0} {g : Option Parameters} (k : Keeper H) (s : FeedState H) (n : ℕ) (body : List ℕ) → s.given ≡ g → levels_effect k s n body ≡ levels_by k g s n body
unfolding levels_effect
levels_given k s n body e = ap (λ (g : Option Parameters). levels_by k g s n body) e
