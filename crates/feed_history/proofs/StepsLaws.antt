-- Records given to a step one by one.
--   enough_room             a step with the room that a record asks, over buffers of 1,024 elements, is what the record does
--   steps_follow_history    the statement over every feed
use mathlib.Core.Path.{◌≡◌, refl, ap, ap₂, ◌∙◌}
use mathlib.Core.Bool.{false}
use mathlib.Core.List.{List, [], ◌∷◌, ◌++◌}
use Prim.Native.Nat.{ℕ, zero, suc, ◌+◌, ◌≤◌}
use native.Mathlib.Omega.{arith}
use borrow.Author.Tests.{le-ltb}
use lib.ListN.{length, take, drop, length-take, length-drop}
use Rattle.refusal.specs.Outcome.{Outcome}
use Rattle.feed_format.specs.Format.{record_length, record_room}
use Rattle.feed_format.proofs.FormatLaws.{room_most}
use Rattle.feed_lines.specs.Lines.{blocks_text}
use Rattle.feed_rules.specs.Record.{FeedState, Effect, record_effect}
use Rattle.feed_rules.specs.Feed.{text_by, History, in_history, beginning, last_line, feed_text}
use Rattle.feed_rules.proofs.EffectLaws.{effect_moved}
use Rattle.feed_state.specs.Buffers.{Lent, Buffered, in_buffers}
use Rattle.feed_state.specs.Taken.{answer_of, Ample}
use Rattle.feed_state.proofs.StateLaws.{capped_id}
use Rattle.feed_history.specs.Stepping.{too_short, stepping_by}
use Rattle.feed_history.specs.Stepping.IfRoom.{enough}
use Rattle.feed_history.specs.Steps.{steps_from, stepped_text, StepsFollowHistory}
use Rattle.feed_history.proofs.FollowLaws.{Follows, after_same, record_follows, follows_start}

pub long_enough : (w : Lent) → Ample w → too_short w ≡ false
unfolding too_short
long_enough w a = rw (le-ltb (length w.levels) 1024 a.levels, le-ltb (length w.buffers.coeff) 1024 a.coeff, le-ltb (length w.buffers.inter) 1024 a.inter, le-ltb (length w.buffers.res) 1024 a.res) refl

pub enough_room : (effect : FeedState Buffered → ℕ → List ℕ → Outcome (Effect Buffered)) (asks : ℕ → ℕ) (s : FeedState Buffered) (k : ℕ) (body : List ℕ) (room : ℕ) → asks k ≤ room → Ample s.block.lent_are
    → stepping_by effect asks s k body room ≡ record { answer = enough (answer_of (effect s k body)); state = (effect s k body).value.state; text = (effect s k body).value.text }
unfolding stepping_by
enough_room effect asks s k body room h a = rw (le-ltb room (asks k) h, long_enough s.block.lent_are a) refl

-- where an accepted record leaves count and offset
record Reached (s : FeedState Buffered) (bytes : List ℕ) : Type 0 where
  blocks_fit : s.blocks ≤ 18446744073709551615
  offset_fits : s.offset ≤ 18446744073709551615
  few : s.blocks ≤ s.offset
  fits : s.offset + length bytes ≤ 18446744073709551615

reached : (s : FeedState Buffered) (k : ℕ) (bytes : List ℕ) → s.blocks ≤ s.offset → s.offset + length (k ∷ bytes) ≤ 18446744073709551615
    → (record_effect in_buffers s k (take (record_length k) bytes)).number ≡ 0 → Reached (record_effect in_buffers s k (take (record_length k) bytes)).value.state (drop (record_length k) bytes)
reached s k bytes few h a =
    let m = effect_moved in_buffers s k (take (record_length k) bytes) in
    let far = m.offset a in
    let more = m.blocks in
    let whole : record_length k ≤ length bytes = let q = rw length-take at (m.whole a) in omega (arith, q) in
    record {
      blocks_fit = omega (arith, more, few, h);
      offset_fits = omega (arith, far, whole, h);
      few = omega (arith, more, far, few);
      fits = rw length-drop (omega (arith, far, whole, h));
    }

steps_agree : (room fuel : ℕ) → 12317 ≤ room → {s : FeedState Buffered} {t : FeedState History} → Follows s t → s.blocks ≤ s.offset → (bytes : List ℕ) → s.offset + length bytes ≤ 18446744073709551615
    → steps_from room fuel s bytes ≡ text_by (record_effect in_history) last_line fuel t bytes
unfolding steps_from text_by
steps_agree room zero r f few bytes h = refl
steps_agree room (suc fuel) r f few [] h = ap blocks_text f.blocks
steps_agree room (suc fuel) r {s} {t} f few (k ∷ bytes) h =
    let body = take (record_length k) bytes in
    let o = record_effect in_buffers s k body in
    let p = record_effect in_history t k body in
    let e = record_follows f k body in
    rw (enough_room (record_effect in_buffers) record_room s k body room (omega (arith, room_most k)) f.ample)
    (ap₂ ◌++◌ e.text (after_same o.number p.number s.offset t.offset _ _ e.number f.offset
    (λ z.
    let m = reached s k bytes few h (e.number ∙ z) in
    rw (capped_id o.value.state m.blocks_fit m.offset_fits) (steps_agree room fuel r e.state m.few (drop (record_length k) bytes) m.fits))))

pub steps_follow_history : StepsFollowHistory
unfolding stepped_text feed_text beginning
steps_follow_history w room bytes a r h = steps_agree room (length bytes + 1) r (follows_start w a) (omega arith) bytes (omega (arith, h))
