-- A walk over the records of an input with the open block in buffers: what is left to write in the state reached is what is left of the whole text. The
-- feed is one, and every other text that goes record by record.
--   Walk                           what a record does, what stands behind the last one, and how many bytes the text of a record may take
--   walk_text w v input             the text of a whole input, from buffers v
--   Going, going_start             the invariant of the loop, with the fuel that is left; it holds before the first record
--   going_room                     there is room for the next record, and for a line behind it
--   effect_at w input s             what the record at the state's offset does
--   Turn, turn_of                  what was made of one record, of which the body is handed over, as much of it as there is
--   turn_room                      the buffer behind it has room for a line
--   Passed, passed                 a record that is accepted, and where the next one stands
--   going_refused, going_more      after a record that is refused, and after one that is not
--   going_done                     after the last record
use mathlib.Core.Path.{◌≡◌, refl, ap, ◌∙◌}
use mathlib.Core.Bool.{Bool, true, false, cond}
use mathlib.Core.List.{List}
use Prim.Native.Nat.{ℕ, zero, suc, ◌+◌, ◌-◌, ◌≤◌, ◌<◌}
use native.Mathlib.Numerals.{add-one}
use native.Mathlib.Omega.{arith}
use borrow.Author.Tests.{eq-eqb}
use lib.Dec.{eqb}
use lib.ListN.{length, take, drop, get_or, length-take, length-drop, drop_of_length-le}
use lib.Seq.{drop-cons, drop-drop}
use Rattle.refusal.specs.Outcome.{Outcome}
use Rattle.text.specs.Text.{Wrote, WroteUpTo}
use Rattle.text.proofs.WroteLaws.{Left, left_start, left_more}
use Rattle.feed_format.specs.Room.{room_from}
use Rattle.feed_format.proofs.RoomLaws.{kind_at, next_at, room_least, room_step}
use Rattle.feed_lines.specs.Lines.{refused_text}
use Rattle.feed_state.specs.declared.State.{State}
use Rattle.feed_format.specs.Format.{kind_of, record_length, is_unknown}
use Rattle.feed_rules.specs.Record.{FeedState, Effect}
use Rattle.feed_state.specs.Buffers.{Lent, Buffered, closed}
use Rattle.feed_state.specs.Taken.{state_of, capped, Ample}
use Rattle.feed_state.proofs.StateLaws.{capped_id}
use Rattle.feed_rules.proofs.EffectLaws.{Moved}
use Rattle.feed_rules.specs.Feed.{and_then, text_by, beginning}

pub record Walk : Type 0 where
  pub effect : FeedState Buffered → ℕ → List ℕ → Outcome (Effect Buffered)
  pub last : FeedState Buffered → List ℕ
  pub asks : ℕ → ℕ
  pub asks_none : (k : ℕ) → is_unknown (kind_of k) ≡ true → asks k ≡ 0
  pub moves : (s : FeedState Buffered) (k : ℕ) (body : List ℕ) → Moved s k body (effect s k body)

abbrev walk_from : Walk → ℕ → FeedState Buffered → List ℕ → List ℕ
walk_from w fuel s bytes = text_by w.effect w.last fuel s bytes

abbrev pub walk_text : Walk → Lent → List ℕ → List ℕ
walk_text w v input = walk_from w (length input + 1) (beginning (closed v)) input

pub record Going (w : Walk) (v : Lent) (input l out : List ℕ) (s : State) (b : Lent) (end : ℕ) : Type 0 where
  pub fuel : ℕ
  pub ample : length input < s.offset + fuel
  pub within : s.offset ≤ length input
  pub room : end + room_from w.asks fuel (drop s.offset input) ≤ length l
  pub counted : s.blocks ≤ s.offset
  pub buffers : Ample b
  pub left : Left l 0 (walk_text w v input) out end (walk_from w fuel (state_of s b) (drop s.offset input))

left_from : {l t m : List ℕ} {end at next : ℕ} {f g : FeedState Buffered} (w : Walk) (input : List ℕ) (fuel : ℕ) → at ≡ next → f ≡ g
    → Left l 0 t m end (walk_from w fuel g (drop next input)) → Left l 0 t m end (walk_from w fuel f (drop at input))
left_from w input fuel e h a = rw (e, h) a

pub going_start : (w : Walk) (v : Lent) (input l : List ℕ) (s : State) → state_of s v ≡ beginning (closed v) → room_from w.asks (length input + 1) input ≤ length l → Ample v → Going w v input l l s v 0
unfolding beginning
going_start w v input l s e h a =
    let z : s.offset ≡ 0 = ap (λ (f : FeedState Buffered). f.offset) e in
    let r : room_from w.asks (length input + 1) (drop s.offset input) ≤ length l = rw z h in
    record {
      fuel = length input + 1;
      ample = omega arith;
      within = omega arith;
      room = omega (arith, r);
      counted = omega (arith, ap (λ (f : FeedState Buffered). f.blocks) e);
      buffers = a;
      left = left_from w input (length input + 1) z e (left_start l 0 (walk_text w v input));
    }

-- ---- one record
abbrev body_at : List ℕ → ℕ → List ℕ
body_at input at = take (record_length (kind_at input at)) (drop (at + 1) input)

abbrev pub effect_at : Walk → List ℕ → FeedState Buffered → Outcome (Effect Buffered)
effect_at w input s = w.effect s (kind_at input s.offset) (body_at input s.offset)

text_step : (w : Walk) (input : List ℕ) (fuel : ℕ) (s : FeedState Buffered) → s.offset < length input
    → walk_from w (suc fuel) s (drop s.offset input)
    ≡ and_then (effect_at w input s) s.offset (walk_from w fuel (effect_at w input s).value.state (drop (next_at input s.offset) input))
unfolding text_by
text_step w input fuel s h = rw (drop-cons input s.offset 0 h, ← add-one s.offset, drop-drop) refl

-- a record of unknown kind has no text
room_now : (w : Walk) (input : List ℕ) (fuel at : ℕ) → at < length input → w.asks (kind_at input at) + 40 ≤ room_from w.asks (suc fuel) (drop at input)
room_now w input fuel at h = rw (room_step w.asks input fuel at h) (by_kind (is_unknown (kind_of (kind_at input at))) refl)
  where
    by_kind : (t : Bool) → is_unknown (kind_of (kind_at input at)) ≡ t → w.asks (kind_at input at) + 40 ≤ cond t 40 (w.asks (kind_at input at) + room_from w.asks fuel (drop (next_at input at) input))
    by_kind true e = omega (arith, w.asks_none (kind_at input at) e)
    by_kind false e = omega (arith, room_least w.asks fuel (drop (next_at input at) input))

-- what a record of a known kind leaves
room_after : (w : Walk) (input : List ℕ) (size at next end end' fuel rest : ℕ) → fuel ≡ suc rest → at < length input → is_unknown (kind_of (kind_at input at)) ≡ false → next ≡ next_at input at
    → end + room_from w.asks fuel (drop at input) ≤ size → end' ≤ end + w.asks (kind_at input at) → end' + room_from w.asks rest (drop next input) ≤ size
room_after w input size at next end end' fuel rest e h k n r b =
    let now : end + room_from w.asks (suc rest) (drop at input) ≤ size = rw e at r in
    let step = rw k at (room_step w.asks input rest at h) in
    rw n (omega (arith, now, step, b))

pub going_room : {w : Walk} {v b : Lent} {input l out : List ℕ} {s : State} {end : ℕ} → Going w v input l out s b end → s.offset < length input → end + w.asks (get_or input s.offset 0) + 40 ≤ length l
going_room {w} {v} {b} {input} {l} {out} {s} {end} g h = by_fuel g.fuel g.ample g.room
  where
    by_fuel : (fuel : ℕ) → length input < s.offset + fuel → end + room_from w.asks fuel (drop s.offset input) ≤ length l → end + w.asks (get_or input s.offset 0) + 40 ≤ length l
    by_fuel zero k r = absurd (omega arith)
    by_fuel (suc fuel) k r = omega (arith, room_now w input fuel s.offset h, r)

-- after the record's own text: the rest, or the line of its refusal
record After (w : Walk) (v : Lent) (input l out : List ℕ) (s : FeedState Buffered) (o : Outcome (Effect Buffered)) (end fuel : ℕ) : Type 0 where
  rest : ℕ
  one : fuel ≡ suc rest
  left : Left l 0 (walk_text w v input) out end (cond (eqb o.number 0) (walk_from w rest o.value.state (drop (next_at input s.offset) input)) (refused_text o.number s.offset))

after : {v : Lent} {input l out out' : List ℕ} {end end' : ℕ} (w : Walk) (s : FeedState Buffered) (fuel : ℕ) → s.offset < length input → length input < s.offset + fuel
    → Left l 0 (walk_text w v input) out end (walk_from w fuel s (drop s.offset input)) → Wrote out end (effect_at w input s).value.text out' end'
    → After w v input l out' s (effect_at w input s) end' fuel
after w s zero h k a t = absurd (omega arith)
after {v} {input} w s (suc fuel) h k a t = record { rest = fuel; one = refl; left = left_more (rw (text_step w input fuel s h) at a) t }

-- what the loop has of a record: what was answered of it, and what was made of it
pub record Turn (w : Walk) (Answered : Outcome (Effect Buffered) → Type 0) (input : List ℕ) (s : State) (b : Lent) (s' : State) (b' : Lent) (out : List ℕ) (end : ℕ) (out' : List ℕ) (end' : ℕ) : Type 0 where
  pub fits : length input ≤ 18446744073709551615
  pub inside : s.offset < length input
  pub answered : Answered (effect_at w input (state_of s b))
  pub state : state_of s' b' ≡ capped (effect_at w input (state_of s b)).value.state
  pub text : WroteUpTo out end (effect_at w input (state_of s b)).value.text out' end' (end + w.asks (kind_at input s.offset))
  pub buffers : Ample b'

pub turn_of : {s' : State} {b' : Lent} {out out' : List ℕ} {end end' : ℕ} (w : Walk) (Answered : Outcome (Effect Buffered) → Type 0) (input : List ℕ) (s : State) (b : Lent) (kind : ℕ) (body : List ℕ)
    → length input ≤ 18446744073709551615 → s.offset < length input → kind ≡ kind_at input s.offset → body ≡ body_at input s.offset
    → let o = w.effect (state_of s b) kind body in
    Answered o → state_of s' b' ≡ capped o.value.state → WroteUpTo out end o.value.text out' end' (end + w.asks kind) → Ample b'
    → Turn w Answered input s b s' b' out end out' end'
turn_of w Answered input s b kind body f h ek eb a m t k =
    record { fits = f; inside = h; answered = rw (ek, eb) at a; state = rw (ek, eb) at m; text = rw (ek, eb) at t; buffers = k }

-- the buffer behind a record has room for a line
pub turn_room : {w : Walk} {Answered : Outcome (Effect Buffered) → Type 0} {v b b' : Lent} {input l out out' : List ℕ} {s s' : State} {end end' : ℕ}
    → Going w v input l out s b end → Turn w Answered input s b s' b' out end out' end' → length out' ≡ length out → end' + 40 ≤ length out'
turn_room g t same = omega (arith, t.text.bound, going_room g t.inside, g.left.long, same)

-- ---- the turns of the loop
module _ {w : Walk} {Answered : Outcome (Effect Buffered) → Type 0} {v b b' : Lent} {input l out out' : List ℕ} {s s' : State} {end end' : ℕ}
    (g : Going w v input l out s b end) (t : Turn w Answered input s b s' b' out end out' end') where
  rest : After w v input l out' (state_of s b) (effect_at w input (state_of s b)) end' g.fuel
  rest = after w (state_of s b) g.fuel t.inside g.ample g.left t.text.wrote

  pub going_refused : eqb (effect_at w input (state_of s b)).number 0 ≡ false
      → Left l 0 (walk_text w v input) out' end' (refused_text (effect_at w input (state_of s b)).number s.offset)
  going_refused e = rw e at rest.left

  -- a record that is accepted lies within the input, and what it does is held as it is
  pub record Passed : Type 0 where
    pub accepted : (effect_at w input (state_of s b)).number ≡ 0
    pub held : state_of s' b' ≡ (effect_at w input (state_of s b)).value.state
    pub next : s'.offset ≡ next_at input s.offset
    pub inside : next_at input s.offset ≤ length input
    pub few : s'.blocks ≤ s.blocks + 1
    pub known : is_unknown (kind_of (kind_at input s.offset)) ≡ false

  pub passed : (effect_at w input (state_of s b)).number ≡ 0 → Passed
  passed a =
      let body = body_at input s.offset in
      let m = w.moves (state_of s b) (kind_at input s.offset) body in
      let whole = m.whole a in
      let there : length body ≤ length input - (s.offset + 1) = rw (length-take, length-drop) (omega arith) in
      let few = m.blocks in
      let far = m.offset a in
      let h : state_of s' b' ≡ (effect_at w input (state_of s b)).value.state = t.state ∙ capped_id _ (omega (arith, g.counted, t.inside, t.fits)) (omega (arith, t.inside, t.fits)) in
      record {
        accepted = a;
        held = h;
        next = ap (λ (f : FeedState Buffered). f.offset) h ∙ far;
        inside = omega (arith, t.inside);
        few = omega (arith, ap (λ (f : FeedState Buffered). f.blocks) h);
        known = m.known a;
      }

  pub going_more : Passed → Going w v input l out' s' b' end'
  going_more p =
      record {
        fuel = rest.rest;
        ample = omega (arith, g.ample, rest.one, p.next);
        within = omega (arith, p.next, p.inside);
        room = room_after w input (length l) s.offset s'.offset end end' g.fuel rest.rest rest.one t.inside p.known p.next g.room t.text.bound;
        counted = omega (arith, g.counted, p.next, p.few);
        buffers = t.buffers;
        left = left_from w input rest.rest p.next p.held (rw (eq-eqb _ 0 p.accepted) at rest.left);
      }

pub going_done : {w : Walk} {v b : Lent} {input l out : List ℕ} {s : State} {end : ℕ} → Going w v input l out s b end → length input ≤ s.offset
    → Left l 0 (walk_text w v input) out end (w.last (state_of s b))
unfolding text_by
going_done {w} {v} {b} {input} {l} {out} {s} {end} g h = by_fuel g.fuel g.ample g.left
  where
    by_fuel : (fuel : ℕ) → length input < s.offset + fuel → Left l 0 (walk_text w v input) out end (walk_from w fuel (state_of s b) (drop s.offset input)) → Left l 0 (walk_text w v input) out end (w.last (state_of s b))
    by_fuel zero k a = absurd (omega (arith, g.within))
    by_fuel (suc fuel) k a = rw (drop_of_length-le input h) at a
