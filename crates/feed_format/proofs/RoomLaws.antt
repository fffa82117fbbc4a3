-- The room of a feed, counted record by record.
--   kind_at, next_at             the kind at an offset, and where the next one stands
--   room_least, room_last, room_step   room for a last line is left; behind the last record; and what one record asks
--   RoomLeft                   what is counted so far and what the rest asks are what the whole asks, as far as 64 bits go
--   room_start, room_more      before the first record, and after one of a known kind
--   room_unknown, room_end     at one of unknown kind, and behind the last
use mathlib.Core.Path.{◌≡◌, refl, sym, ap, ◌∙◌}
use mathlib.Core.Bool.{Bool, true, false, cond}
use mathlib.Core.List.{List, [], ◌∷◌}
use Prim.Native.Nat.{ℕ, zero, suc, ◌+◌, ◌≤◌, ◌<◌, min}
use native.Mathlib.Numerals.{add-one}
use native.Mathlib.Omega.{arith}
use borrow.Author.Tests.{leb-true, leb-false}
use lib.Dec.{leb}
use lib.ListN.{length, drop, get_or, drop_of_length-le}
use lib.Seq.{drop-cons, drop-drop}
use Rattle.feed_format.specs.Format.{kind_of, is_unknown, record_length}
use Rattle.feed_format.specs.Room.{room_from}

abbrev pub kind_at : List ℕ → ℕ → ℕ
kind_at input at = get_or input at 0

abbrev pub next_at : List ℕ → ℕ → ℕ
next_at input at = at + 1 + record_length (kind_at input at)

pub room_least : (asks : ℕ → ℕ) (fuel : ℕ) (bytes : List ℕ) → 40 ≤ room_from asks fuel bytes
unfolding room_from
room_least asks zero bytes = omega arith
room_least asks (suc fuel) [] = omega arith
room_least asks (suc fuel) (k ∷ bytes) = by_kind (is_unknown (kind_of k)) (room_least asks fuel (drop (record_length k) bytes))
  where
    by_kind : (t : Bool) → 40 ≤ room_from asks fuel (drop (record_length k) bytes) → 40 ≤ cond t 40 (asks k + room_from asks fuel (drop (record_length k) bytes))
    by_kind true h = omega arith
    by_kind false h = omega (arith, h)

pub room_last : (asks : ℕ → ℕ) (fuel : ℕ) → room_from asks fuel [] ≡ 40
unfolding room_from
room_last asks zero = refl
room_last asks (suc fuel) = refl

pub room_step : (asks : ℕ → ℕ) (input : List ℕ) (fuel at : ℕ) → at < length input
    → room_from asks (suc fuel) (drop at input) ≡ cond (is_unknown (kind_of (kind_at input at))) 40 (asks (kind_at input at) + room_from asks fuel (drop (next_at input at) input))
unfolding room_from
room_step asks input fuel at h = rw (drop-cons input at 0 h, ← add-one at, drop-drop) refl

pub record RoomLeft (asks : ℕ → ℕ) (input : List ℕ) (room at : ℕ) : Type 0 where
  pub fuel : ℕ
  pub ample : length input < at + fuel
  pub inside : at ≤ length input
  pub is : min (room_from asks (length input + 1) input) 18446744073709551615 ≡ min (room + room_from asks fuel (drop at input)) 18446744073709551615

pub room_start : (asks : ℕ → ℕ) (input : List ℕ) → RoomLeft asks input 0 0
room_start asks input = record { fuel = length input + 1; ample = omega arith; inside = omega arith; is = omega arith }

drop_min : (input : List ℕ) (n : ℕ) → drop (min n (length input)) input ≡ drop n input
drop_min input n = by_test (leb n (length input)) refl
  where
    by_test : (t : Bool) → leb n (length input) ≡ t → drop (min n (length input)) input ≡ drop n input
    by_test true e = let w : min n (length input) ≡ n = omega (arith, leb-true n (length input) e) in rw w refl
    by_test false e =
        let h = leb-false n (length input) e in
        let past : length input ≤ n = omega (arith, h) in
        let end : length input ≤ min n (length input) = omega (arith, h) in
        drop_of_length-le input end ∙ sym (drop_of_length-le input past)

module _ {asks : ℕ → ℕ} {input : List ℕ} {room at : ℕ} (r : RoomLeft asks input room at) where
  -- one more record takes some of the fuel
  record Fuelled : Type 0 where
    rest : ℕ
    one : r.fuel ≡ suc rest

  fuelled : at < length input → Fuelled
  fuelled h = by_fuel r.fuel refl
    where
      by_fuel : (k : ℕ) → r.fuel ≡ k → Fuelled
      by_fuel zero e = absurd (omega (arith, r.ample, e, h))
      by_fuel (suc k) e = record { rest = k; one = e }

  pub room_more : (next : ℕ) → at < length input → is_unknown (kind_of (get_or input at 0)) ≡ false → next ≡ min (at + 1 + record_length (get_or input at 0)) (length input)
      → (more : ℕ) → more ≡ min (room + asks (get_or input at 0)) 18446744073709551615 → RoomLeft asks input more next
  room_more next h k n more m =
      let q = fuelled h in
      let step = rw k at (room_step asks input q.rest at h) in
      let same : drop next input ≡ drop (next_at input at) input = ap (λ (i : ℕ). drop i input) n ∙ drop_min input (next_at input at) in
      let was : min (room_from asks (length input + 1) input) 18446744073709551615 ≡ min (room + room_from asks (suc q.rest) (drop at input)) 18446744073709551615 = rw q.one at r.is in
      record {
        fuel = q.rest;
        ample = omega (arith, r.ample, q.one, n, h);
        inside = omega (arith, n);
        is = was ∙ rw (step, same) (omega (arith, m));
      }

  pub room_unknown : at < length input → is_unknown (kind_of (get_or input at 0)) ≡ true → min (room_from asks (length input + 1) input) 18446744073709551615 ≡ min (room + 40) 18446744073709551615
  room_unknown h k =
      let q = fuelled h in
      let step = rw k at (room_step asks input q.rest at h) in
      let was : min (room_from asks (length input + 1) input) 18446744073709551615 ≡ min (room + room_from asks (suc q.rest) (drop at input)) 18446744073709551615 = rw q.one at r.is in
      rw step at was

  pub room_end : length input ≤ at → min (room_from asks (length input + 1) input) 18446744073709551615 ≡ min (room + 40) 18446744073709551615
  room_end h = rw (drop_of_length-le input h, room_last asks r.fuel) at r.is
