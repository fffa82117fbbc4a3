-- Change request R-10: neither stream's calls have any bearing on the other's.
--   Changed, call_changes         what a call does to the places of its own stream, of every other, and to the table's length
--   streams_do_not_meet           every stream gets what its own calls give it, made alone from the start
--   other_calls_change_nothing    the same of two lists of calls that differ in other streams' calls alone
--   unknown_stream_changes_nothing   a call with a stream that is not one of the two leaves the table as it is
use mathlib.Core.Path.{◌≡◌, refl, sym, ap, ap₂, ◌∙◌}
use mathlib.Core.Bool.{Bool, true, false, cond}
use mathlib.Core.List.{List, [], ◌∷◌}
use Prim.Native.Nat.{ℕ, ◌+◌, ◌*◌, ◌≤◌, ◌<◌}
use native.Mathlib.Omega.{arith}
use borrow.Author.Tests.{lt-ltb, eqb-true, eqb-false, leb-false}
use lib.Dec.{eqb}
use lib.ListN.{length, set, length-set}
use lib.Seq.{length-paste}
use Rattle.integers.specs.Lists.{tabulate, tabulate_from}
use Rattle.integers.proofs.ListsLaws.{tabulate_cong}
use Rattle.refusal.specs.declared.Refusal.TheVariants.{ListLengthInvalid, OutputTooShort, StreamFull, ListMissing}
use Rattle.refusal.specs.Condition.{list_refused}
use Rattle.refusal.proofs.LadderLaws.{first_both}
use Rattle.refusal.proofs.LadderLaws.Rung.{rung}
use Rattle.list_places.specs.Stream.{Place, Stream, empty_stream, lowest_free, stream_refused, missing, full, number_ladder}
use Rattle.list_places.specs.Stream.Place.{free, held}
use Rattle.list_places.specs.Table.{place_at, stream_of, short, put}
use Rattle.refusal.proofs.ConditionLaws.{list_whole}
use Rattle.list_table.specs.Calls.{store_ladder, stored_table, dropped_table}
use Rattle.list_table.specs.Run.{Call, EmptyTable, StreamCall, reply_to, reply_on, stream_after, history_replies, history_after, table_after, replies_for, table_after_all, calls_of, StreamsDoNotMeet, OtherCallsChangeNothing, UnknownStreamChangesNothing}
use Rattle.list_table.specs.Run.Call.{store, drop, find, scale}
use Rattle.list_places.proofs.PlaceLaws.{put_same, put_other, freed_same, freed_other}
use Rattle.list_places.proofs.TableLaws.{stream_inside, missing_stream, number-inside, stream_of_kept, stream_of-set, table_long}

-- after a call of stream d: its places, those of every other stream, and the length
pub record Changed (table : List ℕ) (d : ℕ) (after : List ℕ) (s : Stream) : Type 0 where
  pub own : stream_of after d ≡ s
  pub others : (e : ℕ) → (e ≡ d → ⊥) → stream_of after e ≡ stream_of table e
  pub long : length after ≡ length table

unchanged : (table : List ℕ) (d : ℕ) → Changed table d table (stream_of table d)
unchanged table d = record { own = refl; others = λ e h. refl; long = refl }

-- one place of stream d is another now
module _ (table after : List ℕ) (d i : ℕ) (v : Place) (h : d < 2) (l : i < 12) where
  place_changed : place_at after (12 * d + i) ≡ v → ((q : ℕ) → (q ≡ 12 * d + i → ⊥) → place_at after q ≡ place_at table q) → length after ≡ length table
      → Changed table d after (set (stream_of table d) i v)
  place_changed same other long =
      record {
        own = stream_of-set table after (12 * d + i) other d i v h l refl same;
        others = λ e n. stream_of_kept table after (12 * d + i) other e (λ j he hj q. n (omega arith));
        long = long;
      }

free_inside : (s : Stream) → full s ≡ false → lowest_free s < 12
unfolding full
free_inside s e = leb-false 12 (lowest_free s) e

module _ (table : List ℕ) (d : ℕ) (room : 1584 ≤ length table) where
  store_changes : (list : List ℕ) (dc : ℕ) → Changed table d (table_after table d (store list dc)) (stream_after d (stream_of table d) (store list dc))
  unfolding table_after stream_after stored_table store_ladder
  store_changes list dc =
      let s : Stream = stream_of table d in
      let i : ℕ = lowest_free s in
      rw (table_long table room)
      (first_both (Changed table d) (λ e. table) (put table (12 * d + i) list dc) (λ e. s) (set s i (held list dc))
      (rung (list_refused (length list)) ListLengthInvalid ∷ rung false OutputTooShort ∷ rung (stream_refused d) ListMissing ∷ rung (full s) StreamFull ∷ [])
      (λ e. unchanged table d)
      (λ p. put_changes list dc (list_whole (length list) p.0) (stream_inside d p.1.1.0) (free_inside s p.1.1.1.0)))
    where
      put_changes : (list : List ℕ) (dc : ℕ) → length list ≡ 64 → d < 2 → lowest_free (stream_of table d) < 12
          → Changed table d (put table (12 * d + lowest_free (stream_of table d)) list dc) (set (stream_of table d) (lowest_free (stream_of table d)) (held list dc))
      put_changes list dc whole h l =
          let p : ℕ = 12 * d + lowest_free (stream_of table d) in
          place_changed table (put table p list dc) d (lowest_free (stream_of table d)) (held list dc) h l
          (put_same table p list dc (omega arith) whole) (put_other table p list dc (omega arith) whole)
          (length-paste table (66 * p) (1 ∷ dc ∷ list) 66 (omega arith) (omega arith))

  drop_changes : (i : ℕ) → Changed table d (table_after table d (drop i)) (stream_after d (stream_of table d) (drop i))
  unfolding table_after stream_after dropped_table number_ladder
  drop_changes i =
      let s : Stream = stream_of table d in
      rw (table_long table room)
      (first_both (Changed table d) (λ e. table) (set table (66 * (12 * d + i)) 0) (λ e. s) (set s i free)
      (rung false OutputTooShort ∷ rung (missing d s i) ListMissing ∷ [])
      (λ e. unchanged table d) (λ p. freed (number-inside table d i p.1.0)))
    where
      freed : (d < 2) × (i < 12) → Changed table d (set table (66 * (12 * d + i)) 0) (set (stream_of table d) i free)
      freed h =
          place_changed table (set table (66 * (12 * d + i)) 0) d i free h.0 h.1
          (freed_same table (12 * d + i) (omega (arith, h))) (freed_other table (12 * d + i) (omega (arith, h))) (length-set table (66 * (12 * d + i)) 0)

  pub call_changes : (c : Call) → Changed table d (table_after table d c) (stream_after d (stream_of table d) c)
  unfolding table_after stream_after
  call_changes (store list dc) = store_changes list dc
  call_changes (drop i) = drop_changes i
  call_changes (find i out) = unchanged table d
  call_changes (scale i k out) = unchanged table d

-- ---- lists of calls
pub record Follows (d : ℕ) (table : List ℕ) (s : Stream) (cs : List StreamCall) : Type 0 where
  pub replies : replies_for d table cs ≡ history_replies d s (calls_of d cs)
  pub places : stream_of (table_after_all table cs) d ≡ history_after d s (calls_of d cs)

module _ (d n : ℕ) (table : List ℕ) (s : Stream) (room : 1584 ≤ length table) (is : stream_of table d ≡ s) (c : Call) where
  same_stream : n ≡ d → stream_of table n ≡ s
  same_stream q = ap (stream_of table) q ∙ is

  own_reply : n ≡ d → reply_on table n c ≡ reply_to false d s c
  own_reply q =
      ap (λ (b : Bool). reply_to b n (stream_of table n) c) (table_long table room) ∙ ap₂ (λ (m : ℕ) (r : Stream). reply_to false m r c) q (same_stream q)

  own_places : n ≡ d → stream_of (table_after table n c) d ≡ stream_after d s c
  own_places q =
      ap (stream_of (table_after table n c)) (sym q) ∙ (call_changes table n room c).own ∙ ap₂ (λ (m : ℕ) (r : Stream). stream_after m r c) q (same_stream q)

  other_places : (n ≡ d → ⊥) → stream_of (table_after table n c) d ≡ s
  other_places h = (call_changes table n room c).others d (λ e. h (sym e)) ∙ is

one_more_lem : (d : ℕ) (c : StreamCall) (cs : List StreamCall) (table : List ℕ) (s : Stream) → 1584 ≤ length table → stream_of table d ≡ s
    → ((r : Stream) → stream_of (table_after table c.stream c.call) d ≡ r → Follows d (table_after table c.stream c.call) r cs)
    → Follows d table s (c ∷ cs)
unfolding replies_for table_after_all calls_of history_replies history_after
one_more_lem d c cs table s room is later = by_stream (eqb c.stream d) refl
  where
    by_stream : (t : Bool) → eqb c.stream d ≡ t → Follows d table s (c ∷ cs)
    by_stream true e =
        let q : c.stream ≡ d = eqb-true c.stream d e in
        let f = later (stream_after d s c.call) (own_places d c.stream table s room is c.call q) in
        record { replies = rw e (ap₂ ◌∷◌ (own_reply d c.stream table s room is c.call q) f.replies); places = rw e f.places }
    by_stream false e =
        let f = later s (other_places d c.stream table s room is c.call (eqb-false c.stream d e)) in
        record { replies = rw e f.replies; places = rw e f.places }

follows : (d : ℕ) (cs : List StreamCall) (table : List ℕ) (s : Stream) → 1584 ≤ length table → stream_of table d ≡ s → Follows d table s cs
unfolding replies_for table_after_all calls_of history_replies history_after
follows d [] table s room is = record { replies = refl; places = is }
follows d (c ∷ cs) table s room is =
    one_more_lem d c cs table s room is
    (λ r e. follows d cs (table_after table c.stream c.call) r (omega (arith, (call_changes table c.stream room c.call).long)) e)

free_place : (table : List ℕ) (p : ℕ) → EmptyTable table → p < 24 → place_at table p ≡ free
unfolding place_at
free_place table p t h = rw (t.free_at p h)

empty_stream_lem : (table : List ℕ) (d : ℕ) → EmptyTable table → stream_of table d ≡ empty_stream
unfolding stream_of empty_stream tabulate tabulate_from
empty_stream_lem table d t = by_test (stream_refused d) refl
  where
    by_test : (b : Bool) → stream_refused d ≡ b → cond b empty_stream (tabulate 12 (λ i. place_at table (12 * d + i))) ≡ empty_stream
    by_test true e = refl
    by_test false e = tabulate_cong 12 (λ i. place_at table (12 * d + i)) (λ i. free) (λ i h. free_place table (12 * d + i) t (omega (arith, stream_inside d e)))

pub streams_do_not_meet : StreamsDoNotMeet
streams_do_not_meet d table cs t =
    let f = follows d cs table empty_stream t.room (empty_stream_lem table d t) in record { replies = f.replies; places = f.places }

pub other_calls_change_nothing : OtherCallsChangeNothing
other_calls_change_nothing d table other cs es t u e =
    (streams_do_not_meet d table cs t).replies ∙ ap (history_replies d empty_stream) e ∙ sym (streams_do_not_meet d other es u).replies

-- ---- a stream that is not one of the two
either_same : {A : Type 0} (t : Bool) (x : A) → cond t x x ≡ x
either_same true x = refl
either_same false x = refl

pub unknown_stream_changes_nothing : UnknownStreamChangesNothing
unfolding table_after stored_table dropped_table store_ladder number_ladder stream_refused
unknown_stream_changes_nothing d table (store list dc) h = rw (lt-ltb 1 d h) (simp either_same)
unknown_stream_changes_nothing d table (drop i) h = rw (missing_stream d (stream_of table d) i h) (either_same (short table) table)
unknown_stream_changes_nothing d table (find i out) h = refl
unknown_stream_changes_nothing d table (scale i k out) h = refl
