-- The contracts of the calls on a table, rung by rung.
--   store_length, _short, _stream, _full, _done   a store
--   Held, number_held             a number that the checks let pass
--   drop_refused, drop_done       a drop
--   find_narrow, _refused, _done  a look at a number
use Rattle.std.specs.Prelude.{Ok, Err, Some}
use mathlib.Core.Path.{◌≡◌, refl, sym, ap, ◌∙◌}
use mathlib.Core.Bool.{Bool, true, false, ◌||◌}
use mathlib.Core.List.{List, [], ◌∷◌}
use Prim.Native.Nat.{ℕ, ◌+◌, ◌*◌, ◌<◌}
use lib.Dec.{ltb}
use lib.ListN.{length, get_or, set}
use lib.Seq.{paste}
use Rattle.integers.specs.Lists.{overwrite}
use Rattle.integers.proofs.ListsLaws.{tabulate-get_or, overwrite_cong}
use Rattle.refusal.specs.declared.Refusal.{Refusal}
use Rattle.refusal.specs.declared.Refusal.TheVariants.{ListLengthInvalid, OutputTooShort, StreamFull, ListMissing}
use Rattle.refusal.specs.Condition.{list_refused}
use Rattle.refusal.specs.Outcome.{accepted, refused}
use Rattle.refusal.proofs.LadderLaws.{Rung, first_accepted, first_refused, with_value}
use Rattle.refusal.proofs.LadderLaws.Rung.{rung}
use Rattle.list_places.specs.Stream.{Place, numbered, stream_refused, missing, full, LowestFree, number_ladder, number_answer}
use Rattle.list_places.specs.Stream.Place.{held}
use Rattle.list_places.specs.Table.{entries_at, stream_of, short}
use Rattle.list_table.specs.Calls.{not_found, found_at, store_ladder, store_answer, find_answer, stored_table, dropped_table}
use Rattle.list_table.specs.Answers.{Stores, Drops, Finds}
use Rattle.list_places.proofs.TableLaws.{number-inside, held_place}

or_false : (t : Bool) → t || false ≡ t
or_false true = refl
or_false false = refl

-- ---- a store
module _ (table : List ℕ) (d : ℕ) (list : List ℕ) (dc : ℕ) where
  pub store_length : {e : Refusal} → list_refused (length list) ≡ true → e ≡ ListLengthInvalid → Stores (Err e) table table d list dc
  unfolding store_answer stored_table store_ladder
  store_length l r = record { answered = rw (l, r); table_is = rw l }

  module _ (whole : list_refused (length list) ≡ false) where
    pub store_short : {e : Refusal} → short table ≡ true → e ≡ OutputTooShort → Stores (Err e) table table d list dc
    unfolding store_answer stored_table store_ladder
    store_short h r = record { answered = rw (whole, h, r); table_is = rw (whole, h) }

    module _ (room : short table ≡ false) where
      pub store_stream : {e : Refusal} → ltb 1 d ≡ true → e ≡ ListMissing → Stores (Err e) table table d list dc
      unfolding store_answer stored_table store_ladder stream_refused
      store_stream h r = record { answered = rw (whole, room, h, r); table_is = rw (whole, room, h) }

      module _ (known : ltb 1 d ≡ false) where
        pub store_full : full (stream_of table d) ≡ true → Stores (Err StreamFull) table table d list dc
        unfolding store_answer stored_table store_ladder stream_refused
        store_full f = record { answered = rw (whole, room, known, f); table_is = rw (whole, room, known, f) }

        pub store_done : (i at : ℕ) (after : List ℕ) → LowestFree (stream_of table d) (Some i) → at ≡ 66 * (12 * d + i)
            → after ≡ paste table at (1 ∷ dc ∷ list) 66 → Stores (Ok i) after table d list dc
        unfolding store_answer stored_table store_ladder stream_refused
        store_done i at after l a p =
            record {
              answered = rw (whole, room, known, l.0, l.2);
              table_is = rw (whole, room, known, l.0, p, a, l.2);
            }

-- ---- a number that the checks let pass
module _ (table : List ℕ) (d i : ℕ) where
  pub record Held : Type 0 where
    pub room : short table ≡ false
    pub present : missing d (stream_of table d) i ≡ false

  abbrev number_rungs : List Rung
  number_rungs = rung (short table) OutputTooShort ∷ rung (missing d (stream_of table d) i) ListMissing ∷ []

  pub number_held : {v : Unit {0}} → accepted v ≡ number_answer (short table) d (stream_of table d) i → Held
  unfolding number_ladder number_answer
  number_held {v} h = let p = (first_accepted tt tt v number_rungs h).0 in record { room = p.0; present = p.1.0 }

  pub held_inside : Held → (d < 2) × (i < 12)
  held_inside h = number-inside table d i h.present

-- ---- a drop
module _ (table : List ℕ) (d i : ℕ) where
  pub drop_refused : (e : Refusal) → refused tt e ≡ number_answer (short table) d (stream_of table d) i → Drops (Err e) table table d i
  unfolding dropped_table number_ladder number_answer
  drop_refused e h =
      record {
        answered = h;
        table_is = first_refused tt tt (λ f. table) (set table (66 * (12 * d + i)) 0) (λ t. table ≡ t) e (λ f k. refl) (number_rungs table d i) h;
      }

  pub drop_done : (at : ℕ) → Held table d i → at ≡ 66 * (12 * d + i) → Drops (Ok tt) (set table at 0) table d i
  unfolding dropped_table number_ladder number_answer
  drop_done at h a = record { answered = rw (h.room, h.present); table_is = rw (h.room, h.present, a) }

-- ---- a look at a number
module _ (table : List ℕ) (d i : ℕ) (out : List ℕ) where
  pub find_narrow : ltb (length out) 64 ≡ true → Finds (Err OutputTooShort) out (find_answer (short table) d (stream_of table d) i out)
  unfolding find_answer number_ladder
  find_narrow h = by_test (short table)
    where
      by_test : (t : Bool) → Finds (Err OutputTooShort) out (number_ladder (not_found out) (found_at (numbered (stream_of table d) i) out) (t || ltb (length out) 64) d (stream_of table d) i)
      by_test true = record { answered = refl; list_is = refl }
      by_test false = rw h (record { answered = refl; list_is = refl })

  module _ (wide : ltb (length out) 64 ≡ false) where
    without : short table || ltb (length out) 64 ≡ short table
    without = ap (λ (t : Bool). short table || t) wide ∙ or_false (short table)

    pub find_refused : (e : Refusal) → refused tt e ≡ number_answer (short table) d (stream_of table d) i → Finds (Err e) out (find_answer (short table) d (stream_of table d) i out)
    unfolding find_answer number_ladder number_answer
    find_refused e h =
        rw without
        (first_refused tt tt (not_found out) (found_at (numbered (stream_of table d) i) out) (λ w. Finds (Err e) out w) e
        (λ f k. record { answered = with_value 0 e f k; list_is = refl }) (number_rungs table d i) h)

    found_is : Held table d i → find_answer (short table) d (stream_of table d) i out ≡ found_at (held (entries_at table (12 * d + i)) (get_or table (66 * (12 * d + i) + 1) 0)) out
    unfolding find_answer number_ladder
    found_is h = rw (h.room, wide, h.present) (ap (λ (p : Place). found_at p out) (held_place table d i h.present))

    pub find_done : (at : ℕ) (after : List ℕ) → Held table d i → at ≡ 66 * (12 * d + i)
        → after ≡ overwrite 64 (λ j. get_or table (at + 2 + j) 0) out → Finds (Ok (get_or table (at + 1) 0)) after (find_answer (short table) d (stream_of table d) i out)
    unfolding entries_at
    find_done at after h a p =
        rw (found_is h, p, a)
        (record {
          answered = refl;
          list_is = overwrite_cong 64 _ _ out (λ j l. sym (tabulate-get_or 64 (λ k. get_or table (66 * (12 * d + i) + 2 + k) 0) j 0 l));
        })
