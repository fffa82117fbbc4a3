-- Laws of the streams that stand in a table.
--   stream_of-numbered, numbered-past, stream_of-length   the places of a stream
--   free_byte                      a number is free where its place's first byte is 0
--   missing_stream, missing_past, missing_byte   row 18, test by test
--   number-inside, held_place      what a number gives that is not missing
--   stream_of-set, stream_of_kept    a stream after one place has changed: its own, or another's
--   table_short, table_long, table_room   row 7 of a table, and its bytes where it does not apply
--   number_short, -missing, -held  the answer of a call that names a number, rung by rung
use mathlib.Core.Path.{◌≡◌, refl, sym, ap, subst, ◌∙◌}
use mathlib.Core.Bool.{Bool, true, false, ◌||◌, cond}
use mathlib.Core.List.{List}
use Prim.Native.Nat.{ℕ, ◌+◌, ◌*◌, ◌≤◌, ◌<◌}
use native.Mathlib.Decide.{ℕ_discrete}
use native.Mathlib.Omega.{arith}
use borrow.Author.Tests.{lt-ltb, le-ltb, ltb-true, ltb-false}
use lib.Dec.{T, eqb, ltb}
use lib.ListN.{length, get_or, set, length-set, replicate, length-replicate, get_or-eq_default}
use lib.Seq.{get_or-set_same, get_or-set_other, ext_get_or}
use Rattle.integers.specs.Lists.{tabulate}
use Rattle.integers.proofs.ListsLaws.{tabulate_cong, tabulate-length, tabulate-get_or}
use Rattle.refusal.specs.declared.Refusal.TheVariants.{OutputTooShort, ListMissing}
use Rattle.refusal.specs.Outcome.{accepted, refused}
use Rattle.integers.proofs.TestLaws.{neither}
use Rattle.list_places.specs.Stream.{Place, Stream, is_free, numbered, empty_stream, stream_refused, missing, number_ladder, number_answer}
use Rattle.list_places.specs.Stream.Place.{free, held}
use Rattle.list_places.specs.Table.{entries_at, place_at, stream_of, short}

pub stream_inside : (d : ℕ) → stream_refused d ≡ false → d < 2
unfolding stream_refused
stream_inside d e = omega (arith, ltb-false 1 d e)

-- a stream of the two
own_places : (table : List ℕ) (d : ℕ) → d < 2 → stream_of table d ≡ tabulate 12 (λ i. place_at table (12 * d + i))
unfolding stream_of stream_refused
own_places table d h = rw (le-ltb 1 d (omega arith))

pub stream_of-length : (table : List ℕ) (d : ℕ) → length (stream_of table d) ≡ 12
unfolding stream_of empty_stream
stream_of-length table d = by_test (stream_refused d)
  where
    by_test : (t : Bool) → length (cond t (replicate 12 free) (tabulate 12 (λ i. place_at table (12 * d + i)))) ≡ 12
    by_test true = length-replicate 12 free
    by_test false = tabulate-length 12 (λ i. place_at table (12 * d + i))

pub stream_of-numbered : (table : List ℕ) (d i : ℕ) → d < 2 → i < 12 → numbered (stream_of table d) i ≡ place_at table (12 * d + i)
stream_of-numbered table d i h l =
    ap (λ (s : Stream). numbered s i) (own_places table d h) ∙ tabulate-get_or 12 (λ j. place_at table (12 * d + j)) i free l

pub numbered-past : (table : List ℕ) (d i : ℕ) → 12 ≤ i → numbered (stream_of table d) i ≡ free
numbered-past table d i h = get_or-eq_default (stream_of table d) free (rw (stream_of-length table d) h)

place_free : (table : List ℕ) (p : ℕ) → is_free (place_at table p) ≡ eqb (get_or table (66 * p) 0) 0
unfolding place_at
place_free table p = by_test (eqb (get_or table (66 * p) 0) 0)
  where
    by_test : (t : Bool) → is_free (cond t free (held (entries_at table p) (get_or table (66 * p + 1) 0))) ≡ t
    by_test true = refl
    by_test false = refl

pub free_byte : (table : List ℕ) (d i : ℕ) → d < 2 → i < 12 → is_free (numbered (stream_of table d) i) ≡ eqb (get_or table (66 * (12 * d + i)) 0) 0
free_byte table d i h l = ap is_free (stream_of-numbered table d i h l) ∙ place_free table (12 * d + i)

-- ---- row 18
pub missing_stream : (d : ℕ) (s : Stream) (i : ℕ) → 1 < d → missing d s i ≡ true
unfolding missing stream_refused
missing_stream d s i h = rw (lt-ltb 1 d h)

or_true : (t : Bool) → t || true ≡ true
or_true true = refl
or_true false = refl

pub missing_past : (table : List ℕ) (d i : ℕ) → 12 ≤ i → missing d (stream_of table d) i ≡ true
unfolding missing
missing_past table d i h = rw (numbered-past table d i h) (or_true (stream_refused d))

pub missing_byte : (table : List ℕ) (d i : ℕ) → d < 2 → i < 12 → missing d (stream_of table d) i ≡ eqb (get_or table (66 * (12 * d + i)) 0) 0
unfolding missing stream_refused
missing_byte table d i h l = rw (le-ltb 1 d (omega arith)) (free_byte table d i h l)

clash : true ≡ false → ⊥
clash e = subst T e tt

pub number-inside : (table : List ℕ) (d i : ℕ) → missing d (stream_of table d) i ≡ false → (d < 2) × (i < 12)
unfolding missing
number-inside table d i e =
    let n = neither (stream_refused d) (is_free (numbered (stream_of table d) i)) e in
    (stream_inside d n.0, by_test (ltb i 12) refl)
  where
    by_test : (t : Bool) → ltb i 12 ≡ t → i < 12
    by_test true h = ltb-true i 12 h
    by_test false h = absurd (clash (sym (missing_past table d i (ltb-false i 12 h)) ∙ e))

pub held_place : (table : List ℕ) (d i : ℕ) → missing d (stream_of table d) i ≡ false
    → numbered (stream_of table d) i ≡ held (entries_at table (12 * d + i)) (get_or table (66 * (12 * d + i) + 1) 0)
unfolding place_at
held_place table d i e =
    let n = number-inside table d i e in
    stream_of-numbered table d i n.0 n.1 ∙ rw (sym (missing_byte table d i n.0 n.1) ∙ e)

-- ---- one place changed
module _ (before after : List ℕ) (p : ℕ) (others : (q : ℕ) → (q ≡ p → ⊥) → place_at after q ≡ place_at before q) where
  pub stream_of_kept : (d : ℕ) → ((i : ℕ) → d < 2 → i < 12 → 12 * d + i ≡ p → ⊥) → stream_of after d ≡ stream_of before d
  unfolding stream_of
  stream_of_kept d h = by_test (stream_refused d) refl
    where
      by_test : (t : Bool) → stream_refused d ≡ t
          → cond t empty_stream (tabulate 12 (λ i. place_at after (12 * d + i))) ≡ cond t empty_stream (tabulate 12 (λ i. place_at before (12 * d + i)))
      by_test true e = refl
      by_test false e =
          tabulate_cong 12 (λ i. place_at after (12 * d + i)) (λ i. place_at before (12 * d + i)) (λ i l. others (12 * d + i) (h i (stream_inside d e) l))

  pub stream_of-set : (d i : ℕ) (v : Place) → d < 2 → i < 12 → 12 * d + i ≡ p → place_at after p ≡ v → stream_of after d ≡ set (stream_of before d) i v
  stream_of-set d i v h l e a =
      ext_get_or free (stream_of after d) (set (stream_of before d) i v)
      (stream_of-length after d ∙ sym (length-set (stream_of before d) i v ∙ stream_of-length before d))
      (λ j m. by_number j (rw (stream_of-length after d) at m) (ℕ_discrete j i))
    where
      by_number : (j : ℕ) → j < 12 → Dec (j ≡ i) → numbered (stream_of after d) j ≡ numbered (set (stream_of before d) i v) j
      by_number j m (yes q) =
          stream_of-numbered after d j h m ∙ ap (place_at after) (omega (arith, q, e)) ∙ a
          ∙ sym (ap (numbered (set (stream_of before d) i v)) q ∙ get_or-set_same (stream_of before d) i v free (rw (stream_of-length before d) l))
      by_number j m (no q) =
          stream_of-numbered after d j h m ∙ others (12 * d + j) (λ w. q (omega (arith, w, e)))
          ∙ sym (get_or-set_other (stream_of before d) i j v free q ∙ stream_of-numbered before d j h m)

-- ---- rows 7 and 18
pub table_short : (table : List ℕ) → length table < 1584 → short table ≡ true
unfolding short
table_short table h = lt-ltb (length table) 1584 h

pub table_long : (table : List ℕ) → 1584 ≤ length table → short table ≡ false
unfolding short
table_long table h = le-ltb (length table) 1584 h

pub table_room : (table : List ℕ) → short table ≡ false → 1584 ≤ length table
unfolding short
table_room table e = ltb-false (length table) 1584 e

module _ (table : List ℕ) (d i : ℕ) where
  pub number_short : length table < 1584 → refused tt OutputTooShort ≡ number_answer (short table) d (stream_of table d) i
  unfolding number_answer number_ladder
  number_short h = rw (table_short table h)

  module _ (room : 1584 ≤ length table) where
    pub number-missing : missing d (stream_of table d) i ≡ true → refused tt ListMissing ≡ number_answer (short table) d (stream_of table d) i
    unfolding number_answer number_ladder
    number-missing h = rw (table_long table room, h)

    pub number-held : missing d (stream_of table d) i ≡ false → accepted tt ≡ number_answer (short table) d (stream_of table d) i
    unfolding number_answer number_ladder
    number-held h = rw (table_long table room, h)
