-- Laws of the 66 bytes of a place.
--   paste_inside, paste_outside   the elements of a list that a part was put into
--   place_at_cong                  a place is by its own 66 bytes
--   put_same, put_other           a place after a list was put at it, and every other place
--   freed_same, freed_other       the same after it was freed
--   entries_part                  the entries of a place as a part of the list
--   part_is                       the same where the place starts
--   put_whole                      flag, DC and entries put at a place
use mathlib.Core.Path.{◌≡◌, refl, sym, ap, ap₂, ◌∙◌}
use mathlib.Core.Bool.{Bool, true, false, cond}
use mathlib.Core.List.{List, [], ◌∷◌, ◌++◌}
use mathlib.Core.Logic.{◌⊎◌, inl, inr}
use Prim.Native.Nat.{ℕ, suc, ◌+◌, ◌-◌, ◌*◌, ◌≤◌, ◌<◌}
use native.Mathlib.Nat.{add-zero}
use native.Mathlib.Omega.{arith}
use Rattle.std.proofs.lemmas.List.{append_assoc}
use Rattle.std.proofs.lemmas.Slice.{put_mid-paste}
use borrow.Author.Tests.{ltb-true, ltb-false}
use borrow.Rule.Slice.PartMut.{put_mid}
use lib.Dec.{eqb, ltb}
use lib.ListN.{length, get_or, take, drop, set, length-take, length-drop, get_or-append}
use lib.Seq.{paste, paste-zero, paste-suc, take-paste, drop-paste, drop-drop, get_or-take, get_or-drop, get_or-append-add, get_or-set_same, get_or-set_other, length-take-le, ext_get_or}
use Rattle.integers.specs.Lists.{tabulate}
use Rattle.integers.proofs.ListsLaws.{tabulate_cong, tabulate-length, tabulate-get_or}
use Rattle.list_places.specs.Stream.{Place}
use Rattle.list_places.specs.Stream.Place.{free, held}
use Rattle.list_places.specs.Table.{entries_at, place_at, put}

module _ (xs : List ℕ) (at : ℕ) (vs : List ℕ) (n : ℕ) (room : at + n ≤ length xs) (long : n ≤ length vs) where
  pub paste_inside : (j : ℕ) → j < n → get_or (paste xs at vs n) (at + j) 0 ≡ get_or vs j 0
  paste_inside j h =
      sym (get_or-take (at + n) (paste xs at vs n) (at + j) 0 (omega arith))
      ∙ ap (λ (l : List ℕ). get_or l (at + j) 0) (take-paste xs at vs n (omega arith) long)
      ∙ ap (λ (k : ℕ). get_or (take at xs ++ take n vs) (k + j) 0) (sym (length-take-le at xs (omega arith)))
      ∙ get_or-append-add (take at xs) (take n vs) j 0
      ∙ get_or-take n vs j 0 h

  paste_before : (k : ℕ) → k < at → get_or (paste xs at vs n) k 0 ≡ get_or xs k 0
  paste_before k h =
      sym (get_or-take (at + n) (paste xs at vs n) k 0 (omega arith))
      ∙ ap (λ (l : List ℕ). get_or l k 0) (take-paste xs at vs n (omega arith) long)
      ∙ get_or-append (take at xs) (take n vs) 0 k (rw (length-take-le at xs (omega arith)) h)
      ∙ get_or-take at xs k 0 h

  paste_behind : (k : ℕ) → get_or (paste xs at vs n) (at + n + k) 0 ≡ get_or xs (at + n + k) 0
  paste_behind k =
      sym (get_or-drop (at + n) (paste xs at vs n) k 0)
      ∙ ap (λ (l : List ℕ). get_or l k 0) (drop-paste xs at vs n (omega arith) long)
      ∙ get_or-drop (at + n) xs k 0

  pub paste_outside : (k : ℕ) → (k < at) ⊎ (at + n ≤ k) → get_or (paste xs at vs n) k 0 ≡ get_or xs k 0
  paste_outside k (inl h) = paste_before k h
  paste_outside k (inr h) =
      let e : at + n + (k - (at + n)) ≡ k = omega arith in rw (← e) (paste_behind (k - (at + n)))

pub place_at_cong : (xs ys : List ℕ) (p : ℕ) → ((k : ℕ) → 66 * p ≤ k → k < 66 * p + 66 → get_or xs k 0 ≡ get_or ys k 0) → place_at xs p ≡ place_at ys p
unfolding place_at entries_at
place_at_cong xs ys p h =
    let entries : tabulate 64 (λ j. get_or xs (66 * p + 2 + j) 0) ≡ tabulate 64 (λ j. get_or ys (66 * p + 2 + j) 0) =
    tabulate_cong 64 (λ j. get_or xs (66 * p + 2 + j) 0) (λ j. get_or ys (66 * p + 2 + j) 0) (λ j l. h (66 * p + 2 + j) (omega arith) (omega arith)) in
    ap₂ (λ (flag : ℕ) (q : Place). cond (eqb flag 0) free q) (h (66 * p) (omega arith) (omega arith))
    (ap₂ held entries (h (66 * p + 1) (omega arith) (omega arith)))

-- a list of 64 entries, entry by entry
tabulate_entries : (list : List ℕ) → length list ≡ 64 → tabulate 64 (λ j. get_or list j 0) ≡ list
tabulate_entries list e =
    ext_get_or 0 (tabulate 64 (λ j. get_or list j 0)) list (tabulate-length 64 (λ j. get_or list j 0) ∙ sym e)
    (λ i h. tabulate-get_or 64 (λ j. get_or list j 0) i 0 (rw tabulate-length at h))

module _ (table : List ℕ) (p : ℕ) (list : List ℕ) (dc : ℕ) (room : 66 * p + 66 ≤ length table) (long : length list ≡ 64) where
  inside : (j : ℕ) → j < 66 → get_or (put table p list dc) (66 * p + j) 0 ≡ get_or (1 ∷ dc ∷ list) j 0
  inside j h = paste_inside table (66 * p) (1 ∷ dc ∷ list) 66 room (omega arith) j h

  pub put_same : place_at (put table p list dc) p ≡ held list dc
  unfolding place_at entries_at
  put_same =
      let first : get_or (put table p list dc) (66 * p) 0 ≡ 1 = ap (λ (k : ℕ). get_or (put table p list dc) k 0) (sym (add-zero (66 * p))) ∙ inside 0 (omega arith) in
      let entries : tabulate 64 (λ j. get_or (put table p list dc) (66 * p + 2 + j) 0) ≡ list =
      tabulate_cong 64 (λ j. get_or (put table p list dc) (66 * p + 2 + j) 0) (λ j. get_or list j 0)
      (λ j l. ap (λ (k : ℕ). get_or (put table p list dc) k 0) (omega arith) ∙ inside (suc (suc j)) (omega arith))
      ∙ tabulate_entries list long in
      ap₂ (λ (flag : ℕ) (q : Place). cond (eqb flag 0) free q) first (ap₂ held entries (inside 1 (omega arith)))

  pub put_other : (q : ℕ) → (q ≡ p → ⊥) → place_at (put table p list dc) q ≡ place_at table q
  put_other q h =
      place_at_cong (put table p list dc) table q
      (λ k a b. paste_outside table (66 * p) (1 ∷ dc ∷ list) 66 room (omega arith) k (by_test k a b (ltb q p) refl))
    where
      by_test : (k : ℕ) → 66 * q ≤ k → k < 66 * q + 66 → (t : Bool) → ltb q p ≡ t → (k < 66 * p) ⊎ (66 * p + 66 ≤ k)
      by_test k a b true e = inl (omega (arith, ltb-true q p e))
      by_test k a b false e = inr (omega (arith, ltb-false q p e))

module _ (table : List ℕ) (p : ℕ) (room : 66 * p + 66 ≤ length table) where
  pub freed_same : place_at (set table (66 * p) 0) p ≡ free
  unfolding place_at
  freed_same = rw (get_or-set_same table (66 * p) 0 0 (omega arith))

  pub freed_other : (q : ℕ) → (q ≡ p → ⊥) → place_at (set table (66 * p) 0) q ≡ place_at table q
  freed_other q h =
      place_at_cong (set table (66 * p) 0) table q (λ k a b. get_or-set_other table (66 * p) k 0 0 (λ e. omega (arith, h, e)))

-- a part that was put up to some element, and then as a whole
-- a list and its DC, put at a place: flag and DC first, then the entries
module _ (xs : List ℕ) (at : ℕ) (list : List ℕ) (dc : ℕ) (room : at + 66 ≤ length xs) (long : length list ≡ 64) where
  more : (j : ℕ) (ys : List ℕ) (v k : ℕ) → j < 66 → ys ≡ paste xs at (1 ∷ dc ∷ list) j → v ≡ get_or (1 ∷ dc ∷ list) j 0 → k ≡ at + j
      → set ys k v ≡ paste xs at (1 ∷ dc ∷ list) (suc j)
  more j ys v k h e w q = rw (e, w, q) (paste-suc xs at (1 ∷ dc ∷ list) j 0 (omega arith) (omega arith))

  begun : set (set xs at 1) (at + 1) dc ≡ paste xs at (1 ∷ dc ∷ list) 2
  begun = more 1 (set xs at 1) dc (at + 1) (omega arith) (more 0 xs 1 at (omega arith) (paste-zero xs at (1 ∷ dc ∷ list)) refl (omega arith)) refl refl

  front : take (at + 2) (set (set xs at 1) (at + 1) dc) ≡ take at xs ++ (1 ∷ dc ∷ [])
  front = ap (take (at + 2)) begun ∙ take-paste xs at (1 ∷ dc ∷ list) 2 (omega arith) (omega arith)

  back : drop (at + 2 + 64) (set (set xs at 1) (at + 1) dc) ≡ drop (at + 66) xs
  back =
      sym (drop-drop 64 (at + 2) (set (set xs at 1) (at + 1) dc))
      ∙ ap (λ (ys : List ℕ). drop 64 (drop (at + 2) ys)) begun
      ∙ ap (drop 64) (drop-paste xs at (1 ∷ dc ∷ list) 2 (omega arith) (omega arith))
      ∙ drop-drop 64 (at + 2) xs
      ∙ ap (λ (k : ℕ). drop k xs) (omega arith)

  pub put_whole : {part : List ℕ} → part ≡ list → put_mid (at + 2) (at + 66 - (at + 2)) (set (set xs at 1) (at + 1) dc) part ≡ paste xs at (1 ∷ dc ∷ list) 66
  put_whole {part} e =
      put_mid-paste (at + 2) (at + 66 - (at + 2)) (set (set xs at 1) (at + 1) dc) part list 64 e (omega arith) (sym long)
      ∙ ap₂ (λ (a b : List ℕ). a ++ take 64 list ++ b) front back
      ∙ ap (λ (ys : List ℕ). ys ++ drop (at + 66) xs) (append_assoc (take at xs) (1 ∷ dc ∷ []) (take 64 list))

-- the entries of a place, where they stand
pub part_is : (table : List ℕ) (at : ℕ) → at + 66 ≤ length table → take (at + 66 - (at + 2)) (drop (at + 2) table) ≡ tabulate 64 (λ j. get_or table (at + 2 + j) 0)
part_is table at room =
    let k : at + 66 - (at + 2) ≡ 64 = omega arith in
    rw k (ext_get_or 0 (take 64 (drop (at + 2) table)) _ (long ∙ sym (tabulate-length 64 (λ j. get_or table (at + 2 + j) 0))) (λ i h. each i (rw long at h)))
  where
    long : length (take 64 (drop (at + 2) table)) ≡ 64
    long = simp (length-take, length-drop) (omega arith)

    each : (i : ℕ) → i < 64 → get_or (take 64 (drop (at + 2) table)) i 0 ≡ get_or (tabulate 64 (λ j. get_or table (at + 2 + j) 0)) i 0
    each i h = get_or-take 64 (drop (at + 2) table) i 0 h ∙ get_or-drop (at + 2) table i 0 ∙ sym (tabulate-get_or 64 (λ j. get_or table (at + 2 + j) 0) i 0 h)

pub entries_part : (table : List ℕ) (p at : ℕ) → at ≡ 66 * p → at + 66 ≤ length table → take (at + 66 - (at + 2)) (drop (at + 2) table) ≡ entries_at table p
unfolding entries_at
entries_part table p at e room = rw (← e) (part_is table at room)
