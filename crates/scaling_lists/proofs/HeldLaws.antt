-- The lists that stand in two buffers.
--   paste_before, paste_inside   an element before a list that was put into another, and one of its own
--   put-list, put_keeps          a list that was put among others, and one before it
--   held_more                    the lists with one more behind them
--   grown_got                    the next list, read and put there
use mathlib.Core.Path.{◌≡◌, sym, ap, ap₂, ◌∙◌}
use mathlib.Core.List.{List, [], ◌∷◌, ◌++◌}
use Prim.Native.Nat.{ℕ, ◌+◌, ◌*◌, ◌≤◌, ◌<◌}
use native.Mathlib.Numerals.{add-one}
use native.Mathlib.Omega.{arith}
use lib.ListN.{length, get_or, set, take, drop, get_or-append}
use lib.Seq.{ext_get_or, get_or-take, get_or-append-add, get_or-set_same, get_or-set_other, length-take-le, paste, length_paste_head}
use Rattle.std.specs.Prelude.{Ok}
use Rattle.integers.specs.Lists.{tabulate}
use Rattle.integers.proofs.ListsLaws.{tabulate-length, tabulate-get_or, tabulate_cong, tabulate_suc}
use Rattle.scaling_lists_codes.specs.Syntax.{Reading, FactorList, Defaults, and_then, list_code}
use Rattle.scaling_lists_taken.specs.Held.{list_entries, held_at, held}
use Rattle.scaling_lists.specs.Work.{one_more}

module _ (d : List ℕ) (at : ℕ) (s : List ℕ) (n i : ℕ) (hd : at ≤ length d) (hs : n ≤ length s) where
  head : i < at + n → get_or (paste d at s n) i 0 ≡ get_or (take at d ++ take n s) i 0
  head h = get_or-append (take at d ++ take n s) (drop (at + n) d) 0 i (rw (length_paste_head d at s n hd hs) h)

  pub paste_before : i < at → get_or (paste d at s n) i 0 ≡ get_or d i 0
  paste_before h =
      head (omega arith) ∙ get_or-append (take at d) (take n s) 0 i (rw (length-take-le at d hd) h) ∙ get_or-take at d i 0 h

pub paste_inside : (d : List ℕ) (at : ℕ) (s : List ℕ) (n i : ℕ) → at ≤ length d → n ≤ length s → i < n → get_or (paste d at s n) (at + i) 0 ≡ get_or s i 0
paste_inside d at s n i hd hs h =
    head d at s n (at + i) hd hs (omega arith)
    ∙ ap (λ (k : ℕ). get_or (take at d ++ take n s) (k + i) 0) (sym (length-take-le at d hd))
    ∙ get_or-append-add (take at d) (take n s) i 0
    ∙ get_or-take n s i 0 h

pub put-list : (j : ℕ) (lists es : List ℕ) → length es ≡ 64 → 64 * j + 64 ≤ length lists → list_entries (paste lists (64 * j) es (length es)) j ≡ es
put-list j lists es long room =
    ext_get_or 0 (list_entries (paste lists (64 * j) es (length es)) j) es (tabulate-length 64 _ ∙ sym long)
    (λ i b. let b' : i < 64 = rw tabulate-length at b in
    tabulate-get_or 64 (λ i. get_or (paste lists (64 * j) es (length es)) (64 * j + i) 0) i 0 b'
    ∙ paste_inside lists (64 * j) es (length es) i (omega arith) (omega arith) (omega arith))

pub put_keeps : (j k : ℕ) (lists es : List ℕ) → k < j → 64 * j ≤ length lists → list_entries (paste lists (64 * j) es (length es)) k ≡ list_entries lists k
put_keeps j k lists es h room =
    tabulate_cong 64 (λ i. get_or (paste lists (64 * j) es (length es)) (64 * k + i) 0) (λ i. get_or lists (64 * k + i) 0)
    (λ i b. paste_before lists (64 * j) es (length es) (64 * k + i) room (omega arith) (omega arith))

module _ (j : ℕ) (lists dcs es : List ℕ) (dc : ℕ) (long : length es ≡ 64) (room : 64 * j + 64 ≤ length lists) (dcs-room : j < length dcs) where
  lists' : List ℕ
  lists' = paste lists (64 * j) es (length es)

  kept_at : (k : ℕ) → k < j → held_at lists' (set dcs j dc) k ≡ held_at lists dcs k
  unfolding lists'
  kept_at k h =
      ap₂ (λ (l : List ℕ) (n : ℕ). record { entries = l; dc = n })
      (put_keeps j k lists es h (omega arith))
      (get_or-set_other dcs j k dc 0 (λ e. let z : ⊥ = omega arith in z))

  new_at : held_at lists' (set dcs j dc) j ≡ record { entries = es; dc = dc }
  unfolding lists'
  new_at =
      ap₂ (λ (l : List ℕ) (n : ℕ). record { entries = l; dc = n })
      (put-list j lists es long room)
      (get_or-set_same dcs j dc 0 dcs-room)

  pub held_more : held (j + 1) (paste lists (64 * j) es (length es)) (set dcs j dc) ≡ held j lists dcs ++ (record { entries = es; dc = dc } ∷ [])
  unfolding held lists'
  held_more =
      ap (λ (k : ℕ). tabulate k (held_at lists' (set dcs j dc))) (add-one j)
      ∙ tabulate_suc j (held_at lists' (set dcs j dc))
      ∙ ap₂ (λ (read : List FactorList) (l : FactorList). read ++ (l ∷ [])) (tabulate_cong j (held_at lists' (set dcs j dc)) (held_at lists dcs) kept_at) new_at

  pub grown_got : (lent : Defaults) (bytes : List ℕ) (at behind : ℕ) → Ok (record { entries = es; dc = dc }, behind) ≡ list_code lent bytes (held j lists dcs) at
      → Ok (held (j + 1) (paste lists (64 * j) es (length es)) (set dcs j dc), behind) ≡ one_more lent bytes (held j lists dcs) at
  grown_got lent bytes at behind e =
      ap (λ (read : List FactorList). Ok (read, behind)) held_more
      ∙ ap (λ (r : Reading FactorList). and_then r (λ l behind. Ok (held j lists dcs ++ (l ∷ []), behind))) e
