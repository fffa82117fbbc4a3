-- Laws of writing at a place, for lists of any kind, and the invariant of a loop that writes.
--   wrote_none, -one, -more, -length   nothing; one element; two texts, one after the other; the buffer's length
--   counts                             elements at the start of a list
--   Left l i t m j u                   to write u into m at j is to write t into l at i: u is what is left of t
--   left_start, -more, -done, -last    the invariant at its start, after some of what is left, with nothing left, with all of it
--   bytes_more, bytes_done             the turns of a loop that copies
use mathlib.Core.Path.{◌≡◌, refl, sym, ap, ◌∙◌}
use mathlib.Core.List.{List, [], ◌∷◌, ◌++◌, append-nil}
use Prim.Native.Nat.{ℕ, suc, ◌+◌, ◌≤◌, ◌<◌}
use native.Mathlib.Nat.{add-zero, add-suc, suc-add}
use native.Mathlib.Numerals.{add-one}
use native.Mathlib.Omega.{arith}
use lib.ListN.{length, drop, set, get_or, length-append, drop_of_length-le}
use lib.Seq.{sets, length-sets, length-take-le, drop-cons}
use Rattle.text.specs.Text.{Wrote, Counts}

pub record Left {A : Type 0} (l : List A) (i : ℕ) (t m : List A) (j : ℕ) (u : List A) : Type 0 where
  pub same : sets l i t ≡ sets m j u
  pub ends : i + length t ≡ j + length u
  pub long : length m ≡ length l

module _ {A : Type 0} where
  sets_append : (l : List A) (i : ℕ) (t u : List A) → sets l i (t ++ u) ≡ sets (sets l i t) (i + length t) u
  sets_append l i [] u = rw add-zero refl
  sets_append l i (a ∷ t) u = sets_append (set l i a) (suc i) t u ∙ rw (suc-add, add-suc) refl

  pub wrote_none : (l : List A) (i : ℕ) → Wrote l i [] l i
  wrote_none l i = record { is = refl; end = omega arith }

  pub wrote_one : (l : List A) (i : ℕ) (a : A) → Wrote l i (a ∷ []) (set l i a) (i + 1)
  wrote_one l i a = record { is = refl; end = refl }

  pub wrote_more : {l m n t u : List A} {i j k : ℕ} → Wrote l i t m j → Wrote m j u n k → Wrote l i (t ++ u) n k
  wrote_more {l} {t = t} {u} {i} a b =
      record {
        is = b.is ∙ rw (a.is, a.end) (sym (sets_append l i t u));
        end = omega (arith, a.end, b.end, length-append t u);
      }

  pub wrote-length : {l m t : List A} {i j : ℕ} → Wrote l i t m j → length m ≡ length l
  wrote-length {l} {t = t} {i} w = ap length w.is ∙ length-sets l i t

  pub counts : (n : ℕ) (xs : List A) → n ≤ length xs → Counts n xs
  counts n xs h = (h, sym (length-take-le n xs h))

  pub left_start : (l : List A) (i : ℕ) (t : List A) → Left l i t l i t
  left_start l i t = record { same = refl; ends = refl; long = refl }

  pub left_more : {l t m u v n : List A} {i j k : ℕ} → Left l i t m j (u ++ v) → Wrote m j u n k → Left l i t n k v
  left_more {m = m} {u} {v} {j = j} a w =
      record {
        same = a.same ∙ sets_append m j u v ∙ rw (w.is, w.end) refl;
        ends = omega (arith, a.ends, w.end, length-append u v);
        long = wrote-length w ∙ a.long;
      }

  pub left_done : {l t m : List A} {i j : ℕ} → Left l i t m j [] → Wrote l i t m j
  left_done a = record { is = sym a.same; end = omega (arith, a.ends) }

  pub left_last : {l t m u n : List A} {i j k : ℕ} → Left l i t m j u → Wrote m j u n k → Wrote l i t n k
  left_last {u = u} a w = left_done (left_more (rw (← append-nil u) at a) w)

pub bytes_more : {l t m : List ℕ} {i j : ℕ} (bytes : List ℕ) (k : ℕ) → k < length bytes
    → Left l i t m j (drop k bytes) → Left l i t (set m j (get_or bytes k 0)) (j + 1) (drop (k + 1) bytes)
bytes_more {m = m} {j = j} bytes k h g = rw (add-one k) (left_more (rw (drop-cons bytes k 0 h) at g) (wrote_one m j (get_or bytes k 0)))

pub bytes_done : {l t m : List ℕ} {i j : ℕ} (bytes : List ℕ) (k : ℕ) → length bytes ≤ k → Left l i t m j (drop k bytes) → Wrote l i t m j
bytes_done bytes k h g = left_done (rw (drop_of_length-le bytes h) at g)
