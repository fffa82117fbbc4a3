-- Lists that are the same to their size.
--   both                               where two tests hold together, each holds
--   every-at, every-all, every_fails   a test that holds of all numbers below a bound, and one that fails somewhere
--   every-none, every_more, every_cong   the invariant of a loop that tests; tests that agree
--   every_pointwise, every_not_any       two lists compared, and no element that passes a test
--   same_used, used_same               the same: equal as the size uses them
--   same_cong                          whether two lists are the same is told by what their size uses
--   used_few                           no size uses more than 64 entries
--   used_entry, used_idem, used_whole  entries of a list as its size uses it; used twice; a list of 64 entries that are all used
use mathlib.Core.Path.{◌≡◌, refl, sym, ap, ap₂, ◌∙◌, subst}
use mathlib.Core.Bool.{Bool, true, false, cond, not, ◌&&◌, ◌||◌}
use mathlib.Core.List.{List, [], ◌∷◌}
use Prim.Native.Nat.{ℕ, zero, suc, ◌+◌, ◌≤◌, ◌<◌}
use native.Mathlib.Nat.{not-suc-le-zero}
use native.Mathlib.Decide.{ℕ_discrete}
use native.Mathlib.Numerals.{add-one}
use native.Mathlib.Omega.{arith}
use borrow.Author.Tests.{eqb-true, eq-eqb, ne_eqb, ltb-true, lt-ltb}
use lib.Dec.{T, eqb, ltb}
use lib.ListN.{length, get_or}
use lib.Seq.{ext_get_or}
use Rattle.std.specs.List.{list_any}
use Rattle.std.specs.Cmp.Lexicographic.{pointwise}
use Rattle.integers.specs.Lists.{tabulate}
use Rattle.integers.proofs.ListsLaws.{tabulate-length, tabulate-get_or, tabulate_cong}
use Rattle.scaling_lists_codes.specs.Syntax.{FactorList}
use Rattle.scaling_lists_written.specs.Same.{every, has_dc, used_count, entry, same_list, used_list}

-- ---- tests of all numbers below a bound
pub both : (s t : Bool) → s && t ≡ true → (s ≡ true) × (t ≡ true)
both true t e = (refl, e)
both false t e = absurd (subst T (sym e) tt)

pub every-at : (n : ℕ) (p : ℕ → Bool) → every n p ≡ true → (i : ℕ) → i < n → p i ≡ true
unfolding every
every-at zero p e i h = absurd (not-suc-le-zero h)
every-at (suc n) p e i h =
    let b = both (every n p) (p n) e in
    elim (ℕ_discrete i n) [ yes q ↦ ap p q ∙ b.1 | no q ↦ every-at n p b.0 i (omega arith) ]

pub every-all : (n : ℕ) (p : ℕ → Bool) → ((i : ℕ) → i < n → p i ≡ true) → every n p ≡ true
unfolding every
every-all zero p f = refl
every-all (suc n) p f = ap₂ ◌&&◌ (every-all n p (λ i h. f i (omega arith))) (f n (omega arith))

pub every_fails : (n : ℕ) (p : ℕ → Bool) (i : ℕ) → i < n → p i ≡ false → every n p ≡ false
every_fails n p i h e = by_test (every n p) refl
  where
    by_test : (b : Bool) → every n p ≡ b → b ≡ false
    by_test true t = sym (every-at n p t i h) ∙ e
    by_test false t = refl

pub every-none : (p : ℕ → Bool) → every 0 p ≡ true
unfolding every
every-none p = refl

pub every_more : (n : ℕ) (p : ℕ → Bool) → every n p ≡ true → p n ≡ true → every (n + 1) p ≡ true
unfolding every
every_more n p e h = ap (λ (k : ℕ). every k p) (add-one n) ∙ ap₂ ◌&&◌ e h

pub every_cong : (n : ℕ) (p q : ℕ → Bool) → ((i : ℕ) → i < n → p i ≡ q i) → every n p ≡ every n q
unfolding every
every_cong zero p q h = refl
every_cong (suc n) p q h = ap₂ ◌&&◌ (every_cong n p q (λ i l. h i (omega arith))) (h n (omega arith))

-- ---- tests of the elements of lists
and_true : (b : Bool) → b && true ≡ b
and_true true = refl
and_true false = refl

and_assoc : (a b c : Bool) → (a && b) && c ≡ a && (b && c)
and_assoc true b c = refl
and_assoc false b c = refl

not_or : (a b : Bool) → not (a || b) ≡ not a && not b
not_or true b = refl
not_or false b = refl

every_front : (n : ℕ) (p : ℕ → Bool) → every (suc n) p ≡ p 0 && every n (λ i. p (suc i))
unfolding every
every_front zero p = sym (and_true (p 0))
every_front (suc n) p = ap (λ (b : Bool). b && p (suc n)) (every_front n p) ∙ and_assoc (p 0) (every n (λ i. p (suc i))) (p (suc n))

pub every_pointwise : (E : ℕ → ℕ → Bool) (xs ys : List ℕ) → length xs ≡ length ys → pointwise E xs ys ≡ every (length xs) (λ i. E (get_or xs i 0) (get_or ys i 0))
unfolding every
every_pointwise E [] [] h = refl
every_pointwise E [] (y ∷ ys) h = absurd (let b : ⊥ = omega arith in b)
every_pointwise E (x ∷ xs) [] h = absurd (let b : ⊥ = omega arith in b)
every_pointwise E (x ∷ xs) (y ∷ ys) h =
    ap (λ (b : Bool). E x y && b) (every_pointwise E xs ys (omega arith))
    ∙ sym (every_front (length xs) (λ i. E (get_or (x ∷ xs) i 0) (get_or (y ∷ ys) i 0)))

pub every_not_any : (p : ℕ → Bool) (xs : List ℕ) → not (list_any p xs) ≡ every (length xs) (λ i. not (p (get_or xs i 0)))
unfolding every
every_not_any p [] = refl
every_not_any p (x ∷ xs) =
    not_or (p x) (list_any p xs)
    ∙ ap (λ (b : Bool). not (p x) && b) (every_not_any p xs)
    ∙ sym (every_front (length xs) (λ i. not (p (get_or (x ∷ xs) i 0))))

-- ---- lists that are the same
pub used_few : (s : ℕ) → used_count s ≤ 64
unfolding used_count
used_few s = by_test (eqb s 0)
  where
    by_test : (b : Bool) → cond b 16 64 ≤ 64
    by_test true = omega arith
    by_test false = omega arith

pub used_entry : (s : ℕ) (l : FactorList) (i : ℕ) → i < used_count s → entry (used_list s l) i ≡ entry l i
unfolding used_list
used_entry s l i h =
    tabulate-get_or 64 (λ i. cond (ltb i (used_count s)) (entry l i) 0) i 0 (omega (arith, used_few s))
    ∙ ap (λ (b : Bool). cond b (entry l i) 0) (lt-ltb i (used_count s) h)

pub same_used : (s : ℕ) (a b : FactorList) → same_list s a b ≡ true → used_list s a ≡ used_list s b
unfolding same_list used_list
same_used s a b e = ap₂ (λ (es : List ℕ) (d : ℕ). record { entries = es; dc = d }) same_entries (same_dc (has_dc s) h.1)
  where
    h : (every (used_count s) (λ i. eqb (entry a i) (entry b i)) ≡ true) × (cond (has_dc s) (eqb a.dc b.dc) true ≡ true)
    h = both (every (used_count s) (λ i. eqb (entry a i) (entry b i))) (cond (has_dc s) (eqb a.dc b.dc) true) e

    used_eq : (i : ℕ) (t : Bool) → ltb i (used_count s) ≡ t → cond t (entry a i) 0 ≡ cond t (entry b i) 0
    used_eq i true t = eqb-true (entry a i) (entry b i) (every-at (used_count s) (λ i. eqb (entry a i) (entry b i)) h.0 i (ltb-true i (used_count s) t))
    used_eq i false t = refl

    same_entries : tabulate 64 (λ i. cond (ltb i (used_count s)) (entry a i) 0) ≡ tabulate 64 (λ i. cond (ltb i (used_count s)) (entry b i) 0)
    same_entries = tabulate_cong 64 _ _ (λ i l. used_eq i (ltb i (used_count s)) refl)

    same_dc : (t : Bool) → cond t (eqb a.dc b.dc) true ≡ true → cond t a.dc 16 ≡ cond t b.dc 16
    same_dc true g = eqb-true a.dc b.dc g
    same_dc false g = refl

pub used_same : (s : ℕ) (a b : FactorList) → used_list s a ≡ used_list s b → same_list s a b ≡ true
unfolding same_list used_list
used_same s a b e =
    ap₂ ◌&&◌
    (every-all (used_count s) (λ i. eqb (entry a i) (entry b i))
    (λ i h. eq-eqb (entry a i) (entry b i) (sym (used_entry s a i h) ∙ ap (λ (l : FactorList). entry l i) e ∙ used_entry s b i h)))
    (same_dc (has_dc s) (ap (λ (l : FactorList). l.dc) e))
  where
    same_dc : (t : Bool) → cond t a.dc 16 ≡ cond t b.dc 16 → cond t (eqb a.dc b.dc) true ≡ true
    same_dc true g = eq-eqb a.dc b.dc g
    same_dc false g = refl

same_follows : (s : ℕ) (a b c d : FactorList) → used_list s a ≡ used_list s c → used_list s b ≡ used_list s d → same_list s a b ≡ true → same_list s c d ≡ true
same_follows s a b c d f g e = used_same s c d (sym f ∙ same_used s a b e ∙ g)

pub same_cong : (s : ℕ) (a b c d : FactorList) → used_list s a ≡ used_list s c → used_list s b ≡ used_list s d → same_list s a b ≡ same_list s c d
same_cong s a b c d f g = by_tests (same_list s a b) (same_list s c d) refl refl
  where
    by_tests : (t u : Bool) → same_list s a b ≡ t → same_list s c d ≡ u → t ≡ u
    by_tests true u e h = sym (same_follows s a b c d f g e) ∙ h
    by_tests false true e h = sym e ∙ same_follows s c d a b (sym f) (sym g) h
    by_tests false false e h = refl

pub used_idem : (s : ℕ) (l : FactorList) → used_list s (used_list s l) ≡ used_list s l
unfolding same_list used_list
used_idem s l =
    same_used s (used_list s l) l
    (ap₂ ◌&&◌
    (every-all (used_count s) (λ i. eqb (entry (used_list s l) i) (entry l i)) (λ i h. eq-eqb (entry (used_list s l) i) (entry l i) (used_entry s l i h)))
    (own_dc (has_dc s)))
  where
    own_dc : (t : Bool) → cond t (eqb (cond t l.dc 16) l.dc) true ≡ true
    own_dc true = eq-eqb l.dc l.dc refl
    own_dc false = refl

-- all 64 entries are used from 8×8 on
pub used_whole : (s : ℕ) (l : FactorList) → (s ≡ 0 → ⊥) → length l.entries ≡ 64 → (has_dc s ≡ false → l.dc ≡ 16) → used_list s l ≡ l
unfolding used_list used_count
used_whole s l h long d =
    ap₂ (λ (es : List ℕ) (d : ℕ). record { entries = es; dc = d }) whole (own_dc (has_dc s) refl)
  where
    all : used_count s ≡ 64
    all = rw (ne_eqb s 0 h)

    whole : tabulate 64 (λ i. cond (ltb i (used_count s)) (entry l i) 0) ≡ l.entries
    whole =
        ext_get_or 0 (tabulate 64 (λ i. cond (ltb i (used_count s)) (entry l i) 0)) l.entries (tabulate-length 64 _ ∙ sym long)
        (λ i g. used_entry s l i (omega (arith, all, tabulate-length 64 (λ i. cond (ltb i (used_count s)) (entry l i) 0))))

    own_dc : (t : Bool) → has_dc s ≡ t → cond t l.dc 16 ≡ l.dc
    own_dc true e = refl
    own_dc false e = sym (d e)
