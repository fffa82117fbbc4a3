-- What is lost by two reads in turn, a text that was read, and lists that are compared.
use Rattle.std.proofs.Common.{Option, None, Some, ◌≡◌, ◌≤◌, ◌+◌, ℕ, List, [], ◌∷◌, ◌++◌, Bool, true, false, ◌&&◌, ltb, length, take, get_or, append_assoc, sym, ap, ◌∙◌, refl, subst, rules, arith}
use Rattle.std.proofs.Math.Bool.{and-true}
use Rattle.std.proofs.lemmas.List.{take_all, length-take}
use Rattle.std.specs.Cmp.Lexicographic.{pointwise}
use Rattle.std.specs.Io.KnownBytes.{Consumes}

pub consumes_trans : (a b c : Option (List ℕ)) (xs ys : List ℕ) → Consumes a b xs → Consumes b c ys → Consumes a c (xs ++ ys)
consumes_trans None b c xs ys p q = tt
consumes_trans (Some l) None c xs ys p q = elim p [ ]
consumes_trans (Some l) (Some m) None xs ys p q = elim q [ ]
consumes_trans (Some l) (Some m) (Some n) xs ys p q = p ∙ ap (λ t. xs ++ t) q ∙ sym (append_assoc xs ys n)

pub text_lost : (head rest : List ℕ) (n m : ℕ) → length head ≡ 1 → 1 ≤ n → length rest ≡ get_or head 0 0 → (true ≡ ltb 0 (length (take n head ++ take m rest))) × (length (take n head ++ take m rest) ≤ get_or (take n head ++ take m rest) 0 0 + 1)
text_lost [] rest n m one read size = cc
text_lost (h ∷ []) rest n m one read size =
    let Whole : List ℕ → Type 0 = λ head. (true ≡ ltb 0 (length (head ++ take m rest))) × (length (head ++ take m rest) ≤ get_or (head ++ take m rest) 0 0 + 1) in
    subst Whole (sym (take_all n (h ∷ []) read)) (search rules, omega (arith, length-take m rest))
text_lost (h ∷ i ∷ is) rest n m one read size = let none : ⊥ = omega arith in absurd none

and_regroup : (a b c d : Bool) → d ≡ (b && c) → (a && d) ≡ ((a && b) && c)
and_regroup true b c d same = same
and_regroup false b c d same = refl

pub pointwise_push : {A : Type 0} (E : A → A → Bool) (xs ys : List A) (x y : A) → length xs ≡ length ys → pointwise E (xs ++ x ∷ []) (ys ++ y ∷ []) ≡ (pointwise E xs ys && E x y)
pointwise_push E [] [] x y same = and-true (E x y)
pointwise_push E [] (b ∷ ys) x y same = cc
pointwise_push E (a ∷ xs) [] x y same = cc
pointwise_push E (a ∷ xs) (b ∷ ys) x y same = and_regroup (E a b) _ _ _ (pointwise_push E xs ys x y (omega arith))
