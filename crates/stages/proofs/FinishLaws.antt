-- Elements as numbers.
--   read_value         an element of a list, as its number
--   same_read          an element that fits 16 bits is read as its number
use mathlib.Core.Path.{◌≡◌, refl, sym, ap, ◌∙◌}
use mathlib.Core.List.{List, [], ◌∷◌}
use Prim.Native.Nat.{ℕ, zero, suc, ◌<◌}
use lib.IntN.{ℤ, pos}
use lib.ListN.{length, get_or}
use mir.Syntax.{w16}
use mir.Val.{SFits}
use Rattle.std.specs.Prelude.{map}
use Rattle.std.proofs.lemmas.List.{get_or-map}

pub read_value : {A : Type 0} (f : A → ℤ) (xs : List A) (i : ℕ) {x : A} → i < length xs → x ≡ get_or xs i x → f x ≡ get_or (map f xs) i (pos 0)
read_value f xs i {x} h e = ap f e ∙ sym (get_or-map f xs i x (pos 0) h)

pub same_read : {A : Type 0} (read value : A → ℤ) → ((x : A) → SFits w16 (value x) → read x ≡ value x) → (xs : List A) (i : ℕ)
    → SFits w16 (get_or (map value xs) i (pos 0)) → get_or (map read xs) i (pos 0) ≡ get_or (map value xs) i (pos 0)
same_read read value law [] i f = refl
same_read read value law (x ∷ xs) zero f = law x f
same_read read value law (x ∷ xs) (suc i) f = same_read read value law xs i f
