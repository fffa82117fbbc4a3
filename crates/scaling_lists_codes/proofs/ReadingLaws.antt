-- Reading on behind a value, or not.
--   then_stop   where the first reading stops, so does the whole
--   then_read   where it gives a value, the whole is what follows
use mathlib.Core.Path.{◌≡◌, ap}
use Prim.Native.Nat.{ℕ}
use Rattle.std.specs.Prelude.{Ok, Err}
use Rattle.refusal.specs.declared.Refusal.{Refusal}
use Rattle.scaling_lists_codes.specs.Syntax.{Reading, and_then}

module _ {A B : Type 0} {r : Reading A} (f : A → ℕ → Reading B) where
  pub then_stop : {e : Refusal} → Err e ≡ r → Err e ≡ and_then r f
  then_stop h = ap (λ (r : Reading A). and_then r f) h

  pub then_read : {v : A} {behind : ℕ} → Ok (v, behind) ≡ r → f v behind ≡ and_then r f
  then_read h = ap (λ (r : Reading A). and_then r f) h
