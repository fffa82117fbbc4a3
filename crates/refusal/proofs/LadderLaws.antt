-- Laws of ladders of refusals, whatever they end in. A ladder of `cond`s is `first` of its rungs, by computation.
--   first_accepted   where a ladder accepts, no rung applies, and the value is the ladder's
--   first_passed     where no rung applies, a ladder ends in its value
--   first_refused    where a ladder refuses, every ladder of the same rungs stops with the same number and place
--   first_both       two ladders of the same rungs stop with the same refusal, or both end in their values
use mathlib.Core.Path.{◌≡◌, refl, ap, ◌∙◌}
use mathlib.Core.Bool.{Bool, true, false, cond}
use mathlib.Core.List.{List, [], ◌∷◌}
use native.Mathlib.Omega.{arith}
use Rattle.refusal.specs.declared.Refusal.{Refusal}
use Rattle.refusal.specs.Outcome.{Outcome, accepted, refused}
use Rattle.refusal.proofs.RefusalLaws.{number_least}

pub data Rung : Type 0 where
  rung : Bool → Refusal → Rung

abbrev pub first : {A : Type 0} → (Refusal → A) → A → List Rung → A
first stop done [] = done
first stop done (rung t e ∷ rs) = cond t (stop e) (first stop done rs)

abbrev pub Passed : List Rung → Type 0
Passed [] = Unit {0}
Passed (rung t e ∷ rs) = (t ≡ false) × Passed rs

module _ {A : Type 0} (z p : A) where
  clash : (v : A) (e : Refusal) → accepted v ≡ refused z e → ⊥
  clash v e h = omega (arith, number_least e, ap (λ (o : Outcome A). o.number) h)

  clash_back : (e : Refusal) → refused z e ≡ accepted p → ⊥
  clash_back e h = omega (arith, number_least e, ap (λ (o : Outcome A). o.number) h)

  pub first_accepted : (v : A) (rs : List Rung) → accepted v ≡ first (refused z) (accepted p) rs → Passed rs × (v ≡ p)
  first_accepted v [] h = (tt, ap (λ (o : Outcome A). o.value) h)
  first_accepted v (rung true e ∷ rs) h = absurd (clash v e h)
  first_accepted v (rung false e ∷ rs) h = let r = first_accepted v rs h in ((refl, r.0), r.1)

  pub first_refused : {B : Type 0} (stop : Refusal → B) (done : B) (Q : B → Type 0) (e : Refusal)
      → ((f : Refusal) → refused z e ≡ refused z f → Q (stop f))
      → (rs : List Rung) → refused z e ≡ first (refused z) (accepted p) rs → Q (first stop done rs)
  first_refused stop done Q e k [] h = absurd (clash_back e h)
  first_refused stop done Q e k (rung true f ∷ rs) h = k f h
  first_refused stop done Q e k (rung false f ∷ rs) h = first_refused stop done Q e k rs h

-- where no rung applies, every ladder of the same rungs ends in its value
pub first_passed : {B : Type 0} (stop : Refusal → B) (done : B) (rs : List Rung) → Passed rs → first stop done rs ≡ done
first_passed stop done [] h = refl
first_passed stop done (rung t e ∷ rs) h = ap (λ (u : Bool). cond u (stop e) (first stop done rs)) h.0 ∙ first_passed stop done rs h.1

pub first_both : {A B : Type 0} (R : A → B → Type 0) (stop : Refusal → A) (done : A) (halt : Refusal → B) (end : B) (rs : List Rung)
    → ((e : Refusal) → R (stop e) (halt e)) → (Passed rs → R done end) → R (first stop done rs) (first halt end rs)
first_both R stop done halt end [] k h = h tt
first_both R stop done halt end (rung true e ∷ rs) k h = k e
first_both R stop done halt end (rung false e ∷ rs) k h = first_both R stop done halt end rs k (λ p. h (refl, p))

-- the same refusal with another value
pub with_value : {A B : Type 0} {z : A} (y : B) (e f : Refusal) → refused z e ≡ refused z f → refused y e ≡ refused y f
with_value {A} {B} y e f h = ap (λ (o : Outcome A). let r : Outcome B = record { number = o.number; place = o.place; row = o.row; column = o.column; value = y } in r) h
