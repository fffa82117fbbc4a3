-- The levels that scale to a range of coefficients.
--   beyond_mono, beyond-none     scaling keeps the order: once beyond, always beyond
--   span_least_is, span_most_is  the ends of what was found by halves are the least and the most level that scale to the range
--   between_iff                  the test as an order
use mathlib.Core.Path.{◌≡◌, refl, sym, ap, ◌∙◌}
use mathlib.Core.Logic.{◌↔◌}
use mathlib.Core.Bool.{Bool, true, false, not, ◌&&◌}
use Prim.Native.Nat.{ℕ, ◌≤◌, ◌<◌}
use native.Mathlib.Omega.{arith}
use borrow.Author.Tests.{ltb-true, ltb-false, le-ltb, not-true}
use lib.Dec.{ltb}
use lib.IntN.{ℤ}
use lib.Signed.{lt_z, ◌≤ℤ◌}
use Rattle.integers.proofs.OrderLaws.{≤ℤ_trans}
use Rattle.integers.proofs.MachineLaws.{lt_z_true, lt_z_false, lt_z_of_lt, lt_z_of_le}
use Rattle.integers.proofs.LinearLaws.{lt_in, le_in, lt_out}
use Rattle.least_level.specs.Level.{Scales}
use Rattle.edit_values.specs.declared.interval.Span.{Span}
use Rattle.edit_values.specs.Values.{value_count, value_at}
use Rattle.edit_values.proofs.OrderedLaws.{not_both, places_ordered}
use Rattle.edit_blocks.specs.Work.{least_of, most_of}
use Rattle.edit_blocks.proofs.SieveLaws.{span_least, span_most}
use Rattle.level_edits.specs.Work.{beyond, LevelSpan, scales_between, least_scaling, most_scaling}

module _ {f : ℤ → ℤ} (s : Scales f) (r : ℕ) (end : ℤ) where
  pub beyond_mono : (strict : Bool) (o q : ℕ) → o ≤ q → beyond f r end strict o ≡ true → beyond f r end strict q ≡ true
  unfolding beyond
  beyond_mono true o q h e =
      lt_z_of_lt {x = end} {y = f (value_at r q)}
      (lt_out end (f (value_at r q)) (omega (arith, lt_in (lt_z_true {x = end} {y = f (value_at r o)} e), le_in (s.mono (value_at r o) (value_at r q) (places_ordered r h)))))
  beyond_mono false o q h e =
      ap not (lt_z_of_le {x = f (value_at r q)} {y = end} (≤ℤ_trans (lt_z_false {x = f (value_at r o)} {y = end} (not-true _ e)) (s.mono (value_at r o) (value_at r q) (places_ordered r h))))

  pub beyond-none : (strict : Bool) (o q : ℕ) → o ≤ q → beyond f r end strict q ≡ false → beyond f r end strict o ≡ false
  beyond-none strict o q h e = by_test (beyond f r end strict o) refl
    where
      by_test : (t : Bool) → beyond f r end strict o ≡ t → t ≡ false
      by_test true d = absurd (not_both e (beyond_mono strict o q h d))
      by_test false d = refl

both_true : {s t : Bool} → s ≡ true → t ≡ true → s && t ≡ true
both_true d e = rw (d, e)

both_not : (s t : Bool) → not s && not t ≡ true → (s ≡ false) × (t ≡ false)
both_not false t e = (refl, not-true t e)
both_not true t e = absurd (not_both refl e)

pub between_iff : (f : ℤ → ℤ) (low high v : ℤ) → (scales_between f low high v ≡ true) ↔ ((low ≤ℤ f v) × (f v ≤ℤ high))
unfolding scales_between
between_iff f low high v = (
  λ h. let b = both_not (lt_z (f v) low) (lt_z high (f v)) h in (lt_z_false {x = f v} {y = low} b.0, lt_z_false {x = high} {y = f v} b.1),
  λ h. both_true (ap not (lt_z_of_le h.0)) (ap not (lt_z_of_le h.1)),
)

module _ {f : ℤ → ℤ} {r : ℕ} {low high : ℤ} {s : Span} (h : LevelSpan f r low high s) where
  in_span : (o : ℕ) → s.from ≤ o → o < s.to → scales_between f low high (value_at r o) ≡ true
  unfolding scales_between beyond
  in_span o a b = both_true (h.from.all o a (omega (arith, h.to.most))) (ap not (h.to.none o (omega arith) b))

  span_in : (o : ℕ) → o < value_count r → scales_between f low high (value_at r o) ≡ true → (s.from ≤ o) × (o < s.to)
  unfolding scales_between beyond
  span_in o l e =
      let b = both_not (lt_z (f (value_at r o)) low) (lt_z high (f (value_at r o))) e in
      (by_from (ltb o s.from) refl (ap not b.0), by_to (ltb o s.to) refl b.1)
    where
      by_from : (t : Bool) → ltb o s.from ≡ t → not (lt_z (f (value_at r o)) low) ≡ true → s.from ≤ o
      by_from true d p = absurd (not_both (h.from.none o (omega arith) (ltb-true o s.from d)) p)
      by_from false d p = ltb-false o s.from d

      by_to : (t : Bool) → ltb o s.to ≡ t → lt_z high (f (value_at r o)) ≡ false → o < s.to
      by_to true d p = ltb-true o s.to d
      by_to false d p = absurd (not_both p (h.to.all o (ltb-false o s.to d) l))

  -- an empty span in place of one whose ends are turned round
  abbrev empty : Span
  empty = record { from = s.to; to = s.to; inside = s.inside }

  pub span_least_is : least_of r s ≡ least_scaling f r low high
  unfolding least_of least_scaling
  span_least_is = by_test (ltb s.from s.to) refl
    where
      by_test : (t : Bool) → ltb s.from s.to ≡ t → least_of r s ≡ least_scaling f r low high
      by_test true d =
          sym (span_least r (scales_between f low high) s (omega (arith, ltb-true s.from s.to d)) h.to.most in_span span_in)
      by_test false d =
          let g : s.to ≤ s.from = ltb-false s.from s.to d in
          rw d (sym (span_least r (scales_between f low high) empty (omega arith) h.to.most (λ o a b. absurd (let y : ⊥ = omega arith in y)) (λ o l e. absurd (let i = span_in o l e in let y : ⊥ = omega (arith, i) in y)) ∙ rw (le-ltb s.to s.to (omega arith))))

  pub span_most_is : most_of r s ≡ most_scaling f r low high
  unfolding most_of most_scaling
  span_most_is = by_test (ltb s.from s.to) refl
    where
      by_test : (t : Bool) → ltb s.from s.to ≡ t → most_of r s ≡ most_scaling f r low high
      by_test true d =
          sym (span_most r (scales_between f low high) s (omega (arith, ltb-true s.from s.to d)) h.to.most in_span span_in)
      by_test false d =
          let g : s.to ≤ s.from = ltb-false s.from s.to d in
          rw d (sym (span_most r (scales_between f low high) empty (omega arith) h.to.most (λ o a b. absurd (let y : ⊥ = omega arith in y)) (λ o l e. absurd (let i = span_in o l e in let y : ⊥ = omega (arith, i) in y)) ∙ rw (le-ltb s.to s.to (omega arith))))
