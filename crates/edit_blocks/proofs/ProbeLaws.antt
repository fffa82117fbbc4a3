-- Probes read from tables.
--   rest_within      a sum without one of its products
--   probe_bounded    a probe of tables in bounds is in bounds
--   probe_hit, hit_probe   its sample is at the target exactly where the wanted sample is hit
--   narrowed_sieved  so that a narrowed span is what is left
--   unwanted_hit     a sample that is not wanted is hit by every value
use mathlib.Core.Path.{◌≡◌, sym, ap, subst, ◌∙◌}
use mathlib.Core.Bool.{true, false, not}
use mathlib.Core.List.{List}
use Prim.Native.Nat.{ℕ, ◌+◌, ◌*◌, ◌<◌, ◌≤◌, ◌%◌, ◌^◌}
use native.Mathlib.Nat.{mod-eq_of_lt}
use native.Mathlib.Omega.{arith}
use borrow.Author.Tests.{ne_eqb}
use lib.IntN.{ℤ, pos, neg_ℤ, ◌+ℤ◌, ◌-ℤ◌, ◌*ℤ◌, +ℤ_idl}
use lib.ListN.{get_or}
use lib.Pow.{pow_mono}
use Rattle.integers.specs.Within.{Within}
use Rattle.integers.proofs.BoundLaws.{within_le, within_add, within_mul, within_neg, within_eq}
use Rattle.h265.specs.Transform.{block_at, row_order}
use Rattle.h265.proofs.TransformLaws.{row_order-at}
use Rattle.edit_values.specs.declared.Probe.{Probe}
use Rattle.edit_values.specs.declared.interval.Span.{Span}
use Rattle.edit_values.specs.Values.{value_count, value_at}
use Rattle.edit_values.specs.Sample.{sample_by, Bounded, Narrowed}
use Rattle.edit_values.proofs.OrderedLaws.{not_both}
use Rattle.edit_blocks.specs.Edits.{is_wanted}
use Rattle.edit_blocks.specs.Needs.{Tables, TablesNeeds}
use Rattle.edit_blocks.specs.Work.{probe_at, sampled_by, hit_by, Sieved}
use Rattle.edit_blocks.proofs.SieveLaws.{sieved_none, sieved_more}

rest_within : {a u x : ℤ} → Within 12079595520 a → Within 90 u → Within 4194304 x → Within 17179869184 (a +ℤ (pos 0 -ℤ u) *ℤ x)
rest_within {a} {u} {x} f g h = within_le (omega arith) (within_add f (within_mul (within_eq (+ℤ_idl (neg_ℤ u)) (within_neg g)) h))

module _ {a : Tables} {n r s w : ℕ} (h : TablesNeeds a n r s w) {k c m j : ℕ} (hk : k < n) (hc : c < n) (hm : m < n) (hj : j < n) where
  pub probe_bounded : {p : Probe} → p ≡ probe_at a n r s k c m j → Within 2147483648 p.target → Bounded p
  unfolding probe_at
  probe_bounded {p} e t =
      subst Bounded (sym e)
      (record {
        range = h.range;
        shift = h.shift;
        entry-one = h.entries k m hk hm;
        entry_two = h.entries c j hc hj;
        rest_one = rest_within (h.sums m c hm hc) (h.entries k m hk hm) (h.values k c hk hc);
        rest_two = rest_within (h.sums_two m j hm hj) (h.entries c j hc hj) (h.inside m c hm hc);
        target = subst (λ (q : Probe). Within 2147483648 q.target) e t;
      })

module _ (a : Tables) (n r s k c m j : ℕ) (wanted : List ℕ) (hj : j < n) {p : Probe} (e : p ≡ probe_at a n r s k c m j) where
  sampled : (v : ℤ) → row_order n (sampled_by a n r s k c v) (m * n + j) ≡ sample_by p v
  unfolding sampled_by
  sampled v = row_order-at n (λ i l. sample_by (probe_at a n r s k c i l) v) m j hj ∙ ap (λ (q : Probe). sample_by q v) (sym e)

  target_is : p.target ≡ block_at n a.target m j
  unfolding probe_at
  target_is = ap (λ (q : Probe). q.target) e

  pub probe_hit : (v : ℤ) → sample_by p v ≡ p.target → hit_by a wanted n r s k c v (m * n + j)
  unfolding block_at
  probe_hit v h = record { hits = λ w. sampled v ∙ h ∙ target_is }

  pub hit_probe : is_wanted wanted (m * n + j) ≡ true → (v : ℤ) → hit_by a wanted n r s k c v (m * n + j) → sample_by p v ≡ p.target
  unfolding block_at
  hit_probe w v h = sym (sampled v) ∙ h.hits w ∙ sym target_is

  pub narrowed_sieved : (y : Span) {z : Span} → is_wanted wanted (m * n + j) ≡ true → y.from ≤ y.to → Narrowed p y.from y.to z
      → Sieved r (hit_by a wanted n r s k c) (m * n + j) (m * n + j + 1) y.from y.to z
  narrowed_sieved y w l h =
      sieved_more (sieved_none y l) (omega arith) h.least h.ordered h.most
      (λ o f t. probe_hit (value_at r o) (ap (λ (q : ℕ). sample_by p (value_at q o)) (sym range_is) ∙ h.gives o f t))
      (λ o f t g. h.only o f t (ap (λ (q : ℕ). sample_by p (value_at q o)) range_is ∙ hit_probe w (value_at r o) g))
    where
      range_is : p.range ≡ r
      range_is = unfold probe_at in ap (λ (q : Probe). q.range) e

pub count_bound : (r : ℕ) → r ≤ 22 → value_count r ≤ 8388608
count_bound r h = omega (arith, pow_mono {i = r} {j = 22} h)

pub count_wraps : (r : ℕ) → r ≤ 22 → 2 * 2 ^ r % 4294967296 ≡ value_count r
count_wraps r h = mod-eq_of_lt (omega (arith, count_bound r h))

pub unwanted_hit : (a : Tables) (n r s k c q : ℕ) (wanted : List ℕ) → get_or wanted q 0 ≡ 0 → (v : ℤ) → hit_by a wanted n r s k c v q
unwanted_hit a n r s k c q wanted e v = record { hits = λ w. absurd (not_both not_wanted w) }
  where
    not_wanted : is_wanted wanted q ≡ false
    not_wanted = unfold is_wanted in rw e

pub wanted_is : (wanted : List ℕ) (q : ℕ) → (get_or wanted q 0 ≡ 0 → ⊥) → is_wanted wanted q ≡ true
unfolding is_wanted
wanted_is wanted q h = ap not (ne_eqb (get_or wanted q 0) 0 h)
