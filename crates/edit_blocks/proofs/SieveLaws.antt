-- The places that are left as samples are tried one after the other.
--   sieved_none, sieved_range, sieved_skip, sieved_more   no sample, also of the whole range; one that every value hits; one that a narrowed span hits
--   sieved_empty, sieved_join               no place left; some samples, and then others
--   sieved_least, sieved_most               the ends of what is left after all samples are the least and the most value that pass
--   hit_all, all_hit                        every sample is hit exactly where the residual has the target
use mathlib.Core.Path.{◌≡◌, refl, sym, ap, subst, ◌∙◌}
use mathlib.Core.Bool.{Bool, true, false, ◌&&◌, cond}
use mathlib.Core.List.{List}
use Prim.Native.Nat.{ℕ, ◌+◌, ◌-◌, ◌*◌, ◌^◌, ◌≤◌, ◌<◌}
use native.Mathlib.Decide.{ℕ_discrete}
use native.Mathlib.Omega.{arith}
use borrow.Author.Tests.{ltb-true, ltb-false, lt-ltb, le-ltb, not-true}
use lib.Dec.{ltb}
use lib.Pow.{pow_pos}
use lib.IntN.{ℤ, pos, neg_ℤ, ◌+ℤ◌, ◌-ℤ◌, +ℤ_comm}
use lib.ListN.{get_or}
use lib.Signed.{lt_z, ≤ℤ_refl}
use Rattle.integers.specs.Search.{first_where}
use Rattle.integers.proofs.LinearLaws.{parts_add, parts_neg, parts_ext}
use Rattle.integers.proofs.OrderLaws.{≤ℤ_antisym}
use Rattle.integers.proofs.MachineLaws.{lt_z_false, lt_z_of_le}
use Rattle.integers.proofs.SearchLaws.{first_where_first, first_where-none, first_where_found}
use Rattle.h265.specs.Range.{coeff_min, coeff_max}
use Rattle.h265.specs.Transform.{row_order}
use Rattle.edit_values.specs.declared.interval.Span.{Span}
use Rattle.edit_values.specs.Values.{value_count, value_at, least_where, most_where}
use Rattle.integers.proofs.TestLaws.{neither}
use Rattle.edit_blocks.specs.Edits.{is_wanted, differs, misses_at, has_target}
use Rattle.edit_blocks.specs.Work.{Hit, Sieved, least_of, most_of}

module _ {r : ℕ} {hit : ℤ → ℕ → Type 0} where
  pub sieved_none : {a : ℕ} (s : Span) → s.from ≤ s.to → Sieved r hit a a s.from s.to s
  sieved_none s h =
      record {
        least = omega arith;
        ordered = h;
        most = omega arith;
        hits = λ o f l q b c. absurd (let y : ⊥ = omega arith in y);
        only = λ o f l k. (f, l);
      }

  -- all of the range
  pub sieved_range : (s : Span) → s.from ≡ 0 → s.to ≡ value_count r → Sieved r hit 0 0 0 (value_count r) s
  sieved_range s d e = subst (λ (i : ℕ). Sieved r hit 0 0 i (value_count r) s) d (subst (λ (j : ℕ). Sieved r hit 0 0 s.from j s) e (sieved_none s (omega arith)))

  module _ {a b from to : ℕ} {s : Span} (h : Sieved r hit a b from to s) where
    pub sieved_skip : ((v : ℤ) → hit v b) → Sieved r hit a (b + 1) from to s
    sieved_skip k =
        record {
          least = h.least;
          ordered = h.ordered;
          most = h.most;
          hits = λ o f l q c d. elim (ℕ_discrete q b) [ yes e ↦ subst (hit (value_at r o)) (sym e) (k (value_at r o)) | no e ↦ h.hits o f l q c (omega arith) ];
          only = λ o f l g. h.only o f l (λ q c d. g q c (omega arith));
        }

    -- z is what is left of s after sample b
    pub sieved_more : {z : Span} → a ≤ b → s.from ≤ z.from → z.from ≤ z.to → z.to ≤ s.to
        → ((o : ℕ) → z.from ≤ o → o < z.to → hit (value_at r o) b)
        → ((o : ℕ) → s.from ≤ o → o < s.to → hit (value_at r o) b → (z.from ≤ o) × (o < z.to))
        → Sieved r hit a (b + 1) from to z
    sieved_more {z} ab l m u f g =
        record {
          least = omega (arith, h.least);
          ordered = m;
          most = omega (arith, h.most);
          hits = λ o x y q c d. elim (ℕ_discrete q b) [ yes e ↦ subst (hit (value_at r o)) (sym e) (f o x y) | no e ↦ h.hits o (omega arith) (omega arith) q c (omega arith) ];
          only = λ o x y k. let i = h.only o x y (λ q c d. k q c (omega arith)) in g o i.0 i.1 (k b ab (omega arith));
        }

    pub sieved_empty : {e : ℕ} → s.to ≤ s.from → b ≤ e → Sieved r hit a e from to s
    sieved_empty k l =
        record {
          least = h.least;
          ordered = h.ordered;
          most = h.most;
          hits = λ o x y q c d. absurd (let z : ⊥ = omega arith in z);
          only = λ o x y g. h.only o x y (λ q c d. g q c (omega arith));
        }

    pub sieved_join : {e : ℕ} {z : Span} → b ≤ e → a ≤ b → Sieved r hit b e s.from s.to z → Sieved r hit a e from to z
    sieved_join {e} {z} l m k =
        record {
          least = omega (arith, h.least, k.least);
          ordered = k.ordered;
          most = omega (arith, h.most, k.most);
          hits = λ o x y q c d. by_half o x y q c d (ltb q b) refl;
          only = λ o x y g. let i = h.only o x y (λ q c d. g q c (omega arith)) in k.only o i.0 i.1 (λ q c d. g q (omega arith) d);
        }
      where
        by_half : (o : ℕ) → z.from ≤ o → o < z.to → (q : ℕ) → a ≤ q → q < e → (t : Bool) → ltb q b ≡ t → hit (value_at r o) q
        by_half o x y q c d true w = h.hits o (omega (arith, k.least)) (omega (arith, k.most)) q c (ltb-true q b w)
        by_half o x y q c d false w = k.hits o x y q (ltb-false q b w) d

    pub sieved_to : {e : ℕ} → b ≡ e → Sieved r hit a e from to s
    sieved_to q = subst (λ (i : ℕ). Sieved r hit a i from to s) q h

-- ---- the ends
module _ (r : ℕ) where
  from_least : (o : ℕ) → coeff_min r +ℤ pos o ≡ value_at r o
  unfolding value_at
  from_least o = +ℤ_comm (coeff_min r) (pos o)

  from_most : (o : ℕ) → o < value_count r → coeff_max r -ℤ pos o ≡ value_at r (value_count r - 1 - o)
  unfolding value_at coeff_min coeff_max
  from_most o h =
      parts_ext (coeff_max r -ℤ pos o) (pos (value_count r - 1 - o) +ℤ coeff_min r)
      (omega (
        arith,
        pow_pos r,
        parts_add (pos (2 ^ r)) (neg_ℤ (pos 1)),
        parts_add (coeff_max r) (neg_ℤ (pos o)),
        parts_neg (pos o),
        parts_neg (pos (2 ^ r)),
        parts_add (pos (value_count r - 1 - o)) (coeff_min r),
      ))

-- p passes exactly the values at the places of a span
module _ (r : ℕ) (p : ℤ → Bool) (s : Span) (ordered : s.from ≤ s.to) (inside : s.to ≤ value_count r)
    (yes_in : (o : ℕ) → s.from ≤ o → o < s.to → p (value_at r o) ≡ true)
    (in_yes : (o : ℕ) → o < value_count r → p (value_at r o) ≡ true → (s.from ≤ o) × (o < s.to)) where
  outside : (o : ℕ) → o < value_count r → ((s.from ≤ o) × (o < s.to) → ⊥) → p (value_at r o) ≡ false
  outside o l h = by_test (p (value_at r o)) refl
    where
      by_test : (t : Bool) → p (value_at r o) ≡ t → t ≡ false
      by_test true e = absurd (h (in_yes o l e))
      by_test false e = refl

  pub span_least : least_where r p ≡ least_of r s
  unfolding least_where least_of
  span_least = by_test (ltb s.from s.to) refl
    where
      q : ℕ → Bool
      q o = p (coeff_min r +ℤ pos o)

      by_test : (t : Bool) → ltb s.from s.to ≡ t
          → cond (ltb (first_where (value_count r) q) (value_count r)) (coeff_min r +ℤ pos (first_where (value_count r) q)) (pos 1)
          ≡ cond t (value_at r s.from) (pos 1)
      by_test true e =
          let l : s.from < s.to = ltb-true s.from s.to e in
          let f : first_where (value_count r) q ≡ s.from =
          first_where_found (value_count r) s.from {p = q} (omega arith)
          (record { at = λ o h. ap p (from_least r o) ∙ outside o (omega arith) (λ k. omega (arith, k.0)) })
          (ap p (from_least r s.from) ∙ yes_in s.from (omega arith) l) in
          rw (f, lt-ltb s.from (value_count r) (omega arith)) (from_least r s.from)
      by_test false e =
          let l : s.to ≤ s.from = ltb-false s.from s.to e in
          let f : first_where (value_count r) q ≡ value_count r =
          first_where-none (value_count r) {k = value_count r} {p = q} (omega arith)
          (record { at = λ o h. ap p (from_least r o) ∙ outside o h (λ k. omega (arith, k.0, k.1)) }) in
          rw (f, le-ltb (value_count r) (value_count r) (omega arith))

  pub span_most : most_where r p ≡ most_of r s
  unfolding most_where most_of
  span_most = by_test (ltb s.from s.to) refl
    where
      q : ℕ → Bool
      q o = p (coeff_max r -ℤ pos o)

      at_top : (o : ℕ) → o < value_count r → q o ≡ p (value_at r (value_count r - 1 - o))
      at_top o h = ap p (from_most r o h)

      by_test : (t : Bool) → ltb s.from s.to ≡ t
          → cond (ltb (first_where (value_count r) q) (value_count r)) (coeff_max r -ℤ pos (first_where (value_count r) q)) (pos 0)
          ≡ cond t (value_at r (s.to - 1)) (pos 0)
      by_test true e =
          let l : s.from < s.to = ltb-true s.from s.to e in
          let z : ℕ = value_count r - s.to in
          let back : value_count r - 1 - z ≡ s.to - 1 = omega arith in
          let f : first_where (value_count r) q ≡ z =
          first_where_found (value_count r) z {p = q} (omega arith)
          (record { at = λ o h. at_top o (omega arith) ∙ outside (value_count r - 1 - o) (omega arith) (λ k. omega (arith, k.1)) })
          (at_top z (omega arith) ∙ ap (λ (o : ℕ). p (value_at r o)) back ∙ yes_in (s.to - 1) (omega arith) (omega arith)) in
          rw (f, lt-ltb z (value_count r) (omega arith)) (from_most r z (omega arith) ∙ ap (value_at r) back)
      by_test false e =
          let l : s.to ≤ s.from = ltb-false s.from s.to e in
          let f : first_where (value_count r) q ≡ value_count r =
          first_where-none (value_count r) {k = value_count r} {p = q} (omega arith)
          (record { at = λ o h. at_top o h ∙ outside (value_count r - 1 - o) (omega arith) (λ k. omega (arith, k.0, k.1)) }) in
          rw (f, le-ltb (value_count r) (value_count r) (omega arith))

-- ---- the test of all samples
differs_false : (a b : ℤ) → differs a b ≡ false → a ≡ b
unfolding differs
differs_false a b e = let h = neither (lt_z a b) (lt_z b a) e in ≤ℤ_antisym (lt_z_false {x = b} {y = a} h.1) (lt_z_false {x = a} {y = b} h.0)

differs_refl : (a : ℤ) → differs a a ≡ false
unfolding differs
differs_refl a = rw (lt_z_of_le (≤ℤ_refl a))

module _ (n : ℕ) (e : ℕ → ℕ → ℤ) (target : List ℤ) (wanted : List ℕ) where
  miss_hit : (q : ℕ) → misses_at n e target wanted q ≡ false → Hit n e target wanted q
  unfolding misses_at
  miss_hit q d = record { hits = λ w. differs_false (row_order n e q) (get_or target q (pos 0)) (rw w at d) }

  hit_miss : (q : ℕ) → Hit n e target wanted q → misses_at n e target wanted q ≡ false
  unfolding misses_at
  hit_miss q h = by_test (is_wanted wanted q) refl
    where
      by_test : (t : Bool) → is_wanted wanted q ≡ t → t && differs (row_order n e q) (get_or target q (pos 0)) ≡ false
      by_test true w = rw (h.hits w) (differs_refl (get_or target q (pos 0)))
      by_test false w = refl

  pub hit_all : has_target n e target wanted ≡ true → (q : ℕ) → q < n * n → Hit n e target wanted q
  unfolding has_target
  hit_all h q l =
      let k : ℕ = first_where (n * n) (misses_at n e target wanted) in
      let f = first_where_first (n * n) (misses_at n e target wanted) in
      miss_hit q (f.before.at q (omega (arith, ltb-false k (n * n) (not-true (ltb k (n * n)) h))))

  pub all_hit : ((q : ℕ) → q < n * n → Hit n e target wanted q) → has_target n e target wanted ≡ true
  unfolding has_target
  all_hit h =
      let f : first_where (n * n) (misses_at n e target wanted) ≡ n * n = first_where-none (n * n) {k = n * n} (omega arith) (record { at = λ q l. hit_miss q (h q l) }) in
      rw (f, le-ltb (n * n) (n * n) (omega arith))

-- what is left after all samples has the ends that are sought
module _ (r n : ℕ) (e : ℤ → ℕ → ℕ → ℤ) (target : List ℤ) (wanted : List ℕ) {s : Span}
    (h : Sieved r (λ v. Hit n (e v) target wanted) 0 (n * n) 0 (value_count r) s) where
  abbrev passes : ℤ → Bool
  passes v = has_target n (e v) target wanted

  yes_in : (o : ℕ) → s.from ≤ o → o < s.to → passes (value_at r o) ≡ true
  yes_in o f l = all_hit n (e (value_at r o)) target wanted (λ q k. h.hits o f l q (omega arith) k)

  in_yes : (o : ℕ) → o < value_count r → passes (value_at r o) ≡ true → (s.from ≤ o) × (o < s.to)
  in_yes o l d = h.only o (omega arith) l (λ q f k. hit_all n (e (value_at r o)) target wanted d q k)

  pub sieved_least : least_of r s ≡ least_where r passes
  sieved_least = sym (span_least r passes s h.ordered h.most yes_in in_yes)

  pub sieved_most : most_of r s ≡ most_where r passes
  sieved_most = sym (span_most r passes s h.ordered h.most yes_in in_yes)
