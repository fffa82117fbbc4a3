-- Dot products over the odd values, a pair at a time.
--   PairsTo h t st xs k z  the invariant: the first k pairs stand in z, which has zeros behind them
--   pair_room, paired      a value that is there has its place, and a pair as the call of `products` tells it
--   pairs_none, pairs_next, pairs_all   before the first pair, one pair more, and where x has no more values
--   Dotted t st xs k s   the invariant: s is what the first k pairs add up to
--   dotted_none, dotted_next   before the first pair, and one pair more
--   sum_fits             no sum wraps
use mathlib.Core.Path.{◌≡◌, sym, ap, ap₂, ◌∙◌, subst}
use mathlib.Core.List.{List}
use Prim.Native.Nat.{ℕ, suc, ◌+◌, ◌*◌, ◌/◌, ◌<◌, ◌≤◌}
use native.Mathlib.Nat.{not-suc-le-zero}
use native.Mathlib.Decide.{ℕ_discrete, dec_lt}
use Rattle.std.proofs.Common.{mul-le-mul, le_refl}
use Rattle.std.proofs.Math.Nat.{mul_comm}
use native.Mathlib.Omega.{arith}
use lib.IntN.{ℤ, pos, ◌+ℤ◌, ◌*ℤ◌, +ℤ_assoc}
use lib.ListN.{get_or, length, set, length-set, get_or-eq_default}
use lib.Seq.{get_or-set_same, get_or-set_other}
use Rattle.std.proofs.Math.IntN.{*ℤ-zero}
use mir.Syntax.{w16, w32}
use mir.Val.{to_z, of_z, SFits}
use mir.Facts.{to_z-of_z}
use Rattle.integers.specs.Sum.{sum}
use Rattle.integers.specs.Within.{Within}
use Rattle.integers.proofs.BoundLaws.{within_add, within_eq, within_le, within_pos, within_fits, by_32}
use Rattle.integers.proofs.SumLaws.{sum_zero, sum_suc}
use Rattle.lines.specs.Fold.{value_most, dot_sum, Small, DotNeeds, Paired}

-- ---- pairs
pub record PairsTo (h : ℕ) (t : List ℤ) (st : ℕ) (xs : List ℤ) (k : ℕ) (z : List ℤ) : Type 0 where
  pub long : length z ≡ h
  pub done : (j : ℕ) → j < k → Paired t st xs j (get_or z j (pos 0))
  pub rest : (j : ℕ) → k ≤ j → get_or z j (pos 0) ≡ pos 0

-- a value that is there is one of the first 2h, st apart
pub pair_room : {h st w k : ℕ} {t : List ℤ} → DotNeeds h st t w → st * (4 * k + 1) < w → k < h / 2
pair_room {h} {st} {w} {k} a l =
    elim (dec_lt (4 * k + 1) (2 * h)) [
      | yes y ↦ omega (arith, y, a.even)
      | no n ↦
          let far : st * (2 * h) ≤ st * (4 * k + 1) = mul-le-mul (le_refl st) (let c : 2 * h ≤ 4 * k + 1 = omega (arith, n) in c) in
          let e : 2 * h * st ≡ st * (2 * h) = mul_comm (2 * h) st in
          absurd (let c : ⊥ = omega (arith, far, e, a.few, l) in c)
    ]

-- a pair as the caller of `products` reads it
pub paired : {t xs : List ℤ} {st k : ℕ} {p a b : ℤ} → Small 180 t
    → (p ≡ to_z w16 (of_z w16 (get_or t (2 * k) (pos 0))) *ℤ a +ℤ to_z w16 (of_z w16 (get_or t (2 * k + 1) (pos 0))) *ℤ b) × Within (2 * value_most) p
    → a ≡ get_or xs (st * (4 * k + 1)) (pos 0) → b ≡ get_or xs (st * (4 * k + 3)) (pos 0) → Paired t st xs k p
paired {t} {k = k} s e f g =
    record { is = e.0 ∙ ap₂ ◌+ℤ◌ (ap₂ ◌*ℤ◌ (entry (2 * k)) f) (ap₂ ◌*ℤ◌ (entry (2 * k + 1)) g); small = e.1 }
  where
    entry : (i : ℕ) → to_z w16 (of_z w16 (get_or t i (pos 0))) ≡ get_or t i (pos 0)
    entry i = to_z-of_z {w = w16} (within_fits tt (s.at i))

pub pairs_none : {h st : ℕ} {t xs z : List ℤ} → length z ≡ h → ((i : ℕ) → get_or z i (pos 0) ≡ pos 0) → PairsTo h t st xs 0 z
pairs_none l p = record { long = l; done = λ j b. absurd (not-suc-le-zero b); rest = λ j b. p j }

pub pairs_next : {h st k : ℕ} {t xs z : List ℤ} {p : ℤ} → PairsTo h t st xs k z → k < h / 2 → Paired t st xs k p → PairsTo h t st xs (k + 1) (set z k p)
pairs_next {h} {st} {k} {t} {xs} {z} {p} a l e =
    record {
      long = length-set z k p ∙ a.long;
      done = λ j b.
          elim (ℕ_discrete j k) [
            | yes y ↦ rw y (subst (Paired t st xs k) (sym (get_or-set_same z k p (pos 0) (omega (arith, a.long, l)))) e)
            | no d ↦ subst (Paired t st xs j) (sym (get_or-set_other z k j p (pos 0) d)) (a.done j (omega arith))
          ];
      rest = λ j b. get_or-set_other z k j p (pos 0) (λ y. let c : ⊥ = omega arith in c) ∙ a.rest j (omega arith);
    }

pub pairs_all : {h st k : ℕ} {t xs z : List ℤ} → PairsTo h t st xs k z → length xs ≤ st * (4 * k + 1) → (j : ℕ) → j < h / 2 → Paired t st xs j (get_or z j (pos 0))
pairs_all {h} {st} {k} {t} {xs} {z} a far j l =
    elim (dec_lt j k) [
      | yes y ↦ a.done j y
      | no n ↦ subst (Paired t st xs j) (sym (a.rest j (omega (arith, n)))) (no_pair (omega (arith, n)))
    ]
  where
    past : (i : ℕ) → 4 * k + 1 ≤ i → get_or xs (st * i) (pos 0) ≡ pos 0
    past i m =
        let more : st * (4 * k + 1) ≤ st * i = mul-le-mul (le_refl st) m in
        get_or-eq_default xs (pos 0) (omega (arith, far, more))

    no_pair : k ≤ j → Paired t st xs j (pos 0)
    no_pair m =
        record {
          is = sym (ap₂ (λ (x y : ℤ). get_or t (2 * j) (pos 0) *ℤ x +ℤ get_or t (2 * j + 1) (pos 0) *ℤ y) (past (4 * j + 1) (omega arith)) (past (4 * j + 3) (omega arith)) ∙ ap₂ ◌+ℤ◌ (*ℤ-zero (get_or t (2 * j) (pos 0))) (*ℤ-zero (get_or t (2 * j + 1) (pos 0))));
          small = within_pos (omega arith);
        }

pub record Dotted (t : List ℤ) (st : ℕ) (xs : List ℤ) (k : ℕ) (s : ℤ) : Type 0 where
  pub is : s ≡ dot_sum (2 * k) t st xs
  pub small : Within (2 * k * value_most) s

pub dotted_none : (t : List ℤ) (st : ℕ) (xs : List ℤ) {s : ℤ} → s ≡ pos 0 → Dotted t st xs 0 s
unfolding dot_sum
dotted_none t st xs e = record { is = e ∙ sym (sum_zero _); small = within_eq e (within_pos (omega arith)) }

module _ {h st w' : ℕ} {t xs : List ℤ} {k : ℕ} {s v : ℤ} (a : DotNeeds h st t w') (l : k < h / 2) (p : Dotted t st xs k s) (q : Paired t st xs k v) where
  more : Within (2 * (k + 1) * value_most) (s +ℤ v)
  more = within_le (omega arith) (within_add p.small q.small)

  pub sum_fits : SFits w32 (s +ℤ v)
  sum_fits = by_32 (within_le (omega (arith, l, a.even, a.most)) more)

  pub dotted_next : {r : ℤ} → r ≡ s +ℤ v → Dotted t st xs (k + 1) r
  unfolding dot_sum
  dotted_next e =
      record {
        is = e ∙ ap₂ ◌+ℤ◌ p.is (q.is ∙ ap₂ ◌+ℤ◌ (at (2 * k) (4 * k + 1) (omega arith)) (at (2 * k + 1) (4 * k + 3) (omega arith))) ∙ sym two_more;
        small = within_eq e more;
      }
    where
      term : ℕ → ℤ
      term j = get_or t j (pos 0) *ℤ get_or xs (st * (2 * j + 1)) (pos 0)

      at : (j i : ℕ) → i ≡ 2 * j + 1 → get_or t j (pos 0) *ℤ get_or xs (st * i) (pos 0) ≡ term j
      at j i e = ap (λ (i : ℕ). get_or t j (pos 0) *ℤ get_or xs (st * i) (pos 0)) e

      two_more : sum (2 * (k + 1)) term ≡ sum (2 * k) term +ℤ (term (2 * k) +ℤ term (2 * k + 1))
      two_more =
          ap (λ (n : ℕ). sum n term) (let f : 2 * (k + 1) ≡ suc (suc (2 * k)) = omega arith in f)
          ∙ sum_suc (suc (2 * k)) term
          ∙ ap₂ (λ (z : ℤ) (i : ℕ). z +ℤ term i) (sum_suc (2 * k) term) (let f : suc (2 * k) ≡ 2 * k + 1 = omega arith in f)
          ∙ +ℤ_assoc (sum (2 * k) term) (term (2 * k)) (term (2 * k + 1))
