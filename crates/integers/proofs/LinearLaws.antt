-- Linear arithmetic over ℤ: an integer is the difference of two naturals, and `omega` does the rest over ℕ.
--   pos_part, neg_part                z is pos_part z − neg_part z, and one of the two is 0
--   parts_sub .. parts_mul          the parts of a difference of naturals, a sum, a negation, a product
--   parts_ext, eq_in                equality, from the parts and to the parts
--   le_in, le_out, lt_in, lt_out    the orders, to the parts and from the parts
--   diff, split, diff_ext           the normal form p − n; every integer has it; when two are equal
--   diff_le .. diff_eq_in           orders and equality of two normal forms, both ways
--   ring                            the ruleset by which `simp` moves an expression into the normal form
-- A linear goal: `rw (← split x, ← split y) (simp ring (diff_ext _ _ _ _ (omega arith)))`.
-- A linear hypothesis h: `diff_le_in _ _ _ _ (simp ring at (rw (← split x, ← split y) at h))`.
use mathlib.Core.Path.{◌≡◌, refl, sym, ap, subst}
use mathlib.Core.Bool.{Bool, true, false, not, cond}
use Prim.Native.Nat.{ℕ, zero, suc, ◌+◌, ◌*◌, ◌-◌, ◌<◌, ◌≤◌}
use native.Mathlib.Omega.{arith}
use lib.Dec.{T, ltb, ltb→lt, nltb→le, leb→le, le→leb, lt→ltb}
use lib.IntN.{ℤ, pos, negsuc, ◌+ℤ◌, ◌*ℤ◌, neg_ℤ, sub_ℕ}
use lib.Signed.{lt_z, le_z, ◌≤ℤ◌, ◌<ℤ◌}

-- ---- the parts
abbrev pub pos_part : ℤ → ℕ
pos_part (pos n) = n
pos_part (negsuc n) = 0

abbrev pub neg_part : ℤ → ℕ
neg_part (pos n) = 0
neg_part (negsuc n) = suc n

-- `sub_ℕ` is a `cond`: a fact of both its branches is a fact of it
by_branch : (c : Bool) (x y : ℤ) (Q : ℤ → Type 0) → (T c → Q x) → (T (not c) → Q y) → Q (cond c x y)
by_branch true x y Q f g = f tt
by_branch false x y Q f g = g tt

pub parts_sub : (a b : ℕ) → pos_part (sub_ℕ a b) + b ≡ a + neg_part (sub_ℕ a b)
parts_sub a b =
    by_branch (ltb a b) (negsuc (b - suc a)) (pos (a - b)) (λ z. pos_part z + b ≡ a + neg_part z)
    (λ t. below (ltb→lt a b t)) (λ t. above (nltb→le a b t))
  where
    below : a < b → 0 + b ≡ a + suc (b - suc a)
    below h = omega arith

    above : b ≤ a → (a - b) + b ≡ a + 0
    above h = omega arith

pub parts_sub_le : (a b : ℕ) → (pos_part (sub_ℕ a b) ≤ a) × (neg_part (sub_ℕ a b) ≤ b)
parts_sub_le a b =
    by_branch (ltb a b) (negsuc (b - suc a)) (pos (a - b)) (λ z. (pos_part z ≤ a) × (neg_part z ≤ b))
    (λ t. below (ltb→lt a b t)) (λ t. omega arith)
  where
    below : a < b → (0 ≤ a) × (suc (b - suc a) ≤ b)
    below h = omega arith

pub parts_add : (x y : ℤ) → pos_part (x +ℤ y) + (neg_part x + neg_part y) ≡ (pos_part x + pos_part y) + neg_part (x +ℤ y)
parts_add (pos a) (pos b) = omega arith
parts_add (pos a) (negsuc b) = omega (arith, parts_sub a (suc b))
parts_add (negsuc a) (pos b) = omega (arith, parts_sub b (suc a))
parts_add (negsuc a) (negsuc b) = omega arith

-- `parts_add` alone leaves open what cancels: each part only shrinks
pub parts_add_le : (x y : ℤ) → (pos_part (x +ℤ y) ≤ pos_part x + pos_part y) × (neg_part (x +ℤ y) ≤ neg_part x + neg_part y)
parts_add_le (pos a) (pos b) = omega arith
parts_add_le (pos a) (negsuc b) = omega (arith, parts_sub_le a (suc b))
parts_add_le (negsuc a) (pos b) = omega (arith, parts_sub_le b (suc a))
parts_add_le (negsuc a) (negsuc b) = omega arith

pub parts_neg : (x : ℤ) → (pos_part (neg_ℤ x) ≡ neg_part x) × (neg_part (neg_ℤ x) ≡ pos_part x)
parts_neg (pos zero) = (refl, refl)
parts_neg (pos (suc n)) = (refl, refl)
parts_neg (negsuc n) = (refl, refl)

-- exact, with nothing to cancel: at most one part of each factor is not 0
pub parts_mul : (x y : ℤ)
    → (pos_part (x *ℤ y) ≡ pos_part x * pos_part y + neg_part x * neg_part y)
    × (neg_part (x *ℤ y) ≡ pos_part x * neg_part y + neg_part x * pos_part y)
parts_mul (pos a) (pos b) = omega arith
parts_mul (pos a) (negsuc b) = omega (arith, parts_neg (pos (a * suc b)))
parts_mul (negsuc a) (pos b) = omega (arith, parts_neg (pos (suc a * b)))
parts_mul (negsuc a) (negsuc b) = omega arith

-- ---- equality and order by the parts
pub parts_ext : (x y : ℤ) → pos_part x + neg_part y ≡ pos_part y + neg_part x → x ≡ y
parts_ext (pos a) (pos b) h = ap pos (let e : a ≡ b = omega arith in e)
parts_ext (pos a) (negsuc b) h = absurd (let e : ⊥ = omega arith in e)
parts_ext (negsuc a) (pos b) h = absurd (let e : ⊥ = omega arith in e)
parts_ext (negsuc a) (negsuc b) h = ap negsuc (let e : a ≡ b = omega arith in e)

pub eq_in : {x y : ℤ} → x ≡ y → pos_part x + neg_part y ≡ pos_part y + neg_part x
eq_in {x} {y} e = subst (λ (z : ℤ). pos_part x + neg_part z ≡ pos_part z + neg_part x) e refl

pub le_in : {x y : ℤ} → x ≤ℤ y → pos_part x + neg_part y ≤ pos_part y + neg_part x
le_in {x = pos a} {y = pos b} h = omega (arith, leb→le a b h.le)
le_in {x = pos a} {y = negsuc b} h = absurd h.le
le_in {x = negsuc a} {y = pos b} h = omega arith
le_in {x = negsuc a} {y = negsuc b} h = omega (arith, leb→le b a h.le)

le_test : (x y : ℤ) → pos_part x + neg_part y ≤ pos_part y + neg_part x → T (le_z x y)
le_test (pos a) (pos b) h = le→leb a b (omega arith)
le_test (pos a) (negsuc b) h = absurd (let e : ⊥ = omega arith in e)
le_test (negsuc a) (pos b) h = tt
le_test (negsuc a) (negsuc b) h = le→leb b a (omega arith)

pub le_out : (x y : ℤ) → pos_part x + neg_part y ≤ pos_part y + neg_part x → x ≤ℤ y
le_out x y h = record { le = le_test x y h }

pub lt_in : {x y : ℤ} → x <ℤ y → pos_part x + neg_part y < pos_part y + neg_part x
lt_in {x = pos a} {y = pos b} h = omega (arith, ltb→lt a b h.lt)
lt_in {x = pos a} {y = negsuc b} h = absurd h.lt
lt_in {x = negsuc a} {y = pos b} h = omega arith
lt_in {x = negsuc a} {y = negsuc b} h = omega (arith, ltb→lt b a h.lt)

lt_test : (x y : ℤ) → pos_part x + neg_part y < pos_part y + neg_part x → T (lt_z x y)
lt_test (pos a) (pos b) h = lt→ltb a b (omega arith)
lt_test (pos a) (negsuc b) h = absurd (let e : ⊥ = omega arith in e)
lt_test (negsuc a) (pos b) h = tt
lt_test (negsuc a) (negsuc b) h = lt→ltb b a (omega arith)

pub lt_out : (x y : ℤ) → pos_part x + neg_part y < pos_part y + neg_part x → x <ℤ y
lt_out x y h = record { lt = lt_test x y h }

-- ---- the normal form
-- `diff p n` is p − n. It stays shut, so that `simp` can gather an expression in it
unfoldable pub diff : ℕ → ℕ → ℤ
diff p n = sub_ℕ p n

pub parts_diff : (p n : ℕ) → pos_part (diff p n) + n ≡ p + neg_part (diff p n)
unfolding diff
parts_diff p n = parts_sub p n

pub parts_diff_le : (p n : ℕ) → (pos_part (diff p n) ≤ p) × (neg_part (diff p n) ≤ n)
unfolding diff
parts_diff_le p n = parts_sub_le p n

pub diff_ext : (p n q m : ℕ) → p + m ≡ q + n → diff p n ≡ diff q m
diff_ext p n q m h = parts_ext (diff p n) (diff q m) (omega (arith, parts_diff p n, parts_diff q m))

pub split : (x : ℤ) → diff (pos_part x) (neg_part x) ≡ x
split x = parts_ext (diff (pos_part x) (neg_part x)) x (omega (arith, parts_diff (pos_part x) (neg_part x)))

-- an integer whose parts differ by p − n is that normal form
to_diff : (x : ℤ) (p n : ℕ) → pos_part x + n ≡ p + neg_part x → x ≡ diff p n
to_diff x p n h = parts_ext x (diff p n) (omega (arith, parts_diff p n))

pub diff_pos : (n : ℕ) → pos n ≡ diff n 0
diff_pos n = sym (split (pos n))

pub diff_negsuc : (n : ℕ) → negsuc n ≡ diff 0 (suc n)
diff_negsuc n = sym (split (negsuc n))

pub diff_add : (p n q m : ℕ) → diff p n +ℤ diff q m ≡ diff (p + q) (n + m)
diff_add p n q m =
    to_diff (diff p n +ℤ diff q m) (p + q) (n + m) (omega (arith, parts_add (diff p n) (diff q m), parts_diff p n, parts_diff q m))

pub diff_neg : (p n : ℕ) → neg_ℤ (diff p n) ≡ diff n p
diff_neg p n = to_diff (neg_ℤ (diff p n)) n p (omega (arith, parts_neg (diff p n), parts_diff p n))

pub diff_mul : (p n q m : ℕ) → diff p n *ℤ diff q m ≡ diff (p * q + n * m) (p * m + n * q)
diff_mul p n q m =
    to_diff (diff p n *ℤ diff q m) (p * q + n * m) (p * m + n * q)
    (omega (
      arith,
      parts_mul (diff p n) (diff q m),
      ap (λ (k : ℕ). k * pos_part (diff q m)) (parts_diff p n),
      ap (λ (k : ℕ). k * neg_part (diff q m)) (parts_diff p n),
      ap (λ (k : ℕ). p * k) (parts_diff q m),
      ap (λ (k : ℕ). n * k) (parts_diff q m),
    ))

-- with a literal in front: an operation that has met its first operand's constructor has computed one step, and
-- `simp` finds the call no more by `diff_add` and `diff_mul`
pub pos_add : (k q m : ℕ) → pos k +ℤ diff q m ≡ diff (k + q) m
pos_add k q m = to_diff (pos k +ℤ diff q m) (k + q) m (omega (arith, parts_add (pos k) (diff q m), parts_diff q m))

pub negsuc_add : (k q m : ℕ) → negsuc k +ℤ diff q m ≡ diff q (suc k + m)
negsuc_add k q m = to_diff (negsuc k +ℤ diff q m) q (suc k + m) (omega (arith, parts_add (negsuc k) (diff q m), parts_diff q m))

pub pos_mul : (k q m : ℕ) → pos k *ℤ diff q m ≡ diff (k * q) (k * m)
pos_mul k q m =
    to_diff (pos k *ℤ diff q m) (k * q) (k * m)
    (omega (arith, parts_mul (pos k) (diff q m), ap (λ (z : ℕ). k * z) (parts_diff q m)))

pub negsuc_mul : (k q m : ℕ) → negsuc k *ℤ diff q m ≡ diff (suc k * m) (suc k * q)
negsuc_mul k q m =
    to_diff (negsuc k *ℤ diff q m) (suc k * m) (suc k * q)
    (omega (arith, parts_mul (negsuc k) (diff q m), ap (λ (z : ℕ). suc k * z) (parts_diff q m)))

pub diff_le : (p n q m : ℕ) → p + m ≤ q + n → diff p n ≤ℤ diff q m
diff_le p n q m h = le_out (diff p n) (diff q m) (omega (arith, parts_diff p n, parts_diff q m))

pub diff_lt : (p n q m : ℕ) → p + m < q + n → diff p n <ℤ diff q m
diff_lt p n q m h = lt_out (diff p n) (diff q m) (omega (arith, parts_diff p n, parts_diff q m))

pub diff_le_in : (p n q m : ℕ) → diff p n ≤ℤ diff q m → p + m ≤ q + n
diff_le_in p n q m h = omega (arith, le_in h, parts_diff p n, parts_diff q m)

pub diff_lt_in : (p n q m : ℕ) → diff p n <ℤ diff q m → p + m < q + n
diff_lt_in p n q m h = omega (arith, lt_in h, parts_diff p n, parts_diff q m)

pub diff_eq_in : (p n q m : ℕ) → diff p n ≡ diff q m → p + m ≡ q + n
diff_eq_in p n q m h = omega (arith, eq_in h, parts_diff p n, parts_diff q m)

pub ruleset ring = (pos_add, negsuc_add, pos_mul, negsuc_mul, diff_pos, diff_negsuc, diff_add, diff_neg, diff_mul)
