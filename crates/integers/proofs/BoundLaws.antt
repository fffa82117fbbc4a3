-- Bounds on integers, put together as the expression is, and the two searches that find them.
--   within_pos, -le, -add, -neg, -mul, -lit-mul, -shr   the bound of an expression by those of its parts
--   within_eq                          the bound of what a call ensures, for its result
--   within_between, between_abs        a bound from an order on both sides
--   within_out, within_in, diff_within a bound by the parts, both ways, for omega
--   within_fits, within_sfits          a bound and the range of a machine type, both ways
--   all_within, table_within            a bound on every element of a table, by one computed test
--   by_32 .. by_sum, bounds            the same laws from the goal's bound down: `search bounds`
--   eq_trip .. eq_mul, values, via     what the machine reads back is the expression: `search values`
use mathlib.Core.Path.{◌≡◌, sym, ◌∙◌, ap, subst}
use mathlib.Core.Bool.{Bool, true, ◌&&◌}
use mathlib.Core.List.{List, [], ◌∷◌}
use Prim.Native.Nat.{ℕ, zero, suc, ◌+◌, ◌*◌, ◌-◌, ◌/◌, ◌^◌, ◌≤◌}
use native.Mathlib.Nat.{lt_of_le_of_lt, le_trans, le_refl, le_of_eq, mul-le-mul, mul-div-le, div-le_self, sub-add_cancel}
use native.Mathlib.Omega.{arith}
use lib.Dec.{T, leb, leb→le, ltb, ltb→lt}
use lib.IntN.{ℤ, pos, negsuc, ◌+ℤ◌, ◌*ℤ◌, neg_ℤ, nat_abs}
use lib.ListN.{get_or}
use lib.Signed.{shr_z, ◌≤ℤ◌}
use mir.Syntax.{Width, w32, w64}
use mir.Val.{SFits, to_z, of_z, hbits}
use mir.Facts.{and_yes}
use Rattle.integers.specs.Within.{Within}
use Rattle.integers.proofs.LinearLaws.{pos_part, neg_part, parts_neg, le_in, diff, parts_diff}
use Rattle.integers.proofs.MachineLaws.{round_trip, abs_parts, abs_neg, abs_add, abs_mul, sfits_abs, abs_sfits}

-- ---- as the expression is
pub within_pos : {b k : ℕ} → k ≤ b → Within b (pos k)
within_pos h = record { within = h }

pub within_le : {a b : ℕ} {z : ℤ} → a ≤ b → Within a z → Within b z
within_le h f = record { within = le_trans f.within h }

pub within_add : {a b : ℕ} {x y : ℤ} → Within a x → Within b y → Within (a + b) (x +ℤ y)
within_add {x = x} {y = y} f g = record { within = omega (arith, abs_add x y, f.within, g.within) }

pub within_neg : {a : ℕ} {x : ℤ} → Within a x → Within a (neg_ℤ x)
within_neg {x = x} f = record { within = omega (arith, abs_neg x, f.within) }

pub within_mul : {a b : ℕ} {x y : ℤ} → Within a x → Within b y → Within (a * b) (x *ℤ y)
within_mul {x = x} {y = y} f g = record { within = rw (abs_mul x y) (mul-le-mul f.within g.within) }

pub within_lit_mul : {b : ℕ} {z : ℤ} (k : ℕ) → Within b z → Within (k * b) (pos k *ℤ z)
within_lit_mul k f = within_mul (within_pos (le_refl k)) f

pub within_shr : {b : ℕ} {z : ℤ} (m : ℕ) → Within b z → Within b (shr_z z m)
within_shr {z = pos n} m f = record { within = omega (arith, f.within, div-le_self n m) }
within_shr {z = negsuc n} m f = record { within = omega (arith, f.within, div-le_self n m) }

pub within_eq : {b : ℕ} {x y : ℤ} → x ≡ y → Within b y → Within b x
within_eq {b} e f = subst (λ (z : ℤ). Within b z) (sym e) f

-- ---- by the parts, and by the order
pub within_out : {b : ℕ} (z : ℤ) → (pos_part z ≤ neg_part z + b) × (neg_part z ≤ pos_part z + b) → Within b z
within_out (pos n) h = record { within = omega arith }
within_out (negsuc n) h = record { within = omega arith }

pub within_in : {b : ℕ} {z : ℤ} → Within b z → pos_part z + neg_part z ≤ b
within_in {z = z} f = omega (arith, abs_parts z, f.within)

pub diff_within : {b : ℕ} (p n : ℕ) → (p ≤ n + b) × (n ≤ p + b) → Within b (diff p n)
diff_within p n h = within_out (diff p n) (omega (arith, parts_diff p n))

pub within_between : {b : ℕ} {z : ℤ} → neg_ℤ (pos b) ≤ℤ z → z ≤ℤ pos b → Within b z
within_between {b} {z} h k = within_out z (omega (arith, le_in, parts_neg (pos b)))

-- what a cast to an unsigned type asks
pub between_abs : {b : ℕ} {z : ℤ} → pos 0 ≤ℤ z → z ≤ℤ pos b → nat_abs z ≤ b
between_abs {b} {z} h k = (within_out {b = b} z (omega (arith, le_in))).within

-- ---- the range of a machine type
-- at a bound that is a numeral, `within_fits tt f`
pub within_fits : {w : Width} {b : ℕ} {z : ℤ} → T (ltb b (2 ^ hbits w)) → Within b z → SFits w z
within_fits {w} {b} t f = sfits_abs (lt_of_le_of_lt f.within (ltb→lt b (2 ^ hbits w) t))

pub within_sfits : {w : Width} {z : ℤ} → SFits w z → Within (2 ^ hbits w) z
within_sfits f = record { within = abs_sfits f }

-- ---- tables
abbrev pub all_within : ℕ → List ℤ → Bool
all_within b [] = true
all_within b (x ∷ xs) = leb (nat_abs x) b && all_within b xs

-- at a table of literals, t is `tt`; a read past the end gives 0, which is within every bound
pub table_within : (b : ℕ) (xs : List ℤ) → T (all_within b xs) → (i : ℕ) → Within b (get_or xs i (pos 0))
table_within b [] t i = record { within = omega arith }
table_within b (x ∷ xs) t zero =
    record { within = leb→le (nat_abs x) b (and_yes (leb (nat_abs x) b) (all_within b xs) t).0 }
table_within b (x ∷ xs) t (suc i) = table_within b xs (and_yes (leb (nat_abs x) b) (all_within b xs) t).1 i

-- ---- bounds by search: each rule goes from the goal's bound, a numeral, to numerals
pub by_32 : {z : ℤ} → Within 2147483647 z → SFits w32 z
by_32 f = within_fits tt f

pub by_64 : {z : ℤ} → Within 9223372036854775807 z → SFits w64 z
by_64 f = within_fits tt f

pub by_add : {b : ℕ} {x y : ℤ} → Within (b / 2) x → Within (b / 2) y → Within b (x +ℤ y)
by_add {b} f g = within_le (omega arith) (within_add f g)

pub by_neg : {b : ℕ} {x : ℤ} → Within b x → Within b (neg_ℤ x)
by_neg f = within_neg f

pub by_mul : {b : ℕ} (k : ℕ) {z : ℤ} → Within (b / k) z → Within b (pos k *ℤ z)
by_mul {b} k f = within_le (mul-div-le b k) (within_lit_mul k f)

pub by_have : {a b : ℕ} {z : ℤ} → Within a z → T (leb a b) → Within b z
by_have {a} {b} f t = within_le (leb→le a b t) f

pub by_trip : (w : Width) {b : ℕ} (z : ℤ) → Within b z → T (ltb b (2 ^ hbits w)) → Within b (to_z w (of_z w z))
by_trip w z f t = within_eq (round_trip (within_fits {w = w} t f)) f

-- of a long sum, which halves would use up: M for the last term, and what is left for the others. It is cited and not
-- searched, as no goal shows M
pub by_sum : (M : ℕ) {b : ℕ} {x y : ℤ} → T (leb M b) → Within (b - M) x → Within M y → Within b (x +ℤ y)
by_sum M {b} t f g = within_le (le_of_eq (sub-add_cancel (leb→le M b t))) (within_add f g)

pub ruleset bounds = (tt, by_32, by_64, by_trip, by_add, by_neg, by_mul, by_have)

-- ---- what the machine reads back, by search
pub eq_trip : {w : Width} {x y : ℤ} → SFits w x → x ≡ y → to_z w (of_z w x) ≡ y
eq_trip f e = round_trip f ∙ e

pub eq_add : (x y x' y' : ℤ) → x ≡ x' → y ≡ y' → x +ℤ y ≡ x' +ℤ y'
eq_add x y x' y' e f = ap (λ (z : ℤ). z +ℤ y) e ∙ ap (λ (z : ℤ). x' +ℤ z) f

pub eq_neg : {x x' : ℤ} → x ≡ x' → neg_ℤ x ≡ neg_ℤ x'
eq_neg e = ap neg_ℤ e

pub eq_mul : (k : ℕ) {y y' : ℤ} → y ≡ y' → pos k *ℤ y ≡ pos k *ℤ y'
eq_mul k e = ap (λ (z : ℤ). pos k *ℤ z) e

pub ruleset values = (bounds, eq_trip, eq_add, eq_neg, eq_mul)

-- `via LAW (search values depth 20)`: the code's expression, and then the law that takes it to the contract's
pub via : {x y z : ℤ} → y ≡ z → x ≡ y → x ≡ z
via q p = p ∙ q
