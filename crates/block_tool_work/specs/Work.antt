-- What the functions below the refusals rely on and say.
--   step_back a n i       how far before sample i the one stands that is added to it, if one is
--   at xs                a list as a block
--   Summable k xs        the first k elements are at most 2^22 in size, so that 32 bits hold the sum of 32 of them
--   Block t n xs         a whole block of such elements, of a size that is rotated or not
use Rattle.std.specs.Prelude.{◌≡◌, Bool, false, cond, List, Option, Some, None, ℕ, ◌*◌, ◌%◌, ◌≤◌, ◌<◌, T, eqb, ltb, ℤ, pos, length, get_or}
use Rattle.integers.specs.Within.{Within}
use Rattle.h265.specs.Range.{is_size}
use Rattle.refusal.specs.Condition.{rotation_refused}
use Rattle.block_tool_rules.specs.declared.Accumulate.{Accumulate}
use Rattle.block_tool_rules.specs.declared.Accumulate.TheVariants.{Off, AlongRows, DownColumns}

abbrev pub step_back : Accumulate → ℕ → ℕ → Option ℕ
step_back Off n i = None
step_back AlongRows n i = cond (eqb (i % n) 0) None (Some 1)
step_back DownColumns n i = cond (ltb i n) None (Some n)

abbrev pub at : List ℤ → ℕ → ℤ
at xs i = get_or xs i (pos 0)

pub record Summable (k : ℕ) (xs : List ℤ) : Type 0 where
  pub small : (i : ℕ) → i < k → Within 4194304 (at xs i)

pub record Block (t : Bool) (n : ℕ) (xs : List ℤ) : Type 0 where
  pub size : T (is_size n)
  pub rotation : rotation_refused t n ≡ false
  pub room : n * n ≤ length xs
  pub summable : Summable (n * n) xs
