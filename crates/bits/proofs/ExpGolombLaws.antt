-- Which code stands at an offset, by its leading zeros.
--   code_number_lem, code_cut   at most 32 zeros: a number, or the bits end in it
--   code_long, code_lost    more of them: too long, or the bits end among them
use mathlib.Core.Path.{◌≡◌, sym, ap, ap₂, ◌∙◌}
use mathlib.Core.Bool.{true, false}
use mathlib.Core.List.{List}
use Prim.Native.Nat.{ℕ, ◌+◌, ◌-◌, ◌*◌, ◌^◌, ◌≤◌, ◌<◌}
use borrow.Author.Tests.{lt-ltb, le-ltb}
use Rattle.std.specs.Prelude.{Ok, Err}
use Rattle.bits.specs.declared.CodeError.TheVariants.{TooLong, Ended}
use Rattle.bits.specs.Bits.{is_there, bits_number}
use Rattle.bits.specs.ExpGolomb.{leading_zeros, code_of, unsigned_code}

module _ (bytes : List ℕ) (at z : ℕ) (is : z ≡ leading_zeros bytes at) where
  by_zeros : code_of bytes at z ≡ unsigned_code bytes at
  unfolding unsigned_code
  by_zeros = ap (code_of bytes at) is

  pub code_number_lem : (p s : ℕ) → z < 33 → is_there bytes (at + 2 * z) ≡ true → p ≡ 2 ^ z → s ≡ bits_number bytes (at + z + 1) z
      → Ok (p - 1 + s, at + 2 * z + 1) ≡ unsigned_code bytes at
  unfolding code_of
  code_number_lem p s h t ep es =
      ap₂ (λ (a b : ℕ). Ok (a - 1 + b, at + 2 * z + 1)) ep es ∙ sym (rw (lt-ltb z 33 h, t)) ∙ by_zeros

  pub code_cut : z < 33 → is_there bytes (at + 2 * z) ≡ false → Err Ended ≡ unsigned_code bytes at
  unfolding code_of
  code_cut h t = sym (rw (lt-ltb z 33 h, t)) ∙ by_zeros

  pub code_long : 33 ≤ z → is_there bytes (at + 32) ≡ true → Err TooLong ≡ unsigned_code bytes at
  unfolding code_of
  code_long h t = sym (rw (le-ltb z 33 h, t)) ∙ by_zeros

  pub code_lost : 33 ≤ z → is_there bytes (at + 32) ≡ false → Err Ended ≡ unsigned_code bytes at
  unfolding code_of
  code_lost h t = sym (rw (le-ltb z 33 h, t)) ∙ by_zeros
