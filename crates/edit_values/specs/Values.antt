-- The values of a coefficient, and the least and the most of them that pass a test. docs/RULES.md, "Quantities": -2^R .. 2^R - 1.
--   value_count r      how many values the range has
--   value_at r o       the value at place o, the least value being at place 0
--   least_where r p    the least value of the range that passes, and 1 where none does
--   most_where r p     the most value of the range that passes, and 0 where none does
use Rattle.std.specs.Prelude.{Bool, cond, ℕ, ◌*◌, ◌^◌, ltb, ℤ, pos, ◌+ℤ◌, ◌-ℤ◌}
use Rattle.integers.specs.Search.{first_where}
use Rattle.h265.specs.Range.{coeff_min, coeff_max}

abbrev pub value_count : ℕ → ℕ
value_count r = 2 * 2 ^ r

unfoldable pub value_at : ℕ → ℕ → ℤ
value_at r o = pos o +ℤ coeff_min r

-- every value is asked, from the least on
unfoldable pub least_where : ℕ → (ℤ → Bool) → ℤ
least_where r p =
    let o : ℕ = first_where (value_count r) (λ o. p (coeff_min r +ℤ pos o)) in
    cond (ltb o (value_count r)) (coeff_min r +ℤ pos o) (pos 1)

-- every value is asked, from the most on
unfoldable pub most_where : ℕ → (ℤ → Bool) → ℤ
most_where r p =
    let o : ℕ = first_where (value_count r) (λ o. p (coeff_max r -ℤ pos o)) in
    cond (ltb o (value_count r)) (coeff_max r -ℤ pos o) (pos 0)
