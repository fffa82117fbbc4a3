-- What a lookup of m below the refusals relies on.
--   WholeList len n   a size, and 64 entries
use Rattle.std.specs.Prelude.{◌≡◌, ℕ, T}
use Rattle.h265.specs.Range.{is_size}

pub record WholeList (len n : ℕ) : Type 0 where
  pub size : T (is_size n)
  pub whole : len ≡ 64
