-- What the plain range asks: R = 15, so that coefficients and intermediate values fit 16 bits. docs/RULES.md, "Inverse transforms".
--   PlainNeeds   size, kind, depth, column count and lengths are right, and each coefficient of the columns read fits 16 bits
use Rattle.std.specs.Prelude.{◌≡◌, List, ℕ, ◌+◌, ◌*◌, ◌<◌, ◌≤◌, T, ℤ, pos, get_or, length}
use Rattle.std.specs.Int.{w16}
use Rattle.std.proofs.Common.{SFits}
use Rattle.h265.specs.Range.{is_size}
use Rattle.transform_1d.specs.declared.Kind.{Kind}
use Rattle.transform_1d.specs.declared.Kind.TheVariants.{Dst}

pub record PlainNeeds (kind : Kind) (n b nx : ℕ) (coeff : List ℤ) (out_length : ℕ) : Type 0 where
  pub size : T (is_size n)
  pub dst : kind ≡ Dst → n ≡ 4
  pub least : 8 ≤ b
  pub most : b ≤ 16
  pub columns : nx ≤ n
  pub long : n * n ≤ length coeff
  pub room : n * n ≤ out_length
  pub fits : (k c : ℕ) → k < n → c < nx → SFits w16 (get_or coeff (k * n + c) (pos 0))
