-- What the loops over a block leave at an index, and what they rely on.
--   by_entry f m levels i   f of the m and of the level at an index
--   Scalable w p            the numbers of a block whose output has elements of width w
use Rattle.std.specs.Prelude.{List, ℕ, ℤ, pos, get_or}
use Rattle.std.specs.Int.{Width}
use Rattle.parameters.specs.declared.DequantParams.{DequantParams}
use Rattle.scaling_values.specs.Level.{Manageable, Ends}
use Rattle.scaling_values.specs.Flat.{Regular}
use Rattle.scaling_values.specs.Long.{Listed}

abbrev pub by_entry : {A : Type 0} → (ℕ → ℤ → A) → (ℕ → ℕ) → List ℤ → ℕ → A
by_entry f m levels i = f (m i) (get_or levels i (pos 0))

pub record Scalable (w : Width) (p : DequantParams) : Type 0 where
  pub manageable : Manageable p
  pub regular : Regular p
  pub listed : Listed p
  pub ends : Ends w p
