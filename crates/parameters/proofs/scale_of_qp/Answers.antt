-- `parameters::scale_of_qp` meets its contract: a table's entry times a power of two, which 64 bits hold.
use mathlib.Core.Path.{◌≡◌}
use mathlib.Core.List.{[], ◌∷◌}
use Prim.Native.Nat.{ℕ, ◌/◌, ◌%◌, ◌^◌, ◌≤◌}
use borrow.Author.Rules.{sfits_of}
use lib.IntN.{pos, ◌*ℤ◌, pos-*ℤ-pos}
use lib.ListN.{get_or, get_or-map}
use mir.Syntax.{w64}
use mir.Val.{SFits}
use Rattle.integers.proofs.MachineLaws.{round_trip}
use Rattle.integers.proofs.BoundLaws.{table_within, within_fits, within_pos, within_eq}
use Rattle.h265.specs.Quantization.{level_scale, scale_of_qp}
use Rattle.h265.proofs.QuantizationLaws.{scale_of_qp_bound}
use Rattle.parameters.proofs.scale_of_qp.Goals as goal

-- the table, as the code has it
entry : (k : ℕ) → get_or (pos 40 ∷ pos 45 ∷ pos 51 ∷ pos 57 ∷ pos 64 ∷ pos 72 ∷ []) k (pos 0) ≡ pos (level_scale k)
unfolding level_scale
entry k = get_or-map pos (40 ∷ 45 ∷ 51 ∷ 57 ∷ 64 ∷ 72 ∷ []) k 0

entry_fits : (k : ℕ) → SFits w64 (get_or (pos 40 ∷ pos 45 ∷ pos 51 ∷ pos 57 ∷ pos 64 ∷ pos 72 ∷ []) k (pos 0))
entry_fits k = within_fits tt (table_within 72 (pos 40 ∷ pos 45 ∷ pos 51 ∷ pos 57 ∷ pos 64 ∷ pos 72 ∷ []) tt k)

product : (q : ℕ) → pos (level_scale (q % 6)) *ℤ pos (2 ^ (q / 6)) ≡ pos (scale_of_qp q)
unfolding scale_of_qp
product q = pos-*ℤ-pos (level_scale (q % 6)) (2 ^ (q / 6))

product_fits : (q : ℕ) → q ≤ 99 → SFits w64 (pos (level_scale (q % 6)) *ℤ pos (2 ^ (q / 6)))
product_fits q h = within_fits tt (within_eq (product q) (within_pos (scale_of_qp_bound q h)))

pub overflow_mul-result : goal.overflow_mul-result
overflow_mul-result c =
    rw (round_trip (entry_fits (c.args.qp % 6)), entry (c.args.qp % 6), round_trip (sfits_of c.pow2.type_inv), c.pow2.ensures)
    (product_fits c.args.qp c.requires)

pub returns : goal.returns
returns c =
    rw (round_trip (overflow_mul-result c), round_trip (entry_fits (c.args.qp % 6)), entry (c.args.qp % 6), round_trip (sfits_of c.pow2.type_inv), c.pow2.ensures)
    (product c.args.qp)
