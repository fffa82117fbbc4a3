-- `stages_wide::blocks::dc_fill` meets its contract: both sums are 64 times the one value that is not zero.
use borrow.Author.Rules.{sfits_of}
use mathlib.Core.Path.{◌≡◌, ap, ◌∙◌}
use Prim.Native.Nat.{◌*◌, ◌^◌}
use native.Mathlib.Omega.{arith}
use lib.IntN.{ℤ, pos, ◌*ℤ◌}
use lib.ListN.{get_or}
use mir.Syntax.{w32}
use mir.Val.{SFits}
use mir.Facts.{to_z-of_z}
use Rattle.integers.specs.Shift.{round_shift}
use Rattle.integers.specs.Within.{Within}
use Rattle.integers.proofs.BoundLaws.{within_eq, within_le, within_lit_mul, within_fits}
use Rattle.h265.specs.Range.{clip_coeff}
use Rattle.h265.proofs.RangeLaws.{size_bound, size_square}
use Rattle.stages_wide.specs.Parts.{limited_at}
use Rattle.stages_wide.proofs.PartsLaws.{limited_within}
use Rattle.stages_wide.proofs.DcLaws.{dc_value, filled_dc}
use Rattle.stages_wide.proofs.blocks.dc_fill.Goals as goal
use Rattle.stages_wide.proofs.blocks.dc_fill.Goals.{After-limited-d, After-limited-g, After-rounded-2}

product_within : {z : ℤ} → Within (2 ^ 22) z → Within (480 * 2 ^ 22) (pos 64 *ℤ z)
product_within h = within_le (omega arith) (within_lit_mul 64 h)

product_fits : {z : ℤ} → Within (2 ^ 22) z → SFits w32 (pos 64 *ℤ z)
product_fits h = within_fits {b = 480 * 2 ^ 22} tt (product_within h)

module _ (c : After-limited-d) where
  source_fits : SFits w32 (get_or c.args.coeff.now 0 (pos 0))
  source_fits = record { sfits = c.limited-arg-1.given }

  d_fits : SFits w32 c.limited-d.result
  d_fits = sfits_of c.limited-d.type_inv

  d_within : Within (2 ^ 22) c.limited-d.result
  d_within = within_eq c.limited-d.ensures (limited_within _ (omega (arith, c.requires.1.range_most)))

d_is : (c : After-limited-d) → c.limited-d.result ≡ limited_at c.args.range c.args.coeff.now 0
d_is c = simp (to_z-of_z, source_fits c) at c.limited-d.ensures

pub overflow_mul-d : goal.overflow_mul-d
overflow_mul-d c = simp (to_z-of_z, d_fits c) (product_fits (d_within c))

pub rounded-requires : goal.rounded-requires
rounded-requires c = (simp (to_z-of_z, d_fits c, product_fits (d_within c)) (product_within (d_within c)), omega arith, omega arith)

module _ (c : After-limited-g) where
  first_fits : SFits w32 c.rounded.result
  first_fits = sfits_of c.rounded.type_inv

  g_fits : SFits w32 c.limited-g.result
  g_fits = sfits_of c.limited-g.type_inv

  g_within : Within (2 ^ 22) c.limited-g.result
  g_within = within_eq c.limited-g.ensures (limited_within _ (omega (arith, c.requires.1.range_most)))

first_is : (c : After-limited-g) → c.rounded.result ≡ round_shift (pos 64 *ℤ limited_at c.args.range c.args.coeff.now 0) 7
first_is c =
    (simp (to_z-of_z, d_fits (goal.at.overflow_mul-g c).After-limited-d, product_fits (d_within (goal.at.overflow_mul-g c).After-limited-d)) at c.rounded.ensures) ∙ ap (λ (z : ℤ). round_shift (pos 64 *ℤ z) 7) (d_is (goal.at.overflow_mul-g c).After-limited-d)

g_is : (c : After-limited-g) → c.limited-g.result ≡ clip_coeff c.args.range (round_shift (pos 64 *ℤ limited_at c.args.range c.args.coeff.now 0) 7)
g_is c = (simp (to_z-of_z, first_fits c) at c.limited-g.ensures) ∙ ap (clip_coeff c.args.range) (first_is c)

pub overflow_mul-g : goal.overflow_mul-g
overflow_mul-g c = simp (to_z-of_z, g_fits c) (product_fits (g_within c))

pub rounded-requires-2 : goal.rounded-requires-2
rounded-requires-2 c =
    (simp (to_z-of_z, g_fits c, product_fits (g_within c)) (product_within (g_within c)), omega (arith, c.requires.1.least), c.requires.1.most)

pub overflow_mul-n : goal.overflow_mul-n
overflow_mul-n c = omega (arith, size_square c.args.n c.requires.0)

module _ (c : After-rounded-2) where
  last_fits : SFits w32 c.rounded-2.result
  last_fits = sfits_of c.rounded-2.type_inv

last_is : (c : After-rounded-2) → c.rounded-2.result ≡ dc_value c.args.coeff.now c.args.range c.args.shift
last_is c =
    (simp (to_z-of_z, g_fits (goal.at.overflow_mul-n c).After-limited-g, product_fits (g_within (goal.at.overflow_mul-n c).After-limited-g)) at c.rounded-2.ensures) ∙ ap (λ (z : ℤ). round_shift (pos 64 *ℤ z) c.args.shift) (g_is (goal.at.overflow_mul-n c).After-limited-g)

pub returns : goal.returns
returns c =
    let k = c.args in
    filled_dc k.n k.range k.shift k.coeff.now (omega (arith, size_bound k.n c.requires.0)) c.requires.2
    (last_is (goal.at.returns c).After-rounded-2) c.requires.1.room (simp (to_z-of_z, last_fits (goal.at.returns c).After-rounded-2) at c.fill.ensures)
