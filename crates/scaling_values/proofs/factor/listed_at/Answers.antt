-- `scaling_values::factor::listed_at` meets its contract: each arm is a rule of the definition, and every position read is below 64.
use mathlib.Core.Path.{◌≡◌, sym, ◌∙◌, ap}
use Prim.Native.Nat.{ℕ, ◌*◌, ◌≤◌}
use native.Mathlib.Omega.{arith}
use lib.ListN.{get_or}
use Rattle.h265.specs.Range.{log2_size}
use Rattle.h265.specs.ScalingFactor.{repeated_position}
use Rattle.scaling_values.proofs.FactorLaws.{factor_four, factor_eight, factor_dc, factor_repeated, size_rest, position_is, position_inside}
use Rattle.h265.proofs.RangeLaws.{size_else, size_square}
use Rattle.scaling_values.proofs.factor.listed_at.Goals as goal
use Rattle.scaling_values.proofs.factor.listed_at.Goals.{then-n-eq4-via-then-n-eq4, then-n-eq4-via-else-n-eq4+then-n-eq8, After-repeated_position, After-repeated_position-2, Else-n-eq8}

pub bounds-list-index : goal.bounds-list-index
bounds-list-index c = elim c.then-n-eq4.branch [
  | then-n-eq4-via-then-n-eq4 w ↦ omega (arith, c.requires.index_bound, c.requires.whole_list.whole, ap (λ (k : ℕ). k * k) w.if-n-eq4.true)
  | then-n-eq4-via-else-n-eq4+then-n-eq8 w ↦ omega (arith, c.requires.index_bound, c.requires.whole_list.whole, ap (λ (k : ℕ). k * k) w.if-n-eq8.true)
]

pub returns-then-n-eq4 : goal.returns-then-n-eq4
returns-then-n-eq4 c =
    let a = c.args in
    elim c.then-n-eq4.branch [
      | then-n-eq4-via-then-n-eq4 w ↦ sym (factor_four a.list.now a.dc a.n a.index w.if-n-eq4.true)
      | then-n-eq4-via-else-n-eq4+then-n-eq8 w ↦ sym (factor_eight a.list.now a.dc a.n a.index w.if-n-eq4.false w.if-n-eq8.true)
    ]

pub returns-then-index-eq0 : goal.returns-then-index-eq0
returns-then-index-eq0 c =
    let a = c.args in
    sym (factor_dc a.list.now a.dc a.n a.index c.if-n-eq4.false c.if-n-eq8.false c.if-index-eq0.true)

pub repeated_position-requires : goal.repeated_position-requires
repeated_position-requires c = (omega arith, omega arith, omega (arith, c.requires.index_bound, size_square c.args.n c.requires.whole_list.size))

large : (c : Else-n-eq8) → 16 ≤ c.args.n
large c = size_rest c.args.n c.requires.whole_list.size c.if-n-eq4.false c.if-n-eq8.false

-- at size 16: the position that was worked out is the definition's, and lies in the list
at_16 : (c : After-repeated_position) → c.repeated_position.result ≡ repeated_position c.args.n c.args.index
unfolding log2_size
at_16 c = c.repeated_position.ensures ∙ position_is c.args.n c.args.index 4 (sym (ap log2_size c.if-n-eq16.true)) c.if-n-eq16.true

pub bounds-list-repeated_position : goal.bounds-list-repeated_position
bounds-list-repeated_position c =
    omega (
      arith,
      c.requires.whole_list.whole,
      at_16 (goal.at.bounds-list-repeated_position c).After-repeated_position,
      position_inside c.args.n c.args.index c.requires.whole_list.size c.requires.index_bound (large (goal.at.bounds-list-repeated_position c).Else-n-eq8),
    )

pub returns-then-n-eq16 : goal.returns-then-n-eq16
returns-then-n-eq16 c =
    let a = c.args in
    ap (λ (k : ℕ). get_or a.list.now k 0) (at_16 (goal.at.returns-then-n-eq16 c).After-repeated_position)
    ∙ sym (factor_repeated a.list.now a.dc a.n a.index c.if-n-eq4.false c.if-n-eq8.false c.if-index-eq0.false)

pub repeated_position-requires-2 : goal.repeated_position-requires-2
repeated_position-requires-2 c = (omega arith, omega arith, omega (arith, c.requires.index_bound, size_square c.args.n c.requires.whole_list.size))

-- the same at size 32, which is what is left
at_32 : (c : After-repeated_position-2) → c.repeated_position-2.result ≡ repeated_position c.args.n c.args.index
unfolding log2_size
at_32 c =
    let is : c.args.n ≡ 32 = size_else c.args.n c.requires.whole_list.size c.if-n-eq4.false c.if-n-eq8.false c.if-n-eq16.false in
    c.repeated_position-2.ensures ∙ position_is c.args.n c.args.index 5 (sym (ap log2_size is)) is

pub bounds-list-repeated_position-2 : goal.bounds-list-repeated_position-2
bounds-list-repeated_position-2 c =
    omega (
      arith,
      c.requires.whole_list.whole,
      at_32 (goal.at.bounds-list-repeated_position-2 c).After-repeated_position-2,
      position_inside c.args.n c.args.index c.requires.whole_list.size c.requires.index_bound (large (goal.at.bounds-list-repeated_position-2 c).Else-n-eq8),
    )

pub returns : goal.returns
returns c =
    let a = c.args in
    ap (λ (k : ℕ). get_or a.list.now k 0) (at_32 (goal.at.returns c).After-repeated_position-2)
    ∙ sym (factor_repeated a.list.now a.dc a.n a.index c.if-n-eq4.false c.if-n-eq8.false c.if-index-eq0.false)
