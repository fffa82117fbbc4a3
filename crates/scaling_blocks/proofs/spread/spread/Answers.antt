-- `scaling_blocks::spread::spread` meets its contract: the rows are those of the list, and the DC number is put at index 0 last.
use mathlib.Core.Path.{◌≡◌, ap, sym}
use Prim.Native.Nat.{ℕ, ◌-◌}
use Rattle.h265.specs.Range.{log2_size}
use native.Mathlib.Omega.{arith}
use Rattle.scaling_values.specs.Work.{spread_at}
use Rattle.scaling_values.proofs.FactorLaws.{size_log, log2_large, square_least, factor_first, factor_later}
use Rattle.scaling_blocks.proofs.WorkLaws.{fills_first}
use Rattle.scaling_blocks.proofs.spread.spread.Goals as goal
use Rattle.scaling_blocks.proofs.spread.spread.Goals.{After-ilog2}

pub ilog2-requires : goal.ilog2-requires
ilog2-requires c = omega (arith, c.requires.le_n)

-- the logarithm is the definition's
log_is : (c : After-ilog2) → c.ilog2.result ≡ log2_size c.args.n
log_is c = (size_log c.args.n c.ilog2.result c.requires.whole_list.size c.ilog2.ensures.power_le c.ilog2.ensures.next_power_gt).0

pub overflow_sub-ilog2 : goal.overflow_sub-ilog2
overflow_sub-ilog2 c =
    omega (arith, log_is (goal.at.overflow_sub-ilog2 c).After-ilog2, log2_large c.args.n c.requires.whole_list.size c.requires.le_n)

pub spread_rows-requires : goal.spread_rows-requires
spread_rows-requires c =
    let r = c.requires in
    record {
      rows = record { size = r.whole_list.size; large = r.le_n; repeats = ap (λ (k : ℕ). k - 3) (log_is (goal.at.spread_rows-requires c).After-ilog2) };
      whole = r.whole_list.whole;
      room = r.n_in_bounds;
    }

pub bounds-entries-0 : goal.bounds-entries-0
bounds-entries-0 c =
    omega (arith, c.spread_rows.ensures.same, square_least c.args.n c.requires.le_n, c.requires.n_in_bounds)

pub returns : goal.returns
unfolding spread_at
returns c =
    let a = c.args in
    fills_first c.spread_rows.ensures (omega (arith, square_least a.n c.requires.le_n, c.requires.n_in_bounds))
    (sym (factor_first a.list.now a.dc a.n c.requires.le_n)) (λ k h. sym (factor_later a.list.now a.dc a.n k c.requires.le_n h))
