-- `level_search::find_levels` meets its contract: refused where the numbers of the block are, else as the search of the block hands back.
use mathlib.Core.Path.{◌≡◌}
use lib.ListN.{length}
use Rattle.std.proofs.Common.{rules, Err}
use Rattle.scaling_values.specs.Given.{list_of, entries_of}
use Rattle.refusal.specs.Condition.{bits32}
use Rattle.scaling_blocks.proofs.BlockLaws.{Ready, block_ready}
use Rattle.level_search.proofs.FoundLaws.{levels-refused, levels_found_lem, ready_invertible}
use Rattle.level_search.proofs.find_levels.Goals as goal
use Rattle.level_search.proofs.find_levels.Goals.{In_ok-by}

-- what the numbers answered
ready : (c : In_ok-by)
    → let a = c.args in Ready bits32 a.n a.qp_prime.0 a.precision.bit_depth a.precision.extended (entries_of (list_of a.list)) (length a.coeff.now) (length a.levels.now) c.in_ok-by.by
ready c =
    let a = c.args in
    block_ready bits32 a.n a.qp_prime.0 a.precision.bit_depth a.precision.extended (entries_of (list_of a.list)) (length a.coeff.now) (length a.levels.now) c.in_ok-by.by
    (rw c.len.ensures at c.in_ok-by.ensures)

pub find_block-requires : goal.find_block-requires
find_block-requires c =
    let a = c.args in
    let r = ready (goal.at.find_block-requires c).In_ok-by in
    record { invertible = ready_invertible (list_of a.list) a.n a.qp_prime.0 a.precision.bit_depth a.precision.extended a.coeff.now a.levels.now c.in_ok-by.by r; whole_list = r.whole; room = r.room }

pub returns : goal.returns
returns c =
    let a = c.args in
    levels_found_lem (list_of a.list) a.n a.qp_prime.0 a.precision.bit_depth a.precision.extended a.coeff.now a.levels.now c.in_ok-by.by (ready (goal.at.returns c).In_ok-by) c.find_block.ensures

pub returns-in_err-by : goal.returns-in_err-by
returns-in_err-by c =
    let a = c.args in
    let told : c.from_residual.result ≡ Err c.in_err-by.field-0.0 = search rules in
    rw told
    (levels-refused (list_of a.list) a.n a.qp_prime.0 a.precision.bit_depth a.precision.extended a.coeff.now a.levels.now c.in_err-by.field-0.0 (rw c.len.ensures at c.in_err-by.ensures))
