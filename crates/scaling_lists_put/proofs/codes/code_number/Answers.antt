-- `scaling_lists_put::codes::code_number` meets its contract: 2n for -n, and 2n - 1 for n above 0.
use mathlib.Core.Path.{◌≡◌, ◌∙◌}
use Prim.Native.Nat.{◌-◌, ◌*◌}
use native.Mathlib.Omega.{arith}
use Rattle.scaling_lists_put.proofs.PutLaws.{code_below, code_above}
use Rattle.scaling_lists_put.proofs.codes.code_number.Goals as goal

pub returns-then-a-b : goal.returns-then-a-b
returns-then-a-b c = (code_below _ _ c.if-a-b.true, omega arith)

pub returns-then-b-a : goal.returns-then-b-a
returns-then-b-a c = (code_above _ _ (omega arith), omega arith)

pub returns-else-b-a : goal.returns-else-b-a
returns-else-b-a c =
    let a = c.args in
    let z : 0 ≡ 2 * (a.a - a.b) - 1 = omega arith in
    (z ∙ code_above a.a a.b (omega arith), omega arith)
