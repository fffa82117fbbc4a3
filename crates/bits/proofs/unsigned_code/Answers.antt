-- `bits::unsigned_code` meets its contract: by the number of leading zeros, and whether the code's last bit is there.
use mathlib.Core.Path.{◌≡◌, sym, ◌∙◌}
use Prim.Native.Nat.{ℕ, ◌+◌, ◌*◌, ◌%◌, ◌^◌, ◌≤◌}
use native.Mathlib.Nat.{one-mul, mod-eq_of_lt}
use native.Mathlib.Omega.{arith}
use lib.Pow.{pow_mono}
use Rattle.bits.proofs.BitsLaws.{bits_number_small}
use Rattle.bits.proofs.ExpGolombLaws.{code_number_lem, code_cut, code_long, code_lost}
use Rattle.bits.proofs.unsigned_code.Goals as goal

-- the shift of 1 loses nothing
power : (z : ℕ) → z ≤ 32 → 1 * 2 ^ z % 18446744073709551616 ≡ 2 ^ z
power z h = rw one-mul (mod-eq_of_lt (omega (arith, pow_mono {i = z} {j = 32} h)))

pub overflow_add-result : goal.overflow_add-result
overflow_add-result c =
    let z = c.leading_zeros-zeros.result in
    let a = c.args in
    omega (arith, pow_mono {i = z} {j = 32} (omega arith), c.bits_number-suffix.ensures, bits_number_small a.bytes.now (a.at + z + 1) z)

pub returns-then-is_there : goal.returns-then-is_there
returns-then-is_there c =
    let l = c in
    let a = l.args in
    (code_number_lem a.bytes.now a.at l.leading_zeros-zeros.result l.leading_zeros-zeros.ensures _ c.bits_number-suffix.result (omega arith) (sym c.is_there.ensures ∙ c.if-is_there.true) (power l.leading_zeros-zeros.result (omega arith)) c.bits_number-suffix.ensures, omega arith)

pub returns-then-zeros-lt33 : goal.returns-then-zeros-lt33
returns-then-zeros-lt33 c =
    let l = c in
    let a = l.args in
    (code_cut a.bytes.now a.at l.leading_zeros-zeros.result l.leading_zeros-zeros.ensures (omega arith) (sym c.is_there.ensures ∙ c.if-is_there.false), tt)

pub returns-then-is_there-2 : goal.returns-then-is_there-2
returns-then-is_there-2 c =
    let l = c in
    let a = l.args in
    (code_long a.bytes.now a.at l.leading_zeros-zeros.result l.leading_zeros-zeros.ensures (omega arith) (sym c.is_there-2.ensures ∙ c.if-is_there-2.true), tt)

pub returns : goal.returns
returns c =
    let l = c in
    let a = l.args in
    (code_lost a.bytes.now a.at l.leading_zeros-zeros.result l.leading_zeros-zeros.ensures (omega arith) (sym c.is_there-2.ensures ∙ c.if-is_there-2.false), tt)
