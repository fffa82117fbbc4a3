-- `checksum::run_total` meets its contract. The loop's invariant: the sum is what the first k samples add, at most 510 for each.
use Rattle.std.proofs.Common.{◌≡◌, ℕ, ◌+◌, length, sym, ap, ◌∙◌, ap₂, arith}
use Rattle.checksum.specs.Checksum.{total, run_term}
use Rattle.checksum.proofs.ChecksumLaws.{byte_xor, total_zero, total_suc}
use Rattle.checksum.proofs.run_total.Goals as goal

pub loop-k-init : goal.loop-k-init
loop-k-init c = (sym (total_zero _), omega arith, omega arith)

pub overflow_cast-k : goal.overflow_cast-k
overflow_cast-k c = omega arith

pub sample_term-term-requires : goal.sample_term-term-requires
sample_term-term-requires c =
    byte_xor c.loop-k.k c.args.mask (omega arith) (omega arith)

pub overflow_add-sum : goal.overflow_add-sum
overflow_add-sum c = omega (arith, c.sample_term-term.ensures.1)

pub loop-k-preserved : goal.loop-k-preserved
unfolding run_term
loop-k-preserved c =
    (ap₂ ◌+◌ c.loop-k.invariant.0 c.sample_term-term.ensures.0 ∙ sym (total_suc c.loop-k.k _), omega (arith, c.sample_term-term.ensures.1), omega arith)

pub returns : goal.returns
returns c =
    let a = c.args in
    let e : c.loop-k.k ≡ length a.run.now = omega arith in
    (c.loop-k.invariant.0 ∙ ap (λ (m : ℕ). total m (run_term a.bit_depth a.mask a.run.now)) e, omega arith)
