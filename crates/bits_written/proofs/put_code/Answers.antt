-- `bits_written::put_code` meets its contract: z zeros, and v + 1 in z + 1 bits.
use native.Mathlib.Omega.{arith}
use Rattle.bits_written.proofs.CodesLaws.{bits_of_length}
use Rattle.bits_written.proofs.PutLaws.{code_put}
use Rattle.bits_written.proofs.put_code.Goals as goal

pub returns : goal.returns
returns c =
    let p = c.put_bits-one in
    let z = c.zeros_of-zeros in
    code_put _ z.result c.requires.0 z.ensures.0 p.ensures c.put_bits.ensures

pub put_bits-requires : goal.put_bits-requires
put_bits-requires c =
    let p = c.put_bits-one in
    let z = c.zeros_of-zeros in
    (omega (arith, z.ensures.1), omega (arith, z.ensures.1, p.ensures.end, bits_of_length z.result 0, p.auto.bits))
