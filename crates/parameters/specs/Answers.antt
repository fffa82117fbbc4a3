-- What stands for each answer of this crate where the call is refused: zeros.
--   no_qp_prime, no_dequant, no_transform_skip
use Rattle.std.specs.Prelude.{pos}
use Rattle.parameters.specs.declared.QpPrime.{QpPrime}
use Rattle.parameters.specs.declared.DequantParams.{DequantParams}
use Rattle.parameters.specs.declared.TransformSkipParams.{TransformSkipParams}

abbrev pub no_qp_prime : QpPrime
no_qp_prime = record { 0 = pos 0 }

abbrev pub no_dequant : DequantParams
no_dequant = record { factor = pos 0; add = pos 0; shift = 0; clip_min = pos 0; clip_max = pos 0 }

abbrev pub no_transform_skip : TransformSkipParams
no_transform_skip = record { dequant = no_dequant; tr_add = pos 0; tr_shift = pos 0 }
