-- The records that C gets, as number, row, column, place and values: what the definitions of the wrapped functions speak of.
--   of_answered        of a call that hands back no value
--   of_count           of a call that scales a block: how many coefficients were limited
--   of_level           of a call that scales one level
--   of_number          of a call that hands back one unsigned number
--   of_qp_prime         QP'
--   of_bits            how many bits were read or written
--   of_stored          the number under which a list was stored
--   of_dequant         the numbers by which a block is scaled
--   of_transform_skip   the same with the shift of transform skip and its rounding
use Rattle.std.specs.Prelude.{ℕ}
use Rattle.refusal.specs.Outcome.{Outcome}
use Rattle.parameters.specs.declared.QpPrime.{QpPrime}
use Rattle.parameters.specs.declared.DequantParams.{DequantParams}
use Rattle.parameters.specs.declared.TransformSkipParams.{TransformSkipParams}
use Rattle.scaling_values.specs.declared.ScaledLevel.{ScaledLevel}
use Rattle.c_api.specs.declared.Answered.{Answered}
use Rattle.c_api.specs.declared.CountAnswered.{CountAnswered}
use Rattle.c_api.specs.declared.LevelAnswered.{LevelAnswered}
use Rattle.c_api.specs.declared.NumberAnswered.{NumberAnswered}
use Rattle.c_api.specs.declared.SignedAnswered.{SignedAnswered}
use Rattle.c_api.specs.declared.BitsAnswered.{BitsAnswered}
use Rattle.c_api.specs.declared.StoreAnswered.{StoreAnswered}
use Rattle.c_api.specs.declared.DequantAnswered.{DequantAnswered}
use Rattle.c_api.specs.declared.TransformSkipAnswered.{TransformSkipAnswered}

abbrev pub of_answered : Answered → Outcome (Unit {0})
of_answered r = record { number = r.number; row = r.row; column = r.column; place = r.place; value = tt }

abbrev pub of_count : CountAnswered → Outcome ℕ
of_count r = record { number = r.number; row = r.row; column = r.column; place = r.place; value = r.limited }

abbrev pub of_level : LevelAnswered → Outcome ScaledLevel
of_level r =
    record {
      number = r.number;
      row = r.row;
      column = r.column;
      place = r.place;
      value = record { value = r.value; level_limited = r.level_limited; result_limited = r.result_limited };
    }

abbrev pub of_number : NumberAnswered → Outcome ℕ
of_number r = record { number = r.number; row = r.row; column = r.column; place = r.place; value = r.value }

abbrev pub of_qp_prime : SignedAnswered → Outcome QpPrime
of_qp_prime r = record { number = r.number; row = r.row; column = r.column; place = r.place; value = record { 0 = r.value } }

abbrev pub of_bits : BitsAnswered → Outcome ℕ
of_bits r = record { number = r.number; row = r.row; column = r.column; place = r.place; value = r.bits }

abbrev pub of_stored : StoreAnswered → Outcome ℕ
of_stored r = record { number = r.number; row = r.row; column = r.column; place = r.place; value = r.stored }

abbrev pub of_dequant : DequantAnswered → Outcome DequantParams
of_dequant r =
    record {
      number = r.number;
      row = r.row;
      column = r.column;
      place = r.place;
      value = record { factor = r.factor; add = r.add; shift = r.shift; clip_min = r.clip_min; clip_max = r.clip_max };
    }

abbrev pub of_transform_skip : TransformSkipAnswered → Outcome TransformSkipParams
of_transform_skip r =
    record {
      number = r.number;
      row = r.row;
      column = r.column;
      place = r.place;
      value = record {
        dequant = record { factor = r.factor; add = r.add; shift = r.shift; clip_min = r.clip_min; clip_max = r.clip_max };
        tr_add = r.tr_add;
        tr_shift = r.tr_shift;
      };
    }
