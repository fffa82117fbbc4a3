-- `lines_wide::line_4` meets its contract: a kind is the DCT or the DST.
use Rattle.lines_wide.proofs.ValuesLaws.{outputs_dct, outputs_dst}
use Rattle.lines_wide.proofs.line_4.Goals as goal

pub returns-in-Dct : goal.returns-in-Dct
returns-in-Dct c = outputs_dct c.in-Dct.is c.dct_4.ensures

pub returns-in-Dst : goal.returns-in-Dst
returns-in-Dst c = outputs_dst c.in-Dst.is c.dst_4.ensures
