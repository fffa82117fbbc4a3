-- `transform_1d::dst_refused` meets its contract: by the kind.
use Rattle.transform_1d.specs.Kinds.{dst_refused}
use Rattle.transform_1d.proofs.dst_refused.Goals as goal

pub returns-in-Dct : goal.returns-in-Dct
unfolding dst_refused
returns-in-Dct c = rw c.in-Dct.is

pub returns-in-Dst : goal.returns-in-Dst
unfolding dst_refused
returns-in-Dst c = rw c.in-Dst.is
