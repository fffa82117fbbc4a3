-- `list_places::entries_out` meets its contract: the part that is copied has the entries.
use mathlib.Core.List.{List, ◌++◌}
use mathlib.Core.Path.{ap, ◌∙◌}
use native.Mathlib.Omega.{arith}
use Prim.Native.Nat.{ℕ}
use lib.ListN.{drop, length-take, length-drop}
use Rattle.integers.specs.Lists.{overwrite}
use Rattle.list_places.proofs.PlaceLaws.{part_is}
use Rattle.list_places.proofs.entries_out.Goals as goal

pub copy_from_slice-requires : goal.copy_from_slice-requires
copy_from_slice-requires c = simp (length-take, length-drop) (omega arith)

pub returns : goal.returns
unfolding overwrite
returns c =
    let a = c.args in
    ap (λ (xs : List ℕ). xs ++ drop 64 a.out.now) (c.copy_from_slice.ensures.after ∙ part_is a.table.now a.at c.requires.0)
