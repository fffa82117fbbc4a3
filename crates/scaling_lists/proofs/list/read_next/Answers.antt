-- `scaling_lists::list::read_next` meets its contract: the list that was read stands behind the others.
use mathlib.Core.Path.{◌≡◌, refl}
use Prim.Native.Nat.{◌+◌, ◌-◌, ◌*◌}
use native.Mathlib.Omega.{arith}
use lib.ListN.{length}
use Rattle.std.proofs.lemmas.Slice.{put_mid-paste}
use Rattle.scaling_lists_taken.specs.Lent.{lent_lists}
use Rattle.scaling_lists.proofs.HeldLaws.{grown_got}
use Rattle.scaling_lists.proofs.list.read_next.Goals as goal

pub returns : goal.returns
returns c =
    let a = c.args in
    let h = a.held.now in
    let es = c.read_list.new.entries in
    let long : length es ≡ 64 = c.read_list.array_long in
    let put = put_mid-paste (64 * a.j) (64 * a.j + 64 - 64 * a.j) h.entries c.copy_from_slice.new.self es (length es) c.copy_from_slice.ensures.after (omega arith) refl in
    (rw put (grown_got a.j h.entries h.dcs es c.in_ok-dc.dc long (omega (arith, h.whole.0, c.requires.0)) (omega (arith, h.whole.1, c.requires.0)) (lent_lists a.defaults) a.bytes.now a.at _ c.in_ok-dc.ensures.0), c.in_ok-dc.ensures.1)
