-- `block_tool_work::modify::modify_block` meets its contract: the block is rotated where it is to be, and its sums are those of what then stands there.
use mathlib.Core.Path.{◌≡◌, ap, ◌∙◌}
use Prim.Native.Nat.{◌*◌}
use native.Mathlib.Omega.{arith}
use lib.ListN.{length}
use Rattle.integers.specs.Lists.{overwrite}
use Rattle.integers.proofs.ListsLaws.{overwrite-length}
use Rattle.block_tool_rules.specs.Modification.{rotated, accumulated}
use Rattle.block_tool_work.specs.Work.{at}
use Rattle.block_tool_work.proofs.AccumulationLaws.{accumulated_cong}
use Rattle.block_tool_work.proofs.ModificationLaws.{overwritten_summable, overwritten_twice}
use Rattle.block_tool_work.proofs.RotationLaws.{rotated_within, rotates, rotates_not}
use Rattle.block_tool_work.proofs.modify.modify_block.Goals as goal
use Rattle.block_tool_work.proofs.modify.modify_block.Goals.{Joined-rotate, then-rotate, else-rotate}

-- the block after rotation
mid_is : (c : Joined-rotate) → let a = c.args in c.if-rotate.out ≡ overwrite (a.n * a.n) (rotated a.rotate a.n (at a.out.now)) a.out.now
mid_is c =
    let s = c in
    let a = s.args in
    elim c.if-rotate.branch [
      | then-rotate w ↦ rotates a.n a.out.now a.rotate s.requires.rotation w.if-rotate.true (w.out-is ∙ w.rotate_block.ensures)
      | else-rotate w ↦ rotates_not a.n a.out.now a.rotate w.if-rotate.false s.requires.room w.out-is
    ]

mid_length : (c : Joined-rotate) → length c.if-rotate.out ≡ length c.args.out.now
mid_length c =
    let a = c.args in
    ap length (mid_is c) ∙ overwrite-length (a.n * a.n) (rotated a.rotate a.n (at a.out.now)) a.out.now c.requires.room

pub accumulate_block-requires : goal.accumulate_block-requires
accumulate_block-requires c =
    let j = c in
    let s = j in
    let a = s.args in (
      s.requires.size,
      omega (arith, mid_length (goal.at.accumulate_block-requires c).Joined-rotate, s.requires.room),
      overwritten_summable (a.n * a.n) (rotated a.rotate a.n (at a.out.now)) a.out.now (mid_is (goal.at.accumulate_block-requires c).Joined-rotate) (rotated_within a.rotate a.n (at a.out.now) s.requires.summable.small),
    )

pub returns : goal.returns
returns c =
    let j = c in
    let a = j.args in
    let g = rotated a.rotate a.n (at a.out.now) in
    overwritten_twice (a.n * a.n) g a.out.now (mid_is (goal.at.returns c).Joined-rotate) (accumulated a.accumulate a.n)
    (λ f e i h. accumulated_cong a.accumulate a.n f g e i h) c.accumulate_block.ensures
