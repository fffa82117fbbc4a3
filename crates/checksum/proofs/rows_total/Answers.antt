-- `checksum::rows_total` meets its contract. The loop's invariant: the sum is that of the first y rows, modulo 2^32.
use Rattle.std.proofs.Common.{ℕ, ◌+◌, ◌*◌, ◌%◌, ◌^◌, ◌<◌, ◌≤◌, sym, ap, ◌∙◌, ap₂, mul-le-mul_right, suc-mul, mul_comm, arith}
use native.Mathlib.Nat.{mod-add-mod}
use Rattle.checksum.specs.Checksum.{total, row_total, picture_checksum}
use Rattle.checksum.proofs.ChecksumLaws.{total_zero, total_suc}
use Rattle.planes.proofs.PictureLaws.{stride_height}
use Rattle.checksum.proofs.rows_total.Goals as goal

pub loop-y-init : goal.loop-y-init
loop-y-init c = (sym (ap (λ (k : ℕ). k % 2 ^ 32) (total_zero _)), omega arith)

pub returns : goal.returns
unfolding picture_checksum
returns c =
    let a = c.args in
    c.loop-y.invariant.0 ∙ ap (λ (m : ℕ). total m (λ k. row_total a.bit_depth a.extent.width (k * a.extent.stride) k a.plane.now) % 2 ^ 32) (omega arith)

pub loop-y-preserved : goal.loop-y-preserved
loop-y-preserved c =
    let a = c.args in
    let f : ℕ → ℕ = λ k. row_total a.bit_depth a.extent.width (k * a.extent.stride) k a.plane.now in (
      ap₂ (λ (s t : ℕ). (s + t) % 2 ^ 32) c.loop-y.invariant.0 c.row_total-row.ensures
          ∙ mod-add-mod (total c.loop-y.y f) (2 ^ 32) (f c.loop-y.y)
          ∙ ap (λ (k : ℕ). k % 2 ^ 32) (sym (total_suc c.loop-y.y f)),
      omega arith,
    )
