-- `checksum::row_total` meets its contract. The loop's invariant: the sum is what the columns before x add, and x is a multiple of 128,
-- at the end perhaps past the width.
use Rattle.std.proofs.Common.{◌≡◌, ℕ, ◌+◌, ◌-◌, min, List, length, take, drop, sym, ap, ◌∙◌, ap₂, arith}
use Rattle.std.proofs.lemmas.List.{length-take, length-drop}
use Rattle.checksum.specs.Checksum.{total, run_term, column_term, row_total}
use Rattle.checksum.proofs.ChecksumLaws.{xor_mask_lt, total_zero, total_add, total_cong, run_term_eq}
use Rattle.checksum.proofs.row_total.Goals as goal
use Rattle.checksum.proofs.row_total.Goals.{After-run_total-run}

-- a run has no more samples than its end is behind its start
run_length : (from n : ℕ) (plane : List ℕ) → length (take (from + n - from) (drop from plane)) ≡ min n (length plane - from)
run_length from n plane =
    omega (arith, length-take (from + n - from) (drop from plane), length-drop from plane)

pub loop-x-init : goal.loop-x-init
loop-x-init c =
    let a = c.args in
    let e : 0 ≡ min 0 a.width = omega arith in
    (sym (total_zero _) ∙ ap (λ (k : ℕ). total k (column_term a.bit_depth a.first a.y a.plane.now)) e, omega arith, omega arith, omega arith)

pub overflow_cast-x : goal.overflow_cast-x
overflow_cast-x c = omega arith

pub overflow_sub-width : goal.overflow_sub-width
overflow_sub-width c = omega arith

pub run_total-run-requires : goal.run_total-run-requires
run_total-run-requires c = (
  omega (arith, c.min-count.ensures, run_length (c.args.first + c.loop-x.x) c.min-count.result c.args.plane.now),
  rw c.xor_mask-mask.ensures (xor_mask_lt c.loop-x.x c.args.y (omega arith) c.ranges.y.fits),
)

pub overflow_cast-sum : goal.overflow_cast-sum
overflow_cast-sum c = omega (arith, c.run_total-run.ensures.1, c.min-count.ensures, run_length (c.args.first + c.loop-x.x) c.min-count.result c.args.plane.now)

pub overflow_add-sum : goal.overflow_add-sum
overflow_add-sum c = omega (arith, c.run_total-run.ensures.1, c.min-count.ensures, run_length (c.args.first + c.loop-x.x) c.min-count.result c.args.plane.now)

pub loop-x-smaller : goal.loop-x-smaller
loop-x-smaller c = omega arith

-- the sum with a run more
next_is : (c : After-run_total-run)
    → let a = c.args in c.loop-x.sum + c.run_total-run.result ≡ total (min (c.loop-x.x + 128) a.width) (column_term a.bit_depth a.first a.y a.plane.now)
next_is c =
    let a = c.args in
    let x = c.loop-x.x in
    let f = column_term a.bit_depth a.first a.y a.plane.now in
    let whole : min x a.width ≡ x = omega arith in
    let from = a.first + x in
    let n = c.min-count.result in
    let run = take (from + n - from) (drop from a.plane.now) in
    let long : length run ≡ n = omega (arith, c.min-count.ensures, run_length from n a.plane.now) in
    let next : x + c.min-count.result ≡ min (x + 128) a.width = omega (arith, c.min-count.ensures) in
    ap₂ ◌+◌ (c.loop-x.invariant.0 ∙ ap (λ (k : ℕ). total k f) whole)
    (c.run_total-run.ensures.0
    ∙ ap (λ (k : ℕ). total k (run_term a.bit_depth c.xor_mask-mask.result run)) long
    ∙ total_cong n _ (λ k. f (x + k))
    (λ k h. run_term_eq a.bit_depth a.first x a.y (from + n - from) k a.plane.now c.xor_mask-mask.ensures c.loop-x.invariant.2 (omega arith) (omega (arith, c.min-count.ensures))))
    ∙ sym (total_add x n f)
    ∙ ap (λ (k : ℕ). total k f) next

pub loop-x-preserved : goal.loop-x-preserved
loop-x-preserved c =
    (next_is (goal.at.loop-x-preserved c).After-run_total-run, omega (arith, c.run_total-run.ensures.1, c.min-count.ensures, run_length (c.args.first + c.loop-x.x) c.min-count.result c.args.plane.now), omega arith, omega arith)

pub returns : goal.returns
unfolding row_total
returns c =
    let a = c.args in
    c.loop-x.invariant.0 ∙ ap (λ (k : ℕ). total k (column_term a.bit_depth a.first a.y a.plane.now)) (omega arith)

pub returns-2 : goal.returns-2
unfolding row_total
returns-2 c =
    let a = c.args in
    next_is (goal.at.returns-2 c).After-run_total-run ∙ ap (λ (k : ℕ). total k (column_term a.bit_depth a.first a.y a.plane.now)) (omega arith)
