-- What transform skip does where nothing is refused.
--   size_ok, block_ok              a size and a buffer that no row refuses
--   no_refusal                     an answer without a number is no refusal
--   skipped_ok, skipped_out        it is not refused, and its output and its count
use Rattle.std.specs.Prelude.{Result, Ok, Err, IsOk}
use mathlib.Core.Path.{◌≡◌, refl, sym, ap, ◌∙◌}
use mathlib.Core.Bool.{Bool, true, false, not}
use mathlib.Core.List.{List}
use Prim.Native.Nat.{ℕ, ◌*◌, ◌≤◌}
use borrow.Author.Tests.{le-ltb}
use lib.Dec.{T}
use lib.IntN.{ℤ}
use lib.ListN.{length}
use Rattle.integers.specs.Lists.{overwrite}
use Rattle.h265.specs.Range.{is_size}
use Rattle.h265.specs.ScalingFactor.{ScalingList}
use Rattle.h265.specs.TransformSkip.{skipped_at}
use Rattle.h265.specs.Limited.{limited_count}
use native.Mathlib.Omega.{arith}
use Rattle.refusal.specs.Outcome.{Outcome, outcome}
use Rattle.refusal.specs.Refusal.{number}
use Rattle.refusal.proofs.RefusalLaws.{number_least}
use Rattle.refusal.specs.Condition.{size_refused, depth_refused, list_refused, block_refused, bits32}
use Rattle.refusal.specs.declared.Refusal.{Refusal}
use Rattle.scaling_blocks.specs.Blocks.{scaling_ladder, block_written, transform_skipped, CountWritten, CountWrites, counted}
use Rattle.scaling_values.specs.Given.{entries_of}
use Rattle.feed_block.specs.Work.{Leaves}

pub size_ok : (n : ℕ) → T (is_size n) → size_refused n ≡ false
unfolding size_refused
size_ok n t = by_test (is_size n) t
  where
    by_test : (b : Bool) → T b → not b ≡ false
    by_test true t = refl
    by_test false t = absurd t

list_ok : (k : ℕ) → k ≡ 64 → list_refused k ≡ false
unfolding list_refused
list_ok k e = rw e

pub block_ok : (n len : ℕ) → n * n ≤ len → block_refused n len ≡ false
unfolding block_refused
block_ok n len h = le-ltb len (n * n) h

pub no_refusal : {A : Type 0} (none : A) (r : Result A Refusal) → (outcome none r).number ≡ 0 → IsOk r
no_refusal none (Ok a) h = refl
no_refusal none (Err why) h = absurd (let z : number why ≡ 0 = h in let f : ⊥ = omega (arith, number_least why, z) in f)

-- a block that nothing refuses
module _ (list : ScalingList) (n : ℕ) (q : ℤ) (b : ℕ) (x : Bool) (levels out : List ℤ)
    (size : T (is_size n)) (depth : depth_refused b ≡ false) (entries : entries_of list ≡ 64)
    (input : n * n ≤ length levels) (output : n * n ≤ length out) where
  done : (at : ℕ → ℤ) → block_written bits32 list n q b x levels out at ≡ counted (limited_count list n b x q levels) (overwrite (n * n) at out)
  unfolding block_written scaling_ladder
  done at = simp (size_ok n size, depth, list_ok (entries_of list) entries, block_ok n (length levels) input, block_ok n (length out) output)

  leaves : {r : (Result ℕ Refusal)} {after : List ℤ} {m : ℕ} (at : ℕ → ℤ) → CountWrites r after (block_written bits32 list n q b x levels out at) → m ≡ (outcome 0 r).value
      → Leaves (limited_count list n b x q levels) at (n * n) out after m
  leaves at w e =
      record { out = w.out ∙ ap (λ (c : CountWritten). c.out) (done at); limited = e ∙ ap (λ (o : Outcome ℕ). o.value) (w.answered ∙ ap (λ (c : CountWritten). c.answer) (done at)) }

  pub skipped_ok : {r : (Result ℕ Refusal)} {after : List ℤ} → CountWrites r after (transform_skipped bits32 list n q b x levels out) → IsOk r
  unfolding transform_skipped
  skipped_ok {r} w = no_refusal 0 r (ap (λ (o : Outcome ℕ). o.number) (w.answered ∙ ap (λ (c : CountWritten). c.answer) (done (skipped_at list n b x q levels))))

  pub skipped_out : {r : (Result ℕ Refusal)} {after : List ℤ} {m : ℕ} → CountWrites r after (transform_skipped bits32 list n q b x levels out) → r ≡ Ok m
      → Leaves (limited_count list n b x q levels) (skipped_at list n b x q levels) (n * n) out after m
  unfolding transform_skipped
  skipped_out w e = leaves (skipped_at list n b x q levels) w (ap (λ (o : Result ℕ Refusal). (outcome 0 o).value) (sym e))
