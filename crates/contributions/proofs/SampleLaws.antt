-- What a call hands back, case by case.
--   rungs            the conditions of the ladder
--   Asked            what they leave of a call that passes them
--   sample_refused   refused by the ladder
--   sample_passed    what the ladder's answer 0 says
--   sample_asked     and what it gives the functions below
--   sample_done      past the ladder: the buffer as written
--   sample_wrote     an answer of 0: no condition holds, and the buffer is written
use Rattle.std.specs.Prelude.{Ok, Err}
use mathlib.Core.Path.{◌≡◌, refl, ap}
use mathlib.Core.Bool.{true, false, ◌||◌}
use mathlib.Core.List.{List, [], ◌∷◌}
use Prim.Native.Nat.{ℕ, ◌*◌, ◌≤◌, ◌<◌}
use native.Mathlib.Omega.{arith}
use borrow.Author.Tests.{ltb-false, leb-false, eqb-true, not-false}
use lib.Dec.{T, leb, eqb}
use lib.IntN.{ℤ}
use lib.ListN.{length}
use Rattle.integers.specs.Lists.{overwrite}
use Rattle.h265.specs.Range.{is_size}
use Rattle.h265.specs.Transform.{row_order}
use Rattle.refusal.specs.declared.Refusal.{Refusal}
use Rattle.refusal.specs.declared.Refusal.TheVariants.{SizeInvalid, DstSizeInvalid, InputTooShort, OutputTooShort, PlaceOutside}
use Rattle.refusal.specs.Condition.{size_refused, block_refused}
use Rattle.refusal.specs.Outcome.{accepted, refused, answer}
use Rattle.refusal.specs.Written.{Written, left, wrote, Writes}
use Rattle.refusal.proofs.RefusalLaws.{number_least}
use Rattle.refusal.proofs.ConditionLaws.{size_accepted}
use Rattle.refusal.proofs.LadderLaws.{Rung, Passed, first, first_accepted, first_passed, first_refused}
use Rattle.refusal.proofs.LadderLaws.Rung.{rung}
use Rattle.transform_1d.specs.declared.Kind.{Kind}
use Rattle.transform_1d.specs.declared.Kind.TheVariants.{Dct, Dst}
use Rattle.transform_1d.specs.Kinds.{dst_refused}
use Rattle.transform_1d.specs.MatrixOf.{matrix_of}
use Rattle.integers.proofs.TestLaws.{neither}
use Rattle.contributions.specs.Sample.{contribution, sample_ladder, contributed}

abbrev pub rungs : Kind → ℕ → ℕ → ℕ → ℕ → ℕ → List Rung
rungs kind n m j coeff out =
    rung (size_refused n) SizeInvalid
    ∷ rung (dst_refused kind n) DstSizeInvalid
    ∷ rung (block_refused n coeff) InputTooShort
    ∷ rung (block_refused n out) OutputTooShort
    ∷ rung (leb n m || leb n j) PlaceOutside
    ∷ []

pub record Asked (kind : Kind) (n m j given lent : ℕ) : Type 0 where
  pub size : T (is_size n)
  pub dst : kind ≡ Dst → n ≡ 4
  pub coeff : n * n ≤ given
  pub room : n * n ≤ lent
  pub row : m < n
  pub column : j < n

-- a ladder that answered 0 has passed every rung
answered_passed : (out : List ℤ) (done : Written) (rs : List Rung) → (first (left out) done rs).answer.number ≡ 0 → Passed rs
answered_passed out done [] h = tt
answered_passed out done (rung true e ∷ rs) h = absurd (let y : ⊥ = omega (arith, number_least e, h) in y)
answered_passed out done (rung false e ∷ rs) h = (refl, answered_passed out done rs h)

pub sample_asked : {kind : Kind} {n m j coeff out : ℕ} → Passed (rungs kind n m j coeff out) → Asked kind n m j coeff out
unfolding block_refused
sample_asked {kind} {n} {m} {j} {coeff} {out} p =
    let place = neither (leb n m) (leb n j) p.1.1.1.1.0 in
    record {
      size = size_accepted n p.0;
      dst = four kind p.1.0;
      coeff = ltb-false coeff (n * n) p.1.1.0;
      room = ltb-false out (n * n) p.1.1.1.0;
      row = leb-false n m place.0;
      column = leb-false n j place.1;
    }
  where
    four : (k : Kind) → dst_refused k n ≡ false → k ≡ Dst → n ≡ 4
    four Dct f q = cc
    four Dst f q = eqb-true n 4 (not-false (eqb n 4) (unfold dst_refused in f))

module _ (kind : Kind) (n m j : ℕ) (d out : List ℤ) where
  abbrev checks : List Rung
  checks = rungs kind n m j (length d) (length out)

  abbrev written : List ℤ
  written = overwrite (n * n) (row_order n (contribution (matrix_of kind n) n d m j)) out

  pub sample_refused : (e : Refusal) → answer (Err e) ≡ sample_ladder (refused tt) (accepted tt) kind n m j (length d) (length out)
      → Writes (Err e) out (contributed kind n m j d out)
  unfolding contributed sample_ladder
  sample_refused e h =
      first_refused tt tt (left out) (wrote written) (λ w. Writes (Err e) out w) e (λ f k. record { answered = k; out = refl }) checks h

  pub sample_passed : answer (Ok tt) ≡ sample_ladder (refused tt) (accepted tt) kind n m j (length d) (length out) → Passed checks
  unfolding sample_ladder
  sample_passed h = (first_accepted tt tt tt checks h).0

  past : Passed checks → contributed kind n m j d out ≡ wrote written
  unfolding contributed sample_ladder
  past p = first_passed (left out) (wrote written) checks p

  pub sample_done : Passed checks → {after : List ℤ} → after ≡ written → Writes (Ok tt) after (contributed kind n m j d out)
  sample_done p h = rw (past p) (record { answered = refl; out = h })

  pub sample_wrote : (contributed kind n m j d out).answer.number ≡ 0 → Asked kind n m j (length d) (length out) × ((contributed kind n m j d out).out ≡ written)
  unfolding contributed sample_ladder
  sample_wrote z = let p = answered_passed out (wrote written) checks z in (sample_asked p, ap (λ (w : Written). w.out) (past p))
