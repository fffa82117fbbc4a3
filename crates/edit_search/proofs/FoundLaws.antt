-- What a call hands back, case by case.
--   rungs               the conditions of the ladder
--   without_list        with 64 entries the ladder of a search for levels is that of a search for coefficients
--   edits_refused       refused by the ladder
--   edits_passed        what the ladder's answer 0 says
--   edits_outside, edits_done   past the ladder: a coefficient outside the range, or the edits
--   edits_ask           what the search below asks
--   answered_passed     a ladder that answered 0 has passed every rung
--   found_wrote         an answer of 0: no condition holds, and both buffers are written
use Rattle.std.specs.Prelude.{Ok, Err}
use mathlib.Core.Path.{◌≡◌, refl, sym, ap, ◌∙◌}
use mathlib.Core.Bool.{Bool, true, false}
use mathlib.Core.List.{List, [], ◌∷◌}
use Prim.Native.Nat.{ℕ, ◌*◌, ◌%◌, ◌≤◌, ◌<◌}
use native.Mathlib.Omega.{arith}
use borrow.Author.Tests.{ltb-false, lt-ltb, eqb-true, not-false}
use lib.Dec.{ltb, eqb}
use lib.IntN.{ℤ, pos}
use lib.ListN.{length, get_or}
use Rattle.integers.specs.Lists.{overwrite}
use Rattle.integers.proofs.SearchLaws.{first_where_first}
use Rattle.h265.specs.Range.{transform_range, outside_range}
use Rattle.h265.proofs.TransformLaws.{cell_column}
use Rattle.refusal.specs.declared.Refusal.{Refusal}
use Rattle.refusal.specs.declared.Refusal.TheVariants.{SizeInvalid, DepthInvalid, DstSizeInvalid, InputTooShort, OutputTooShort}
use Rattle.refusal.specs.Condition.{size_refused, depth_refused, list_refused, block_refused}
use Rattle.refusal.specs.Outcome.{accepted, refused, answer}
use Rattle.refusal.proofs.RefusalLaws.{number_least}
use Rattle.refusal.proofs.ConditionLaws.{size_accepted, depth_accepted, block_room}
use Rattle.refusal.proofs.LadderLaws.{Rung, Passed, first, first_accepted, first_passed, first_refused}
use Rattle.refusal.proofs.LadderLaws.Rung.{rung}
use Rattle.transform_1d.specs.declared.Kind.{Kind}
use Rattle.transform_1d.specs.declared.Kind.TheVariants.{Dct, Dst}
use Rattle.transform_1d.specs.Kinds.{dst_refused}
use Rattle.coefficients.specs.Outside.{outside_at, first_outside, refusal_at}
use Rattle.edit_blocks.specs.Edits.{least_edit, most_edit}
use Rattle.edit_blocks.specs.Ladder.{level_edit_ladder}
use Rattle.edit_blocks.specs.Work.{EditsNeeds}
use Rattle.edit_search.specs.Found.{Found, left, wrote, Finds, edit_ladder, block_found, edits_found}

abbrev pub rungs : Kind → ℕ → ℕ → ℕ → ℕ → ℕ → ℕ → ℕ → List Rung
rungs kind n b coeff target wanted least most =
    rung (size_refused n) SizeInvalid
    ∷ rung (depth_refused b) DepthInvalid
    ∷ rung (dst_refused kind n) DstSizeInvalid
    ∷ rung (block_refused n coeff) InputTooShort
    ∷ rung (block_refused n target) InputTooShort
    ∷ rung (block_refused n wanted) InputTooShort
    ∷ rung (block_refused n least) OutputTooShort
    ∷ rung (block_refused n most) OutputTooShort
    ∷ []

pub without_list : {A : Type 0} (stop : Refusal → A) (go : A) (kind : Kind) (n b coeff target wanted least most : ℕ)
    → level_edit_ladder stop go kind n b 64 coeff target wanted least most ≡ edit_ladder stop go kind n b coeff target wanted least most
unfolding level_edit_ladder edit_ladder list_refused
without_list stop go kind n b coeff target wanted least most = refl

-- a ladder that answered 0 has passed every rung
pub answered_passed : (low high : List ℤ) (done : Found) (rs : List Rung) → (first (left low high) done rs).answer.number ≡ 0 → Passed rs
answered_passed low high done [] h = tt
answered_passed low high done (rung true e ∷ rs) h = absurd (let y : ⊥ = omega (arith, number_least e, h) in y)
answered_passed low high done (rung false e ∷ rs) h = (refl, answered_passed low high done rs h)

inside-at : (r n : ℕ) (d : List ℤ) → n * n ≤ first_outside r n n d → (i : ℕ) → i < n * n → outside_range r (get_or d i (pos 0)) ≡ false
unfolding first_outside outside_at
inside-at r n d h i l =
    let f = (first_where_first (n * n) (outside_at r n n d)).before.at i (omega arith) in
    rw (lt-ltb (i % n) n (cell_column n i l)) at f

module _ (kind : Kind) (n b : ℕ) (x : Bool) (d target : List ℤ) (wanted : List ℕ) (least most : List ℤ) where
  abbrev checks : List Rung
  checks = rungs kind n b (length d) (length target) (length wanted) (length least) (length most)

  abbrev answer_by : Found
  answer_by = edits_found kind n b x d target wanted least most

  pub edits_refused : (e : Refusal) → answer (Err e) ≡ edit_ladder (refused tt) (accepted tt) kind n b (length d) (length target) (length wanted) (length least) (length most)
      → Finds (Err e) least most answer_by
  unfolding edits_found edit_ladder
  edits_refused e h =
      first_refused tt tt (left least most) (block_found kind n b x d target wanted least most) (λ w. Finds (Err e) least most w) e
      (λ f k. record { answered = k; least = refl; most = refl }) checks h

  pub edits_passed : answer (Ok tt) ≡ edit_ladder (refused tt) (accepted tt) kind n b (length d) (length target) (length wanted) (length least) (length most) → Passed checks
  unfolding edit_ladder
  edits_passed h = (first_accepted tt tt tt checks h).0

  past : Passed checks → answer_by ≡ block_found kind n b x d target wanted least most
  unfolding edits_found edit_ladder
  past p = first_passed (left least most) (block_found kind n b x d target wanted least most) checks p

  pub edits_outside : Passed checks → ltb (first_outside (transform_range b x) n n d) (n * n) ≡ true → {e : Refusal} → e ≡ refusal_at (transform_range b x) n d (first_outside (transform_range b x) n n d)
      → Finds (Err e) least most answer_by
  unfolding block_found
  edits_outside p h q = rw (past p, h) (record { answered = ap (λ (e : Refusal). answer (Err e)) q; least = refl; most = refl })

  pub edits_done : Passed checks → ltb (first_outside (transform_range b x) n n d) (n * n) ≡ false → {low high : List ℤ}
      → low ≡ overwrite (n * n) (least_edit kind n b x d target wanted) least → high ≡ overwrite (n * n) (most_edit kind n b x d target wanted) most
      → Finds (Ok tt) low high answer_by
  unfolding block_found
  edits_done p h l m = rw (past p, h) (record { answered = refl; least = l; most = m })

  pub edits_ask : Passed checks → ltb (first_outside (transform_range b x) n n d) (n * n) ≡ false → EditsNeeds kind n b x d (length target) (length wanted) (length least) (length most)
  edits_ask p h =
      record {
        size = size_accepted n p.0;
        dst = four kind p.1.1.0;
        depth = depth_accepted b p.1.0;
        coeff = block_room n (length d) p.1.1.1.0;
        range = inside-at (transform_range b x) n d (ltb-false (first_outside (transform_range b x) n n d) (n * n) h);
        targets = block_room n (length target) p.1.1.1.1.0;
        wants = block_room n (length wanted) p.1.1.1.1.1.0;
        leasts = block_room n (length least) p.1.1.1.1.1.1.0;
        mosts = block_room n (length most) p.1.1.1.1.1.1.1.0;
      }
    where
      four : (k : Kind) → dst_refused k n ≡ false → k ≡ Dst → n ≡ 4
      four Dct f q = cc
      four Dst f q = eqb-true n 4 (not-false (eqb n 4) (unfold dst_refused in f))

  -- ---- an answer of 0
  module _ (z : answer_by.answer.number ≡ 0) where
    pub found_passed : Passed checks
    unfolding edits_found edit_ladder
    found_passed = answered_passed least most (block_found kind n b x d target wanted least most) checks z

    pub found_wrote : (ltb (first_outside (transform_range b x) n n d) (n * n) ≡ false)
        × (answer_by ≡ wrote (overwrite (n * n) (least_edit kind n b x d target wanted) least) (overwrite (n * n) (most_edit kind n b x d target wanted) most))
    unfolding block_found
    found_wrote = by_test (ltb (first_outside (transform_range b x) n n d) (n * n)) refl
      where
        by_test : (t : Bool) → ltb (first_outside (transform_range b x) n n d) (n * n) ≡ t
            → (ltb (first_outside (transform_range b x) n n d) (n * n) ≡ false)
            × (answer_by ≡ wrote (overwrite (n * n) (least_edit kind n b x d target wanted) least) (overwrite (n * n) (most_edit kind n b x d target wanted) most))
        by_test true e =
            let w = past found_passed in
            absurd (let y : ⊥ = omega (arith, number_least (refusal_at (transform_range b x) n d (first_outside (transform_range b x) n n d)), sym (ap (λ (f : Found). f.answer.number) (rw e at w)) ∙ z) in y)
        by_test false e = (e, rw e at (past found_passed))
