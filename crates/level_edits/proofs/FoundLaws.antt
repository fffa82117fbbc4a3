-- What a call hands back, case by case.
--   rungs               the conditions of the ladder
--   level-refused       refused by the ladder
--   level_passed        what the ladder's answer 0 says
--   level_done          past the ladder: the edits
--   params_are, params_refused   the numbers of a block that has passed it
--   level_ask           what the search below asks
--   level-wrote         an answer of 0: no condition holds, and both buffers are written
use Rattle.std.specs.Prelude.{Ok, Err}
use mathlib.Core.Path.{◌≡◌, refl, sym, ap, subst, ◌∙◌}
use mathlib.Core.Bool.{Bool, false}
use mathlib.Core.List.{List, [], ◌∷◌}
use Prim.Native.Nat.{ℕ, ◌*◌}
use native.Mathlib.Omega.{arith}
use borrow.Author.Tests.{eqb-true, not-false}
use lib.Dec.{eqb}
use lib.IntN.{ℤ}
use lib.ListN.{length}
use Rattle.integers.specs.Lists.{overwrite}
use Rattle.integers.proofs.ListsLaws.{overwrite_cong}
use Rattle.h265.specs.Range.{log2_size, transform_range, outside_range}
use Rattle.h265.specs.Scaling.{scale_level}
use Rattle.h265.specs.ScalingFactor.{ScalingList}
use Rattle.h265.proofs.RangeLaws.{log2_size_bound, clip_coeff_between}
use Rattle.refusal.specs.declared.Refusal.{Refusal}
use Rattle.refusal.specs.declared.Refusal.TheVariants.{SizeInvalid, DepthInvalid, DstSizeInvalid, ListLengthInvalid, InputTooShort, OutputTooShort}
use Rattle.refusal.specs.Condition.{size_refused, depth_refused, list_refused, block_refused}
use Rattle.refusal.specs.Outcome.{Outcome, accepted, refused, answer}
use Rattle.refusal.proofs.RefusalLaws.{number_least}
use Rattle.refusal.proofs.ConditionLaws.{size_accepted, depth_accepted, block_room}
use Rattle.refusal.proofs.LadderLaws.{Rung, Passed, first_accepted, first_passed, first_refused}
use Rattle.refusal.proofs.LadderLaws.Rung.{rung}
use Rattle.parameters.specs.declared.DequantParams.{DequantParams}
use Rattle.parameters.specs.Answers.{no_dequant}
use Rattle.parameters.specs.Parameters.{dequant_of, dequant_params, KnownSize}
use Rattle.transform_1d.specs.declared.Kind.{Kind}
use Rattle.transform_1d.specs.declared.Kind.TheVariants.{Dct, Dst}
use Rattle.transform_1d.specs.Kinds.{dst_refused}
use Rattle.scaling_values.specs.Level.{listed_level}
use Rattle.scaling_values.proofs.LevelLaws.{listed_level_eq}
use Rattle.scaling_values.specs.Given.{entries_of}
use Rattle.level_search.specs.Work.{Invertible}
use Rattle.least_level.proofs.LevelLaws.{inside_range}
use Rattle.level_search.proofs.FoundLaws.{dequant_of_invertible}
use Rattle.edit_blocks.specs.Ladder.{level_edit_ladder}
use Rattle.edit_search.specs.Found.{Found, left, wrote, Finds}
use Rattle.edit_search.proofs.FoundLaws.{answered_passed}
use Rattle.level_edits.specs.Levels.{least_level_edit, most_level_edit, level_edits_found}
use Rattle.level_edits.specs.Work.{least_level_by, most_level_by, LevelsNeeds}
use Rattle.level_edits.proofs.BlockLaws.{least_is, most_is}

abbrev pub rungs : Kind → ℕ → ℕ → ℕ → ℕ → ℕ → ℕ → ℕ → ℕ → List Rung
rungs kind n b entries levels target wanted least most =
    rung (size_refused n) SizeInvalid
    ∷ rung (depth_refused b) DepthInvalid
    ∷ rung (dst_refused kind n) DstSizeInvalid
    ∷ rung (list_refused entries) ListLengthInvalid
    ∷ rung (block_refused n levels) InputTooShort
    ∷ rung (block_refused n target) InputTooShort
    ∷ rung (block_refused n wanted) InputTooShort
    ∷ rung (block_refused n least) OutputTooShort
    ∷ rung (block_refused n most) OutputTooShort
    ∷ []

-- ---- the numbers of a block
module _ (n : ℕ) (q : ℤ) (b : ℕ) (x : Bool) (size : size_refused n ≡ false) (depth : depth_refused b ≡ false) where
  params : dequant_params n q b x ≡ accepted (dequant_of (log2_size n) q b x)
  unfolding dequant_params
  params = rw (size, depth)

  pub params_are : {by : DequantParams} → accepted by ≡ dequant_params n q b x → by ≡ dequant_of (log2_size n) q b x
  params_are e = ap (λ (o : Outcome DequantParams). o.value) (e ∙ params)

  pub params_refused : {A : Type 0} (why : Refusal) → refused no_dequant why ≡ dequant_params n q b x → A
  params_refused why e = absurd (let y : ⊥ = omega (arith, number_least why, ap (λ (o : Outcome DequantParams). o.number) (e ∙ params)) in y)

  known : KnownSize (log2_size n) b
  known =
      let l = log2_size_bound n (size_accepted n size) in
      let d = depth_accepted b depth in
      record { least = l.0; most = l.1; deep = d.0; shallow = d.1 }

  inside : (m : ℕ) (v : ℤ) → outside_range (transform_range b x) (listed_level (dequant_of (log2_size n) q b x) m v) ≡ false
  inside m v = rw (listed_level_eq (log2_size n) q b x m v) (unfold scale_level in (let c = clip_coeff_between (transform_range b x) _ in inside_range (transform_range b x) _ c.0 c.1))

module _ (list : ScalingList) (kind : Kind) (n : ℕ) (q : ℤ) (b : ℕ) (x : Bool) (levels target : List ℤ) (wanted : List ℕ) (least most : List ℤ) where
  abbrev checks : List Rung
  checks = rungs kind n b (entries_of list) (length levels) (length target) (length wanted) (length least) (length most)

  abbrev written : Found
  written = wrote (overwrite (n * n) (least_level_edit list kind n b x q levels target wanted) least) (overwrite (n * n) (most_level_edit list kind n b x q levels target wanted) most)

  abbrev answer_by : Found
  answer_by = level_edits_found list kind n q b x levels target wanted least most

  pub level-refused : (e : Refusal) → answer (Err e) ≡ level_edit_ladder (refused tt) (accepted tt) kind n b (entries_of list) (length levels) (length target) (length wanted) (length least) (length most)
      → Finds (Err e) least most answer_by
  unfolding level_edits_found level_edit_ladder
  level-refused e h =
      first_refused tt tt (left least most) written (λ w. Finds (Err e) least most w) e (λ f k. record { answered = k; least = refl; most = refl }) checks h

  pub level_passed : answer (Ok tt) ≡ level_edit_ladder (refused tt) (accepted tt) kind n b (entries_of list) (length levels) (length target) (length wanted) (length least) (length most) → Passed checks
  unfolding level_edit_ladder
  level_passed h = (first_accepted tt tt tt checks h).0

  past : Passed checks → answer_by ≡ written
  unfolding level_edits_found level_edit_ladder
  past p = first_passed (left least most) written checks p

  pub level-wrote : answer_by.answer.number ≡ 0 → Passed checks × (answer_by ≡ written)
  unfolding level_edits_found level_edit_ladder
  level-wrote z = let p = answered_passed least most written checks z in (p, past p)

  module _ (p : Passed checks) {by : DequantParams} (e : by ≡ dequant_of (log2_size n) q b x) where
    pub level_done : {low high : List ℤ} → low ≡ overwrite (n * n) (least_level_by by list kind n b x levels target wanted) least
        → high ≡ overwrite (n * n) (most_level_by by list kind n b x levels target wanted) most → Finds (Ok tt) low high answer_by
    level_done l m =
        let long = block_room n (length levels) p.1.1.1.1.0 in
        rw (past p)
        (record {
          answered = refl;
          least = l ∙ ap (λ (y : DequantParams). overwrite (n * n) (least_level_by y list kind n b x levels target wanted) least) e ∙ overwrite_cong (n * n) _ _ least (λ i h. least_is list kind n q b x levels long target wanted i h);
          most = m ∙ ap (λ (y : DequantParams). overwrite (n * n) (most_level_by y list kind n b x levels target wanted) most) e ∙ overwrite_cong (n * n) _ _ most (λ i h. most_is list kind n q b x levels long target wanted i h);
        })

    pub level_ask : LevelsNeeds by kind n b x (entries_of list) (length levels) (length target) (length wanted) (length least) (length most)
    unfolding list_refused
    level_ask =
        record {
          invertible = subst Invertible (sym e) (dequant_of_invertible (log2_size n) q b x (known n q b x p.0 p.1.0));
          inside = λ m v. rw e (inside n q b x p.0 p.1.0 m v);
          list = record { size = size_accepted n p.0; whole = eqb-true (entries_of list) 64 (not-false (eqb (entries_of list) 64) p.1.1.1.0) };
          dst = four kind p.1.1.0;
          depth = depth_accepted b p.1.0;
          given = block_room n (length levels) p.1.1.1.1.0;
          targets = block_room n (length target) p.1.1.1.1.1.0;
          wants = block_room n (length wanted) p.1.1.1.1.1.1.0;
          leasts = block_room n (length least) p.1.1.1.1.1.1.1.0;
          mosts = block_room n (length most) p.1.1.1.1.1.1.1.1.0;
        }
      where
        four : (k : Kind) → dst_refused k n ≡ false → k ≡ Dst → n ≡ 4
        four Dct f q = cc
        four Dst f q = eqb-true n 4 (not-false (eqb n 4) (unfold dst_refused in f))
