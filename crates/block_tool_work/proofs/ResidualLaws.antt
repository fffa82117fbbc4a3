-- Laws of calls, refused or not.
--   plain_skip, plain_bypass            without rotation and accumulation: transform skip as it is without the block tools, and the levels
--   skip_refused                        a transform skip that is refused as without the block tools
--   Skipped, skip_done                  what is known of one that is done
--   skip_block, skip_modified           its block can be modified, and is then what the definition says
--   Passes, bypass_passed               what is known of a bypass that is not refused
--   bypass_block, bypass_modified, bypass_refused   the same of a bypass
use Rattle.std.specs.Prelude.{Ok, Err}
use mathlib.Core.Path.{◌≡◌, refl, sym, ap, subst}
use mathlib.Core.Bool.{Bool, true, false, cond}
use mathlib.Core.List.{List, [], ◌∷◌}
use Prim.Native.Nat.{ℕ, ◌*◌, ◌/◌, ◌%◌, ◌^◌, ◌≤◌, ◌<◌}
use native.Mathlib.Nat.{div-add-mod', mod-lt}
use native.Mathlib.Omega.{arith}
use borrow.Author.Tests.{ltb-false}
use lib.Dec.{T, ltb}
use lib.IntN.{ℤ}
use lib.ListN.{length}
use lib.Pow.{pow_mono}
use Rattle.integers.specs.Lists.{overwrite}
use Rattle.integers.specs.Within.{Within}
use Rattle.integers.proofs.BoundLaws.{within_le}
use Rattle.integers.proofs.ListsLaws.{overwrite-length}
use Rattle.h265.specs.Range.{is_size, transform_range, outside_range}
use Rattle.h265.specs.ScalingFactor.{ScalingList}
use Rattle.h265.specs.TransformSkip.{skipped_at}
use Rattle.h265.specs.Limited.{limited_count}
use Rattle.h265.proofs.RangeLaws.{transform_range_most, clip_coeff_id, clip_coeff_within, outside_range_false}
use Rattle.refusal.specs.declared.Refusal.{Refusal}
use Rattle.refusal.specs.declared.Refusal.TheVariants.{SizeInvalid, DepthInvalid, RotationSizeInvalid, InputTooShort, OutputTooShort}
use Rattle.refusal.specs.Condition.{size_refused, depth_refused, rotation_refused, block_refused, bits32}
use Rattle.refusal.specs.Outcome.{Outcome, accepted, refused, answer}
use Rattle.refusal.proofs.ConditionLaws.{size_accepted, depth_accepted, block_room}
use Rattle.refusal.proofs.LadderLaws.{Rung, Passed, first, first_accepted, first_refused, first_passed}
use Rattle.refusal.proofs.LadderLaws.Rung.{rung}
use Rattle.refusal.proofs.RefusalLaws.{number_least}
use Rattle.coefficients.specs.Outside.{first_outside, refusal_at}
use Rattle.coefficients.proofs.OutsideLaws.{first_outside-inside}
use Rattle.scaling_blocks.specs.Blocks.{scaling_ladder, block_written, transform_skipped, CountWritten, CountWrites, left_as_lent, counted}
use Rattle.scaling_values.specs.Given.{entries_of}
use Rattle.scaling_blocks.proofs.BlockLaws.{rungs}
use Rattle.block_tool_rules.specs.declared.Accumulate.{Accumulate}
use Rattle.block_tool_rules.specs.declared.Accumulate.TheVariants.{Off}
use Rattle.block_tool_rules.specs.Modification.{rotated, accumulated, modified}
use Rattle.block_tool_rules.specs.Residual.{Written, Writes, left, wrote, skip_residual_at, skip_residual, bypass_residual_at, bypass_ladder, bypass_residual}
use Rattle.h265.proofs.TransformLaws.{cell_row}
use Rattle.block_tool_work.specs.Work.{at, Block}
use Rattle.block_tool_work.proofs.ModificationLaws.{overwritten_summable, modified_twice}
use Rattle.block_tool_work.proofs.SkipLaws.{skipped_at_within}

-- ---- row 25 in a ladder
without : {A : Type 0} (p q r z : A) (s d t : Bool) → t ≡ false → cond s p (cond d q (cond t r z)) ≡ cond s p (cond d q z)
without p q r z s d t e = ap (λ u. cond s p (cond d q (cond u r z))) e

module _ (a : Accumulate) (t : Bool) (list : ScalingList) (n : ℕ) (q : ℤ) (b : ℕ) (x : Bool) (levels out : List ℤ) where
  pub skip_passed : rotation_refused t n ≡ false
      → skip_residual a t list n q b x levels out ≡ scaling_ladder (left_as_lent out) (counted (limited_count list n b x q levels) (overwrite (n * n) (skip_residual_at a t list n b x q levels) out)) bits32 n b x (entries_of list) (length levels) (length out)
  unfolding skip_residual scaling_ladder
  skip_passed e = without _ _ _ _ (size_refused n) (depth_refused b) (rotation_refused t n) e

-- ---- ladders with another end
module _ (out after x : List ℤ) (m : ℕ) where
  pub refused_still : (y : List ℤ) (e : Refusal) (rs : List Rung) → CountWrites (Err e) after (first (left_as_lent out) (counted m x) rs) → CountWrites (Err e) after (first (left_as_lent out) (counted m y) rs)
  refused_still y e [] w = absurd (let z : ⊥ = omega (arith, number_least e, ap (λ (o : Outcome ℕ). o.number) w.answered) in z)
  refused_still y e (rung true f ∷ rs) w = w
  refused_still y e (rung false f ∷ rs) w = refused_still y e rs w

  pub done_passed : (k : ℕ) (rs : List Rung) → CountWrites (Ok k) after (first (left_as_lent out) (counted m x) rs) → Passed rs × ((after ≡ x) × (k ≡ m))
  done_passed k [] w = (tt, (w.out, ap (λ (o : Outcome ℕ). o.value) w.answered))
  done_passed k (rung true f ∷ rs) w = absurd (let z : ⊥ = omega (arith, number_least f, ap (λ (o : Outcome ℕ). o.number) w.answered) in z)
  done_passed k (rung false f ∷ rs) w = let r = done_passed k rs w in ((refl, r.0), r.1)

pub done_writes : (out y : List ℤ) {after : List ℤ} (rs : List Rung) → Passed rs → after ≡ y → Writes (Ok tt) after (first (left out) (wrote y) rs)
done_writes out y {after} rs p e = subst (λ (w : Written). Writes (Ok tt) after w) (sym (first_passed (left out) (wrote y) rs p)) (record { answered = refl; out = e })

count_writes : (out y : List ℤ) (k m : ℕ) {after : List ℤ} (rs : List Rung) → Passed rs → after ≡ y → k ≡ m → CountWrites (Ok k) after (first (left_as_lent out) (counted m y) rs)
count_writes out y k m {after} rs p e f =
    subst (λ (w : CountWritten). CountWrites (Ok k) after w) (sym (first_passed (left_as_lent out) (counted m y) rs p)) (record { answered = ap accepted f; out = e })

-- ---- transform skip
module _ (a : Accumulate) (t : Bool) (list : ScalingList) (n : ℕ) (q : ℤ) (b : ℕ) (x : Bool) (levels out : List ℤ) where
  -- the residuals without the block tools stand in `mid`, and k coefficients were limited
  pub record Skipped (k : ℕ) (mid : List ℤ) : Type 0 where
    pub size : T (is_size n)
    pub deep : b ≤ 16
    pub rotation : rotation_refused t n ≡ false
    pub room : n * n ≤ length out
    pub passed : Passed (rungs bits32 n b x (entries_of list) (length levels) (length out))
    pub is : mid ≡ overwrite (n * n) (skipped_at list n b x q levels) out
    pub limited : k ≡ limited_count list n b x q levels

  pub skip_done : {k : ℕ} {mid : List ℤ} → rotation_refused t n ≡ false → CountWrites (Ok k) mid (transform_skipped bits32 list n q b x levels out) → Skipped k mid
  unfolding transform_skipped block_written scaling_ladder
  skip_done {k} {mid} e w =
      let p = done_passed out mid (overwrite (n * n) (skipped_at list n b x q levels) out) (limited_count list n b x q levels) k (rungs bits32 n b x (entries_of list) (length levels) (length out)) w in
      let s = p.0 in
      record {
        size = size_accepted n s.0;
        deep = (depth_accepted b s.1.0).1;
        rotation = e;
        room = block_room n (length out) s.1.1.1.1.1.0;
        passed = s;
        is = p.1.0;
        limited = p.1.1;
      }

  pub skip_block : {k : ℕ} {mid : List ℤ} → Skipped k mid → Block t n mid
  skip_block s =
      record {
        size = s.size;
        rotation = s.rotation;
        room = omega (arith, ap length s.is, overwrite-length (n * n) (skipped_at list n b x q levels) out s.room, s.room);
        summable =
            overwritten_summable (n * n) (skipped_at list n b x q levels) out s.is
            (λ i h. within_le (omega arith) (skipped_at_within list n b x q levels i s.size s.deep));
      }

  pub skip_modified : {k : ℕ} {mid after : List ℤ} → Skipped k mid → after ≡ overwrite (n * n) (accumulated a n (rotated t n (at mid))) mid → CountWrites (Ok k) after (skip_residual a t list n q b x levels out)
  unfolding skip_residual_at modified rotated skipped_at scaling_ladder
  skip_modified {k} {after = after} s e =
      subst (λ (w : CountWritten). CountWrites (Ok k) after w) (sym (skip_passed a t list n q b x levels out s.rotation))
      (count_writes out (overwrite (n * n) (skip_residual_at a t list n b x q levels) out) k (limited_count list n b x q levels) (rungs bits32 n b x (entries_of list) (length levels) (length out)) s.passed
      (modified_twice a t n (skipped_at list n b x q levels) out s.is e) s.limited)

  pub skip_refused : {after : List ℤ} (e : Refusal) → rotation_refused t n ≡ false → CountWrites (Err e) after (transform_skipped bits32 list n q b x levels out) → CountWrites (Err e) after (skip_residual a t list n q b x levels out)
  unfolding transform_skipped block_written scaling_ladder
  skip_refused {after} e m w =
      subst (λ (v : CountWritten). CountWrites (Err e) after v) (sym (skip_passed a t list n q b x levels out m))
      (refused_still out after (overwrite (n * n) (skipped_at list n b x q levels) out) (limited_count list n b x q levels) _ e (rungs bits32 n b x (entries_of list) (length levels) (length out)) w)

pub plain_skip : (list : ScalingList) (n : ℕ) (q : ℤ) (b : ℕ) (x : Bool) (levels out : List ℤ) → skip_residual Off false list n q b x levels out ≡ transform_skipped bits32 list n q b x levels out
unfolding transform_skipped block_written skip_residual_at modified rotated skipped_at rotation_refused
plain_skip list n q b x levels out = skip_passed Off false list n q b x levels out refl

pub plain_bypass : (n : ℕ) (levels : List ℤ) (i : ℕ) → bypass_residual_at Off false n levels i ≡ at levels i
unfolding bypass_residual_at modified rotated
plain_bypass n levels i = refl

-- ---- the bypass
abbrev bypass_rungs : Bool → ℕ → ℕ → Bool → List ℤ → ℕ → List Rung
bypass_rungs t n b x levels places =
    rung (size_refused n) SizeInvalid
    ∷ rung (depth_refused b) DepthInvalid
    ∷ rung (rotation_refused t n) RotationSizeInvalid
    ∷ rung (block_refused n (length levels)) InputTooShort
    ∷ rung (block_refused n places) OutputTooShort
    ∷ rung (ltb (first_outside (transform_range b x) n n levels) (n * n)) (refusal_at (transform_range b x) n levels (first_outside (transform_range b x) n n levels))
    ∷ []

-- a level that the search passed
inside_within : (r n : ℕ) (levels : List ℤ) → r ≤ 22 → n * n ≤ first_outside r n n levels → (i : ℕ) → i < n * n → Within 4194304 (at levels i)
inside_within r n levels m h i l =
    let k : i / n < n = cell_row n i l in
    let o = first_outside-inside r n n levels (omega arith) h (i / n) (i % n) k (mod-lt i (omega arith)) in
    let g = outside_range_false r (at levels i) (subst (λ (j : ℕ). outside_range r (at levels j) ≡ false) (div-add-mod' i n) o) in
    within_le (pow_mono m) (subst (λ (z : ℤ). Within (2 ^ r) z) (clip_coeff_id r (at levels i) g.0 g.1) (clip_coeff_within r (at levels i)))

module _ (a : Accumulate) (t : Bool) (n b : ℕ) (x : Bool) (levels out : List ℤ) where
  pub record Passes : Type 0 where
    pub passed : Passed (bypass_rungs t n b x levels (length out))
    pub size : T (is_size n)
    pub rotation : rotation_refused t n ≡ false
    pub input : n * n ≤ length levels
    pub room : n * n ≤ length out
    pub small : (i : ℕ) → i < n * n → Within 4194304 (at levels i)

  pub bypass_passed : answer (Ok tt) ≡ bypass_ladder (refused tt) (accepted tt) t n b x levels (length out) → Passes
  unfolding bypass_ladder
  bypass_passed h =
      let s = (first_accepted tt tt tt (bypass_rungs t n b x levels (length out)) h).0 in
      record {
        passed = s;
        size = size_accepted n s.0;
        rotation = s.1.1.0;
        input = block_room n (length levels) s.1.1.1.0;
        room = block_room n (length out) s.1.1.1.1.0;
        small = inside_within (transform_range b x) n levels (transform_range_most b x (depth_accepted b s.1.0).1) (ltb-false _ (n * n) s.1.1.1.1.1.0);
      }

  pub bypass_block : {mid : List ℤ} → Passes → mid ≡ overwrite (n * n) (at levels) out → Block t n mid
  bypass_block p e =
      record {
        size = p.size;
        rotation = p.rotation;
        room = omega (arith, ap length e, overwrite-length (n * n) (at levels) out p.room, p.room);
        summable = overwritten_summable (n * n) (at levels) out e p.small;
      }

  pub bypass_modified : {mid after : List ℤ} → Passes → mid ≡ overwrite (n * n) (at levels) out → after ≡ overwrite (n * n) (accumulated a n (rotated t n (at mid))) mid
      → Writes (Ok tt) after (bypass_residual a t n b x levels out)
  unfolding bypass_residual bypass_ladder bypass_residual_at modified
  bypass_modified p e f =
      done_writes out (overwrite (n * n) (bypass_residual_at a t n levels) out) (bypass_rungs t n b x levels (length out)) p.passed (modified_twice a t n (at levels) out e f)

  pub bypass_refused : (e : Refusal) → answer (Err e) ≡ bypass_ladder (refused tt) (accepted tt) t n b x levels (length out) → Writes (Err e) out (bypass_residual a t n b x levels out)
  unfolding bypass_residual bypass_ladder
  bypass_refused e h =
      first_refused tt tt (left out) (wrote (overwrite (n * n) (bypass_residual_at a t n levels) out)) (λ w. Writes (Err e) out w) e
      (λ f k. record { answered = k; out = refl }) (bypass_rungs t n b x levels (length out)) h
