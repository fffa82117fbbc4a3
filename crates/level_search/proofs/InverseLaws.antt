-- What a search for levels hands back, beside scaling: the statements of specs/Inverse.antt.
--   least_level_is_unique              two levels of least size that give one coefficient are equal
--   refuses_where_a_level_is_missing   past the checks up to 7, a call refuses exactly where some coefficient has no level
--   levels_found_are_least             what a call leaves at an index is the level of least size that gives the coefficient
--   levels_scale_back                  the block that is scaled from the levels found is the block that was given
use mathlib.Core.Path.{◌≡◌, refl, sym, ap, ◌∙◌}
use mathlib.Core.Logic.{◌↔◌}
use mathlib.Core.Bool.{Bool, true, false, cond}
use mathlib.Core.List.{List, [], ◌∷◌}
use Prim.Native.Nat.{ℕ, ◌*◌, ◌≤◌, ◌<◌}
use native.Mathlib.Omega.{arith}
use borrow.Author.Tests.{ltb-true, ltb-false, lt-ltb}
use lib.Dec.{T, ltb}
use lib.IntN.{ℤ, pos}
use lib.ListN.{length, get_or}
use lib.Seq.{ext_get_or}
use Rattle.integers.specs.Lists.{overwrite}
use Rattle.integers.proofs.ListsLaws.{overwrite-length, overwrite-get_or, overwrite-get_or-past}
use Rattle.integers.proofs.SearchLaws.{First, first_where_first}
use Rattle.h265.specs.Range.{is_size, log2_size, transform_range}
use Rattle.h265.proofs.RangeLaws.{log2_size_bound}
use Rattle.h265.specs.Scaling.{scaled_at}
use Rattle.h265.specs.Limited.{limited_count}
use Rattle.h265.specs.ScalingFactor.{ScalingList}
use Rattle.refusal.specs.declared.Refusal.{Refusal}
use Rattle.refusal.specs.Condition.{block_refused, bits32}
use Rattle.refusal.specs.Refusal.{number}
use Rattle.refusal.specs.Written.{Written, left}
use Rattle.refusal.proofs.RefusalLaws.{number_least}
use Rattle.refusal.proofs.LadderLaws.{Rung, Passed, first, first_passed}
use Rattle.refusal.proofs.LadderLaws.Rung.{rung}
use Rattle.parameters.specs.Parameters.{KnownSize}
use Rattle.scaling_blocks.specs.Blocks.{scaling_ladder, block_written, dequantized, left_as_lent, counted}
use Rattle.scaling_values.specs.Given.{entries_of}
use Rattle.scaling_blocks.proofs.BlockLaws.{rungs}
use Rattle.least_level.specs.Level.{LeastLevel}
use Rattle.level_search.specs.Found.{scaling_at, missing_at, first_missing, least_at, block_found, levels_found, Missing}
use Rattle.level_search.specs.Inverse.{checked, LeastLevelIsUnique, RefusesWhereALevelIsMissing, LevelsFoundAreLeast, LevelsScaleBack}
use Rattle.least_level.proofs.LevelLaws.{clash, missing-none, missing-all, least_level_found, least_level_unique}
use Rattle.level_search.proofs.FoundLaws.{scaling_at_scales}

-- a ladder whose number is 0 has passed every rung
first_zero : {A : Type 0} (stop : Refusal → A) (done : A) (n : A → ℕ) → ((e : Refusal) → 1 ≤ n (stop e))
    → (rs : List Rung) → n (first stop done rs) ≡ 0 → Passed rs
first_zero stop done n l [] h = tt
first_zero stop done n l (rung true e ∷ rs) h = absurd (omega (arith, l e, h))
first_zero stop done n l (rung false e ∷ rs) h = (refl, first_zero stop done n l rs h)

overwrite_same : (k : ℕ) (f : ℕ → ℤ) (xs : List ℤ) → k ≤ length xs → ((i : ℕ) → i < k → f i ≡ get_or xs i (pos 0)) → overwrite k f xs ≡ xs
overwrite_same k f xs h e = ext_get_or (pos 0) (overwrite k f xs) xs (overwrite-length k f xs h) (λ i l. by_place i (ltb i k) refl)
  where
    by_place : (i : ℕ) (t : Bool) → ltb i k ≡ t → get_or (overwrite k f xs) i (pos 0) ≡ get_or xs i (pos 0)
    by_place i true d = let l : i < k = ltb-true i k d in overwrite-get_or k f xs i (pos 0) l ∙ e i l
    by_place i false d = overwrite-get_or-past k f xs i (pos 0) (ltb-false i k d)

-- ---- what stands below the checks
module _ (n first : ℕ) (at : ℕ → ℤ) (out : List ℤ) where
  found_number : (t : Bool) → ltb first (n * n) ≡ t → (block_found n first at out).answer.number ≡ cond t 11 0
  unfolding block_found
  found_number true e = rw e
  found_number false e = rw e

  found_wrote : (block_found n first at out).answer.number ≡ 0 → (n * n ≤ first) × ((block_found n first at out).out ≡ overwrite (n * n) at out)
  unfolding block_found
  found_wrote h = by_test (ltb first (n * n)) refl
    where
      by_test : (t : Bool) → ltb first (n * n) ≡ t → (n * n ≤ first) × ((block_found n first at out).out ≡ overwrite (n * n) at out)
      by_test true e = absurd (let y : ⊥ = omega (arith, h, found_number true e) in y)
      by_test false e = (ltb-false first (n * n) e, rw e)

module _ (list : ScalingList) (n : ℕ) (q : ℤ) (b : ℕ) (x : Bool) (coeff out : List ℤ) where
  abbrev checks : List Rung
  checks = rungs bits32 n b x (entries_of list) (length coeff) (length out)

  first_missing_lem : First (n * n) (missing_at list n b x q coeff) (first_missing list n b x q coeff)
  unfolding first_missing
  first_missing_lem = first_where_first (n * n) (missing_at list n b x q coeff)

  missing_index : first_missing list n b x q coeff < n * n → Missing list n b x q coeff
  unfolding missing_at
  missing_index h =
      record {
        index = first_missing list n b x q coeff;
        inside = h;
        none = missing-none _ (transform_range b x) _ (first_missing_lem.holds h);
      }

  index_missing : Missing list n b x q coeff → first_missing list n b x q coeff < n * n
  unfolding missing_at
  index_missing m = by_test (ltb (first_missing list n b x q coeff) (n * n)) refl
    where
      by_test : (t : Bool) → ltb (first_missing list n b x q coeff) (n * n) ≡ t → first_missing list n b x q coeff < n * n
      by_test true e = ltb-true (first_missing list n b x q coeff) (n * n) e
      by_test false e =
          clash
          (first_missing_lem.before.at m.index (omega (arith, m.inside, ltb-false (first_missing list n b x q coeff) (n * n) e)))
          (missing-all _ (transform_range b x) _ m.none)

  past : Passed checks → levels_found list n q b x coeff out ≡ block_found n (first_missing list n b x q coeff) (least_at list n b x q coeff) out
  unfolding levels_found scaling_ladder
  past p = first_passed (left out) _ checks p

  refuses : Passed checks → ((levels_found list n q b x coeff out).answer.number ≡ 0 → ⊥) ↔ Missing list n b x q coeff
  refuses p = (to (ltb k (n * n)) refl, from)
    where
      k : ℕ
      k = first_missing list n b x q coeff

      number_is : (t : Bool) → ltb k (n * n) ≡ t → (levels_found list n q b x coeff out).answer.number ≡ cond t 11 0
      number_is t e = ap (λ (w : Written). w.answer.number) (past p) ∙ found_number n k (least_at list n b x q coeff) out t e

      to : (t : Bool) → ltb k (n * n) ≡ t → ((levels_found list n q b x coeff out).answer.number ≡ 0 → ⊥) → Missing list n b x q coeff
      to true e h = missing_index (ltb-true k (n * n) e)
      to false e h = absurd (h (number_is false e))

      from : Missing list n b x q coeff → (levels_found list n q b x coeff out).answer.number ≡ 0 → ⊥
      from m h = omega (arith, h, number_is true (lt-ltb k (n * n) (index_missing m)))

  -- ---- scaling the levels that were found
  module _ (z : (levels_found list n q b x coeff out).answer.number ≡ 0) where
    passed : Passed checks
    unfolding levels_found scaling_ladder
    passed = first_zero (left out) (block_found n (first_missing list n b x q coeff) (least_at list n b x q coeff) out) (λ (w : Written). w.answer.number) number_least checks z

    abbrev after : List ℤ
    after = (levels_found list n q b x coeff out).out

    written : (n * n ≤ first_missing list n b x q coeff) × (after ≡ overwrite (n * n) (least_at list n b x q coeff) out)
    written =
        let e = past passed in
        let w = found_wrote n (first_missing list n b x q coeff) (least_at list n b x q coeff) out (sym (ap (λ (w : Written). w.answer.number) e) ∙ z) in
        (w.0, ap (λ (w : Written). w.out) e ∙ w.1)

    least_at_lem : (i : ℕ) → i < n * n → LeastLevel (scaling_at list n b x q i) (transform_range b x) (get_or coeff i (pos 0)) (get_or after i (pos 0))
    unfolding missing_at least_at
    least_at_lem i h =
        rw (written.1, overwrite-get_or (n * n) (least_at list n b x q coeff) out i (pos 0) h)
        (least_level_found (scaling_at list n b x q i) (transform_range b x) (get_or coeff i (pos 0)) (first_missing_lem.before.at i (omega (arith, h, written.0))))

    scaled_back : (i : ℕ) → i < n * n → scaled_at list n b x q after i ≡ get_or coeff i (pos 0)
    unfolding scaled_at scaling_at
    scaled_back i h = (least_at_lem i h).gives.scales

    after_length : length after ≡ length out
    unfolding block_refused
    after_length =
        ap length written.1 ∙ overwrite-length (n * n) (least_at list n b x q coeff) out (ltb-false (length out) (n * n) passed.1.1.1.1.1.0)

    scale_back : dequantized bits32 list n q b x after coeff ≡ counted (limited_count list n b x q after) coeff
    unfolding dequantized block_written scaling_ladder block_refused
    scale_back =
        let p = passed in
        first_passed (left_as_lent coeff) (counted (limited_count list n b x q after) (overwrite (n * n) (scaled_at list n b x q after) coeff)) (rungs bits32 n b x (entries_of list) (length after) (length coeff))
        (p.0, (p.1.0, (p.1.1.0, (p.1.1.1.0, (ap (block_refused n) after_length ∙ p.1.1.1.1.1.0, (p.1.1.1.1.0, tt))))))
        ∙ ap (counted (limited_count list n b x q after)) (overwrite_same (n * n) (scaled_at list n b x q after) coeff (ltb-false (length coeff) (n * n) p.1.1.1.1.0) scaled_back)

-- ---- the statements
known_size : (n b : ℕ) → T (is_size n) → (8 ≤ b) × (b ≤ 16) → KnownSize (log2_size n) b
known_size n b t d = let l = log2_size_bound n t in record { least = l.0; most = l.1; deep = d.0; shallow = d.1 }

pub least_level_is_unique : LeastLevelIsUnique
least_level_is_unique list n b x q i t d z v w l k =
    least_level_unique (scaling_at list n b x q i) (transform_range b x) z (scaling_at_scales list n q b x (known_size n b t d) i) v w l k

pub refuses_where_a_level_is_missing : RefusesWhereALevelIsMissing
unfolding checked scaling_ladder
refuses_where_a_level_is_missing list n q b x coeff out h =
    refuses list n q b x coeff out (first_zero number 0 (λ (k : ℕ). k) number_least (rungs bits32 n b x (entries_of list) (length coeff) (length out)) h)

pub levels_scale_back : LevelsScaleBack
levels_scale_back list n q b x coeff out z = scale_back list n q b x coeff out z

pub levels_found_are_least : LevelsFoundAreLeast
levels_found_are_least list n q b x coeff out z = least_at_lem list n q b x coeff out z
