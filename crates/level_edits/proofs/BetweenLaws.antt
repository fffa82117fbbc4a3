-- The statement of specs/Between.antt.
--   level_edits_lie_between   scaling keeps the order, so that the levels that give the target stand together
use mathlib.Core.Path.{◌≡◌, refl, sym, ap, ◌∙◌}
use mathlib.Core.Logic.{◌↔◌}
use mathlib.Core.Bool.{Bool, true, false}
use mathlib.Core.List.{List}
use Prim.Native.Nat.{ℕ, ◌+◌, ◌*◌, ◌≤◌, ◌<◌}
use native.Mathlib.Omega.{arith}
use lib.Arith.{digits_lt}
use lib.IntN.{ℤ, pos}
use lib.ListN.{length, get_or}
use lib.Signed.{◌≤ℤ◌}
use Rattle.integers.proofs.ListsLaws.{overwrite-get_or}
use Rattle.h265.specs.Range.{log2_size, transform_range, outside_range}
use Rattle.h265.specs.ScalingFactor.{ScalingList, scaling_factor}
use Rattle.h265.specs.Transform.{block_at}
use Rattle.parameters.specs.declared.DequantParams.{DequantParams}
use Rattle.parameters.specs.Parameters.{dequant_of}
use Rattle.transform_1d.specs.declared.Kind.{Kind}
use Rattle.level_search.specs.Work.{scaling_by}
use Rattle.edit_values.proofs.ValuesLaws.{passes_between}
use Rattle.edit_search.specs.Found.{Found}
use Rattle.edit_search.proofs.BetweenLaws.{test_has, has_test, convex}
use Rattle.refusal.proofs.ConditionLaws.{block_room}
use Rattle.level_edits.specs.Levels.{level_gives, least_level_edit, most_level_edit, level_edits_found}
use Rattle.level_edits.specs.Between.{LevelEditsLieBetween}
use Rattle.level_edits.specs.Work.{scaled_by, gives_by}
use Rattle.level_edits.proofs.BlockLaws.{scaled-length, gives_is}
use Rattle.level_edits.proofs.FoundLaws.{level-wrote, level_ask}

module _ (list : ScalingList) (kind : Kind) (n : ℕ) (q : ℤ) (b : ℕ) (x : Bool) (levels target : List ℤ) (wanted : List ℕ) (least most : List ℤ)
    (z : (level_edits_found list kind n q b x levels target wanted least most).answer.number ≡ 0) (k c : ℕ) (hk : k < n) (hc : c < n) where
  abbrev by : DequantParams
  by = dequant_of (log2_size n) q b x

  abbrev i : ℕ
  i = k * n + c

  inside : i < n * n
  inside = digits_lt hk hc

  long : n * n ≤ length levels
  long = block_room n (length levels) (level-wrote list kind n q b x levels target wanted least most z).0.1.1.1.1.0

  ordered : (u v : ℤ) → u ≤ℤ v → scaling_by by list n i u ≤ℤ scaling_by by list n i v
  unfolding scaling_by
  ordered u v h =
      ((level_ask list kind n q b x levels target wanted least most (level-wrote list kind n q b x levels target wanted least most z).0 {by = by} refl).invertible.scales (scaling_factor list n i)).mono u v h

  test_is : (v : ℤ) → gives_by by list kind n b x levels target wanted i v ≡ level_gives list kind n b x q levels target wanted i v
  test_is v = gives_is list kind n q b x levels long target wanted i inside v

  level_convex : (u v w : ℤ) → u ≤ℤ v → v ≤ℤ w → level_gives list kind n b x q levels target wanted i u ≡ true → level_gives list kind n b x q levels target wanted i w ≡ true
      → level_gives list kind n b x q levels target wanted i v ≡ true
  level_convex u v w a e f g = sym (test_is v) ∙ through (test_is u ∙ f) (test_is w ∙ g)
    where
      through : gives_by by list kind n b x levels target wanted i u ≡ true → gives_by by list kind n b x levels target wanted i w ≡ true → gives_by by list kind n b x levels target wanted i v ≡ true
      through f g = unfold gives_by in convex kind n b x (scaled_by by list n levels) target wanted k c hk hc (omega (arith, scaled-length by list n levels)) _ _ _ (ordered u v a) (ordered v w e) f g

  least_at_lem : block_at n (level_edits_found list kind n q b x levels target wanted least most).least k c ≡ least_level_edit list kind n b x q levels target wanted i
  unfolding block_at
  least_at_lem =
      ap (λ (f : Found). get_or f.least i (pos 0)) (level-wrote list kind n q b x levels target wanted least most z).1
      ∙ overwrite-get_or (n * n) (least_level_edit list kind n b x q levels target wanted) least i (pos 0) inside

  most_at : block_at n (level_edits_found list kind n q b x levels target wanted least most).most k c ≡ most_level_edit list kind n b x q levels target wanted i
  unfolding block_at
  most_at =
      ap (λ (f : Found). get_or f.most i (pos 0)) (level-wrote list kind n q b x levels target wanted least most z).1
      ∙ overwrite-get_or (n * n) (most_level_edit list kind n b x q levels target wanted) most i (pos 0) inside

  test_between : (v : ℤ) → outside_range (transform_range b x) v ≡ false
      → (level_gives list kind n b x q levels target wanted i v ≡ true)
      ↔ ((least_level_edit list kind n b x q levels target wanted i ≤ℤ v) × (v ≤ℤ most_level_edit list kind n b x q levels target wanted i))
  unfolding least_level_edit most_level_edit
  test_between v h = passes_between (transform_range b x) (level_gives list kind n b x q levels target wanted i) level_convex v h

pub level_edits_lie_between : LevelEditsLieBetween
unfolding level_gives
level_edits_lie_between list kind n q b x levels target wanted least most z k c hk hc v h =
    let t = test_between list kind n q b x levels target wanted least most z k c hk hc v h in
    rw (least_at_lem list kind n q b x levels target wanted least most z k c hk hc, most_at list kind n q b x levels target wanted least most z k c hk hc)
    (λ g. t.0 (has_test n _ target wanted g), λ g. test_has n _ target wanted (t.1 g))
