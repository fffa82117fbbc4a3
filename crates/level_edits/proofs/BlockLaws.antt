-- A block of levels with one level replaced: one coefficient of the scaled block is replaced.
--   same_test           two tests that hold together are one
--   levels-between      the levels that scale to what an index's coefficient may be are those that give the target
--   scaled_replaced     the scaled block with one level replaced
--   front_fits, front_length, scaled_ask, spread_least, spread_most   what the functions of a block leave to show
--   gives_is            so that the machine's numbers give what the definition says
use mathlib.Core.Path.{◌≡◌, refl, sym, ap, subst, fun_ext, ◌∙◌}
use mathlib.Core.Logic.{◌↔◌}
use mathlib.Core.Bool.{Bool, true, false}
use mathlib.Core.List.{List}
use Prim.Native.Nat.{ℕ, ◌*◌, ◌/◌, ◌%◌, ◌≤◌, ◌<◌}
use native.Mathlib.Decide.{ℕ_discrete}
use native.Mathlib.Omega.{arith}
use lib.IntN.{ℤ, pos}
use lib.ListN.{length, get_or, take, set, length-set, replicate, length-replicate}
use lib.Seq.{get_or-set_same, get_or-set_other, ext_get_or, length-take-le}
use lib.Signed.{◌≤ℤ◌}
use lib.Dec.{T}
use Rattle.integers.specs.Lists.{tabulate, overwrite}
use Rattle.integers.proofs.ListsLaws.{tabulate-length, tabulate-get_or, overwrite_cong, overwrite-get_or, overwrite-length, overwrite-take}
use Rattle.h265.specs.Range.{is_size, log2_size, transform_range, outside_range}
use Rattle.h265.specs.Scaling.{scaled_at}
use Rattle.h265.specs.ScalingFactor.{ScalingList, scaling_factor}
use Rattle.h265.specs.Transform.{residual}
use Rattle.h265.proofs.RangeLaws.{size_square}
use Rattle.h265.proofs.TransformLaws.{cell_row, cell_column}
use Rattle.parameters.specs.declared.DequantParams.{DequantParams}
use Rattle.parameters.specs.Parameters.{dequant_of}
use Rattle.transform_1d.specs.declared.Kind.{Kind}
use Rattle.transform_1d.specs.MatrixOf.{matrix_of}
use Rattle.scaling_values.specs.Level.{listed_level}
use Rattle.scaling_values.proofs.LevelLaws.{listed_level_eq}
use Rattle.level_search.specs.Work.{scaling_by}
use Rattle.edit_values.specs.Values.{least_where, most_where}
use Rattle.edit_values.proofs.OrderedLaws.{not_both}
use Rattle.edit_blocks.specs.Edits.{has_target, edited_residual, gives_target, least_edit, most_edit}
use Rattle.edit_blocks.specs.Work.{EditsNeeds}
use Rattle.edit_tables.proofs.TableLaws.{cell_index}
use Rattle.edit_search.proofs.BetweenLaws.{gives_between}
use Rattle.level_edits.specs.Levels.{scaled_block, level_gives, least_level_edit, most_level_edit}
use Rattle.level_edits.specs.Work.{scales_between, least_scaling, most_scaling, scaled_by, gives_by, least_level_by, most_level_by, LevelsNeeds}
use Rattle.level_edits.proofs.PlaceLaws.{between_iff}

same_test : (s t : Bool) → (s ≡ true → t ≡ true) → (t ≡ true → s ≡ true) → s ≡ t
same_test true true f g = refl
same_test true false f g = absurd (not_both refl (f refl))
same_test false true f g = absurd (not_both refl (g refl))
same_test false false f g = refl

pub scaled-length : (by : DequantParams) (list : ScalingList) (n : ℕ) (levels : List ℤ) → length (scaled_by by list n levels) ≡ n * n
unfolding scaled_by
scaled-length by list n levels = tabulate-length (n * n) (λ i. scaling_by by list n i (get_or levels i (pos 0)))

-- ---- what an index's coefficient may be
module _ (by : DequantParams) (list : ScalingList) (kind : Kind) (n b : ℕ) (x : Bool) (levels target : List ℤ) (wanted : List ℕ)
    (inside : (m : ℕ) (v : ℤ) → outside_range (transform_range b x) (listed_level by m v) ≡ false) (i : ℕ) (l : i < n * n) where
  abbrev d : List ℤ
  d = scaled_by by list n levels

  gives_at : (w : ℤ) → outside_range (transform_range b x) w ≡ false
      → (gives_target kind n b x d target wanted i w ≡ true) ↔ ((least_edit kind n b x d target wanted i ≤ℤ w) × (w ≤ℤ most_edit kind n b x d target wanted i))
  gives_at w h =
      subst (λ (q : ℕ). (gives_target kind n b x d target wanted q w ≡ true) ↔ ((least_edit kind n b x d target wanted q ≤ℤ w) × (w ≤ℤ most_edit kind n b x d target wanted q))) (cell_index n i)
      (gives_between kind n b x d target wanted (i / n) (i % n) (cell_row n i l) (cell_column n i l) (omega (arith, scaled-length by list n levels)) w h)

  test_is : (v : ℤ) → scales_between (scaling_by by list n i) (least_edit kind n b x d target wanted i) (most_edit kind n b x d target wanted i) v ≡ gives_by by list kind n b x levels target wanted i v
  unfolding gives_by
  test_is v =
      let a = between_iff (scaling_by by list n i) (least_edit kind n b x d target wanted i) (most_edit kind n b x d target wanted i) v in
      let g = gives_at (scaling_by by list n i v) (in_range v) in
      same_test _ _ (λ h. g.1 (a.0 h)) (λ h. a.1 (g.0 h))
    where
      in_range : (w : ℤ) → outside_range (transform_range b x) (scaling_by by list n i w) ≡ false
      in_range w = unfold scaling_by in inside (scaling_factor list n i) w

  pub least_between : least_scaling (scaling_by by list n i) (transform_range b x) (least_edit kind n b x d target wanted i) (most_edit kind n b x d target wanted i) ≡ least_level_by by list kind n b x levels target wanted i
  unfolding least_scaling least_level_by
  least_between = ap (least_where (transform_range b x)) (fun_ext test_is)

  pub most_between : most_scaling (scaling_by by list n i) (transform_range b x) (least_edit kind n b x d target wanted i) (most_edit kind n b x d target wanted i) ≡ most_level_by by list kind n b x levels target wanted i
  unfolding most_scaling most_level_by
  most_between = ap (most_where (transform_range b x)) (fun_ext test_is)

-- ---- the definition
module _ (list : ScalingList) (kind : Kind) (n : ℕ) (q : ℤ) (b : ℕ) (x : Bool) (levels : List ℤ) (long : n * n ≤ length levels) where
  abbrev by : DequantParams
  by = dequant_of (log2_size n) q b x

  at_is : (xs : List ℤ) (i : ℕ) → scaled_at list n b x q xs i ≡ scaling_by by list n i (get_or xs i (pos 0))
  unfolding scaled_at scaling_by
  at_is xs i = sym (listed_level_eq (log2_size n) q b x (scaling_factor list n i) (get_or xs i (pos 0)))

  pub scaled_replaced : (i : ℕ) → i < n * n → (v : ℤ) → scaled_block list n b x q (set levels i v) ≡ set (scaled_by by list n levels) i (scaling_by by list n i v)
  unfolding scaled_block scaled_by
  scaled_replaced i l v =
      ext_get_or (pos 0) (tabulate (n * n) (scaled_at list n b x q (set levels i v))) (set (tabulate (n * n) old) i (scaling_by by list n i v))
      (tabulate-length (n * n) (scaled_at list n b x q (set levels i v)) ∙ sym (length-set (tabulate (n * n) old) i (scaling_by by list n i v) ∙ tabulate-length (n * n) old)) (λ j h. at j (omega (arith, h, tabulate-length (n * n) (scaled_at list n b x q (set levels i v)))))
    where
      old : ℕ → ℤ
      old j = scaling_by by list n j (get_or levels j (pos 0))

      at : (j : ℕ) → j < n * n → get_or (tabulate (n * n) (scaled_at list n b x q (set levels i v))) j (pos 0) ≡ get_or (set (tabulate (n * n) old) i (scaling_by by list n i v)) j (pos 0)
      at j h =
          tabulate-get_or (n * n) (scaled_at list n b x q (set levels i v)) j (pos 0) h ∙ at_is (set levels i v) j
          ∙ elim (ℕ_discrete j i) [
            | yes e ↦ rw e (ap (scaling_by by list n i) (get_or-set_same levels i v (pos 0) (omega arith)) ∙ sym (get_or-set_same (tabulate (n * n) old) i (scaling_by by list n i v) (pos 0) (omega (arith, tabulate-length (n * n) old))))
            | no e ↦ ap (scaling_by by list n j) (get_or-set_other levels i j v (pos 0) e) ∙ sym (get_or-set_other (tabulate (n * n) old) i j (scaling_by by list n i v) (pos 0) e ∙ tabulate-get_or (n * n) old j (pos 0) h)
          ]

  module _ (target : List ℤ) (wanted : List ℕ) (i : ℕ) (l : i < n * n) where
    pub gives_is : (v : ℤ) → gives_by by list kind n b x levels target wanted i v ≡ level_gives list kind n b x q levels target wanted i v
    unfolding gives_by level_gives gives_target edited_residual
    gives_is v = ap (λ (d : List ℤ). has_target n (residual (matrix_of kind n) n b (transform_range b x) n d) target wanted) (sym (scaled_replaced i l v))

    pub least_is : least_level_by by list kind n b x levels target wanted i ≡ least_level_edit list kind n b x q levels target wanted i
    unfolding least_level_by least_level_edit
    least_is = ap (least_where (transform_range b x)) (fun_ext gives_is)

    pub most_is : most_level_by by list kind n b x levels target wanted i ≡ most_level_edit list kind n b x q levels target wanted i
    unfolding most_level_by most_level_edit
    most_is = ap (most_where (transform_range b x)) (fun_ext gives_is)

-- ---- what the functions of a block leave to show: its coefficients stand at the front of a buffer of 1,024
abbrev zeros : List ℤ
zeros = replicate 1024 (pos 0)

module _ (n : ℕ) (t : T (is_size n)) (f : ℕ → ℤ) {xs : List ℤ} (e : xs ≡ overwrite (n * n) f zeros) where
  pub front_fits : n * n ≤ length xs
  front_fits =
      omega (arith, ap length e ∙ overwrite-length (n * n) f zeros (omega (arith, size_square n t, length-replicate 1024 (pos 0))), size_square n t, length-replicate 1024 (pos 0))

  pub front_length : n * n ≡ length (take (n * n) xs)
  front_length = sym (length-take-le (n * n) xs front_fits)

  front_is : take (n * n) xs ≡ tabulate (n * n) f
  front_is = ap (take (n * n)) e ∙ overwrite-take (n * n) f zeros

module _ (list : ScalingList) {by : DequantParams} {kind : Kind} {n b : ℕ} {x : Bool} {entries levels target wanted least most : ℕ}
    (a : LevelsNeeds by kind n b x entries levels target wanted least most) (given : List ℤ) {xs : List ℤ}
    (e : xs ≡ overwrite (n * n) (λ i. scaling_by by list n i (get_or given i (pos 0))) zeros) where
  block_is : take (n * n) xs ≡ scaled_by by list n given
  unfolding scaled_by
  block_is = front_is n a.list.size (λ i. scaling_by by list n i (get_or given i (pos 0))) e

  pub scaled_ask : {low high : ℕ} → n * n ≤ low → n * n ≤ high → EditsNeeds kind n b x (take (n * n) xs) target wanted low high
  scaled_ask {low} {high} l h =
      subst (λ (d : List ℤ). EditsNeeds kind n b x d target wanted low high) (sym block_is)
      (record {
        size = a.list.size;
        dst = a.dst;
        depth = a.depth;
        coeff = omega (arith, scaled-length by list n given);
        range = in_range;
        targets = a.targets;
        wants = a.wants;
        leasts = l;
        mosts = h;
      })
    where
      scaled_at_lem : (i : ℕ) → i < n * n → get_or (scaled_by by list n given) i (pos 0) ≡ listed_level by (scaling_factor list n i) (get_or given i (pos 0))
      scaled_at_lem i j = unfold scaled_by in unfold scaling_by in tabulate-get_or (n * n) (λ i. scaling_by by list n i (get_or given i (pos 0))) i (pos 0) j

      in_range : (i : ℕ) → i < n * n → outside_range (transform_range b x) (get_or (scaled_by by list n given) i (pos 0)) ≡ false
      in_range i j = rw (scaled_at_lem i j) (a.inside (scaling_factor list n i) (get_or given i (pos 0)))

  module _ (marks : List ℤ) (asked : List ℕ) {low high : List ℤ} {r : ℕ} (range : r ≡ transform_range b x)
      (l : low ≡ overwrite (n * n) (least_edit kind n b x (take (n * n) xs) marks asked) zeros)
      (h : high ≡ overwrite (n * n) (most_edit kind n b x (take (n * n) xs) marks asked) zeros) (out : List ℤ) where
    low_at : (i : ℕ) → i < n * n → get_or low i (pos 0) ≡ least_edit kind n b x (scaled_by by list n given) marks asked i
    low_at i k =
        ap (λ (ys : List ℤ). get_or ys i (pos 0)) l ∙ overwrite-get_or (n * n) (least_edit kind n b x (take (n * n) xs) marks asked) zeros i (pos 0) k
        ∙ ap (λ (d : List ℤ). least_edit kind n b x d marks asked i) block_is

    high_at : (i : ℕ) → i < n * n → get_or high i (pos 0) ≡ most_edit kind n b x (scaled_by by list n given) marks asked i
    high_at i k =
        ap (λ (ys : List ℤ). get_or ys i (pos 0)) h ∙ overwrite-get_or (n * n) (most_edit kind n b x (take (n * n) xs) marks asked) zeros i (pos 0) k
        ∙ ap (λ (d : List ℤ). most_edit kind n b x d marks asked i) block_is

    pub spread_least : overwrite (n * n) (λ i. least_scaling (scaling_by by list n i) r (get_or low i (pos 0)) (get_or high i (pos 0))) out ≡ overwrite (n * n) (least_level_by by list kind n b x given marks asked) out
    spread_least =
        overwrite_cong (n * n) _ _ out
        (λ i k. rw (range, low_at i k, high_at i k) (least_between by list kind n b x given marks asked a.inside i k))

    pub spread_most : overwrite (n * n) (λ i. most_scaling (scaling_by by list n i) r (get_or low i (pos 0)) (get_or high i (pos 0))) out ≡ overwrite (n * n) (most_level_by by list kind n b x given marks asked) out
    spread_most =
        overwrite_cong (n * n) _ _ out
        (λ i k. rw (range, low_at i k, high_at i k) (most_between by list kind n b x given marks asked a.inside i k))
