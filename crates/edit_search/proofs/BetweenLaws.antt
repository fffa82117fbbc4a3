-- The statements of specs/Between.antt.
--   test_has, has_test                  the test of a target and what it says
--   gives_between, edit_between         one index: a value gives the target exactly where it lies between the ends
--   edits_lie_between, nothing_wanted   one for each statement
use mathlib.Core.Path.{◌≡◌, sym, ap, subst, ◌∙◌}
use mathlib.Core.Logic.{◌↔◌}
use mathlib.Core.Bool.{Bool, true, false}
use mathlib.Core.List.{List}
use Prim.Native.Nat.{ℕ, ◌+◌, ◌*◌, ◌/◌, ◌%◌, ◌≤◌, ◌<◌}
use native.Mathlib.Nat.{div-add-mod'}
use native.Mathlib.Omega.{arith}
use lib.Arith.{digits_lt}
use lib.IntN.{ℤ, pos, ◌+ℤ◌, ◌-ℤ◌, ◌*ℤ◌}
use lib.ListN.{length, get_or}
use lib.Signed.{◌≤ℤ◌}
use Rattle.integers.proofs.ListsLaws.{overwrite-get_or}
use Rattle.h265.specs.Range.{transform_range, outside_range}
use Rattle.h265.specs.Transform.{block_at, columns_read, row_order, stage_one_sum, intermediate, stage_two_sum, stage_two_shift, residual}
use Rattle.h265.proofs.TransformLaws.{cell_row, cell_column, row_order-at}
use Rattle.transform_1d.specs.declared.Kind.{Kind}
use Rattle.transform_1d.specs.MatrixOf.{matrix_of}
use Rattle.edit_values.specs.declared.Probe.{Probe}
use Rattle.edit_values.specs.Sample.{stage_one_by, sample_by, before, falls}
use Rattle.edit_values.proofs.OrderedLaws.{not_both, sample_ordered, upto_antisym}
use Rattle.edit_values.proofs.ValuesLaws.{passes_between, range_ends}
use Rattle.edit_blocks.specs.Edits.{is_wanted, HasTarget, has_target, edited_residual, gives_target, least_edit, most_edit}
use Rattle.edit_blocks.specs.Work.{edited_by}
use Rattle.edit_blocks.proofs.ChangedLaws.{edited_sample}
use Rattle.edit_blocks.proofs.SieveLaws.{hit_all, all_hit}
use Rattle.edit_search.specs.Found.{Found, edits_found}
use Rattle.edit_search.specs.Between.{has_target_after, EditsLieBetween, NothingWanted}
use Rattle.edit_search.proofs.FoundLaws.{found_passed, found_wrote, edits_ask}

-- ---- the test and the record
module _ (n : ℕ) (e : ℕ → ℕ → ℤ) (target : List ℤ) (wanted : List ℕ) where
  pub test_has : has_target n e target wanted ≡ true → HasTarget n e target wanted
  unfolding block_at
  test_has h =
      record { at = λ m j hm hj w. sym (row_order-at n e m j hj) ∙ (hit_all n e target wanted h (m * n + j) (digits_lt hm hj)).hits w }

  pub has_test : HasTarget n e target wanted → has_target n e target wanted ≡ true
  unfolding block_at row_order
  has_test h = all_hit n e target wanted (λ q l. record { hits = λ w. at_cell q l w })
    where
      whole : (q : ℕ) → q / n * n + q % n ≡ q
      whole q = div-add-mod' q n

      at_cell : (q : ℕ) → q < n * n → is_wanted wanted q ≡ true → e (q / n) (q % n) ≡ get_or target q (pos 0)
      at_cell q l w =
          h.at (q / n) (q % n) (cell_row n q l) (cell_column n q l) (ap (is_wanted wanted) (whole q) ∙ w)
          ∙ ap (λ (i : ℕ). get_or target i (pos 0)) (whole q)

-- ---- what stands between two values that pass, passes
module _ (kind : Kind) (n b : ℕ) (x : Bool) (d target : List ℤ) (wanted : List ℕ) (k c : ℕ) (hk : k < n) (hc : c < n) (long : n * n ≤ length d) where
  abbrev r : ℕ
  r = transform_range b x

  abbrev t : ℕ → ℕ → ℤ
  t = matrix_of kind n

  abbrev old : ℕ → ℕ → ℤ
  old = columns_read n (block_at n d)

  -- what sample (m, j) has of everything but the coefficient's value
  probe : ℕ → ℕ → Probe
  probe m j =
      record {
        range = r;
        shift = stage_two_shift b r;
        entry_one = t k m;
        rest_one = stage_one_sum t n old m c +ℤ (pos 0 -ℤ t k m) *ℤ old k c;
        entry_two = t c j;
        rest_two = stage_two_sum t n (intermediate t n r old) m j +ℤ (pos 0 -ℤ t c j) *ℤ intermediate t n r old m c;
        target = pos 0;
      }

  sample_is : (v : ℤ) (m j : ℕ) → edited_residual kind n b x d (k * n + c) v m j ≡ sample_by (probe m j) v
  unfolding edited_residual residual edited_by sample_by stage_one_by probe
  sample_is v m j = edited_sample t n r (stage_two_shift b r) d k c hk hc (omega (arith, digits_lt {q = k} {m = n} {r = c} {c = n} hk hc)) v m j

  -- a sample that two values give, every value between them gives
  sample_between : {u v w : ℤ} {z : ℤ} (m j : ℕ) → u ≤ℤ v → v ≤ℤ w → edited_residual kind n b x d (k * n + c) u m j ≡ z → edited_residual kind n b x d (k * n + c) w m j ≡ z
      → edited_residual kind n b x d (k * n + c) v m j ≡ z
  sample_between {u} {v} {w} {z} m j a e f g =
      let p : Probe = probe m j in
      let y : ℤ → ℤ = sample_by p in
      let fu : y u ≡ z = sym (sample_is u m j) ∙ f in
      let fw : y w ≡ z = sym (sample_is w m j) ∙ g in
      sample_is v m j
      ∙ upto_antisym (falls p) (y v) z
      (subst (λ (q : ℤ). before (falls p) q (y v) ≡ false) fw (sample_ordered p e))
      (subst (λ (q : ℤ). before (falls p) (y v) q ≡ false) fu (sample_ordered p a))

  pub convex : (u v w : ℤ) → u ≤ℤ v → v ≤ℤ w → gives_target kind n b x d target wanted (k * n + c) u ≡ true → gives_target kind n b x d target wanted (k * n + c) w ≡ true
      → gives_target kind n b x d target wanted (k * n + c) v ≡ true
  unfolding gives_target
  convex u v w a e f g =
      let hu = test_has n _ target wanted f in
      let hw = test_has n _ target wanted g in
      has_test n _ target wanted (record { at = λ m j hm hj s. sample_between m j a e (hu.at m j hm hj s) (hw.at m j hm hj s) })

  -- every value of the range gives the target exactly where it lies between the ends
  pub gives_between : (v : ℤ) → outside_range r v ≡ false
      → (gives_target kind n b x d target wanted (k * n + c) v ≡ true)
      ↔ ((least_edit kind n b x d target wanted (k * n + c) ≤ℤ v) × (v ≤ℤ most_edit kind n b x d target wanted (k * n + c)))
  unfolding least_edit most_edit
  gives_between v inside = passes_between r (gives_target kind n b x d target wanted (k * n + c)) convex v inside

  pub edit_between : (v : ℤ) → outside_range r v ≡ false
      → has_target_after kind n b x d target wanted k c v
      ↔ ((least_edit kind n b x d target wanted (k * n + c) ≤ℤ v) × (v ≤ℤ most_edit kind n b x d target wanted (k * n + c)))
  unfolding gives_target edited_residual
  edit_between v inside =
      let i = gives_between v inside in
      (λ h. i.0 (has_test n _ target wanted h), λ h. test_has n _ target wanted (i.1 h))

  edit_whole : ((i : ℕ) → i < n * n → is_wanted wanted i ≡ false) → (v : ℤ) → gives_target kind n b x d target wanted (k * n + c) v ≡ true
  unfolding gives_target
  edit_whole none v = has_test n _ target wanted (record { at = λ m j hm hj w. absurd (not_both (none (m * n + j) (digits_lt hm hj)) w) })

-- ---- what a call that answered 0 has written
module _ (kind : Kind) (n b : ℕ) (x : Bool) (d target : List ℤ) (wanted : List ℕ) (least most : List ℤ)
    (z : (edits_found kind n b x d target wanted least most).answer.number ≡ 0) (k c : ℕ) (hk : k < n) (hc : c < n) where
  abbrev answer_by : Found
  answer_by = edits_found kind n b x d target wanted least most

  long : n * n ≤ length d
  long = (edits_ask kind n b x d target wanted least most (found_passed kind n b x d target wanted least most z) (found_wrote kind n b x d target wanted least most z).0).coeff

  least_is : block_at n answer_by.least k c ≡ least_edit kind n b x d target wanted (k * n + c)
  unfolding block_at
  least_is =
      ap (λ (f : Found). get_or f.least (k * n + c) (pos 0)) (found_wrote kind n b x d target wanted least most z).1
      ∙ overwrite-get_or (n * n) (least_edit kind n b x d target wanted) least (k * n + c) (pos 0) (digits_lt hk hc)

  most_is : block_at n answer_by.most k c ≡ most_edit kind n b x d target wanted (k * n + c)
  unfolding block_at
  most_is =
      ap (λ (f : Found). get_or f.most (k * n + c) (pos 0)) (found_wrote kind n b x d target wanted least most z).1
      ∙ overwrite-get_or (n * n) (most_edit kind n b x d target wanted) most (k * n + c) (pos 0) (digits_lt hk hc)

  written_between : (v : ℤ) → outside_range (transform_range b x) v ≡ false
      → has_target_after kind n b x d target wanted k c v ↔ ((block_at n answer_by.least k c ≤ℤ v) × (v ≤ℤ block_at n answer_by.most k c))
  written_between v inside = rw (least_is, most_is) (edit_between kind n b x d target wanted k c hk hc long v inside)

pub edits_lie_between : EditsLieBetween
edits_lie_between kind n b x d target wanted least most z k c hk hc v inside = written_between kind n b x d target wanted least most z k c hk hc v inside

pub nothing_wanted : NothingWanted
unfolding least_edit most_edit
nothing_wanted kind n b x d target wanted least most z none k c hk hc =
    let e =
    range_ends (transform_range b x) (gives_target kind n b x d target wanted (k * n + c))
    (edit_whole kind n b x d target wanted k c hk hc (long kind n b x d target wanted least most z k c hk hc) none) in
    (least_is kind n b x d target wanted least most z k c hk hc ∙ e.0, most_is kind n b x d target wanted least most z k c hk hc ∙ e.1)
