-- The tables of a block, and what the search over them has to do with the definition.
--   range_within                  a coefficient in the range is at most 2^22 in size
--   matrix_within                 an entry is at most 90 in size
--   Prepared                      the tables as they are worked out from matrix and coefficients
--   one_ask, ones-within, two_ask, prepared_ask   they are in bounds
--   prepared_sample               a sample by the tables is the residual's, with the coefficient replaced
--   found_least, found_most       so that the ends by the tables are those of the definition
--   written_least, written_most   and what was written
use mathlib.Core.Path.{◌≡◌, sym, ap, subst, fun_ext, ◌∙◌}
use mathlib.Core.Bool.{Bool, false}
use mathlib.Core.List.{List}
use Prim.Native.Nat.{ℕ, ◌+◌, ◌*◌, ◌/◌, ◌%◌, ◌≤◌, ◌<◌}
use native.Mathlib.Omega.{arith}
use lib.Arith.{digits_lt}
use lib.Dec.{T}
use lib.IntN.{ℤ}
use lib.ListN.{length}
use lib.Pow.{pow_mono}
use Rattle.integers.specs.Lists.{overwrite}
use Rattle.integers.specs.Shift.{round_shift}
use Rattle.integers.specs.Within.{Within}
use Rattle.integers.proofs.BoundLaws.{within_le, within_eq}
use Rattle.integers.proofs.ListsLaws.{overwrite_cong}
use Rattle.integers.proofs.SearchLaws.{first_where_cong}
use Rattle.h265.specs.Range.{is_size, transform_range, clip_coeff, outside_range}
use Rattle.h265.specs.Transform.{block_at, columns_read, stage_one_sum, stage_one_value, intermediate, stage_two_sum, stage_two_shift, residual}
use Rattle.h265.proofs.RangeLaws.{size_bound, clip_coeff_within, clip_coeff_id, outside_range_false}
use Rattle.h265.proofs.TransformLaws.{columns_read_in, cell_row, cell_column, row_order_cong}
use Rattle.transform_1d.specs.declared.Kind.{Kind}
use Rattle.transform_1d.specs.declared.Kind.TheVariants.{Dct, Dst}
use Rattle.transform_1d.specs.MatrixOf.{matrix_of}
use Rattle.transform_1d.proofs.MatrixLaws.{trans_matrix_within, dst_matrix_within, transform_line_cong}
use Rattle.edit_values.specs.Values.{least_where, most_where}
use Rattle.edit_values.specs.Sample.{stage_one_by, sample_by}
use Rattle.edit_blocks.specs.Edits.{misses_at, has_target, edited_residual, gives_target, least_edit, most_edit}
use Rattle.edit_tables.specs.Tables.{Holds, StageNeeds}
use Rattle.edit_blocks.specs.Needs.{Tables, tables, TablesNeeds}
use Rattle.edit_blocks.specs.Work.{probe_at, sampled_by, least_by, most_by, edited_by}
use Rattle.edit_tables.proofs.TableLaws.{cell_index, line_within}
use Rattle.edit_blocks.proofs.ChangedLaws.{edited_sample}

pub matrix_within : (kind : Kind) (n k m : ℕ) → Within 90 (matrix_of kind n k m)
unfolding matrix_of
matrix_within Dct n k m = trans_matrix_within n k m
matrix_within Dst n k m = dst_matrix_within k m

pub range_within : (r : ℕ) (z : ℤ) → r ≤ 22 → outside_range r z ≡ false → Within 4194304 z
range_within r z h e =
    let b = outside_range_false r z e in
    within_le (pow_mono {i = r} {j = 22} h) (within_eq (sym (clip_coeff_id r z b.0 b.1)) (clip_coeff_within r z))

pub record Prepared (kind : Kind) (n r : ℕ) (d ts ds ones gs twos : List ℤ) : Type 0 where
  pub size : T (is_size n)
  pub range : r ≤ 22
  pub inside : (k c : ℕ) → k < n → c < n → Within 4194304 (block_at n d k c)
  pub matrix : Holds n (matrix_of kind n) ts
  pub coeff : Holds n (block_at n d) ds
  pub one : Holds n (stage_one_sum (block_at n ts) n (block_at n ds)) ones
  pub between : Holds n (λ m c. clip_coeff r (round_shift (block_at n ones m c) 7)) gs
  pub two : Holds n (stage_two_sum (block_at n ts) n (block_at n gs)) twos

-- ---- bounds
module _ (kind : Kind) {n : ℕ} {ts : List ℤ} (size : T (is_size n)) (m : Holds n (matrix_of kind n) ts) where
  entry_within : (k j : ℕ) → k < n → j < n → Within 90 (block_at n ts k j)
  entry_within k j hk hj = within_eq (m.at k j hk hj) (matrix_within kind n k j)

  pub stage_ask : {xs : List ℤ} {g : ℕ → ℕ → ℤ} → Holds n g xs → ((k c : ℕ) → k < n → c < n → Within 4194304 (g k c)) → StageNeeds n ts xs
  stage_ask h f =
      record {
        size = size;
        matrix = m.long;
        values = h.long;
        entries = entry_within;
        reads = λ k c hk hc. within_eq (h.at k c hk hc) (f k c hk hc);
      }

pub one_within : {n : ℕ} {ts ds ones : List ℤ} → StageNeeds n ts ds → Holds n (stage_one_sum (block_at n ts) n (block_at n ds)) ones
    → (m c : ℕ) → m < n → c < n → Within 12079595520 (block_at n ones m c)
one_within {n} {ts} {ds} a h m c hm hc = within_eq (h.at m c hm hc) (unfold stage_one_sum in line_within (block_at n ts) n (λ k. block_at n ds k c) m (size_bound n a.size).1 (λ k l. a.entries k m l hm) (λ k l. a.reads k c l hc))

pub two_within : {n : ℕ} {ts gs twos : List ℤ} → StageNeeds n ts gs → Holds n (stage_two_sum (block_at n ts) n (block_at n gs)) twos
    → (m j : ℕ) → m < n → j < n → Within 12079595520 (block_at n twos m j)
two_within {n} {ts} {gs} a h m j hm hj = within_eq (h.at m j hm hj) (unfold stage_two_sum in line_within (block_at n ts) n (λ c. block_at n gs m c) j (size_bound n a.size).1 (λ k l. a.entries k j l hj) (λ k l. a.reads m k hm l))

pub between_within : (r : ℕ) (z : ℤ) → r ≤ 22 → Within 4194304 (clip_coeff r z)
between_within r z h = within_le (pow_mono {i = r} {j = 22} h) (clip_coeff_within r z)

module _ {kind : Kind} {n r : ℕ} {d ts ds ones gs twos : List ℤ} (h : Prepared kind n r d ts ds ones gs twos) where
  one_ask : StageNeeds n ts ds
  one_ask = stage_ask kind h.size h.matrix h.coeff h.inside

  two_ask : StageNeeds n ts gs
  two_ask = stage_ask kind h.size h.matrix h.between (λ m c hm hc. between_within r _ h.range)

  pub prepared_ask : {target : List ℤ} {s w : ℕ} → (1 ≤ s) × (s ≤ 12) → n * n ≤ length target → n * n ≤ w → TablesNeeds (tables ts ds ones gs twos target) n r s w
  prepared_ask f t w =
      record {
        size = h.size;
        range = h.range;
        matrix = h.matrix.long;
        coeff = h.coeff.long;
        ones = h.one.long;
        between = h.between.long;
        twos = h.two.long;
        target = t;
        wanted = w;
        entries = one_ask.entries;
        values = one_ask.reads;
        sums = one_within one_ask h.one;
        inside = two_ask.reads;
        sums_two = two_within two_ask h.two;
        shift = f;
      }

  -- ---- samples
  abbrev t : ℕ → ℕ → ℤ
  t = matrix_of kind n

  abbrev old : ℕ → ℕ → ℤ
  old = columns_read n (block_at n d)

  old_is : (k c : ℕ) → k < n → c < n → block_at n ds k c ≡ old k c
  old_is k c hk hc = h.coeff.at k c hk hc ∙ sym (columns_read_in n (block_at n d) k c hc)

  one_is : (m c : ℕ) → m < n → c < n → block_at n ones m c ≡ stage_one_sum t n old m c
  unfolding stage_one_sum
  one_is m c hm hc =
      h.one.at m c hm hc ∙ transform_line_cong (block_at n ts) t n (λ k. block_at n ds k c) (λ k. old k c) m (λ k l. h.matrix.at k m l hm) (λ k l. old_is k c l hc)

  between_is : (m c : ℕ) → m < n → c < n → block_at n gs m c ≡ intermediate t n r old m c
  unfolding intermediate stage_one_value
  between_is m c hm hc = h.between.at m c hm hc ∙ ap (λ (z : ℤ). clip_coeff r (round_shift z 7)) (one_is m c hm hc)

  two_is : (m j : ℕ) → m < n → j < n → block_at n twos m j ≡ stage_two_sum t n (intermediate t n r old) m j
  unfolding stage_two_sum
  two_is m j hm hj =
      h.two.at m j hm hj ∙ transform_line_cong (block_at n ts) t n (λ c. block_at n gs m c) (λ c. intermediate t n r old m c) j (λ c l. h.matrix.at c j l hj) (λ c l. between_is m c hm l)

  module _ (s : ℕ) (target : List ℤ) (k c : ℕ) (hk : k < n) (hc : c < n) (long : n * n ≤ length d) (v : ℤ) where
    pub prepared_sample : (m j : ℕ) → m < n → j < n → sampled_by (tables ts ds ones gs twos target) n r s k c v m j ≡ edited_by t n r s d (k * n + c) v m j
    unfolding sampled_by sample_by stage_one_by probe_at
    prepared_sample m j hm hj =
        rw (h.matrix.at k m hk hm, h.matrix.at c j hc hj, one_is m c hm hc, old_is k c hk hc, two_is m j hm hj, between_is m c hm hc)
        (sym (edited_sample t n r s d k c hk hc (omega (arith, digits_lt {q = k} {m = n} {r = c} {c = n} hk hc)) v m j))

-- ---- the ends
has_target_cong : (n : ℕ) (e f : ℕ → ℕ → ℤ) (target : List ℤ) (wanted : List ℕ) → ((m j : ℕ) → m < n → j < n → e m j ≡ f m j) → has_target n e target wanted ≡ has_target n f target wanted
unfolding has_target misses_at
has_target_cong n e f target wanted h =
    rw (first_where_cong (n * n) (misses_at n e target wanted) (misses_at n f target wanted) (λ q l. rw (row_order_cong n e f h q l)))

module _ {kind : Kind} {n : ℕ} (b : ℕ) (x : Bool) {d ts ds ones gs twos : List ℤ} (h : Prepared kind n (transform_range b x) d ts ds ones gs twos)
    (target : List ℤ) (wanted : List ℕ) (long : n * n ≤ length d) (i : ℕ) (l : i < n * n) where
  abbrev a : Tables
  a = tables ts ds ones gs twos target

  abbrev s : ℕ
  s = stage_two_shift b (transform_range b x)

  gives_is : (v : ℤ) → has_target n (sampled_by a n (transform_range b x) s (i / n) (i % n) v) target wanted ≡ gives_target kind n b x d target wanted i v
  unfolding gives_target edited_residual residual edited_by
  gives_is v =
      has_target_cong n _ _ target wanted (λ m j hm hj. prepared_sample h s target (i / n) (i % n) (cell_row n i l) (cell_column n i l) long v m j hm hj)
      ∙ ap (λ (q : ℕ). has_target n (edited_by (matrix_of kind n) n (transform_range b x) s d q v) target wanted) (cell_index n i)

  pub found_least : least_by a wanted n (transform_range b x) s i ≡ least_edit kind n b x d target wanted i
  unfolding least_by least_edit
  found_least = ap (least_where (transform_range b x)) (fun_ext gives_is)

  pub found_most : most_by a wanted n (transform_range b x) s i ≡ most_edit kind n b x d target wanted i
  unfolding most_by most_edit
  found_most = ap (most_where (transform_range b x)) (fun_ext gives_is)

-- what was written by the tables, for the range that code worked out
module _ {kind : Kind} {n : ℕ} (b : ℕ) (x : Bool) {r : ℕ} {d ts ds ones gs twos : List ℤ} (e : r ≡ transform_range b x) (h : Prepared kind n r d ts ds ones gs twos)
    (target : List ℤ) (wanted : List ℕ) (long : n * n ≤ length d) (out : List ℤ) where
  prepared_at : Prepared kind n (transform_range b x) d ts ds ones gs twos
  prepared_at = subst (λ (q : ℕ). Prepared kind n q d ts ds ones gs twos) e h

  pub written_least : overwrite (n * n) (least_by (tables ts ds ones gs twos target) wanted n r (stage_two_shift b r)) out ≡ overwrite (n * n) (least_edit kind n b x d target wanted) out
  written_least =
      ap (λ (q : ℕ). overwrite (n * n) (least_by (tables ts ds ones gs twos target) wanted n q (stage_two_shift b q)) out) e
      ∙ overwrite_cong (n * n) _ _ out (λ i l. found_least b x prepared_at target wanted long i l)

  pub written_most : overwrite (n * n) (most_by (tables ts ds ones gs twos target) wanted n r (stage_two_shift b r)) out ≡ overwrite (n * n) (most_edit kind n b x d target wanted) out
  written_most =
      ap (λ (q : ℕ). overwrite (n * n) (most_by (tables ts ds ones gs twos target) wanted n q (stage_two_shift b q)) out) e
      ∙ overwrite_cong (n * n) _ _ out (λ i l. found_most b x prepared_at target wanted long i l)
