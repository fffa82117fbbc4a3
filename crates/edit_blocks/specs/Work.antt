-- The search for the values of one coefficient, below the refusals: what its functions hold and find.
-- Letters as in specs/Edits.antt; t matrix, r range, s shift of stage two, k and c row and column of the coefficient, q index of a sample.
--   tables_of s             those that a search reads
--   probe_at                what a sample has of everything but the coefficient's value, read from the tables
--   sampled_by              the samples by it, for a value of the coefficient
--   Hit n e target wanted q   sample q of the residual e has its target, or is not wanted
--   hits_of s k c v q        sample q of the block with v in row k and column c, by the tables of a search
--   Sieved r hit a b from to s   of the places from .. to - 1 of the range those in the span s hit samples a .. b - 1, and no other
--   least_of, most_of r s    the ends of a span as values, 1 and 0 where it is empty
--   least_by, most_by        the least and the most value that give the target at every wanted sample, by the tables
--   edited_by t n r s d i v    the residual of the block with v at index i
--   EditsNeeds               what the search of a whole block asks
use Rattle.std.specs.Prelude.{◌≡◌, Bool, true, false, cond, List, ℕ, ◌-◌, ◌*◌, ◌/◌, ◌%◌, ◌≤◌, ◌<◌, T, ltb, ℤ, pos, ◌+ℤ◌, ◌-ℤ◌, ◌*ℤ◌, length, get_or, set}
use Rattle.h265.specs.Range.{is_size, transform_range, outside_range}
use Rattle.h265.specs.Transform.{block_at, columns_read, row_order, intermediate, stage_two}
use Rattle.transform_1d.specs.declared.Kind.{Kind}
use Rattle.transform_1d.specs.declared.Kind.TheVariants.{Dst}
use Rattle.edit_values.specs.declared.Probe.{Probe}
use Rattle.edit_values.specs.declared.interval.Span.{Span}
use Rattle.edit_values.specs.Values.{value_at, least_where, most_where}
use Rattle.edit_values.specs.Sample.{sample_by}
use Rattle.edit_blocks.specs.declared.search.Search.{Search}
use Rattle.edit_blocks.specs.Needs.{Tables, tables}
use Rattle.edit_blocks.specs.Edits.{is_wanted, has_target}

abbrev pub tables_of : Search → Tables
tables_of s = tables s.matrix.now s.coeff.now s.ones.now s.between.now s.twos.now s.target.now

-- both sums without the coefficient's own product
unfoldable pub probe_at : Tables → ℕ → ℕ → ℕ → ℕ → ℕ → ℕ → ℕ → Probe
probe_at a n r s k c m j =
    let u : ℤ = block_at n a.matrix k m in
    let w : ℤ = block_at n a.matrix c j in
    record {
      range = r;
      shift = s;
      entry_one = u;
      rest_one = block_at n a.ones m c +ℤ (pos 0 -ℤ u) *ℤ block_at n a.coeff k c;
      entry_two = w;
      rest_two = block_at n a.twos m j +ℤ (pos 0 -ℤ w) *ℤ block_at n a.between m c;
      target = block_at n a.target m j;
    }

unfoldable pub sampled_by : Tables → ℕ → ℕ → ℕ → ℕ → ℕ → ℤ → ℕ → ℕ → ℤ
sampled_by a n r s k c v m j = sample_by (probe_at a n r s k c m j) v

pub record Hit (n : ℕ) (e : ℕ → ℕ → ℤ) (target : List ℤ) (wanted : List ℕ) (q : ℕ) : Type 0 where
  pub hits : is_wanted wanted q ≡ true → row_order n e q ≡ get_or target q (pos 0)

abbrev pub hit_by : Tables → List ℕ → ℕ → ℕ → ℕ → ℕ → ℕ → ℤ → ℕ → Type 0
hit_by a wanted n r s k c v q = Hit n (sampled_by a n r s k c v) a.target wanted q

abbrev pub hits_of : Search → ℕ → ℕ → ℤ → ℕ → Type 0
hits_of s k c = hit_by (tables_of s) s.wanted.now s.n s.range s.shift k c

pub record Sieved (r : ℕ) (hit : ℤ → ℕ → Type 0) (a b from to : ℕ) (s : Span) : Type 0 where
  pub least : from ≤ s.from
  pub ordered : s.from ≤ s.to
  pub most : s.to ≤ to
  pub hits : (o : ℕ) → s.from ≤ o → o < s.to → (q : ℕ) → a ≤ q → q < b → hit (value_at r o) q
  pub only : (o : ℕ) → from ≤ o → o < to → ((q : ℕ) → a ≤ q → q < b → hit (value_at r o) q) → (s.from ≤ o) × (o < s.to)

unfoldable pub least_of : ℕ → Span → ℤ
least_of r s = cond (ltb s.from s.to) (value_at r s.from) (pos 1)

unfoldable pub most_of : ℕ → Span → ℤ
most_of r s = cond (ltb s.from s.to) (value_at r (s.to - 1)) (pos 0)

unfoldable pub least_by : Tables → List ℕ → ℕ → ℕ → ℕ → ℕ → ℤ
least_by a wanted n r s i = least_where r (λ v. has_target n (sampled_by a n r s (i / n) (i % n) v) a.target wanted)

unfoldable pub most_by : Tables → List ℕ → ℕ → ℕ → ℕ → ℕ → ℤ
most_by a wanted n r s i = most_where r (λ v. has_target n (sampled_by a n r s (i / n) (i % n) v) a.target wanted)

unfoldable pub edited_by : (ℕ → ℕ → ℤ) → ℕ → ℕ → ℕ → List ℤ → ℕ → ℤ → ℕ → ℕ → ℤ
edited_by t n r s d i v = stage_two t n s (intermediate t n r (columns_read n (block_at n (set d i v))))

-- what the whole search asks: past the refusals
pub record EditsNeeds (kind : Kind) (n b : ℕ) (x : Bool) (d : List ℤ) (target wanted least most : ℕ) : Type 0 where
  pub size : T (is_size n)
  pub dst : kind ≡ Dst → n ≡ 4
  pub depth : (8 ≤ b) × (b ≤ 16)
  pub coeff : n * n ≤ length d
  pub range : (i : ℕ) → i < n * n → outside_range (transform_range b x) (get_or d i (pos 0)) ≡ false
  pub targets : n * n ≤ target
  pub wants : n * n ≤ wanted
  pub leasts : n * n ≤ least
  pub mosts : n * n ≤ most
