-- Laws of a call on a block, of every width and with or without a list: what its numbers answer, what is known below the
-- refusals, and what the working functions' lists are in clause 8.6's terms.
--   refused_params, passed_params   what the ladder without its numbers says of the one with them
--   Ready, block_ready   what holds once the numbers are there
--   ready_regular, ready_listed   the numbers are regular, and listable where R = 15
--   narrow_ends, narrow_shift   of a 16-bit output: the range's ends fit 16 bits, and t > 0
--   ready_ends, ready_rounds, ready_scalable   the same of either output, and all that scaling relies on
--   ladder_ready         what holds behind the ladder
--   numbers_is, numbers_given, numbers_ok, skip_ok   behind it the numbers are the block's, and none is refused
--   scaled_counted, scaled_within   by these numbers the coefficients are those of the definition, and small
--   block_told           what was written and counted is what the definition says
--   block_refused_lem    a call that is refused hands back that refusal and the output as lent
use Rattle.std.specs.Prelude.{Result, Ok, Err, IsOk}
use mathlib.Core.Path.{◌≡◌, refl, sym, ap, subst, ◌∙◌}
use mathlib.Core.Bool.{Bool, true, false, ◌&&◌}
use mathlib.Core.List.{List, [], ◌∷◌}
use Prim.Native.Nat.{ℕ, ◌+◌, ◌*◌, ◌≤◌}
use native.Mathlib.Omega.{arith}
use lib.Dec.{lit<}
use lib.IntN.{ℤ, pos, neg_ℤ, ◌-ℤ◌}
use lib.ListN.{length, get_or}
use lib.Signed.{◌≤ℤ◌}
use mir.Syntax.{w16}
use Rattle.integers.specs.Lists.{overwrite}
use Rattle.integers.proofs.LinearLaws.{parts_add, parts_neg, le_out}
use Rattle.integers.specs.Within.{Within}
use Rattle.integers.proofs.BoundLaws.{within_out, within_eq}
use Rattle.integers.proofs.ListsLaws.{overwrite_cong}
use Rattle.h265.specs.Range.{log2_size, transform_range, coeff_min, coeff_max}
use Rattle.h265.specs.ScalingFactor.{ScalingList, scaling_factor}
use Rattle.h265.specs.Scaling.{scaled_at}
use Rattle.h265.specs.Limited.{limited_at, limited_count}
use Rattle.h265.specs.TransformSkip.{ts_shift}
use Rattle.h265.proofs.RangeLaws.{transform_range_least, transform_range_depth, size_square}
use Rattle.refusal.specs.declared.Refusal.{Refusal}
use Rattle.refusal.specs.declared.Refusal.TheVariants.{SizeInvalid, DepthInvalid, WidthTooNarrow, ListLengthInvalid, InputTooShort, OutputTooShort}
use Rattle.refusal.specs.Condition.{size_refused, depth_refused, width_refused, list_refused, block_refused}
use Rattle.refusal.specs.Outcome.{Outcome, accepted, refused, outcome}
use Rattle.refusal.proofs.RefusalLaws.{number_least}
use Rattle.refusal.proofs.ConditionLaws.{size_accepted, width_accepted, block_room, list_whole}
use Rattle.parameters.specs.declared.DequantParams.{DequantParams}
use Rattle.parameters.specs.declared.TransformSkipParams.{TransformSkipParams}
use Rattle.parameters.specs.Answers.{no_dequant, no_transform_skip}
use Rattle.parameters.specs.Parameters.{dequant_params, dequant_of, transform_skip_of, transform_skip_params, KnownSize}
use Rattle.parameters.proofs.ParametersLaws.{known_accepted}
use Rattle.scaling_blocks.specs.Blocks.{scaling_ladder, block_answer, not_refused, block_params, block_written, output_width, CountWritten, CountWrites, left_as_lent, counted}
use Rattle.scaling_values.specs.Given.{entries_of}
use Rattle.scaling_values.specs.Factor.{WholeList}
use Rattle.scaling_values.specs.Level.{Ends}
use Rattle.scaling_values.specs.Flat.{Regular}
use Rattle.scaling_values.specs.Long.{Listed}
use Rattle.scaling_values.specs.Skip.{Skippable}
use Rattle.scaling_values.specs.Work.{listed_at, listed_limited_at, Counted, Room}
use Rattle.refusal.proofs.LadderLaws.{Rung, Passed, first_accepted, first_passed, first_refused, with_value}
use Rattle.refusal.proofs.LadderLaws.Rung.{rung}
use Rattle.scaling_blocks.specs.Each.{Scalable}
use Rattle.scaling_blocks.proofs.WorkLaws.{listed_at_within}
use Rattle.scaling_values.proofs.FlatLaws.{dequant_of_regular}
use Rattle.scaling_values.proofs.LongLaws.{dequant_of-listed}
use Rattle.scaling_values.proofs.CountLaws.{count_cong}
use Rattle.scaling_values.proofs.LevelLaws.{manageable_ends, dequant_of_manageable, listed_level_eq, listed_limited_eq}

abbrev pub rungs : Bool → ℕ → ℕ → Bool → ℕ → ℕ → ℕ → List Rung
rungs narrow n b x entries levels places =
    rung (size_refused n) SizeInvalid
    ∷ rung (depth_refused b) DepthInvalid
    ∷ rung (narrow && width_refused b x) WidthTooNarrow
    ∷ rung (list_refused entries) ListLengthInvalid
    ∷ rung (block_refused n levels) InputTooShort
    ∷ rung (block_refused n places) OutputTooShort
    ∷ []

-- ---- the ladder without its numbers
abbrev refused_by : Refusal → Outcome (Unit {0})
refused_by e = refused tt e

module _ (narrow : Bool) (n : ℕ) (q : ℤ) (b : ℕ) (x : Bool) (entries levels places : ℕ) where
  pub refused_params : (e : Refusal) → refused_by e ≡ block_answer narrow n b x entries levels places
      → refused no_transform_skip e ≡ block_params narrow n q b x entries levels places
  unfolding block_params scaling_ladder
  refused_params e h =
      first_refused tt tt (refused no_transform_skip) (accepted (transform_skip_of (log2_size n) q b x)) (λ w. refused no_transform_skip e ≡ w) e
      (λ f k. with_value no_transform_skip e f k) (rungs narrow n b x entries levels places) h

  passed_is : not_refused ≡ block_answer narrow n b x entries levels places → accepted (transform_skip_of (log2_size n) q b x) ≡ block_params narrow n q b x entries levels places
  unfolding block_params scaling_ladder
  passed_is h =
      sym (first_passed (refused no_transform_skip) (accepted (transform_skip_of (log2_size n) q b x)) (rungs narrow n b x entries levels places) (first_accepted tt tt tt (rungs narrow n b x entries levels places) h).0)

  params_is : size_refused n ≡ false → depth_refused b ≡ false → transform_skip_params n q b x ≡ accepted (transform_skip_of (log2_size n) q b x)
  unfolding transform_skip_params
  params_is s d = rw (s, d)

  pub passed_params : not_refused ≡ block_answer narrow n b x entries levels places → transform_skip_params n q b x ≡ block_params narrow n q b x entries levels places
  unfolding scaling_ladder
  passed_params h =
      let s = (first_accepted tt tt tt (rungs narrow n b x entries levels places) h).0 in
      params_is s.0 s.1.0 ∙ passed_is h

-- ---- accepted
transform_skip_of_skippable : (l : ℕ) (q : ℤ) (b : ℕ) (x : Bool) → KnownSize l b → Skippable (transform_skip_of l q b x)
unfolding transform_skip_of ts_shift
transform_skip_of_skippable l q b x k =
    let r : ℕ = transform_range b x in
    record {
      scaling = dequant_of_manageable l q b x k;
      shift =
          within_out (pos r -ℤ pos (b + l))
          (omega (arith, k, parts_add (pos r) (neg_ℤ (pos (b + l))), parts_neg (pos (b + l)), transform_range_least b x, transform_range_depth b x k.deep));
      add = refl;
    }

pub record Ready (narrow : Bool) (n : ℕ) (q : ℤ) (b : ℕ) (x : Bool) (entries levels places : ℕ) (p : TransformSkipParams) : Type 0 where
  pub passed : Passed (rungs narrow n b x entries levels places)
  pub is : p ≡ transform_skip_of (log2_size n) q b x
  pub known : KnownSize (log2_size n) b
  pub skippable : Skippable p
  pub room : Room (n * n) levels places
  pub whole : WholeList entries n
  pub square : n * n ≤ 1024

pub block_ready : (narrow : Bool) (n : ℕ) (q : ℤ) (b : ℕ) (x : Bool) (entries levels places : ℕ) (p : TransformSkipParams)
    → accepted p ≡ block_params narrow n q b x entries levels places → Ready narrow n q b x entries levels places p
unfolding block_params scaling_ladder
block_ready narrow n q b x entries levels places p h =
    let a = first_accepted no_transform_skip (transform_skip_of (log2_size n) q b x) p (rungs narrow n b x entries levels places) h in
    let s = a.0 in
    let size = size_accepted n s.0 in
    let known = known_accepted n b s.0 s.1.0 in
    record {
      passed = s;
      is = a.1;
      known = known;
      skippable = subst Skippable (sym a.1) (transform_skip_of_skippable (log2_size n) q b x known);
      room = record { levels = block_room n levels s.1.1.1.1.0; places = block_room n places s.1.1.1.1.1.0 };
      whole = record { size = size; whole = list_whole entries s.1.1.1.0 };
      square = size_square n size;
    }

pub ready_regular : {narrow : Bool} {n : ℕ} {q : ℤ} {b : ℕ} {x : Bool} {entries levels places : ℕ} {p : TransformSkipParams}
    → Ready narrow n q b x entries levels places p → Regular p.dequant
unfolding transform_skip_of
ready_regular {n = n} {q} {b} {x} r =
    subst (λ (s : TransformSkipParams). Regular s.dequant) (sym r.is) (dequant_of_regular (log2_size n) q b x r.known)

pub ready_listed : {narrow : Bool} {n : ℕ} {q : ℤ} {b : ℕ} {x : Bool} {entries levels places : ℕ} {p : TransformSkipParams}
    → Ready narrow n q b x entries levels places p → Listed p.dequant
unfolding transform_skip_of
ready_listed {n = n} {q} {b} {x} r =
    subst (λ (s : TransformSkipParams). Listed s.dequant) (sym r.is) (dequant_of-listed (log2_size n) q b x r.known)

-- ---- 16-bit output
plain_ends : (l : ℕ) (q : ℤ) (b : ℕ) → Ends w16 (dequant_of l q b false)
unfolding dequant_of transform_range coeff_min coeff_max
plain_ends l q b = record { least = record { sfits = lit< tt }; most = record { sfits = lit< tt } }

plain_shift : (l b : ℕ) → l ≤ 5 → b ≤ 9 → pos 1 ≤ℤ ts_shift (transform_range b false) b l
unfolding ts_shift transform_range
plain_shift l b h k =
    le_out (pos 1) (pos 15 -ℤ pos (b + l)) (omega (arith, parts_add (pos 15) (neg_ℤ (pos (b + l))), parts_neg (pos (b + l))))

module _ (n : ℕ) (q : ℤ) (b : ℕ) (x : Bool) (entries levels places : ℕ) (p : TransformSkipParams) (r : Ready true n q b x entries levels places p) where
  narrow_ends : Ends w16 p.dequant
  unfolding transform_skip_of
  narrow_ends =
      let w = width_accepted b x r.passed.1.1.0 in
      subst (λ (s : TransformSkipParams). Ends w16 s.dequant) (sym r.is)
      (subst (λ (y : Bool). Ends w16 (dequant_of (log2_size n) q b y)) (sym w.1) (plain_ends (log2_size n) q b))

  narrow_shift : pos 1 ≤ℤ p.tr_shift
  unfolding transform_skip_of
  narrow_shift =
      let w = width_accepted b x r.passed.1.1.0 in
      subst (λ (s : TransformSkipParams). pos 1 ≤ℤ s.tr_shift) (sym r.is)
      (subst (λ (y : Bool). pos 1 ≤ℤ ts_shift (transform_range b y) b (log2_size n)) (sym w.1) (plain_shift (log2_size n) b r.known.most w.0))

-- ---- either output
pub ready_ends : (narrow : Bool) {n : ℕ} {q : ℤ} {b : ℕ} {x : Bool} {entries levels places : ℕ} {p : TransformSkipParams}
    → Ready narrow n q b x entries levels places p → Ends (output_width narrow) p.dequant
ready_ends true {n} {q} {b} {x} {entries} {levels} {places} {p} r = narrow_ends n q b x entries levels places p r
ready_ends false r = manageable_ends r.skippable.scaling

pub ready_rounds : {narrow : Bool} {n : ℕ} {q : ℤ} {b : ℕ} {x : Bool} {entries levels places : ℕ} {p : TransformSkipParams}
    → Ready narrow n q b x entries levels places p → narrow ≡ true → pos 1 ≤ℤ p.tr_shift
ready_rounds {narrow} {n} {q} {b} {x} {entries} {levels} {places} {p} r e =
    narrow_shift n q b x entries levels places p (subst (λ (y : Bool). Ready y n q b x entries levels places p) e r)

-- ---- behind the ladder
module _ (narrow : Bool) (n : ℕ) (q : ℤ) (b : ℕ) (x : Bool) (entries levels places : ℕ) where
  pub ladder_ready : not_refused ≡ block_answer narrow n b x entries levels places → Ready narrow n q b x entries levels places (transform_skip_of (log2_size n) q b x)
  ladder_ready h = block_ready narrow n q b x entries levels places (transform_skip_of (log2_size n) q b x) (passed_is narrow n q b x entries levels places h)

  dequant_is : not_refused ≡ block_answer narrow n b x entries levels places → dequant_params n q b x ≡ accepted (dequant_of (log2_size n) q b x)
  unfolding dequant_params
  dequant_is h = let s = (ladder_ready h).passed in rw (s.0, s.1.0)

  pub numbers_is : (p : DequantParams) → not_refused ≡ block_answer narrow n b x entries levels places → accepted p ≡ dequant_params n q b x → p ≡ dequant_of (log2_size n) q b x
  numbers_is p h e = ap (λ (o : Outcome DequantParams). o.value) (e ∙ dequant_is h)

  pub numbers_given : (e : Refusal) → not_refused ≡ block_answer narrow n b x entries levels places → refused no_dequant e ≡ dequant_params n q b x → ⊥
  numbers_given e h k = omega (arith, number_least e, ap (λ (o : Outcome DequantParams). o.number) (k ∙ dequant_is h))

  pub numbers_ok : (r : Result DequantParams Refusal) → not_refused ≡ block_answer narrow n b x entries levels places → outcome no_dequant r ≡ dequant_params n q b x → IsOk r
  numbers_ok (Ok p) h k = refl
  numbers_ok (Err e) h k = absurd (numbers_given e h k)

  pub skip_ok : (r : Result TransformSkipParams Refusal) → not_refused ≡ block_answer narrow n b x entries levels places → outcome no_transform_skip r ≡ transform_skip_params n q b x → IsOk r
  skip_ok (Ok p) h k = refl
  skip_ok (Err e) h k =
      let s = (ladder_ready h).passed in
      absurd (let f : ⊥ = omega (arith, number_least e, ap (λ (o : Outcome TransformSkipParams). o.number) (k ∙ params_is narrow n q b x entries levels places s.0 s.1.0)) in f)

pub ready_scalable : (narrow : Bool) {n : ℕ} {q : ℤ} {b : ℕ} {x : Bool} {entries levels places : ℕ} {p : TransformSkipParams}
    → Ready narrow n q b x entries levels places p → Scalable (output_width narrow) p.dequant
ready_scalable narrow r = record { manageable = r.skippable.scaling; regular = ready_regular r; listed = ready_listed r; ends = ready_ends narrow r }

-- ---- what was written
module _ (list : ScalingList) (n : ℕ) (q : ℤ) (b : ℕ) (x : Bool) (levels : List ℤ) where
  scaled_eq : (i : ℕ) → listed_at (dequant_of (log2_size n) q b x) list n levels i ≡ scaled_at list n b x q levels i
  unfolding listed_at scaled_at
  scaled_eq i = listed_level_eq (log2_size n) q b x (scaling_factor list n i) (get_or levels i (pos 0))

  limited_eq : (i : ℕ) → listed_limited_at (dequant_of (log2_size n) q b x) list n levels i ≡ limited_at list n b x q levels i
  unfolding listed_limited_at limited_at
  limited_eq i = listed_limited_eq (log2_size n) q b x (scaling_factor list n i) (get_or levels i (pos 0))

  -- what is written and counted by the block's numbers is what the definition says
  pub scaled_counted : {p : DequantParams} → p ≡ dequant_of (log2_size n) q b x → {k m : ℕ} {out after : List ℤ}
      → Counted (listed_at p list n levels) (listed_limited_at p list n levels) k out after m
      → Counted (scaled_at list n b x q levels) (limited_at list n b x q levels) k out after m
  scaled_counted {p} e {k} {m} {out} {after} c =
      let d = subst (λ (s : DequantParams). Counted (listed_at s list n levels) (listed_limited_at s list n levels) k out after m) e c in
      record {
        out = d.out ∙ overwrite_cong k (listed_at (dequant_of (log2_size n) q b x) list n levels) (scaled_at list n b x q levels) out (λ i h. scaled_eq i);
        count = d.count ∙ count_cong (listed_limited_at (dequant_of (log2_size n) q b x) list n levels) (limited_at list n b x q levels) k (λ i h. limited_eq i);
      }

  pub scaled_within : KnownSize (log2_size n) b → (i : ℕ) → Within 4194304 (scaled_at list n b x q levels i)
  scaled_within k i = within_eq (sym (scaled_eq i)) (listed_at_within levels i (dequant_of_manageable (log2_size n) q b x k) list n)

module _ (narrow : Bool) (list : ScalingList) (n : ℕ) (q : ℤ) (b : ℕ) (x : Bool) (levels out : List ℤ) where
  pub block_told : (at : ℕ → ℤ) {m : ℕ} {after : List ℤ} → not_refused ≡ block_answer narrow n b x (entries_of list) (length levels) (length out)
      → Counted at (limited_at list n b x q levels) (n * n) out after m → CountWrites (Ok m) after (block_written narrow list n q b x levels out at)
  unfolding block_written scaling_ladder limited_count
  block_told at {m} {after} h c =
      subst (λ (w : CountWritten). CountWrites (Ok m) after w)
      (sym (first_passed (left_as_lent out) (counted (limited_count list n b x q levels) (overwrite (n * n) at out)) (rungs narrow n b x (entries_of list) (length levels) (length out))
      (ladder_ready narrow n q b x (entries_of list) (length levels) (length out) h).passed))
      (record { answered = ap accepted c.count; out = c.out })

  pub block_refused_lem : (at : ℕ → ℤ) (e : Refusal) → refused_by e ≡ block_answer narrow n b x (entries_of list) (length levels) (length out)
      → CountWrites (Err e) out (block_written narrow list n q b x levels out at)
  unfolding block_written scaling_ladder
  block_refused_lem at e h =
      first_refused tt tt _ _ (λ w. CountWrites (Err e) out w) e
      (λ f k. record { answered = with_value 0 e f k; out = refl }) (rungs narrow n b x (entries_of list) (length levels) (length out)) h
