-- The opening on levels: past the refusals it is the opening on the scaled levels, which lie in the range.
--   source_list          the source of an opening on levels holds the list that was given
--   level_open_refused   a refused opening
--   scaled_whole         past the refusals, scaling writes the whole block
--   scaled-never, open-never   so neither scaling nor that opening refuses
--   scaled-accepted      an opening on the scaled levels meets no condition of the table
--   level_open_is        so the opening on levels is that opening
use Rattle.std.specs.Prelude.{Result, Ok, Err}
use mathlib.Core.Path.{◌≡◌, refl, sym, ap, ap₂, ◌∙◌}
use mathlib.Core.Bool.{Bool, true, false, ◌||◌, ◌&&◌}
use mathlib.Core.List.{List}
use Prim.Native.Nat.{ℕ, ◌*◌, ◌%◌, ◌≤◌, ◌<◌}
use native.Mathlib.Omega.{arith}
use borrow.Author.Tests.{le-ltb}
use lib.Dec.{ltb}
use lib.IntN.{ℤ, pos}
use lib.ListN.{length, get_or}
use Rattle.integers.proofs.ListsLaws.{overwrite-length, overwrite-get_or}
use Rattle.integers.proofs.SearchLaws.{first_where-none}
use Rattle.h265.specs.Range.{outside_range}
use Rattle.h265.specs.Scaling.{scaled_at}
use Rattle.h265.specs.ScalingFactor.{ScalingList}
use Rattle.h265.specs.ScalingFactor.ScalingList.{flat, listed}
use Rattle.h265.specs.Limited.{limited_count}
use Rattle.refusal.specs.declared.Refusal.{Refusal}
use Rattle.refusal.specs.Condition.{list_refused, block_refused, bits32}
use Rattle.refusal.specs.Refusal.{number}
use Rattle.refusal.specs.Outcome.{Outcome, accepted, refused, answer, outcome}
use Rattle.refusal.proofs.RefusalLaws.{number_least}
use Rattle.scaling_blocks.specs.Blocks.{scaling_ladder, block_written, dequantized, CountWrites}
use Rattle.scaling_values.specs.Given.{entries_of}
use Rattle.coefficients.specs.Outside.{outside_at, first_outside}
use Rattle.block_rules.specs.declared.EditedBlock.{EditedBlock}
use Rattle.block_rules.specs.Edit.{Buffers, Left, zero_block, opened_buffers, valued, Opens}
use Rattle.block_rules.specs.Opening.{Opening, range_of, opened_as}
use Rattle.refusal.proofs.ConditionLaws.{block_room, list_whole}
use Rattle.integers.proofs.TestLaws.{neither}
use Rattle.block_laws.proofs.OpeningLaws.{Accepted, opened_is}
use Rattle.block_rules.specs.Level.{list_of, source_by, scaled_by, level_ladder, scaled_buffers, OpenLeft, open_stopped, levels_opened, level_opened, LevelOpens}
use Rattle.block_laws.proofs.LevelLaws.{scaled-inside, LevelFits, levels_go, levels-refused}

pub source_list : (q : ℤ) (l : ScalingList) → list_of (source_by q l) ≡ l
source_list q flat = refl
source_list q (listed entries d) = refl

-- an opening's record and buffers, with a count for its answer
abbrev pub counted : ℕ → Left → OpenLeft
counted k h = record { answer = accepted k; block = h.block; buffers = h.buffers }

module _ (o : Opening) (levels : List ℤ) (lent : Buffers) where
  -- the length of its list, which row 5 looks at
  abbrev len : ℕ
  len = entries_of (list_of o.source)

  -- how many coefficients are limited
  abbrev pub limited : ℕ
  limited = limited_count (list_of o.source) o.size o.depth o.extended o.source.qp_prime.0 levels

  abbrev pub OpenFits : Type 0
  OpenFits = LevelFits o.kind o.size o.depth len (length levels) (length lent.coeff) (length lent.inter) (length lent.res)

  pub level_open_refused : (r : Refusal) → answer (Err r) ≡ level_ladder (refused tt) (accepted tt) o.kind o.size o.depth len (length levels) (length lent.coeff) (length lent.inter) (length lent.res)
      → level_opened o levels lent ≡ open_stopped lent r
  unfolding level_opened
  level_open_refused r p = levels-refused o.kind o.size o.depth len (length levels) (length lent.coeff) (length lent.inter) (length lent.res) (λ a. record { answer = valued 0 a; block = zero_block; buffers = lent }) r _ p

  module _ (f : OpenFits) where
    room : o.size * o.size ≤ length lent.coeff
    room = block_room o.size (length lent.coeff) (neither (block_refused o.size (length levels)) (block_refused o.size (length lent.coeff)) f.input).1

    -- what the functions that scale a block leave
    pub scaled_whole : (r : Result ℕ Refusal) (out : List ℤ) → CountWrites r out (dequantized bits32 (list_of o.source) o.size o.source.qp_prime.0 o.depth o.extended levels lent.coeff)
        → (out ≡ (scaled_buffers o levels lent).coeff) × (outcome 0 r ≡ accepted limited)
    unfolding dequantized block_written scaling_ladder scaled_buffers list_refused
    scaled_whole r out w =
        let i = neither (block_refused o.size (length levels)) (block_refused o.size (length lent.coeff)) f.input in
        let l = list_whole (entries_of (list_of o.source)) f.list in
        (rw (f.size, f.depth, l, i.0, i.1) at w.out, rw (f.size, f.depth, l, i.0, i.1) at w.answered)

    inside : (i : ℕ) → i < o.size * o.size → outside_at (range_of o) o.size o.size (scaled_buffers o levels lent).coeff i ≡ false
    unfolding outside_at scaled_buffers
    inside i h =
        rw (overwrite-get_or (o.size * o.size) (scaled_at (list_of o.source) o.size o.depth o.extended o.source.qp_prime.0 levels) lent.coeff i (pos 0) h)
        (both (ltb (i % o.size) o.size) (in_range i))
      where
        in_range : (i : ℕ) → outside_range (range_of o) (scaled_at (list_of o.source) o.size o.depth o.extended o.source.qp_prime.0 levels i) ≡ false
        in_range i = unfold scaled_at scaled_by in scaled-inside o.source o.size o.depth o.extended i (get_or levels i (pos 0))

        both : (t : Bool) {u : Bool} → u ≡ false → t && u ≡ false
        both true e = e
        both false e = refl

    pub scaled-accepted : Accepted o (scaled_buffers o levels lent)
    unfolding first_outside
    scaled-accepted =
        record {
          fits = record { size = f.size; depth = f.depth; dst = f.dst; coeff = rw coeff_length (neither (block_refused o.size (length levels)) (block_refused o.size (length lent.coeff)) f.input).1; work = work };
          first = rw (first_where-none (o.size * o.size) {k = o.size * o.size} (omega arith) (record { at = inside })) (le-ltb (o.size * o.size) (o.size * o.size) (omega arith));
        }
      where
        coeff_length : length (scaled_buffers o levels lent).coeff ≡ length lent.coeff
        coeff_length = unfold scaled_buffers in overwrite-length (o.size * o.size) (scaled_at (list_of o.source) o.size o.depth o.extended o.source.qp_prime.0 levels) lent.coeff room

        work : block_refused o.size (length (scaled_buffers o levels lent).inter) || block_refused o.size (length (scaled_buffers o levels lent).res) ≡ false
        work = unfold scaled_buffers in f.work

    pub level_open_is : level_opened o levels lent ≡ counted limited (opened_as o (scaled_buffers o levels lent))
    unfolding level_opened
    level_open_is = levels_go o.kind o.size o.depth len (length levels) (length lent.coeff) (length lent.inter) (length lent.res) _ _ f ∙ ap (counted limited) (sym (opened_is o (scaled_buffers o levels lent) scaled-accepted))

    -- past the refusals neither scaling nor the opening on what it wrote refuses
    pub scaled-never : (why : Refusal) → refused 0 why ≡ accepted limited → ⊥
    scaled-never why e = let z : number why ≡ 0 = ap (λ (a : Outcome ℕ). a.number) e in omega (arith, number_least why)

    pub open-never : (why : Refusal) (g e : List ℤ) → Opens (opened_as o (scaled_buffers o levels lent)) (Err why) g e → ⊥
    open-never why g e h =
        let z : number why ≡ 0 = ap (λ (a : Outcome EditedBlock). a.number) h.answered ∙ ap (λ (l : Left). l.answer.number) (opened_is o (scaled_buffers o levels lent) scaled-accepted) in
        omega (arith, number_least why)

    -- the opening leaves the coefficients that scaling wrote
    pub level_open_ends : (block : EditedBlock) (g e : List ℤ) → Opens (opened_as o (scaled_buffers o levels lent)) (Ok block) g e → (k : ℕ) → accepted k ≡ accepted limited
        → LevelOpens (level_opened o levels lent) (Ok (levels_opened k block)) (scaled_buffers o levels lent).coeff g e
    unfolding opened_buffers
    level_open_ends block g e h k told =
        rw level_open_is
        (record {
          answered = ap₂ (λ (x : ℕ) (b : EditedBlock). accepted (levels_opened x b)) (ap (λ (a : Outcome ℕ). a.value) told) (ap (λ (a : Outcome EditedBlock). a.value) h.answered);
          coeff = sym (ap (λ (l : Left). l.buffers.coeff) (opened_is o (scaled_buffers o levels lent) scaled-accepted));
          inter = h.inter;
          res = h.res;
        })

  pub level_opens_stopped : (r : Refusal) → level_opened o levels lent ≡ open_stopped lent r → LevelOpens (level_opened o levels lent) (Err r) lent.coeff lent.inter lent.res
  level_opens_stopped r p = rw p (record { answered = refl; coeff = refl; inter = refl; res = refl })
