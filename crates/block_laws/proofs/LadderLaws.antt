-- Laws of the conditions that an opening and an edit share.
--   ladder_passed        where the ladder answers 0, none of them holds
--   ladder_go            and then an opening or an edit goes on
--   ladder_refused       where it is refused, the same refusal stops an opening and an edit
--   fits_ask             what the functions below the refusals rely on
--   open_refused, open_outside, open_done   what an opening hands back, case by case
--   edit-refused, edit_way, edit-place, edit_outside, edit_done   what an edit hands back, case by case
--   refresh_refused, refresh_done   what stage two alone hands back
use Rattle.std.specs.Prelude.{Ok, Err}
use mathlib.Core.Path.{◌≡◌, refl, sym, ap, ◌∙◌}
use mathlib.Core.Bool.{Bool, true, false, ◌||◌, cond}
use mathlib.Core.List.{List}
use Prim.Native.Nat.{ℕ, ◌*◌, ◌<◌}
use native.Mathlib.Omega.{arith}
use borrow.Author.Tests.{lt-leb, eqb-true, not-false}
use lib.Dec.{eqb, leb}
use lib.IntN.{ℤ, pos}
use lib.ListN.{length, replicate}
use Rattle.integers.specs.Lists.{overwrite}
use Rattle.h265.specs.Range.{outside_range}
use Rattle.h265.specs.Transform.{row_order}
use Rattle.h265.proofs.RangeLaws.{transform_range_least, transform_range_most, transform_range_depth}
use Rattle.refusal.specs.declared.Refusal.{Refusal}
use Rattle.refusal.specs.declared.Refusal.TheVariants.{SizeInvalid, DepthInvalid, DstSizeInvalid, InputTooShort, OutputTooShort, PlaceOutside, WayMismatched}
use Rattle.refusal.specs.Refusal.{number}
use Rattle.refusal.specs.Condition.{size_refused, depth_refused, block_refused}
use Rattle.refusal.specs.Outcome.{Outcome, accepted, refused, answer}
use Rattle.refusal.specs.Written.{left, wrote}
use Rattle.refusal.proofs.RefusalLaws.{number_least}
use Rattle.refusal.proofs.ConditionLaws.{size_accepted, depth_accepted}
use Rattle.coefficients.specs.Outside.{outside_refusal, InsideChecked}
use Rattle.transform_1d.specs.declared.Kind.{Kind}
use Rattle.transform_1d.specs.declared.Kind.TheVariants.{Dct, Dst}
use Rattle.block_rules.specs.declared.EditedBlock.{EditedBlock}
use Rattle.block_rules.specs.Columns.{column_count}
use Rattle.transform_1d.specs.Kinds.{dst_refused}
use Rattle.block_rules.specs.Edit.{Buffers, buffers, zero_block, residual_of, block_ladder, stopped, opened, opened_buffers, with_columns, edited, edited_buffers, refreshed, Opens, Edits}
use Rattle.block_rules.specs.Work.{EditNeeds}
use Rattle.block_rules.specs.Opening.{Opening, range_of, opened_as, block_of}
use Rattle.block_laws.proofs.OpeningLaws.{Fits, coeff_long, inter_long, res_long, opened_is}

-- one condition of a ladder that answers 0
past : (t : Bool) (f : Refusal) (x : Outcome (Unit {0})) → accepted tt ≡ cond t (refused tt f) x → (t ≡ false) × (accepted tt ≡ x)
past true f x p = absurd (let z : 0 ≡ number f = ap (λ (o : Outcome (Unit {0})). o.number) p in let b : ⊥ = omega (arith, number_least f) in b)
past false f x p = (refl, p)

dst_four : (k : Kind) (n : ℕ) → dst_refused k n ≡ false → k ≡ Dst → n ≡ 4
unfolding dst_refused
dst_four Dct n f q = cc
dst_four Dst n f q = eqb-true n 4 (not-false (eqb n 4) f)

-- one condition of a ladder that is refused with r
rung : {A : Type 0} (make : Outcome (Unit {0}) → A) (r : Refusal) (t : Bool) (f : Refusal) (x : Outcome (Unit {0})) (y : A) → refused tt r ≡ cond t (refused tt f) x
    → (refused tt r ≡ x → y ≡ make (refused tt r)) → cond t (make (refused tt f)) y ≡ make (refused tt r)
rung make r true f x y p k = ap make (sym p)
rung make r false f x y p k = k p

-- the ladder of an opening, or of an edit of its block, on lent buffers
abbrev pub ladder : {A : Type 0} → Opening → Buffers → (Refusal → A) → A → A
ladder o lent stop go = block_ladder stop go o.kind o.size o.depth (length lent.coeff) (length lent.inter) (length lent.res)

module _ (o : Opening) (lent : Buffers) where
  pub ladder_passed : answer (Ok tt) ≡ ladder o lent (refused tt) (accepted tt) → Fits o lent
  unfolding block_ladder
  ladder_passed p =
      let p₁ = past (size_refused o.size) SizeInvalid _ p in
      let p₂ = past (depth_refused o.depth) DepthInvalid _ p₁.1 in
      let p₃ = past (dst_refused o.kind o.size) DstSizeInvalid _ p₂.1 in
      let p₄ = past (block_refused o.size (length lent.coeff)) InputTooShort _ p₃.1 in
      let p₅ = past (block_refused o.size (length lent.inter) || block_refused o.size (length lent.res)) OutputTooShort _ p₄.1 in
      record { size = p₁.0; depth = p₂.0; dst = p₃.0; coeff = p₄.0; work = p₅.0 }

  pub ladder_go : {A : Type 0} (stop : Refusal → A) (go : A) → Fits o lent → ladder o lent stop go ≡ go
  unfolding block_ladder
  ladder_go stop go f = rw (f.size, f.depth, f.dst, f.coeff, f.work)

  pub ladder_refused : {A : Type 0} (make : Outcome (Unit {0}) → A) (r : Refusal) (go : A) → answer (Err r) ≡ ladder o lent (refused tt) (accepted tt)
      → ladder o lent (λ (e : Refusal). make (refused tt e)) go ≡ make (refused tt r)
  unfolding block_ladder
  ladder_refused {A} make r go p =
      rung make r (size_refused o.size) SizeInvalid _ _ p
      (λ p₁. rung make r (depth_refused o.depth) DepthInvalid _ _ p₁
      (λ p₂. rung make r (dst_refused o.kind o.size) DstSizeInvalid _ _ p₂
      (λ p₃. rung make r (block_refused o.size (length lent.coeff)) InputTooShort _ _ p₃
      (λ p₄. rung make r (block_refused o.size (length lent.inter) || block_refused o.size (length lent.res)) OutputTooShort _ _ p₄ never))))
    where
      never : answer (Err r) ≡ answer (Ok tt) → go ≡ make (refused tt r)
      never q = absurd (let z : number r ≡ 0 = ap (λ (a : Outcome (Unit {0})). a.number) q in let b : ⊥ = omega (arith, number_least r) in b)

  pub fits_ask : Fits o lent → EditNeeds o.kind o.size o.depth (range_of o) (length lent.coeff) (length lent.inter) (length lent.res)
  fits_ask f =
      let h = depth_accepted o.depth f.depth in
      record {
        size = size_accepted o.size f.size;
        dst = dst_four o.kind o.size f.dst;
        depth = h;
        range = (
          transform_range_least o.depth o.extended,
          transform_range_most o.depth o.extended h.1,
          transform_range_depth o.depth o.extended h.0,
          omega (arith, transform_range_least o.depth o.extended, h.1),
        );
        coeff = coeff_long o lent f;
        inter = inter_long o lent f;
        res = res_long o lent f;
      }

  -- ---- an opening
  pub open_refused : (r : Refusal) → answer (Err r) ≡ ladder o lent (refused tt) (accepted tt) → opened_as o lent ≡ stopped zero_block lent r
  unfolding opened_as opened
  open_refused r p = ladder_refused (λ a. record { answer = a; block = zero_block; buffers = lent }) r _ p

  pub open_outside : Fits o lent → (e : Refusal) → InsideChecked (range_of o) o.size o.size lent.coeff (Err e) → opened_as o lent ≡ stopped zero_block lent e
  unfolding opened_as opened
  open_outside f e h = ladder_go _ _ f ∙ rw (h.0, h.1)

  pub open_done : Fits o lent → InsideChecked (range_of o) o.size o.size lent.coeff (Ok tt)
      → opened_as o lent ≡ record { answer = accepted tt; block = block_of o (column_count o.size lent.coeff); buffers = opened_buffers o.kind o.size o.depth (range_of o) lent }
  open_done f h = opened_is o lent (record { fits = f; first = h })

  pub opens_stopped : (r : Refusal) → opened_as o lent ≡ stopped zero_block lent r → Opens (opened_as o lent) (Err r) lent.inter lent.res
  opens_stopped r p = rw p (record { answered = refl; inter = refl; res = refl })

-- ---- an edit
abbrev pub opening_of : EditedBlock → Opening
opening_of block = record { kind = block.kind; size = block.size; depth = block.precision.bit_depth; extended = block.precision.extended; source = block.source }

module _ (block : EditedBlock) (lent : Buffers) (row column : ℕ) (value : ℤ) where
  pub edit-refused : (r : Refusal) → answer (Err r) ≡ ladder (opening_of block) lent (refused tt) (accepted tt) → edited block lent row column value ≡ stopped block lent r
  unfolding edited
  edit-refused r p = ladder_refused (opening_of block) lent (λ a. record { answer = a; block = block; buffers = lent }) r _ p

  pub edit_way : Fits (opening_of block) lent → block.source.levels ≡ true → edited block lent row column value ≡ stopped block lent WayMismatched
  unfolding edited
  edit_way f w = ladder_go (opening_of block) lent _ _ f ∙ rw w

  pub edit-place : Fits (opening_of block) lent → block.source.levels ≡ false → leb block.size row || leb block.size column ≡ true → edited block lent row column value ≡ stopped block lent PlaceOutside
  unfolding edited
  edit-place f w p = ladder_go (opening_of block) lent _ _ f ∙ rw (w, p)

  pub edit_outside : Fits (opening_of block) lent → block.source.levels ≡ false → row < block.size → column < block.size → outside_range (range_of (opening_of block)) value ≡ true
      → edited block lent row column value ≡ stopped block lent (outside_refusal (range_of (opening_of block)) value row column)
  unfolding edited
  edit_outside f w hr hc o = ladder_go (opening_of block) lent _ _ f ∙ rw (w, lt-leb block.size row hr, lt-leb block.size column hc, o)

  pub edit_done : Fits (opening_of block) lent → block.source.levels ≡ false → row < block.size → column < block.size → outside_range (range_of (opening_of block)) value ≡ false
      → let after : Buffers = edited_buffers block.kind block.size block.precision.bit_depth (range_of (opening_of block)) lent row column value in
      edited block lent row column value ≡ record { answer = accepted tt; block = with_columns block (column_count block.size after.coeff); buffers = after }
  unfolding edited
  edit_done f w hr hc o = ladder_go (opening_of block) lent _ _ f ∙ rw (w, lt-leb block.size row hr, lt-leb block.size column hc, o)

  pub edits_stopped : (r : Refusal) → edited block lent row column value ≡ stopped block lent r → Edits (edited block lent row column value) (Err r) block lent.coeff lent.inter lent.res
  edits_stopped r p = rw p (record { answered = refl; block = refl; coeff = refl; inter = refl; res = refl })

-- ---- stage two alone, whose ladder is that of an opening on coefficients that are enough at every size
abbrev pub staged : List ℤ → List ℤ → Buffers
staged g e = buffers (replicate 1024 (pos 0)) g e

module _ (o : Opening) (g e : List ℤ) where
  pub refresh_refused : (r : Refusal) → answer (Err r) ≡ ladder o (staged g e) (refused tt) (accepted tt) → refreshed o.kind o.size o.depth o.extended g e ≡ left e r
  unfolding refreshed
  refresh_refused r p = ladder_refused o (staged g e) (λ a. record { answer = a; out = e }) r _ p

  pub refresh_done : Fits o (staged g e)
      → refreshed o.kind o.size o.depth o.extended g e ≡ wrote (overwrite (o.size * o.size) (row_order o.size (residual_of o.kind o.size o.depth (range_of o) g)) e)
  unfolding refreshed
  refresh_done f = ladder_go o (staged g e) _ _ f
