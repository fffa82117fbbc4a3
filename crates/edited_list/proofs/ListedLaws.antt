-- An opening and a list of edits: after an opening that answered 0 the run is the history's, and after a refused one nothing was done.
--   ran_is_history     the run as the history gives it, in one equation
--   opens_held, opens_held-refused   an opening on coefficients as one of either way
--   lists_after, lists-refused, lists_given   an opening and the edits after it, or a refused one, are what the call is to hand back
use Rattle.std.specs.Prelude.{Result, Ok, Err}
use mathlib.Core.Path.{◌≡◌, refl, sym, ap, ap₂, subst, ◌∙◌}
use mathlib.Core.Bool.{Bool, true, false, ◌||◌, cond}
use mathlib.Core.List.{List, [], ◌∷◌, ◌++◌}
use Prim.Native.Nat.{ℕ, ◌*◌}
use native.Mathlib.Omega.{arith}
use borrow.Author.Tests.{ne_eqb}
use lib.Dec.{ltb}
use lib.IntN.{ℤ}
use lib.ListN.{length, take, drop, take-append-drop}
use Rattle.refusal.specs.declared.Refusal.TheVariants.{SizeInvalid, DepthInvalid, DstSizeInvalid, ListLengthInvalid, InputTooShort, OutputTooShort}
use Rattle.refusal.specs.Refusal.{number}
use Rattle.refusal.specs.Outcome.{Outcome, accepted}
use Rattle.refusal.specs.Condition.{size_refused, depth_refused, list_refused, block_refused}
use Rattle.refusal.proofs.RefusalLaws.{number_least}
use Rattle.refusal.proofs.LadderLaws.{first_both}
use Rattle.refusal.proofs.LadderLaws.Rung.{rung}
use Rattle.refusal.specs.declared.Refusal.{Refusal}
use Rattle.coefficients.specs.Outside.{first_outside, refusal_at}
use Rattle.block_rules.specs.declared.EditedBlock.{EditedBlock}
use Rattle.transform_1d.specs.Kinds.{dst_refused}
use Rattle.block_rules.specs.Edit.{Buffers, Left, buffers, zero_block, block_ladder, stopped, opened_buffers, opened, valued, Opens}
use Rattle.block_rules.specs.Opening.{Opening, range_of, opened_as}
use Rattle.scaling_values.specs.Given.{entries_of}
use Rattle.block_rules.specs.declared.LevelsOpened.{LevelsOpened}
use Rattle.block_rules.specs.Level.{list_of, OpenLeft, open_stopped, level_ladder, levels_opened, level_opened, LevelOpens}
use Rattle.edited_history.specs.History.{Edit}
use Rattle.edited_history.specs.Run.{uncounted, Ran, held_opened, ran_from, ran}
use Rattle.edited_history.proofs.HistoryLaws.{edits_follow_history}
use Rattle.edited_steps.specs.declared.Listed.{Listed}
use Rattle.edited_steps.specs.Steps.{Slices, put, RunsAfter, RunsGiven}
use Rattle.edited_list.specs.Listed.{history_ran, listed, listed_as, Lists}

-- a list by its first k elements and the others
halves : {A : Type 0} (k : ℕ) (xs ys zs : List A) → take k xs ≡ ys → drop k xs ≡ zs → xs ≡ ys ++ zs
halves k xs ys zs p q = sym (take-append-drop k xs) ∙ ap₂ ◌++◌ p q

pub ran_is_history : (o : Opening) (levels : List ℤ) (lent : Buffers) (es : List Edit) → (held_opened o levels lent).answer.number ≡ 0 → ran o levels lent es ≡ history_ran o levels lent es
unfolding history_ran
ran_is_history o levels lent es e =
    let f = edits_follow_history o levels lent es e in
    let k : ℕ = o.size * o.size in
    let d = halves k _ _ _ f.coeff f.past_coeff in
    let g = halves k _ _ _ f.inter f.past_inter in
    let r = halves k _ _ _ f.res f.past_res in
    λ i. record { answers = f.answers i; block = f.block i; levels = f.levels_are i; buffers = record { coeff = d i; inter = g i; res = r i } }

-- ---- a refused opening
-- the record is zeros and the buffers are as lent
abbrev Stopped : Buffers → OpenLeft → Type 0
Stopped lent h = (h.answer.number ≡ 0 → ⊥) → (h.block ≡ zero_block) × (h.buffers ≡ lent)

opened-stopped : (o : Opening) (lent : Buffers) → Stopped lent (uncounted (opened_as o lent))
unfolding opened_as opened block_ladder
opened-stopped o lent =
    let n = o.size in
    let first = first_outside (range_of o) n n lent.coeff in
    first_both (λ (h : Left) (t : Unit {0}). Stopped lent (uncounted h)) (stopped zero_block lent) _ (λ e. tt) tt
    (rung (size_refused n) SizeInvalid ∷ rung (depth_refused o.depth) DepthInvalid ∷ rung (dst_refused o.kind n) DstSizeInvalid ∷ rung (block_refused n (length lent.coeff)) InputTooShort
    ∷ rung (block_refused n (length lent.inter) || block_refused n (length lent.res)) OutputTooShort ∷ rung (ltb first (n * n)) (refusal_at (range_of o) n lent.coeff first) ∷ [])
    (λ e p. (refl, refl)) (λ passed p. absurd (p refl))

level-stopped : (o : Opening) (levels : List ℤ) (lent : Buffers) → Stopped lent (level_opened o levels lent)
unfolding level_opened level_ladder
level-stopped o levels lent =
    let n = o.size in
    first_both (λ (h : OpenLeft) (t : Unit {0}). Stopped lent h) (open_stopped lent) _ (λ e. tt) tt
    (rung (size_refused n) SizeInvalid ∷ rung (depth_refused o.depth) DepthInvalid ∷ rung (dst_refused o.kind n) DstSizeInvalid ∷ rung (list_refused (entries_of (list_of o.source))) ListLengthInvalid
    ∷ rung (block_refused n (length levels) || block_refused n (length lent.coeff)) InputTooShort ∷ rung (block_refused n (length lent.inter) || block_refused n (length lent.res)) OutputTooShort ∷ [])
    (λ e p. (refl, refl)) (λ passed p. absurd (p refl))

held-stopped : (o : Opening) (levels : List ℤ) (lent : Buffers) → Stopped lent (held_opened o levels lent)
unfolding held_opened
held-stopped o levels lent = by_way o.source.levels
  where
    by_way : (t : Bool) → Stopped lent (cond t (level_opened o levels lent) (uncounted (opened_as o lent)))
    by_way true = level-stopped o levels lent
    by_way false = opened-stopped o lent

-- an opening leaves the coefficients
opened_coeff : (o : Opening) (lent : Buffers) → lent.coeff ≡ (opened_as o lent).buffers.coeff
unfolding opened_as opened opened_buffers block_ladder
opened_coeff o lent =
    let n = o.size in
    let first = first_outside (range_of o) n n lent.coeff in
    first_both (λ (h : Left) (t : Unit {0}). lent.coeff ≡ h.buffers.coeff) (stopped zero_block lent) _ (λ e. tt) tt
    (rung (size_refused n) SizeInvalid ∷ rung (depth_refused o.depth) DepthInvalid ∷ rung (dst_refused o.kind n) DstSizeInvalid ∷ rung (block_refused n (length lent.coeff)) InputTooShort
    ∷ rung (block_refused n (length lent.inter) || block_refused n (length lent.res)) OutputTooShort ∷ rung (ltb first (n * n)) (refusal_at (range_of o) n lent.coeff first) ∷ [])
    (λ e. refl) (λ passed. refl)

-- what an opening on coefficients hands back is what one of either way does, with no coefficient limited
module _ (o : Opening) (levels : List ℤ) (lent : Buffers) (g e : List ℤ) (w : o.source.levels ≡ false) where
  held-is : (r : Result LevelsOpened Refusal) → LevelOpens (uncounted (opened_as o lent)) r lent.coeff g e → LevelOpens (held_opened o levels lent) r lent.coeff g e
  unfolding held_opened
  held-is r h = subst (λ (t : Bool). LevelOpens (cond t (level_opened o levels lent) (uncounted (opened_as o lent))) r lent.coeff g e) (sym w) h

  pub opens_held : (block : EditedBlock) → Opens (opened_as o lent) (Ok block) g e → LevelOpens (held_opened o levels lent) (Ok (levels_opened 0 block)) lent.coeff g e
  opens_held block h =
      held-is (Ok (levels_opened 0 block))
      (record { answered = ap (λ (a : Outcome EditedBlock). valued (levels_opened 0 a.value) a) h.answered; coeff = opened_coeff o lent; inter = h.inter; res = h.res })

  pub opens_held-refused : (why : Refusal) → Opens (opened_as o lent) (Err why) g e → LevelOpens (held_opened o levels lent) (Err why) lent.coeff g e
  opens_held-refused why h =
      held-is (Err why) (record { answered = ap (λ (a : Outcome EditedBlock). valued (levels_opened 0 a.value) a) h.answered; coeff = opened_coeff o lent; inter = h.inter; res = h.res })

-- a run from what an opening handed back and wrote
ran_from_opening : (o : Opening) (levels : List ℤ) (lent : Buffers) (es : List Edit) (opened : LevelsOpened) (d g e : List ℤ) → LevelOpens (held_opened o levels lent) (Ok opened) d g e
    → ran_from opened.block levels (buffers d g e) es ≡ ran o levels lent es
unfolding ran
ran_from_opening o levels lent es opened d g e h =
    ap₂ (λ (b : EditedBlock) (now : Buffers). ran_from b levels now es) (ap (λ (a : Outcome LevelsOpened). a.value.block) h.answered) (λ k. record { coeff = h.coeff k; inter = h.inter k; res = h.res k })

abbrev undone : List ℤ → Buffers → Ran
undone levels lent = record { answers = []; block = zero_block; levels = levels; buffers = lent }

-- ---- both cases
module _ (o : Opening) (levels : List ℤ) (lent : Buffers) (es : List Edit) where
  listed-refused : ((held_opened o levels lent).answer.number ≡ 0 → ⊥) → listed o levels lent es ≡ undone levels lent
  unfolding listed
  listed-refused no_zero = rw (ne_eqb (held_opened o levels lent).answer.number 0 no_zero)

  listed_done : (held_opened o levels lent).answer.number ≡ 0 → listed o levels lent es ≡ history_ran o levels lent es
  unfolding listed
  listed_done e = rw e

  lists_after : (s : Slices) (r : Listed) (opened : LevelsOpened) (d₀ g₀ e₀ ls d g e : List ℤ) (told : Slices)
      → LevelOpens (held_opened o levels lent) (Ok opened) d₀ g₀ e₀ → RunsAfter opened levels (buffers d₀ g₀ e₀) es s r ls d g e told
      → Lists o levels lent es s (Ok r) ls (buffers d g e) told
  lists_after s r opened d₀ g₀ e₀ ls d g e told h w =
      let zero : (held_opened o levels lent).answer.number ≡ 0 = ap (λ (x : Outcome LevelsOpened). x.number) (sym h.answered) in
      let is : ran_from opened.block levels (buffers d₀ g₀ e₀) es ≡ listed o levels lent es = ran_from_opening o levels lent es opened d₀ g₀ e₀ h ∙ ran_is_history o levels lent es zero ∙ sym (listed_done zero) in
      let run = w.runs in
      let made : r ≡ listed_as opened.limited (listed o levels lent es).block (length (listed o levels lent es).answers) =
      λ k. listed_as (w.limited k) ((run.block_is ∙ ap (λ (x : Ran). x.block) is) k) ((w.edits ∙ ap (λ (x : Ran). length x.answers) is) k) in
      record {
        answered = ap accepted made
            ∙ ap (λ (a : Outcome LevelsOpened). valued (listed_as a.value.limited (listed o levels lent es).block (length (listed o levels lent es).answers)) a) h.answered;
        levels_are = run.levels_are ∙ ap (λ (x : Ran). x.levels) is;
        buffers = run.buffers_are ∙ ap (λ (x : Ran). x.buffers) is;
        told_are = run.told_are ∙ ap (λ (x : Ran). put s 0 x.answers) is;
      }

  pub lists-refused : (s : Slices) (why : Refusal) (d g e : List ℤ) → LevelOpens (held_opened o levels lent) (Err why) d g e → Lists o levels lent es s (Err why) levels (buffers d g e) s
  lists-refused s why d g e h =
      let is : number why ≡ (held_opened o levels lent).answer.number = ap (λ (x : Outcome LevelsOpened). x.number) h.answered in
      let no_zero : (held_opened o levels lent).answer.number ≡ 0 → ⊥ = λ z. omega (arith, number_least why, is, z) in
      let stop = held-stopped o levels lent no_zero in
      let none : undone levels lent ≡ listed o levels lent es = sym (listed-refused no_zero) in
      record {
        answered = ap (λ (a : Outcome LevelsOpened). valued (listed_as a.value.limited zero_block 0) a) h.answered
            ∙ ap (λ (x : Ran). valued (listed_as (held_opened o levels lent).answer.value x.block (length x.answers)) (held_opened o levels lent).answer) none;
        levels_are = ap (λ (x : Ran). x.levels) none;
        buffers = written ∙ stop.1 ∙ ap (λ (x : Ran). x.buffers) none;
        told_are = ap (λ (x : Ran). put s 0 x.answers) none;
      }
    where
      written : buffers d g e ≡ (held_opened o levels lent).buffers
      written k = record { coeff = h.coeff k; inter = h.inter k; res = h.res k }

  pub lists_given : (s : Slices) (given : Result LevelsOpened Refusal) (r : Result Listed Refusal) (d₀ g₀ e₀ ls d g e : List ℤ) (told : Slices)
      → LevelOpens (held_opened o levels lent) given d₀ g₀ e₀ → RunsGiven given levels (buffers d₀ g₀ e₀) es s r ls (buffers d g e) told
      → Lists o levels lent es s r ls (buffers d g e) told
  unfolding RunsGiven
  lists_given s (Ok opened) (Ok r) d₀ g₀ e₀ ls d g e told h w = lists_after s r opened d₀ g₀ e₀ ls d g e told h w
  lists_given s (Ok opened) (Err why) d₀ g₀ e₀ ls d g e told h w = absurd w
  lists_given s (Err why) (Ok r) d₀ g₀ e₀ ls d g e told h w = absurd w
  lists_given s (Err why) (Err r) d₀ g₀ e₀ ls d g e told h w = rw (w.0, w.1, w.2, w.3) (lists-refused s why d₀ g₀ e₀ h)
