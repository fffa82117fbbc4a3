-- Demand 3, for both ways of opening and both kinds of edit: from an opening that answered 0, every list of edits follows the history.
--   HeldAgrees              record and four buffers are those of the history's values
--   edit_agrees             one edit answers as the history does and leaves record and buffers in agreement with it
--   edits_follow_history    the statement over the whole list
use mathlib.Core.Path.{◌≡◌, refl, sym, ap, ap₂, subst, ◌∙◌}
use mathlib.Core.Bool.{Bool, true, false, ◌||◌, cond, true≢false}
use mathlib.Core.List.{List, [], ◌∷◌, ◌++◌}
use Prim.Native.Nat.{ℕ, ◌+◌, ◌*◌, ◌≤◌, ◌<◌}
use native.Mathlib.Decide.{ℕ_discrete}
use native.Mathlib.Omega.{arith}
use borrow.Author.Tests.{leb-false, ltb-false, le-ltb}
use lib.Arith.{digits_lt}
use lib.Dec.{leb}
use lib.IntN.{ℤ, pos}
use lib.ListN.{length, get_or, set, take, drop, length-set, length-append, take-append-drop}
use lib.Seq.{ext_get_or, get_or-set_same, get_or-set_other, set-append_left, take_at, drop_at, length-take-le, get_or-take}
use Rattle.integers.specs.Lists.{tabulate}
use Rattle.integers.proofs.ListsLaws.{tabulate-length, tabulate-get_or, tabulate_cong, overwrite-take, overwrite-drop}
use Rattle.h265.specs.Range.{outside_range}
use Rattle.h265.specs.Scaling.{scaled_at}
use Rattle.h265.specs.Limited.{limited_count}
use Rattle.h265.specs.Transform.{row_order}
use Rattle.refusal.specs.declared.Refusal.{Refusal}
use Rattle.refusal.specs.declared.Refusal.TheVariants.{PlaceOutside, WayMismatched}
use Rattle.refusal.specs.Condition.{size_refused, depth_refused, list_refused, block_refused}
use Rattle.refusal.specs.Outcome.{accepted, refused}
use Rattle.scaling_values.specs.Given.{entries_of}
use Rattle.transform_1d.specs.Kinds.{dst_refused}
use Rattle.coefficients.specs.Outside.{outside_refusal}
use Rattle.block_rules.specs.declared.EditedBlock.{EditedBlock}
use Rattle.block_rules.specs.Columns.{column_count}
use Rattle.block_rules.specs.Edit.{Buffers, opened_buffers, edited, edited_buffers}
use Rattle.block_rules.specs.Opening.{Opening, range_of, opened_as, block_of}
use Rattle.block_laws.proofs.OpeningLaws.{Fits, Accepted, Agrees, stage_one_of, stage_two_of, opened-accepted, opened_is, opened_agrees}
use Rattle.block_laws.proofs.LadderLaws.{edit_way, edit-place, edit_outside, edit_done}
use Rattle.block_rules.specs.Level.{list_of, scaled_by, no_limits, OpenLeft, level_ladder, LevelLeft, level_stopped, looked_at, level_edited, level_opened, scaled_buffers}
use Rattle.block_laws.proofs.LevelLaws.{scaled-inside, EditFits, level-edit_way, level-edit-place, level-edit_done}
use Rattle.block_laws.proofs.LevelOpeningLaws.{counted, OpenFits, scaled-accepted, level_open_is}
use Rattle.integers.proofs.TestLaws.{neither}
use Rattle.edited_history.specs.History.{Edit, by_edit, limits_to, answer_to, values_after, answers_to, history_of, coefficients_of}
use Rattle.edited_history.specs.Run.{uncounted, held_opened, besides, held_edited, Ran, ran_from, ran, opened_on, history_after, EditsFollowHistory}
use Rattle.edited_history.proofs.AgreesLaws.{after_agrees, fits_now, agrees_history}

-- ---- coefficients of levels
abbrev scale : Opening → List ℤ → ℕ → ℤ
scale o vs = scaled_at (list_of o.source) o.size o.depth o.extended o.source.qp_prime.0 vs

-- one level changed changes one coefficient
scaled-set : (o : Opening) (vs : List ℤ) (at : ℕ) (v : ℤ) → length vs ≡ o.size * o.size → at < o.size * o.size
    → tabulate (o.size * o.size) (scale o (set vs at v)) ≡ set (tabulate (o.size * o.size) (scale o vs)) at (scaled_by o.source o.size o.depth o.extended at v)
unfolding scaled_at scaled_by
scaled-set o vs at v long h =
    ext_get_or (pos 0) (tabulate k (scale o (set vs at v))) (set (tabulate k (scale o vs)) at (scaled_by o.source o.size o.depth o.extended at v))
    (tabulate-length k (scale o (set vs at v)) ∙ sym (length-set (tabulate k (scale o vs)) at (scaled_by o.source o.size o.depth o.extended at v) ∙ tabulate-length k (scale o vs)))
    (λ i g. let l : i < k = rw tabulate-length at g in tabulate-get_or k (scale o (set vs at v)) i (pos 0) l ∙ cell i l)
  where
    k : ℕ
    k = o.size * o.size

    cell : (i : ℕ) → i < k → scale o (set vs at v) i ≡ get_or (set (tabulate k (scale o vs)) at (scaled_by o.source o.size o.depth o.extended at v)) i (pos 0)
    cell i l =
        elim (ℕ_discrete i at) [
          | yes q ↦ rw (q, get_or-set_same vs at v (pos 0) (rw long h), get_or-set_same (tabulate k (scale o vs)) at (scaled_by o.source o.size o.depth o.extended at v) (pos 0) (rw (tabulate-length k (scale o vs)) h))
          | no q ↦ rw (get_or-set_other vs at i v (pos 0) q, get_or-set_other (tabulate k (scale o vs)) at i (scaled_by o.source o.size o.depth o.extended at v) (pos 0) q, tabulate-get_or k (scale o vs) i (pos 0) l)
        ]

of_levels : (o : Opening) (vs : List ℤ) → o.source.levels ≡ true → coefficients_of o vs ≡ tabulate (o.size * o.size) (scale o vs)
unfolding coefficients_of
of_levels o vs w = rw w

of_coefficients : (o : Opening) (vs : List ℤ) → o.source.levels ≡ false → coefficients_of o vs ≡ vs
unfolding coefficients_of
of_coefficients o vs w = rw w

-- ---- agreement
pub record HeldAgrees (o : Opening) (levels : List ℤ) (lent : Buffers) (vs : List ℤ) (block : EditedBlock) (ls : List ℤ) (now : Buffers) : Type 0 where
  pub long : length vs ≡ o.size * o.size
  pub agrees : Agrees o lent (coefficients_of o vs) block now
  pub levels_is : ls ≡ cond o.source.levels (vs ++ drop (o.size * o.size) levels) levels

-- what an opening that answered 0 says of the buffers' lengths
pub record HeldFits (o : Opening) (levels : List ℤ) (lent : Buffers) : Type 0 where
  pub fits : Fits o lent
  pub room : o.source.levels ≡ true → o.size * o.size ≤ length levels

pub record Stepped (o : Opening) (levels : List ℤ) (lent : Buffers) (vs : List ℤ) (e : Edit) (h : LevelLeft) : Type 0 where
  pub answer : h.answer ≡ answer_to o e
  pub agrees : HeldAgrees o levels lent (values_after o e vs) h.block h.levels h.buffers

-- ---- one edit
module _ (o : Opening) (levels : List ℤ) (lent : Buffers) (f : HeldFits o levels lent) (vs : List ℤ) (c : ℕ) (ls : List ℤ) (now : Buffers) (a : HeldAgrees o levels lent vs (block_of o c) ls now) (e : Edit) where
  fits : Fits o now
  fits = fits_now o lent f.fits (coefficients_of o vs) (block_of o c) now a.agrees

  levels_now : o.source.levels ≡ true → ls ≡ vs ++ drop (o.size * o.size) levels
  levels_now w = a.levels_is ∙ ap (λ (t : Bool). cond t (vs ++ drop (o.size * o.size) levels) levels) w

  levels_kept : o.source.levels ≡ false → ls ≡ levels
  levels_kept w = a.levels_is ∙ ap (λ (t : Bool). cond t (vs ++ drop (o.size * o.size) levels) levels) w

  levels_long : o.source.levels ≡ true → o.size * o.size ≤ length ls
  levels_long w = let q = ap length (levels_now w) ∙ length-append vs (drop (o.size * o.size) levels) in omega (arith, q, a.long)

  level_fits : EditFits (block_of o c) ls now
  unfolding list_refused block_refused
  level_fits = record { size = fits.size; depth = fits.depth; dst = fits.dst; list = refl; input = input o.source.levels refl; work = fits.work }
    where
      input : (on : Bool) → o.source.levels ≡ on → block_refused o.size (looked_at o.source.levels (length ls) (length now.coeff)) || block_refused o.size (length now.coeff) ≡ false
      input true w = rw (w, le-ltb (length ls) (o.size * o.size) (levels_long w)) fits.coeff
      input false w = rw (w, fits.coeff)

  held-level : e.level ≡ true → held_edited (block_of o c) ls now e ≡ level_edited (block_of o c) ls now e.row e.column e.value
  unfolding held_edited
  held-level l = rw l

  held-coefficient : e.level ≡ false → held_edited (block_of o c) ls now e ≡ besides ls (edited (block_of o c) now e.row e.column e.value)
  unfolding held_edited
  held-coefficient l = rw l

  stays : (r : Refusal) → held_edited (block_of o c) ls now e ≡ level_stopped (block_of o c) ls now r → answer_to o e ≡ refused no_limits r → values_after o e vs ≡ vs
      → Stepped o levels lent vs e (held_edited (block_of o c) ls now e)
  stays r p q v = rw p (record { answer = sym q; agrees = rw v a })

  abbrev place : Bool
  place = leb o.size e.row || leb o.size e.column

  abbrev cell : ℕ
  cell = e.row * o.size + e.column

  abbrev scaled : ℤ
  scaled = scaled_by o.source o.size o.depth o.extended cell e.value

  abbrev after : ℤ → Buffers
  after v = edited_buffers o.kind o.size o.depth (range_of o) now e.row e.column v

  inside : e.row < o.size → e.column < o.size → cell < o.size * o.size
  inside hr hc = digits_lt {q = e.row} {m = o.size} {r = e.column} {c = o.size} hr hc

  moves : e.level ≡ true → o.source.levels ≡ true → place ≡ false → Stepped o levels lent vs e (held_edited (block_of o c) ls now e)
  unfolding answer_to by_edit limits_to
  moves l w p =
      let n = neither (leb o.size e.row) (leb o.size e.column) p in
      let hr = leb-false o.size e.row n.0 in
      let hc = leb-false o.size e.column n.1 in
      rw (held-level l ∙ level-edit_done (block_of o c) ls now e.row e.column e.value level_fits w hr hc)
      (record { answer = rw (l, w, p); agrees = subst (λ (xs : List ℤ). HeldAgrees o levels lent xs (block_of o (column_count o.size (after scaled).coeff)) (set ls cell e.value) (after scaled)) (sym stored) (held hr hc) })
    where
      stored : values_after o e vs ≡ set vs cell e.value
      stored = unfold values_after by_edit in rw (l, w, p)

      same : e.row < o.size → e.column < o.size → coefficients_of o (set vs cell e.value) ≡ set (coefficients_of o vs) cell scaled
      same hr hc =
          of_levels o (set vs cell e.value) w ∙ scaled-set o vs cell e.value a.long (inside hr hc)
          ∙ sym (ap (λ (d : List ℤ). set d cell scaled) (of_levels o vs w))

      held : e.row < o.size → e.column < o.size → HeldAgrees o levels lent (set vs cell e.value) (block_of o (column_count o.size (after scaled).coeff)) (set ls cell e.value) (after scaled)
      held hr hc =
          record {
            long = length-set vs cell e.value ∙ a.long;
            agrees = rw (same hr hc) (after_agrees o lent f.fits (coefficients_of o vs) now e.row e.column scaled hr hc (scaled-inside o.source o.size o.depth o.extended cell e.value) (block_of o c) a.agrees);
            levels_is = rw w (ap (λ (xs : List ℤ). set xs cell e.value) (levels_now w) ∙ set-append_left vs (drop (o.size * o.size) levels) cell e.value (rw a.long (inside hr hc)));
          }

  sets_value : e.level ≡ false → o.source.levels ≡ false → place ≡ false → outside_range (range_of o) e.value ≡ false → Stepped o levels lent vs e (held_edited (block_of o c) ls now e)
  unfolding answer_to by_edit limits_to
  sets_value l w p q =
      let n = neither (leb o.size e.row) (leb o.size e.column) p in
      let hr = leb-false o.size e.row n.0 in
      let hc = leb-false o.size e.column n.1 in
      rw (held-coefficient l ∙ ap (besides ls) (edit_done (block_of o c) now e.row e.column e.value fits w hr hc q))
      (record { answer = rw (l, w, p, q); agrees = subst (λ (xs : List ℤ). HeldAgrees o levels lent xs (block_of o (column_count o.size (after e.value).coeff)) ls (after e.value)) (sym stored) (held hr hc) })
    where
      stored : values_after o e vs ≡ set vs cell e.value
      stored = unfold values_after by_edit in rw (l, w, p, q)

      same : coefficients_of o (set vs cell e.value) ≡ set (coefficients_of o vs) cell e.value
      same = of_coefficients o (set vs cell e.value) w ∙ sym (ap (λ (d : List ℤ). set d cell e.value) (of_coefficients o vs w))

      held : e.row < o.size → e.column < o.size → HeldAgrees o levels lent (set vs cell e.value) (block_of o (column_count o.size (after e.value).coeff)) ls (after e.value)
      held hr hc =
          record {
            long = length-set vs cell e.value ∙ a.long;
            agrees = rw same (after_agrees o lent f.fits (coefficients_of o vs) now e.row e.column e.value hr hc q (block_of o c) a.agrees);
            levels_is = rw w (levels_kept w);
          }

  by_tests : (l on p q : Bool) → e.level ≡ l → o.source.levels ≡ on → place ≡ p → outside_range (range_of o) e.value ≡ q → Stepped o levels lent vs e (held_edited (block_of o c) ls now e)
  unfolding answer_to values_after by_edit
  by_tests true true true q hl hw hp hq = stays PlaceOutside (held-level hl ∙ level-edit-place (block_of o c) ls now e.row e.column e.value level_fits hw hp) (rw (hl, hw, hp)) (rw (hl, hw, hp))
  by_tests true true false q hl hw hp hq = moves hl hw hp
  by_tests true false p q hl hw hp hq = stays WayMismatched (held-level hl ∙ level-edit_way (block_of o c) ls now e.row e.column e.value level_fits hw) (rw (hl, hw)) (rw (hl, hw))
  by_tests false true p q hl hw hp hq = stays WayMismatched (held-coefficient hl ∙ ap (besides ls) (edit_way (block_of o c) now e.row e.column e.value fits hw)) (rw (hl, hw)) (rw (hl, hw))
  by_tests false false true q hl hw hp hq = stays PlaceOutside (held-coefficient hl ∙ ap (besides ls) (edit-place (block_of o c) now e.row e.column e.value fits hw hp)) (rw (hl, hw, hp)) (rw (hl, hw, hp))
  by_tests false false false true hl hw hp hq =
      let n = neither (leb o.size e.row) (leb o.size e.column) hp in
      stays (outside_refusal (range_of o) e.value e.row e.column)
      (held-coefficient hl ∙ ap (besides ls) (edit_outside (block_of o c) now e.row e.column e.value fits hw (leb-false o.size e.row n.0) (leb-false o.size e.column n.1) hq))
      (rw (hl, hw, hp, hq)) (rw (hl, hw, hp, hq))
  by_tests false false false false hl hw hp hq = sets_value hl hw hp hq

  stepped : Stepped o levels lent vs e (held_edited (block_of o c) ls now e)
  stepped = by_tests e.level o.source.levels place (outside_range (range_of o) e.value) refl refl refl refl

pub edit_agrees : (o : Opening) (levels : List ℤ) (lent : Buffers) → HeldFits o levels lent → (vs : List ℤ) (block : EditedBlock) (ls : List ℤ) (now : Buffers) → HeldAgrees o levels lent vs block ls now
    → (e : Edit) → Stepped o levels lent vs e (held_edited block ls now e)
edit_agrees o levels lent f vs block ls now a e =
    subst (λ (b : EditedBlock). Stepped o levels lent vs e (held_edited b ls now e)) (sym at) (stepped o levels lent f vs (column_count o.size (coefficients_of o vs)) ls now (subst (λ (b : EditedBlock). HeldAgrees o levels lent vs b ls now) at a) e)
  where
    at : block ≡ block_of o (column_count o.size (coefficients_of o vs))
    at = a.agrees.block_is

-- ---- every list of edits
record Followed (o : Opening) (levels : List ℤ) (lent : Buffers) (vs : List ℤ) (es : List Edit) (r : Ran) : Type 0 where
  answers : r.answers ≡ answers_to o es
  agrees : HeldAgrees o levels lent (history_of o es vs) r.block r.levels r.buffers

edits_agree : (o : Opening) (levels : List ℤ) (lent : Buffers) → HeldFits o levels lent → (es : List Edit) (vs : List ℤ) (block : EditedBlock) (ls : List ℤ) (now : Buffers)
    → HeldAgrees o levels lent vs block ls now → Followed o levels lent vs es (ran_from block ls now es)
unfolding ran_from answers_to history_of
edits_agree o levels lent f [] vs block ls now a = record { answers = refl; agrees = a }
edits_agree o levels lent f (e ∷ es) vs block ls now a =
    let h : LevelLeft = held_edited block ls now e in
    let s = edit_agrees o levels lent f vs block ls now a e in
    let i = edits_agree o levels lent f es (values_after o e vs) h.block h.levels h.buffers s.agrees in
    record { answers = ap₂ ◌∷◌ s.answer i.answers; agrees = i.agrees }

-- ---- the opening
passed : (t : Bool) (a b : OpenLeft) → (cond t a b).answer.number ≡ 0 → (a.answer.number ≡ 0 → ⊥) → (t ≡ false) × (b.answer.number ≡ 0)
passed true a b e no_zero = absurd (no_zero e)
passed false a b e no_zero = (refl, e)

module _ (o : Opening) (levels : List ℤ) (lent : Buffers) (w : o.source.levels ≡ true) (e : (level_opened o levels lent).answer.number ≡ 0) where
  open_fits : OpenFits o levels lent
  unfolding level_opened level_ladder
  open_fits =
      let p₁ = passed (size_refused o.size) _ _ e (λ z. omega arith) in
      let p₂ = passed (depth_refused o.depth) _ _ p₁.1 (λ z. omega arith) in
      let p₃ = passed (dst_refused o.kind o.size) _ _ p₂.1 (λ z. omega arith) in
      let p₄ = passed (list_refused (entries_of (list_of o.source))) _ _ p₃.1 (λ z. omega arith) in
      let p₅ = passed (block_refused o.size (length levels) || block_refused o.size (length lent.coeff)) _ _ p₄.1 (λ z. omega arith) in
      let p₆ = passed (block_refused o.size (length lent.inter) || block_refused o.size (length lent.res)) _ _ p₅.1 (λ z. omega arith) in
      record { size = p₁.0; depth = p₂.0; dst = p₃.0; list = p₄.0; input = p₅.0; work = p₆.0 }

  both : (block_refused o.size (length levels) ≡ false) × (block_refused o.size (length lent.coeff) ≡ false)
  both = neither (block_refused o.size (length levels)) (block_refused o.size (length lent.coeff)) open_fits.input

  room : o.size * o.size ≤ length levels
  unfolding block_refused
  room = ltb-false (length levels) (o.size * o.size) both.0

  -- the coefficients after the opening are those of the levels that it was on
  taken : take (o.size * o.size) (scaled_buffers o levels lent).coeff ≡ coefficients_of o (take (o.size * o.size) levels)
  unfolding scaled_buffers
  taken =
      overwrite-take (o.size * o.size) (scale o levels) lent.coeff
      ∙ tabulate_cong (o.size * o.size) (scale o levels) (scale o (take (o.size * o.size) levels)) alike
      ∙ sym (of_levels o (take (o.size * o.size) levels) w)
    where
      alike : (i : ℕ) → i < o.size * o.size → scale o levels i ≡ scale o (take (o.size * o.size) levels) i
      alike i h = unfold scaled_at in rw (get_or-take (o.size * o.size) levels i (pos 0) h)

  agreed : Agrees o lent (coefficients_of o (take (o.size * o.size) levels)) (block_of o (column_count o.size (scaled_buffers o levels lent).coeff)) (opened_buffers o.kind o.size o.depth (range_of o) (scaled_buffers o levels lent))
  unfolding scaled_buffers
  agreed =
      subst (λ (d : List ℤ). Agrees o lent d (block_of o (column_count o.size (scaled_buffers o levels lent).coeff)) (opened_buffers o.kind o.size o.depth (range_of o) (scaled_buffers o levels lent))) taken
      (record { range = g.range; block_is = g.block_is; coeff_is = g.coeff_is ∙ ap (λ (xs : List ℤ). take (o.size * o.size) (scaled_buffers o levels lent).coeff ++ xs) (overwrite-drop (o.size * o.size) (scale o levels) lent.coeff); inter_is = g.inter_is; res_is = g.res_is })
    where
      g : Agrees o (scaled_buffers o levels lent) (take (o.size * o.size) (scaled_buffers o levels lent).coeff) (block_of o (column_count o.size (scaled_buffers o levels lent).coeff)) (opened_buffers o.kind o.size o.depth (range_of o) (scaled_buffers o levels lent))
      g = opened_agrees o (scaled_buffers o levels lent) (scaled-accepted o levels lent open_fits)

  level-opened : level_opened o levels lent ≡ record { answer = accepted (limited_count (list_of o.source) o.size o.depth o.extended o.source.qp_prime.0 levels); block = block_of o (column_count o.size (scaled_buffers o levels lent).coeff); buffers = opened_buffers o.kind o.size o.depth (range_of o) (scaled_buffers o levels lent) }
  level-opened = level_open_is o levels lent open_fits ∙ ap (counted (limited_count (list_of o.source) o.size o.depth o.extended o.source.qp_prime.0 levels)) (opened_is o (scaled_buffers o levels lent) (scaled-accepted o levels lent open_fits))

pub record Started (o : Opening) (levels : List ℤ) (lent : Buffers) (h : OpenLeft) : Type 0 where
  pub fits : HeldFits o levels lent
  pub agrees : HeldAgrees o levels lent (opened_on o levels lent) h.block levels h.buffers

-- an opening on levels
started_levels : (o : Opening) (levels : List ℤ) (lent : Buffers) → o.source.levels ≡ true → (level_opened o levels lent).answer.number ≡ 0
    → Started o levels lent (level_opened o levels lent)
started_levels o levels lent w e =
    subst (Started o levels lent) (sym (level-opened o levels lent w e))
    (record {
      fits = record { fits = record { size = f.size; depth = f.depth; dst = f.dst; coeff = (both o levels lent w e).1; work = f.work }; room = λ _. room o levels lent w e };
      agrees = subst (λ (vs : List ℤ). HeldAgrees o levels lent vs (block_of o (column_count o.size (scaled_buffers o levels lent).coeff)) levels (opened_buffers o.kind o.size o.depth (range_of o) (scaled_buffers o levels lent))) (sym on)
          (record { long = length-take-le (o.size * o.size) levels (room o levels lent w e); agrees = agreed o levels lent w e; levels_is = rw w (sym (take-append-drop (o.size * o.size) levels)) });
    })
  where
    f : OpenFits o levels lent
    f = open_fits o levels lent w e

    on : opened_on o levels lent ≡ take (o.size * o.size) levels
    on = unfold opened_on in rw w

-- an opening on coefficients
started_coefficients : (o : Opening) (levels : List ℤ) (lent : Buffers) → o.source.levels ≡ false → (opened_as o lent).answer.number ≡ 0 → Started o levels lent (uncounted (opened_as o lent))
started_coefficients o levels lent w e =
    subst (Started o levels lent) (sym (ap uncounted (opened_is o lent acc)))
    (record {
      fits = record { fits = acc.fits; room = λ u. absurd (true≢false (sym u ∙ w)) };
      agrees = subst (λ (vs : List ℤ). HeldAgrees o levels lent vs (block_of o (column_count o.size lent.coeff)) levels (opened_buffers o.kind o.size o.depth (range_of o) lent)) (sym on)
          (record {
            long = (opened_agrees o lent acc).range.long;
            agrees = subst (λ (d : List ℤ). Agrees o lent d (block_of o (column_count o.size lent.coeff)) (opened_buffers o.kind o.size o.depth (range_of o) lent)) (sym (of_coefficients o (take (o.size * o.size) lent.coeff) w)) (opened_agrees o lent acc);
            levels_is = rw w;
          });
    })
  where
    acc : Accepted o lent
    acc = opened-accepted o lent e

    on : opened_on o levels lent ≡ take (o.size * o.size) lent.coeff
    on = unfold opened_on in rw w

pub started : (o : Opening) (levels : List ℤ) (lent : Buffers) → (held_opened o levels lent).answer.number ≡ 0 → Started o levels lent (held_opened o levels lent)
started o levels lent e = by_way o.source.levels refl
  where
    on_levels_lem : o.source.levels ≡ true → held_opened o levels lent ≡ level_opened o levels lent
    on_levels_lem w = unfold held_opened in ap (λ (t : Bool). cond t (level_opened o levels lent) (uncounted (opened_as o lent))) w

    on_coefficients_lem : o.source.levels ≡ false → held_opened o levels lent ≡ uncounted (opened_as o lent)
    on_coefficients_lem w = unfold held_opened in ap (λ (t : Bool). cond t (level_opened o levels lent) (uncounted (opened_as o lent))) w

    by_way : (t : Bool) → o.source.levels ≡ t → Started o levels lent (held_opened o levels lent)
    by_way true w = subst (Started o levels lent) (sym (on_levels_lem w)) (started_levels o levels lent w (sym (ap (λ (h : OpenLeft). h.answer.number) (on_levels_lem w)) ∙ e))
    by_way false w = subst (Started o levels lent) (sym (on_coefficients_lem w)) (started_coefficients o levels lent w (sym (ap (λ (h : OpenLeft). h.answer.number) (on_coefficients_lem w)) ∙ e))

-- demand 3
pub edits_follow_history : EditsFollowHistory
unfolding ran history_after
edits_follow_history o levels lent es e =
    let n : ℕ = o.size in
    let s = started o levels lent e in
    let vs : List ℤ = history_of o es (opened_on o levels lent) in
    let r = edits_agree o levels lent s.fits es (opened_on o levels lent) (held_opened o levels lent).block levels (held_opened o levels lent).buffers s.agrees in
    let a = r.agrees.agrees in
    let d : List ℤ = coefficients_of o vs in
    let g = agrees_history o lent d _ _ a in
    record {
      answers = r.answers;
      levels_are = r.agrees.levels_is;
      coeff = ap (take (n * n)) a.coeff_is ∙ take_at d (drop (n * n) lent.coeff) (n * n) a.range.long;
      inter = g.0;
      res = g.1;
      past_coeff = ap (drop (n * n)) a.coeff_is ∙ drop_at d (drop (n * n) lent.coeff) (n * n) a.range.long;
      past_inter = ap (drop (n * n)) a.inter_is ∙ overwrite-drop (n * n) (row_order n (stage_one_of o d)) lent.inter;
      past_res = ap (drop (n * n)) a.res_is ∙ overwrite-drop (n * n) (row_order n (stage_two_of o d)) lent.res;
      block = a.block_is;
    }
