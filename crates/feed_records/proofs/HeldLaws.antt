-- Laws of the open block: what an opening, an edit and a reading do to a state.
--   block-opened                   a levels record with a transform opens its block
--   opened_takes, skipped_takes    what it hands back, and what one by transform skip does
--   edit-closed, reading-closed    without an open block
--   edit_kept, edit_moved          what a refused edit, and an accepted one, hand back
--   reading_sized, reading_takes   of a record with a size that row 1 refuses, and of any other
use Rattle.std.specs.Prelude.{Result, Ok, Err, Some, None}
use mathlib.Core.Path.{◌≡◌, refl, sym, ap, subst, ◌∙◌}
use mathlib.Core.Bool.{true, false}
use mathlib.Core.List.{List, [], ◌++◌}
use Prim.Native.Nat.{ℕ, ◌+◌, ◌*◌, ◌≤◌, min}
use native.Mathlib.Omega.{arith}
use borrow.Author.Tests.{ne_eqb}
use lib.IntN.{ℤ}
use lib.ListN.{take}
use Rattle.integers.proofs.ListsLaws.{overwrite-take}
use Rattle.refusal.specs.declared.Refusal.{Refusal}
use Rattle.refusal.specs.declared.Refusal.TheVariants.{SizeInvalid, BlockMissing}
use Rattle.refusal.specs.Condition.{size_refused}
use Rattle.refusal.specs.Refusal.{number}
use Rattle.refusal.specs.Outcome.{Outcome, accepted, refused, outcome}
use Rattle.refusal.proofs.RefusalLaws.{number_least}
use Rattle.transform_1d.specs.declared.Kind.{Kind}
use Rattle.block_rules.specs.declared.EditedBlock.{EditedBlock}
use Rattle.block_rules.specs.declared.Limits.{Limits}
use Rattle.block_rules.specs.Level.{LevelLeft, no_limits, level_edited, LevelEdits}
use Rattle.edited_history.specs.Run.{held_edited}
use Rattle.edited_history.proofs.EditLaws.{refused_edits_alter_nothing}
use Rattle.text.specs.Text.{block_text, WroteUpTo}
use Rattle.feed_records.specs.Work.{Skips}
use Rattle.feed_lines.specs.Lines.{limited_text, columns_text}
use Rattle.block_rules.specs.declared.LevelsOpened.{LevelsOpened}
use Rattle.feed_format.specs.declared.Kind.TheVariants.{Levels, Reading}
use Rattle.feed_format.specs.declared.Mode.{Mode}
use Rattle.feed_format.specs.declared.Mode.TheVariants.{Transform, Skip}
use Rattle.feed_format.specs.declared.Parameters.{Parameters}
use Rattle.feed_state.specs.declared.State.{State}
use Rattle.feed_format.specs.Format.{text_room, levels_of, edit_row, edit_column, edit_level}
use Rattle.feed_rules.specs.Block.{list_in, residual_at, block_residual, block_limited}
use Rattle.feed_block.specs.Work.{Accepted, Leaves, OpensBlock}
use Rattle.feed_state.specs.declared.Taken.{Taken}
use Rattle.feed_rules.specs.Record.{FeedState, unchanged, block_after, counted, levels_by, edit_effect, reading_effect}
use Rattle.feed_state.specs.Buffers.{Lent, lent, Buffered, closed_in, opened_in, edited_in, read_text, read_in, in_buffers}
use Rattle.feed_state.specs.Taken.{state_of, capped, Takes, Quiet}
use Rattle.feed_state.proofs.StateLaws.{capped_offset, quiet_moved, block_takes}

-- the state with an open block
abbrev pub with_open : State → EditedBlock → ℕ → ℕ → State
with_open s b blocks length =
    record { given = s.given; list = s.list; held = Some b; blocks = blocks; offset = min (s.offset + 1 + length) 18446744073709551615 }

-- ---- opened by a levels record
block-opened : (kind : Kind) (s : FeedState Buffered) (p : Parameters) (n : ℕ) (body : List ℕ) → p.mode ≡ Transform kind
    → block_after in_buffers p.mode s p n body ≡ opened_in kind s.list p n body s.block
unfolding block_after
block-opened kind s p n body e = rw e refl

pub opened_takes : {l m : List ℕ} {at end : ℕ} (s : State) (p : Parameters) (kind : Kind) (n : ℕ) (body : List ℕ) (w : Lent) (r : LevelsOpened) (ls d g e : List ℤ) (blocks : ℕ)
    → Accepted p n → p.mode ≡ Transform kind → OpensBlock (list_in s.list) p kind n body w.levels w.buffers r ls d g e
    → blocks ≡ min (s.blocks + 1) 18446744073709551615 → WroteUpTo l at (block_text n (take (n * n) e) ++ limited_text r.limited) m end (at + text_room (Levels n))
    → Takes s (Ok (record { state = with_open s r.block blocks (4 * (n * n)); end = end })) (lent ls d g e) l at m (levels_by in_buffers (Some p) (state_of s w) n body) (text_room (Levels n))
unfolding levels_by
opened_takes {l} {m} {at} {end} s p kind n body w r ls d g e blocks a q o k t =
    rw (a.depth, a.dst)
    (block_takes s (with_open s r.block blocks (4 * (n * n))) (lent ls d g e) _ (text_room (Levels n)) state (omega arith)
    (subst (λ (xs : List ℕ). WroteUpTo l at xs m end (at + text_room (Levels n))) (rw (o.rows, o.limited) refl) t))
  where
    after : (state_of (with_open s r.block blocks (4 * (n * n))) (lent ls d g e)).block ≡ opened_in kind (list_in s.list) p n body (state_of s w).block
    after = unfold opened_in in rw (o.block, o.buffers_are, o.levels_are) refl

    state : state_of (with_open s r.block blocks (4 * (n * n))) (lent ls d g e) ≡ capped (counted (state_of s w) (block_after in_buffers p.mode (state_of s w) p n body) n)
    state = unfold capped in rw (k, block-opened kind (state_of s w) p n body q, ← after) refl

-- ---- a block by transform skip
levels-skipped : (f : FeedState Buffered) (p : Parameters) (n : ℕ) (body : List ℕ) → Accepted p n → p.mode ≡ Skip
    → levels_by in_buffers (Some p) f n body
    ≡ accepted (record { text = block_text n (block_residual f.list p n (levels_of n body)) ++ limited_text (block_limited f.list p n (levels_of n body)); state = counted f (closed_in f.block) n })
unfolding levels_by block_after
levels-skipped f p n body a q = rw (a.depth, a.dst) (ap (λ (t : Mode). accepted (record { text = block_text n (block_residual f.list p n (levels_of n body)) ++ limited_text (block_limited f.list p n (levels_of n body)); state = counted f (block_after in_buffers t f p n body) n })) q)

pub skipped_takes : {l m : List ℕ} {at end : ℕ} (s next : State) (p : Parameters) (n : ℕ) (body : List ℕ) (blank res : List ℤ) (limited : ℕ) → Accepted p n → p.mode ≡ Skip
    → Leaves (block_limited (list_in s.list) p n (levels_of n body)) (residual_at (list_in s.list) p n (levels_of n body)) (n * n) blank res limited
    → ((w : Lent) → state_of next w ≡ capped (counted (state_of s w) (closed_in (state_of s w).block) n)) → WroteUpTo l at (block_text n (take (n * n) res) ++ limited_text limited) m end (at + text_room (Levels n))
    → Skips s p (Ok (record { state = next; end = end })) n body l at m
skipped_takes {l} {m} {at} {end} s next p n body blank res limited a q o k t =
    record {
      leaves = λ w.
          rw (levels-skipped (state_of s w) p n body a q)
          (block_takes s next w _ (text_room (Levels n)) (k w) (omega arith) (subst (λ (xs : List ℕ). WroteUpTo l at xs m end (at + text_room (Levels n))) (rw (rows, o.limited) refl) t));
    }
  where
    rows : take (n * n) res ≡ block_residual (list_in s.list) p n (levels_of n body)
    rows = unfold block_residual in ap (take (n * n)) o.out ∙ overwrite-take (n * n) _ blank

-- ---- an edit
pub edit-closed : (s : State) (w : Lent) (body : List ℕ) → s.held ≡ None → edit_effect in_buffers (state_of s w) body ≡ refused (unchanged (state_of s w)) BlockMissing
unfolding edit_effect edited_in
edit-closed s w body off = rw off refl

module _ (s : State) (w : Lent) (body : List ℕ) (at : ℕ) (was : EditedBlock) (on : s.held ≡ Some was) where
  abbrev h : LevelLeft
  h = level_edited was w.levels w.buffers (edit_row body) (edit_column body) (edit_level body)

  refused_effect : (why : Refusal) → h.answer ≡ refused no_limits why → edit_effect in_buffers (state_of s w) body ≡ refused (unchanged (state_of s w)) why
  unfolding edit_effect edited_in
  refused_effect why q = rw (on, q, ne_eqb (number why) 0 (λ z. omega (arith, number_least why))) refl

  unaltered : (why : Refusal) → h.answer ≡ refused no_limits why → h ≡ record { answer = h.answer; block = was; levels = w.levels; buffers = w.buffers }
  unfolding held_edited
  unaltered why q =
      refused_edits_alter_nothing was w.levels w.buffers (record { row = edit_row body; column = edit_column body; value = edit_level body; level = true })
      (λ z. let k : number why ≡ 0 = sym (ap (λ (o : Outcome Limits). o.number) q) ∙ z in omega (arith, number_least why, k))

  module _ {a : (Result Limits Refusal)} {b : EditedBlock} {ls d g e : List ℤ} (k : LevelEdits h a b ls d g e) where
    pub edit_kept : {r : Result Taken Refusal} (why : Refusal) → a ≡ Err why → Quiet s r w at (refused (unchanged (state_of s w)) why)
        → Quiet s r (lent ls d g e) at (edit_effect in_buffers (state_of s w) body)
    edit_kept {r} why q z =
        let answered : h.answer ≡ refused no_limits why = sym k.answered ∙ ap (outcome no_limits) q in
        let u = unaltered why answered in
        subst (λ (v : Lent). Quiet s r v at (edit_effect in_buffers (state_of s w) body)) (sym (same u)) (rw (refused_effect why answered) z)
      where
        same : h ≡ record { answer = h.answer; block = was; levels = w.levels; buffers = w.buffers } → lent ls d g e ≡ w
        same u = rw (k.levels ∙ ap (λ (x : LevelLeft). x.levels) u, k.coeff ∙ ap (λ (x : LevelLeft). x.buffers.coeff) u, k.inter ∙ ap (λ (x : LevelLeft). x.buffers.inter) u, k.res ∙ ap (λ (x : LevelLeft). x.buffers.res) u) refl

    pub edit_moved : (l : Limits) → a ≡ Ok l → s.blocks ≤ 18446744073709551615
        → Quiet s (Ok (record { state = with_open s b s.blocks 6; end = at })) (lent ls d g e) at (edit_effect in_buffers (state_of s w) body)
    edit_moved l q f =
        rw done
        (quiet_moved s (with_open s b s.blocks 6) (lent ls d g e)
        (record { given = s.given; list = list_in s.list; block = after; blocks = s.blocks; offset = s.offset + 1 + 6 }) at f refl (rw (k.block, k.levels, k.coeff, k.inter, k.res) refl))
      where
        after : Buffered
        after = record { held = Some h.block; lent_are = record { levels = h.levels; buffers = h.buffers } }

        done : edit_effect in_buffers (state_of s w) body ≡ accepted (record { text = []; state = record { given = s.given; list = list_in s.list; block = after; blocks = s.blocks; offset = s.offset + 1 + 6 } })
        done = unfold edit_effect edited_in in rw (on, sym k.answered ∙ ap (outcome no_limits) q) refl

-- ---- a reading
pub reading-closed : (s : State) (w : Lent) → s.held ≡ None → reading_effect in_buffers (state_of s w) ≡ refused (unchanged (state_of s w)) BlockMissing
unfolding reading_effect read_in
reading-closed s w off = rw off refl

pub reading_sized : (s : State) (w : Lent) (was : EditedBlock) → s.held ≡ Some was → size_refused was.size ≡ true → reading_effect in_buffers (state_of s w) ≡ refused (unchanged (state_of s w)) SizeInvalid
unfolding reading_effect read_in
reading_sized s w was on q = rw (on, q) refl

abbrev read_state : State → Lent → EditedBlock → FeedState Buffered
read_state s w was = record { given = s.given; list = list_in s.list; block = record { held = Some was; lent_are = w }; blocks = s.blocks; offset = s.offset + 1 + 0 }

reading_is : (s : State) (w : Lent) (was : EditedBlock) → s.held ≡ Some was → size_refused was.size ≡ false → reading_effect in_buffers (state_of s w) ≡ accepted (record { text = read_text was w.buffers.res; state = read_state s w was })
unfolding reading_effect read_in
reading_is s w was on q = rw (on, q) refl

pub reading_takes : {l m : List ℕ} {at end : ℕ} (s : State) (w : Lent) (was : EditedBlock) → s.held ≡ Some was → size_refused was.size ≡ false → s.blocks ≤ 18446744073709551615
    → WroteUpTo l at (block_text was.size (take (was.size * was.size) w.buffers.res) ++ columns_text was.columns) m end (at + text_room Reading)
    → Takes s (Ok (record { state = with_open s was s.blocks 0; end = end })) w l at m (reading_effect in_buffers (state_of s w)) (text_room Reading)
unfolding read_text
reading_takes s w was on q f t =
    rw (reading_is s w was on q)
    (block_takes s (with_open s was s.blocks 0) w (read_state s w was) (text_room Reading) (capped_offset (read_state s w was) (min (s.offset + 1 + 0) 18446744073709551615) f refl) (omega arith) t)
