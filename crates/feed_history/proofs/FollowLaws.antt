-- What the buffers of a feed hold is what the history of its open block gives, record by record.
--   Follows, Same              two states with the same parameters, list, count and offset, of which one has the block in buffers and the other its history;
--                              two effects with the same number and text on such states
--   record_follows             so they stay, whatever record comes
--   after_same                 what follows a record, by its number
--   walks_agree                walks by effects that are the same on such states give the same text
--   follows_start              before the first record
--   buffers_follow_history     the statement over every feed
use Rattle.std.specs.Prelude.{Option, Some, None}
use mathlib.Core.Path.{◌≡◌, refl, sym, ap, ap₂, subst, ◌∙◌}
use mathlib.Core.Bool.{Bool, true, false, cond}
use mathlib.Core.List.{List, [], ◌∷◌, ◌++◌}
use Prim.Native.Nat.{ℕ, zero, suc, ◌+◌, ◌*◌, ◌≤◌}
use native.Mathlib.Omega.{arith}
use borrow.Author.Tests.{ltb-false, eqb-true}
use lib.Dec.{T, eqb, ltb}
use lib.IntN.{ℤ}
use lib.ListN.{length, take, drop, get_or, length-append, length-drop}
use lib.Seq.{length-take-le}
use Rattle.integers.specs.Lists.{overwrite}
use Rattle.integers.proofs.ListsLaws.{overwrite-length}
use Rattle.h265.specs.Range.{is_size}
use Rattle.h265.specs.ScalingFactor.{ScalingList}
use Rattle.h265.specs.Transform.{row_order}
use Rattle.h265.proofs.RangeLaws.{size_square}
use Rattle.refusal.specs.declared.Refusal.{Refusal}
use Rattle.refusal.specs.declared.Refusal.TheVariants.{DepthInvalid, DstSizeInvalid, KindUnknown, BodyTooShort, LevelsBeforeParameters, ParameterInvalid}
use Rattle.refusal.specs.Condition.{size_refused, depth_refused}
use Rattle.refusal.specs.Outcome.{Outcome, refused}
use Rattle.scaling_values.specs.Given.{entries_of}
use Rattle.transform_1d.specs.declared.Kind.{Kind as TransformKind}
use Rattle.block_rules.specs.declared.EditedBlock.{EditedBlock}
use Rattle.block_rules.specs.Columns.{column_count}
use Rattle.block_rules.specs.Edit.{Buffers}
use Rattle.block_rules.specs.Opening.{Opening}
use Rattle.block_laws.proofs.OpeningLaws.{inter_long, res_long, stage_one_of, stage_two_of}
use Rattle.block_rules.specs.declared.Limits.{Limits}
use Rattle.block_rules.specs.Level.{OpenLeft, LevelLeft, level_opened}
use Rattle.edited_history.specs.History.{Edit, answer_to, values_after, history_of, coefficients_of, history_residual}
use Rattle.edited_history.specs.Run.{held_opened, held_edited, opened_on}
use Rattle.edited_history.proofs.AgreesLaws.{coeff_length, agrees_history}
use Rattle.edited_history.proofs.HistoryLaws.{HeldAgrees, HeldFits, edit_agrees, Started, started}
use Rattle.text.specs.Text.{block_text}
use Rattle.feed_lines.specs.Lines.{columns_text, blocks_text, refused_text}
use Rattle.feed_format.specs.declared.Kind.{Kind}
use Rattle.feed_format.specs.declared.Kind.TheVariants.{Parameters as ParametersKind, List as ListKind, NoList, Levels, Edit as EditKind, Reading}
use Rattle.feed_format.specs.declared.Mode.{Mode}
use Rattle.feed_format.specs.declared.Mode.TheVariants.{Transform, Skip}
use Rattle.feed_format.specs.declared.Parameters.{Parameters}
use Rattle.feed_format.specs.Format.{kind_of, body_length, record_length, flag_of, known_mode, level_at, levels_of, dst_refused, size_known}
use Rattle.feed_rules.specs.Block.{opening_of}
use Rattle.feed_block.specs.Work.{Accepted}
use Rattle.feed_format.proofs.FormatLaws.{Sized, kind_size}
use Rattle.feed_block.proofs.OpenLaws.{opened-number, levels_are}
use Rattle.feed_rules.specs.Record.{FeedState, Effect, unchanged, answered_by, parameters_by, parameters_effect, list_effect, no_list_effect, block_after, levels_by, levels_effect, edit_effect, reading_effect, body_effect, kind_effect, record_effect}
use Rattle.feed_state.specs.Buffers.{Lent, Buffered, opened_in, edited_in, read_text, read_in, in_buffers, closed}
use Rattle.feed_state.specs.Taken.{Ample}
use Rattle.feed_rules.specs.Feed.{text_by, OpenBlock, held_coefficients, History, opened_as, edit_in, edited_by, read_by, in_history, beginning, feed_text}
use Rattle.feed_rules.specs.Feed.History.{none, block}
use Rattle.feed_history.specs.Steps.{buffered_text, BuffersFollowHistory}

-- ---- the open block
pub record OpenAgrees (b : EditedBlock) (t : OpenBlock) (w : Lent) : Type 0 where
  pub before : List ℤ
  pub lent : Buffers
  pub fits : HeldFits t.opening before lent
  pub agrees : HeldAgrees t.opening before lent (history_of t.opening t.edits t.levels) b w.levels w.buffers

abbrev pub BlockAgrees : Option EditedBlock → History → Lent → Type 0
BlockAgrees None none w = Unit {0}
BlockAgrees None (block t) w = ⊥
BlockAgrees (Some b) none w = ⊥
BlockAgrees (Some b) (block t) w = OpenAgrees b t w

-- what is in the buffers is as long as what was lent at the opening
record AsLong (first : List ℤ) (lent : Buffers) (ls : List ℤ) (now : Buffers) : Type 0 where
  levels : length ls ≡ length first
  coeff : length now.coeff ≡ length lent.coeff
  inter : length now.inter ≡ length lent.inter
  res : length now.res ≡ length lent.res

as_long : (o : Opening) (levels : List ℤ) (lent : Buffers) → HeldFits o levels lent → (vs : List ℤ) (b : EditedBlock) (ls : List ℤ) (now : Buffers) → HeldAgrees o levels lent vs b ls now
    → AsLong levels lent ls now
as_long o levels lent f vs b ls now a =
    let g = a.agrees in
    record {
      levels = ap length a.levels_is ∙ by_way o.source.levels refl;
      coeff = coeff_length o lent f.fits (coefficients_of o vs) b now g;
      inter = ap length g.inter_is ∙ overwrite-length (o.size * o.size) (row_order o.size (stage_one_of o (coefficients_of o vs))) lent.inter (inter_long o lent f.fits);
      res = ap length g.res_is ∙ overwrite-length (o.size * o.size) (row_order o.size (stage_two_of o (coefficients_of o vs))) lent.res (res_long o lent f.fits);
    }
  where
    by_way : (t : Bool) → o.source.levels ≡ t → length (cond t (vs ++ drop (o.size * o.size) levels) levels) ≡ length levels
    by_way true e = length-append vs (drop (o.size * o.size) levels) ∙ rw length-drop (omega (arith, a.long, f.room e))
    by_way false e = refl

ample_still : {v w : Lent} {levels : List ℤ} {lent : Buffers} → AsLong levels lent v.levels v.buffers → AsLong levels lent w.levels w.buffers → Ample v → Ample w
ample_still l m a =
    record { levels = rw (m.levels ∙ sym l.levels) a.levels; coeff = rw (m.coeff ∙ sym l.coeff) a.coeff; inter = rw (m.inter ∙ sym l.inter) a.inter; res = rw (m.res ∙ sym l.res) a.res }

history_more : (o : Opening) (es : List Edit) (e : Edit) (vs : List ℤ) → history_of o (es ++ (e ∷ [])) vs ≡ values_after o e (history_of o es vs)
unfolding history_of
history_more o [] e vs = refl
history_more o (x ∷ es) e vs = history_more o es e (values_after o x vs)

-- ---- states and effects
pub record Follows (s : FeedState Buffered) (t : FeedState History) : Type 0 where
  pub given : s.given ≡ t.given
  pub list : s.list ≡ t.list
  pub blocks : s.blocks ≡ t.blocks
  pub offset : s.offset ≡ t.offset
  pub whole : entries_of s.list ≡ 64
  pub ample : Ample s.block.lent_are
  pub held : BlockAgrees s.block.held t.block s.block.lent_are

pub record Same (o : Outcome (Effect Buffered)) (p : Outcome (Effect History)) : Type 0 where
  pub number : o.number ≡ p.number
  pub text : o.value.text ≡ p.value.text
  pub state : Follows o.value.state p.value.state

either : {x y : Outcome (Effect Buffered)} {v z : Outcome (Effect History)} (t : Bool) → Same x v → (t ≡ false → Same y z) → Same (cond t x y) (cond t v z)
either true f g = f
either false f g = g refl

stays : {s : FeedState Buffered} {t : FeedState History} → Follows s t → (why : Refusal) → Same (refused (unchanged s) why) (refused (unchanged t) why)
stays f why = record { number = refl; text = refl; state = f }

-- ---- each kind of record
module _ {s : FeedState Buffered} {t : FeedState History} (f : Follows s t) where
  -- a record without a block moves to related states
  moves : (g : Option Parameters) (l m : ScalingList) (k : ℕ) → l ≡ m → entries_of l ≡ 64
      → Follows (record { given = g; list = l; block = record { held = None; lent_are = s.block.lent_are }; blocks = s.blocks; offset = s.offset + 1 + k }) (record { given = g; list = m; block = none; blocks = t.blocks; offset = t.offset + 1 + k })
  moves g l m k e w = record { given = refl; list = e; blocks = f.blocks; offset = ap (λ (o : ℕ). o + 1 + k) f.offset; whole = w; ample = f.ample; held = tt }

  parameters_by_same : (body : List ℕ) (flag : Option Bool) (mode : Option Mode) → Same (parameters_by in_buffers s body flag mode) (parameters_by in_history t body flag mode)
  parameters_by_same body None mode = stays f ParameterInvalid
  parameters_by_same body (Some x) None = stays f ParameterInvalid
  parameters_by_same body (Some x) (Some mode) = record { number = refl; text = refl; state = moves _ s.list t.list 4 f.list f.whole }

  parameters_same : (body : List ℕ) → Same (parameters_effect in_buffers s body) (parameters_effect in_history t body)
  unfolding parameters_effect
  parameters_same body =
      either (depth_refused (get_or body 0 0)) (stays f DepthInvalid)
      (λ _. parameters_by_same body (flag_of (get_or body 1 0)) (known_mode (get_or body 3 0)))

  list_same : (body : List ℕ) → 65 ≤ length body → Same (list_effect in_buffers s body) (list_effect in_history t body)
  unfolding list_effect
  list_same body h =
      record {
        number = refl;
        text = refl;
        state = record { given = f.given; list = refl; blocks = f.blocks; offset = ap (λ (o : ℕ). o + 1 + 65) f.offset; whole = length-take-le 64 body (omega arith); ample = f.ample; held = tt };
      }

  no_list_same : Same (no_list_effect in_buffers s) (no_list_effect in_history t)
  unfolding no_list_effect
  no_list_same =
      record { number = refl; text = refl; state = record { given = f.given; list = refl; blocks = f.blocks; offset = ap (λ (o : ℕ). o + 1 + 0) f.offset; whole = refl; ample = f.ample; held = tt } }

  -- ---- levels
  module _ (p : Parameters) (n : ℕ) (body : List ℕ) (a : Accepted p n) where
    room : {k : ℕ} → 1024 ≤ k → n * n ≤ k
    room h = omega (arith, size_square n a.size, h)

    abbrev before : List ℤ
    before = s.block.lent_are.levels

    abbrev lent_now : Buffers
    lent_now = s.block.lent_are.buffers

    abbrev levels_now : List ℤ
    levels_now = overwrite (n * n) (level_at body) before

    module _ (kind : TransformKind) (m : p.mode ≡ Transform kind) where
      abbrev o : Opening
      o = opening_of kind s.list p n

      abbrev h : OpenLeft
      h = level_opened o levels_now lent_now

      held_is : held_opened o levels_now lent_now ≡ h
      unfolding held_opened
      held_is = refl

      begun : Started o levels_now lent_now h
      begun =
          let e = opened-number kind s.list p n body before lent_now a m f.whole (room f.ample.levels) (room f.ample.coeff) (room f.ample.inter) (room f.ample.res) in
          subst (Started o levels_now lent_now) held_is (started o levels_now lent_now (ap (λ (x : OpenLeft). x.answer.number) held_is ∙ e))

      on : opened_on o levels_now lent_now ≡ levels_of n body
      unfolding opened_on
      on = levels_are kind s.list p n body before lent_now a m f.whole (room f.ample.levels) (room f.ample.coeff) (room f.ample.inter) (room f.ample.res)

      abbrev opened-block : OpenBlock
      opened-block = record { opening = o; levels = levels_of n body; edits = [] }

      opened_agrees : OpenAgrees h.block opened-block (record { levels = levels_now; buffers = h.buffers })
      unfolding history_of
      opened_agrees = record { before = levels_now; lent = lent_now; fits = begun.fits; agrees = subst (λ (vs : List ℤ). HeldAgrees o levels_now lent_now vs h.block levels_now h.buffers) on begun.agrees }

      opened_follows : (at : ℕ)
          → Follows (record { given = s.given; list = s.list; block = opened_in kind s.list p n body s.block; blocks = s.blocks + 1; offset = s.offset + 1 + at })
          (record { given = t.given; list = t.list; block = opened_as kind t.list p n body; blocks = t.blocks + 1; offset = t.offset + 1 + at })
      unfolding opened_in opened_as
      opened_follows at =
          let l = as_long o levels_now lent_now begun.fits (opened_on o levels_now lent_now) h.block levels_now h.buffers begun.agrees in
          record {
            given = f.given;
            list = f.list;
            blocks = ap (λ (k : ℕ). k + 1) f.blocks;
            offset = ap (λ (k : ℕ). k + 1 + at) f.offset;
            whole = f.whole;
            ample = record { levels = rw (overwrite-length (n * n) (level_at body) before (room f.ample.levels)) f.ample.levels; coeff = rw l.coeff f.ample.coeff; inter = rw l.inter f.ample.inter; res = rw l.res f.ample.res };
            held = subst (λ (x : ScalingList). BlockAgrees (Some h.block) (block (record { opening = opening_of kind x p n; levels = levels_of n body; edits = [] })) (record { levels = levels_now; buffers = h.buffers })) f.list opened_agrees;
          }

    block_follows : (mode : Mode) → p.mode ≡ mode
        → Follows (record { given = s.given; list = s.list; block = block_after in_buffers mode s p n body; blocks = s.blocks + 1; offset = s.offset + 1 + 4 * (n * n) })
        (record { given = t.given; list = t.list; block = block_after in_history mode t p n body; blocks = t.blocks + 1; offset = t.offset + 1 + 4 * (n * n) })
    unfolding block_after
    block_follows (Transform kind) e = opened_follows kind e (4 * (n * n))
    block_follows Skip e =
        record { given = f.given; list = f.list; blocks = ap (λ (k : ℕ). k + 1) f.blocks; offset = ap (λ (k : ℕ). k + 1 + 4 * (n * n)) f.offset; whole = f.whole; ample = f.ample; held = tt }

  levels_same : (g : Option Parameters) (n : ℕ) (body : List ℕ) → T (is_size n) → Same (levels_by in_buffers g s n body) (levels_by in_history g t n body)
  unfolding levels_by
  levels_same None n body h = stays f LevelsBeforeParameters
  levels_same (Some p) n body h =
      either (depth_refused p.precision.bit_depth) (stays f DepthInvalid)
      (λ d. either (dst_refused p.mode n) (stays f DstSizeInvalid)
      (λ e. record { number = refl; text = rw f.list refl; state = block_follows p n body (record { size = h; depth = d; dst = e }) p.mode refl }))

  -- ---- the open block
  module _ (b : EditedBlock) (u : OpenBlock) (q : OpenAgrees b u s.block.lent_are) where
    abbrev past : ℕ → FeedState Buffered → Buffered → FeedState Buffered
    past k x c = record { given = x.given; list = x.list; block = c; blocks = x.blocks; offset = x.offset + 1 + k }

    abbrev past_told : ℕ → FeedState History → History → FeedState History
    past_told k x c = record { given = x.given; list = x.list; block = c; blocks = x.blocks; offset = x.offset + 1 + k }

    module _ (e : Edit) where
      abbrev left : LevelLeft
      left = held_edited b s.block.lent_are.levels s.block.lent_are.buffers e

      abbrev after : OpenBlock
      after = record { opening = u.opening; levels = u.levels; edits = u.edits ++ (e ∷ []) }

      edit-answer : left.answer ≡ answer_to u.opening e
      edit-answer = (edit_agrees u.opening q.before q.lent q.fits (history_of u.opening u.edits u.levels) b s.block.lent_are.levels s.block.lent_are.buffers q.agrees e).answer

      edit-held : HeldAgrees u.opening q.before q.lent (history_of u.opening (u.edits ++ (e ∷ [])) u.levels) left.block left.levels left.buffers
      edit-held =
          subst (λ (vs : List ℤ). HeldAgrees u.opening q.before q.lent vs left.block left.levels left.buffers) (sym (history_more u.opening u.edits e u.levels))
          (edit_agrees u.opening q.before q.lent q.fits (history_of u.opening u.edits u.levels) b s.block.lent_are.levels s.block.lent_are.buffers q.agrees e).agrees

      edit_ample : Ample (record { levels = left.levels; buffers = left.buffers })
      edit_ample =
          ample_still
          (as_long u.opening q.before q.lent q.fits (history_of u.opening u.edits u.levels) b s.block.lent_are.levels s.block.lent_are.buffers q.agrees)
          (as_long u.opening q.before q.lent q.fits (history_of u.opening (u.edits ++ (e ∷ [])) u.levels) left.block left.levels left.buffers edit-held) f.ample

      -- what an edit answers, and what it leaves where it is accepted
      edited_same : (o : Outcome Limits) (p : Outcome Limits) → o ≡ p
          → Same (answered_by s (record { number = o.number; place = o.place; row = o.row; column = o.column; value = record { held = Some left.block; lent_are = record { levels = left.levels; buffers = left.buffers } } }) (λ (h : Buffered). record { text = []; state = past 6 s h }))
          (answered_by t (record { number = p.number; place = p.place; row = p.row; column = p.column; value = block after }) (λ (h : History). record { text = []; state = past_told 6 t h }))
      edited_same o p x = subst (λ (z : Outcome Limits). Same (answered_by s (record { number = o.number; place = o.place; row = o.row; column = o.column; value = record { held = Some left.block; lent_are = record { levels = left.levels; buffers = left.buffers } } }) (λ (h : Buffered). record { text = []; state = past 6 s h })) (answered_by t (record { number = z.number; place = z.place; row = z.row; column = z.column; value = block after }) (λ (h : History). record { text = []; state = past_told 6 t h }))) x
          (record { number = refl; text = text (eqb o.number 0); state = state (eqb o.number 0) })
        where
          text : (z : Bool) → (cond z (record { text = []; state = past 6 s (record { held = Some left.block; lent_are = record { levels = left.levels; buffers = left.buffers } }) }) (unchanged s)).text ≡ (cond z (record { text = []; state = past_told 6 t (block after) }) (unchanged t)).text
          text true = refl
          text false = refl

          state : (z : Bool) → Follows (cond z (record { text = []; state = past 6 s (record { held = Some left.block; lent_are = record { levels = left.levels; buffers = left.buffers } }) }) (unchanged s)).state (cond z (record { text = []; state = past_told 6 t (block after) }) (unchanged t)).state
          state true = record { given = f.given; list = f.list; blocks = f.blocks; offset = ap (λ (k : ℕ). k + 1 + 6) f.offset; whole = f.whole; ample = edit_ample; held = record { before = q.before; lent = q.lent; fits = q.fits; agrees = edit-held } }
          state false = f

    read_rows : read_text b s.block.lent_are.buffers.res ≡ block_text u.opening.size (history_residual u.opening (held_coefficients u)) ++ columns_text (column_count u.opening.size (held_coefficients u))
    unfolding read_text
    read_rows =
        let g = agrees_history u.opening q.lent (held_coefficients u) b s.block.lent_are.buffers q.agrees.agrees in
        rw q.agrees.agrees.block_is (ap (λ (zs : List ℤ). block_text u.opening.size zs ++ columns_text (column_count u.opening.size (held_coefficients u))) g.1)

    sized : size_refused b.size ≡ false
    sized = rw q.agrees.agrees.block_is q.fits.fits.size

  abbrev after_edit : Buffered → Effect Buffered
  after_edit x = record { text = []; state = record { given = s.given; list = s.list; block = x; blocks = s.blocks; offset = s.offset + 1 + 6 } }

  abbrev after_edit_told : History → Effect History
  after_edit_told x = record { text = []; state = record { given = t.given; list = t.list; block = x; blocks = t.blocks; offset = t.offset + 1 + 6 } }

  edit_by : (h : Option EditedBlock) (k : History) → BlockAgrees h k s.block.lent_are → (body : List ℕ) → Same (answered_by s (edited_in h s.block body) after_edit) (answered_by t (edited_by k body) after_edit_told)
  unfolding edited_in edited_by held_edited
  edit_by None none a body = record { number = refl; text = refl; state = f }
  edit_by None (block u) a body = absurd a
  edit_by (Some b) none a body = absurd a
  edit_by (Some b) (block u) a body = edited_same b u a (edit_in body) _ _ (edit-answer b u a (edit_in body))

  edit_same : (body : List ℕ) → Same (edit_effect in_buffers s body) (edit_effect in_history t body)
  unfolding edit_effect
  edit_same body = edit_by s.block.held t.block f.held body

  abbrev after_reading : List ℕ → Effect Buffered
  after_reading rows = record { text = rows; state = record { given = s.given; list = s.list; block = s.block; blocks = s.blocks; offset = s.offset + 1 + 0 } }

  abbrev after_reading_told : List ℕ → Effect History
  after_reading_told rows = record { text = rows; state = record { given = t.given; list = t.list; block = t.block; blocks = t.blocks; offset = t.offset + 1 + 0 } }

  reading_by : (h : Option EditedBlock) (k : History) → BlockAgrees h k s.block.lent_are → Same (answered_by s (read_in h s.block) after_reading) (answered_by t (read_by k) after_reading_told)
  unfolding read_in read_by
  reading_by None none a = record { number = refl; text = refl; state = f }
  reading_by None (block u) a = absurd a
  reading_by (Some b) none a = absurd a
  reading_by (Some b) (block u) a =
      rw (sized b u a)
      (record { number = refl; text = read_rows b u a; state = record { given = f.given; list = f.list; blocks = f.blocks; offset = ap (λ (k : ℕ). k + 1 + 0) f.offset; whole = f.whole; ample = f.ample; held = f.held } })

  reading_same : Same (reading_effect in_buffers s) (reading_effect in_history t)
  unfolding reading_effect
  reading_same = reading_by s.block.held t.block f.held

  body_same : (kind : Kind) (body : List ℕ) → T (size_known kind) → body_length kind ≤ length body → Same (body_effect in_buffers kind s body) (body_effect in_history kind t body)
  unfolding body_effect levels_effect
  body_same ParametersKind body z h = parameters_same body
  body_same ListKind body z h = list_same body h
  body_same NoList body z h = no_list_same
  body_same (Levels n) body z h = subst (λ (g : Option Parameters). Same (levels_by in_buffers s.given s n body) (levels_by in_history g t n body)) f.given (levels_same s.given n body z)
  body_same EditKind body z h = edit_same body
  body_same Reading body z h = reading_same

  kind_same : (kind : Option Kind) (body : List ℕ) → Sized kind → Same (kind_effect in_buffers kind s body) (kind_effect in_history kind t body)
  kind_same None body z = stays f KindUnknown
  kind_same (Some kind) body z =
      either (ltb (length body) (body_length kind)) (stays f BodyTooShort)
      (λ h. body_same kind body z (ltb-false (length body) (body_length kind) h))

pub record_follows : {s : FeedState Buffered} {t : FeedState History} → Follows s t → (k : ℕ) (body : List ℕ) → Same (record_effect in_buffers s k body) (record_effect in_history t k body)
unfolding record_effect
record_follows f k body = kind_same f (kind_of k) body (kind_size k)

-- ---- walks
-- what follows a record, by its number
pub after_same : (m n a b : ℕ) (r q : List ℕ) → m ≡ n → a ≡ b → (n ≡ 0 → r ≡ q) → cond (eqb m 0) r (refused_text m a) ≡ cond (eqb n 0) q (refused_text n b)
after_same m n a b r q e g h = rw (e, g) (by_number (eqb n 0) refl)
  where
    by_number : (z : Bool) → eqb n 0 ≡ z → cond z r (refused_text n b) ≡ cond z q (refused_text n b)
    by_number true z = h (eqb-true n 0 z)
    by_number false z = refl

pub record WalksAlike (effect : FeedState Buffered → ℕ → List ℕ → Outcome (Effect Buffered)) (told : FeedState History → ℕ → List ℕ → Outcome (Effect History)) (last : FeedState Buffered → List ℕ) (last-told : FeedState History → List ℕ) : Type 0 where
  pub same : {s : FeedState Buffered} {t : FeedState History} → Follows s t → (k : ℕ) (body : List ℕ) → Same (effect s k body) (told t k body)
  pub last_same : {s : FeedState Buffered} {t : FeedState History} → Follows s t → last s ≡ last-told t

module _ {effect : FeedState Buffered → ℕ → List ℕ → Outcome (Effect Buffered)} {told : FeedState History → ℕ → List ℕ → Outcome (Effect History)} {last : FeedState Buffered → List ℕ} {last-told : FeedState History → List ℕ}
    (a : WalksAlike effect told last last-told) where
  pub walks_agree : (fuel : ℕ) {s : FeedState Buffered} {t : FeedState History} → Follows s t → (bytes : List ℕ) → text_by effect last fuel s bytes ≡ text_by told last-told fuel t bytes
  unfolding text_by
  walks_agree zero f bytes = refl
  walks_agree (suc fuel) f [] = a.last_same f
  walks_agree (suc fuel) {s} {t} f (k ∷ bytes) =
      let body = take (record_length k) bytes in
      let e = a.same f k body in
      let rest = walks_agree fuel e.state (drop (record_length k) bytes) in
      ap₂ ◌++◌ e.text (after_same (effect s k body).number (told t k body).number s.offset t.offset _ _ e.number f.offset (λ _. rest))

pub follows_start : (w : Lent) → Ample w → Follows (beginning (closed w)) (beginning none)
unfolding beginning
follows_start w a = record { given = refl; list = refl; blocks = refl; offset = refl; whole = refl; ample = a; held = tt }

pub buffers_follow_history : BuffersFollowHistory
unfolding buffered_text feed_text
buffers_follow_history w bytes a =
    walks_agree (record { same = record_follows; last_same = λ f. ap blocks_text f.blocks }) (length bytes + 1) (follows_start w a) bytes
