-- What one record of a feed does. docs/RULES.md, "The feed", and rows 2, 4 and 20 to 24 of its table; change requests R-6 and R-14.
-- A record is examined in this order: its kind (20), the length of its body (21), parameters before levels (22) or an open block before an edit or a
-- reading (24), then its values, lowest number first.
-- The block of the latest levels record is open where it has a transform, until a record other than an edit or a reading comes. What is kept of it is a
-- parameter here: `feed_state/specs/Buffers` keeps its record and the buffers that are passed on from call to call, `Feed` beside this only what it was
-- opened with and its edits so far.
--   FeedState H                  the parameters, if they are given; the list in force; H, what is kept of the open block; how many blocks there were;
--                                the byte offset of the next kind
--   Effect H                     the text that a record gives, and the state after it
--   Keeper H                     how the open block is kept: closed, opened on the levels of a body, edited by a body, and read
--   behind kind s                the offset behind a record of that kind: its kind's byte, then its body
--   unchanged s                  of a refused record: no text, the state as it was
--   parameters_effect g s body    kind 1
--   list_effect g s body          kind 2: 64 entries, then DC
--   no_list_effect g s             kind 3
--   levels_effect g s n body      kinds 4 .. 7: the rows of the block, then the count of its limited coefficients
--   edit_effect g s body          kind 8: row, column and a level
--   reading_effect g s            kind 9: the rows of the open block, then its column count
--   kind_effect g k s body       a record of a kind, or of none
--   record_effect g s k body      a record of kind k; a body that is longer than the kind's counts up to its length
use Rattle.std.specs.Prelude.{Bool, cond, List, [], ◌++◌, ℕ, ◌+◌, eqb, ltb, length, get_or, Option, Some, None}
use Rattle.h265.specs.ScalingFactor.{ScalingList}
use Rattle.h265.specs.ScalingFactor.ScalingList.{flat, listed}
use Rattle.refusal.specs.declared.Refusal.TheVariants.{DepthInvalid, DstSizeInvalid, KindUnknown, BodyTooShort, LevelsBeforeParameters, ParameterInvalid}
use Rattle.refusal.specs.Condition.{depth_refused}
use Rattle.refusal.specs.Outcome.{Outcome, accepted, refused}
use Rattle.transform_1d.specs.declared.Kind.{Kind as TransformKind}
use Rattle.text.specs.Text.{block_text}
use Rattle.feed_format.specs.declared.Kind.{Kind}
use Rattle.feed_format.specs.declared.Kind.TheVariants.{Parameters as ParametersKind, List as ListKind, NoList, Levels, Edit, Reading}
use Rattle.feed_format.specs.declared.Mode.{Mode}
use Rattle.feed_format.specs.declared.Mode.TheVariants.{Transform, Skip}
use Rattle.feed_format.specs.declared.Parameters.{Parameters}
use Rattle.feed_format.specs.Format.{kind_of, body_length, flag_of, known_mode, dst_refused, list_of, levels_of}
use Rattle.feed_lines.specs.Lines.{limited_text}
use Rattle.feed_rules.specs.Block.{block_residual, block_limited}

-- ---- states
pub record FeedState (H : Type 0) : Type 0 where
  pub given : Option Parameters
  pub list : ScalingList
  pub block : H
  pub blocks : ℕ
  pub offset : ℕ

pub record Effect (H : Type 0) : Type 0 where
  pub text : List ℕ
  pub state : FeedState H

pub record Keeper (H : Type 0) : Type 0 where
  pub closed : H → H
  pub opened : TransformKind → ScalingList → Parameters → ℕ → List ℕ → H → H
  pub edited : H → List ℕ → Outcome H
  pub reading : H → Outcome (List ℕ)

abbrev pub unchanged : {H : Type 0} → FeedState H → Effect H
unchanged s = record { text = []; state = s }

abbrev pub behind : {H : Type 0} → Kind → FeedState H → ℕ
behind kind s = s.offset + 1 + body_length kind

-- ---- parameters and lists, which close the open block
-- the parameters that four bytes stand for, by their flag and mode
abbrev pub parameters_of : List ℕ → Bool → Mode → Parameters
parameters_of body extended mode =
    record {
      precision = record { bit_depth = get_or body 0 0; extended = extended };
      qp_prime = get_or body 2 0;
      mode = mode;
    }

-- row 23
abbrev pub parameters_by : {H : Type 0} → Keeper H → FeedState H → List ℕ → Option Bool → Option Mode → Outcome (Effect H)
parameters_by g s body None mode = refused (unchanged s) ParameterInvalid
parameters_by g s body (Some extended) None = refused (unchanged s) ParameterInvalid
parameters_by g s body (Some extended) (Some mode) =
    accepted (record {
      text = [];
      state = record { given = Some (parameters_of body extended mode); list = s.list; block = g.closed s.block; blocks = s.blocks; offset = behind ParametersKind s };
    })

unfoldable pub parameters_effect : {H : Type 0} → Keeper H → FeedState H → List ℕ → Outcome (Effect H)
parameters_effect g s body =
    cond (depth_refused (get_or body 0 0)) (refused (unchanged s) DepthInvalid)
    (parameters_by g s body (flag_of (get_or body 1 0)) (known_mode (get_or body 3 0)))

unfoldable pub list_effect : {H : Type 0} → Keeper H → FeedState H → List ℕ → Outcome (Effect H)
list_effect g s body =
    accepted (record {
      text = [];
      state = record { given = s.given; list = listed (list_of body).entries (list_of body).dc; block = g.closed s.block; blocks = s.blocks; offset = behind ListKind s };
    })

unfoldable pub no_list_effect : {H : Type 0} → Keeper H → FeedState H → Outcome (Effect H)
no_list_effect g s =
    accepted (record {
      text = [];
      state = record { given = s.given; list = flat; block = g.closed s.block; blocks = s.blocks; offset = behind NoList s };
    })

-- ---- levels
-- a block is open where it has a transform
unfoldable pub block_after : {H : Type 0} → Keeper H → Mode → FeedState H → Parameters → ℕ → List ℕ → H
block_after g (Transform kind) s p n body = g.opened kind s.list p n body s.block
block_after g Skip s p n body = g.closed s.block

abbrev pub counted : {H : Type 0} → FeedState H → H → ℕ → FeedState H
counted s h n = record { given = s.given; list = s.list; block = h; blocks = s.blocks + 1; offset = behind (Levels n) s }

-- no feed leaves a depth that row 2 refuses; a state made by hand may have one
unfoldable pub levels_by : {H : Type 0} → Keeper H → Option Parameters → FeedState H → ℕ → List ℕ → Outcome (Effect H)
levels_by g None s n body = refused (unchanged s) LevelsBeforeParameters
levels_by g (Some p) s n body =
    cond (depth_refused p.precision.bit_depth) (refused (unchanged s) DepthInvalid)
    (cond (dst_refused p.mode n) (refused (unchanged s) DstSizeInvalid)
    (accepted (record {
      text = block_text n (block_residual s.list p n (levels_of n body)) ++ limited_text (block_limited s.list p n (levels_of n body));
      state = counted s (block_after g p.mode s p n body) n;
    })))

unfoldable pub levels_effect : {H : Type 0} → Keeper H → FeedState H → ℕ → List ℕ → Outcome (Effect H)
levels_effect g s n body = levels_by g s.given s n body

-- ---- the open block
-- an accepted answer has an effect; a refused one is passed on
abbrev pub answered_by : {A H : Type 0} → FeedState H → Outcome A → (A → Effect H) → Outcome (Effect H)
answered_by s o effect =
    record { number = o.number; place = o.place; row = o.row; column = o.column; value = cond (eqb o.number 0) (effect o.value) (unchanged s) }

unfoldable pub edit_effect : {H : Type 0} → Keeper H → FeedState H → List ℕ → Outcome (Effect H)
edit_effect {H} g s body =
    answered_by s (g.edited s.block body)
    (λ (h : H). record { text = []; state = record { given = s.given; list = s.list; block = h; blocks = s.blocks; offset = behind Edit s } })

unfoldable pub reading_effect : {H : Type 0} → Keeper H → FeedState H → Outcome (Effect H)
reading_effect g s =
    answered_by s (g.reading s.block)
    (λ (rows : List ℕ). record { text = rows; state = record { given = s.given; list = s.list; block = s.block; blocks = s.blocks; offset = behind Reading s } })

-- ---- one record
-- a whole body
unfoldable pub body_effect : {H : Type 0} → Keeper H → Kind → FeedState H → List ℕ → Outcome (Effect H)
body_effect g ParametersKind s body = parameters_effect g s body
body_effect g ListKind s body = list_effect g s body
body_effect g NoList s body = no_list_effect g s
body_effect g (Levels n) s body = levels_effect g s n body
body_effect g Edit s body = edit_effect g s body
body_effect g Reading s body = reading_effect g s

abbrev pub kind_effect : {H : Type 0} → Keeper H → Option Kind → FeedState H → List ℕ → Outcome (Effect H)
kind_effect g None s body = refused (unchanged s) KindUnknown
kind_effect g (Some kind) s body =
    cond (ltb (length body) (body_length kind)) (refused (unchanged s) BodyTooShort)
    (body_effect g kind s body)

unfoldable pub record_effect : {H : Type 0} → Keeper H → FeedState H → ℕ → List ℕ → Outcome (Effect H)
record_effect g s k body = kind_effect g (kind_of k) s body
