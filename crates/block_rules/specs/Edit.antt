-- The opening on coefficients and one edit of a coefficient, on any buffers, refused calls included. docs/RULES.md, "The edited block"; change request R-9;
-- rows 1, 2, 4, 6, 7, 8, 9, 10, 19 of the table.
-- Letters: n size, b depth, x extended precision, r range, d coefficients, g intermediate, e residual.
--   Buffers                   the three lent buffers
--   Left                      what a call leaves: outcome, record and buffers
--   zero_source, zero_block     what a block that was opened on coefficients has as its source; the record of a refused opening
--   intermediate_of, residual_of   stage one over coefficients, and stage two over an intermediate; every value is read limited to the
--                             range, since a caller may have spoiled the buffers
--   opened                    the opening
--   edited                    one edit
--   refreshed                 the residual of an intermediate: stage two alone
--   valued                    an outcome with another value
--   Opens, Edits              a call's answer, record and buffers are what `opened` or `edited` says
use Rattle.std.specs.Prelude.{◌≡◌, Bool, ◌||◌, cond, List, ℕ, ◌+◌, ◌*◌, leb, ltb, ℤ, pos, length, set, replicate, Result}
use Rattle.integers.specs.Lists.{overwrite}
use Rattle.h265.specs.Range.{transform_range, outside_range}
use Rattle.h265.specs.Transform.{row_order, intermediate, stage_two, stage_two_shift}
use Rattle.refusal.specs.declared.Refusal.{Refusal}
use Rattle.refusal.specs.declared.Refusal.TheVariants.{SizeInvalid, DepthInvalid, DstSizeInvalid, InputTooShort, OutputTooShort, PlaceOutside, WayMismatched}
use Rattle.refusal.specs.Condition.{size_refused, depth_refused, block_refused}
use Rattle.refusal.specs.Outcome.{Outcome, accepted, refused, outcome, answer}
use Rattle.refusal.specs.Written.{Written, left, wrote}
use Rattle.transform_1d.specs.declared.Kind.{Kind}
use Rattle.transform_1d.specs.declared.Kind.TheVariants.{Dct}
use Rattle.transform_1d.specs.Kinds.{dst_refused}
use Rattle.transform_1d.specs.MatrixOf.{matrix_of}
use Rattle.coefficients.specs.Outside.{first_outside, outside_refusal, refusal_at}
use Rattle.block_rules.specs.declared.EditedBlock.{EditedBlock}
use Rattle.block_rules.specs.declared.Source.{Source}
use Rattle.stages_wide.specs.Wide.{column_replaced, limited_block}
use Rattle.block_rules.specs.Columns.{column_count}

pub record Buffers : Type 0 where
  pub coeff : List ℤ
  pub inter : List ℤ
  pub res : List ℤ

pub record Left : Type 0 where
  pub answer : Outcome (Unit {0})
  pub block : EditedBlock
  pub buffers : Buffers

-- what a block that was opened on coefficients has as its source: nothing is given, so all is 0
abbrev pub zero_source : Source
zero_source = record { levels = Bool.false; qp_prime = record { 0 = pos 0 }; listed = Bool.false; dc = 0; entries = replicate 64 0 }

abbrev pub zero_block : EditedBlock
zero_block = record { kind = Dct; size = 0; precision = record { bit_depth = 0; extended = Bool.false }; columns = 0; source = zero_source }

unfoldable pub intermediate_of : Kind → ℕ → ℕ → List ℤ → ℕ → ℕ → ℤ
intermediate_of kind n r d = intermediate (matrix_of kind n) n r (limited_block r n d)

unfoldable pub residual_of : Kind → ℕ → ℕ → ℕ → List ℤ → ℕ → ℕ → ℤ
residual_of kind n b r g = stage_two (matrix_of kind n) n (stage_two_shift b r) (limited_block r n g)

-- the conditions that an opening and an edit share, lowest number first: by the buffers' lengths; `stop` makes something of a refusal
unfoldable pub block_ladder : {A : Type 0} → (Refusal → A) → A → Kind → ℕ → ℕ → ℕ → ℕ → ℕ → A
block_ladder stop go kind n b coeff inter res =
    cond (size_refused n) (stop SizeInvalid)
    (cond (depth_refused b) (stop DepthInvalid)
    (cond (dst_refused kind n) (stop DstSizeInvalid)
    (cond (block_refused n coeff) (stop InputTooShort)
    (cond (block_refused n inter || block_refused n res) (stop OutputTooShort) go))))

abbrev pub stopped : EditedBlock → Buffers → Refusal → Left
stopped block lent e = record { answer = refused tt e; block = block; buffers = lent }

unfoldable pub opened_buffers : Kind → ℕ → ℕ → ℕ → Buffers → Buffers
opened_buffers kind n b r lent =
    let g : List ℤ = overwrite (n * n) (row_order n (intermediate_of kind n r lent.coeff)) lent.inter in
    record { coeff = lent.coeff; inter = g; res = overwrite (n * n) (row_order n (residual_of kind n b r g)) lent.res }

-- s is the source that the record gets: nothing, where the coefficients are the caller's own
unfoldable pub opened : Kind → ℕ → ℕ → Bool → Source → Buffers → Left
opened kind n b x s lent =
    let r : ℕ = transform_range b x in
    let first : ℕ = first_outside r n n lent.coeff in
    block_ladder (stopped zero_block lent)
    (cond (ltb first (n * n)) (stopped zero_block lent (refusal_at r n lent.coeff first))
    (record {
      answer = accepted tt;
      block = record { kind = kind; size = n; precision = record { bit_depth = b; extended = x }; columns = column_count n lent.coeff; source = s };
      buffers = opened_buffers kind n b r lent;
    }))
    kind n b (length lent.coeff) (length lent.inter) (length lent.res)

unfoldable pub edited_buffers : Kind → ℕ → ℕ → ℕ → Buffers → ℕ → ℕ → ℤ → Buffers
edited_buffers kind n b r lent row column value =
    let d : List ℤ = set lent.coeff (row * n + column) value in
    let g : List ℤ = column_replaced n column (λ m. intermediate_of kind n r d m column) lent.inter in
    record { coeff = d; inter = g; res = overwrite (n * n) (row_order n (residual_of kind n b r g)) lent.res }

abbrev pub with_columns : EditedBlock → ℕ → EditedBlock
with_columns block c = record { kind = block.kind; size = block.size; precision = block.precision; columns = c; source = block.source }

unfoldable pub edited : EditedBlock → Buffers → ℕ → ℕ → ℤ → Left
edited block lent row column value =
    let n : ℕ = block.size in
    let b : ℕ = block.precision.bit_depth in
    let r : ℕ = transform_range b block.precision.extended in
    let after : Buffers = edited_buffers block.kind n b r lent row column value in
    block_ladder (stopped block lent)
    (cond block.source.levels (stopped block lent WayMismatched)
    (cond (leb n row || leb n column) (stopped block lent PlaceOutside)
    (cond (outside_range r value) (stopped block lent (outside_refusal r value row column))
    (record { answer = accepted tt; block = with_columns block (column_count n after.coeff); buffers = after }))))
    block.kind n b (length lent.coeff) (length lent.inter) (length lent.res)

-- stage two alone. Both buffers are work buffers, of row 7; there are no coefficients to be too few, and 1,024 are enough at every size
unfoldable pub refreshed : Kind → ℕ → ℕ → Bool → List ℤ → List ℤ → Written
refreshed kind n b x g e =
    block_ladder (left e)
    (wrote (overwrite (n * n) (row_order n (residual_of kind n b (transform_range b x) g)) e))
    kind n b 1024 (length g) (length e)

abbrev pub buffers : List ℤ → List ℤ → List ℤ → Buffers
buffers d g e = record { coeff = d; inter = g; res = e }

-- an outcome with another value
abbrev pub valued : {A B : Type 0} → B → Outcome A → Outcome B
valued v o = record { number = o.number; place = o.place; row = o.row; column = o.column; value = v }

-- the coefficients are lent to an opening for reading alone; a refused one hands back no record, which counts as one of zeros
pub record Opens (h : Left) (r : Result EditedBlock Refusal) (g e : List ℤ) : Type 0 where
  pub answered : outcome zero_block r ≡ valued h.block h.answer
  pub inter : g ≡ h.buffers.inter
  pub res : e ≡ h.buffers.res

pub record Edits (h : Left) (a : Result (Unit {0}) Refusal) (left : EditedBlock) (d g e : List ℤ) : Type 0 where
  pub answered : answer a ≡ h.answer
  pub block : left ≡ h.block
  pub coeff : d ≡ h.buffers.coeff
  pub inter : g ≡ h.buffers.inter
  pub res : e ≡ h.buffers.res
