-- `list_blocks::block_list` meets its contract: refused where the block is, else where the number is, else the list of the place.
use mathlib.Core.Path.{◌≡◌, sym, ap, ◌∙◌}
use Rattle.std.proofs.Common.{rules, Err}
use Rattle.refusal.specs.Outcome.{accepted}
use Rattle.list_places.specs.Table.{stream_of, short}
use Rattle.list_places.proofs.TableLaws.{number-inside, held_place, table_room}
use Rattle.list_blocks.specs.Scale.{list_of}
use Rattle.list_blocks.proofs.ScaleLaws.{NumberHeld, number_held, list_refused, list_missing, list_found}
use Rattle.list_blocks.proofs.block_list.Goals as goal
use Rattle.list_blocks.proofs.block_list.Goals.{In_ok-number_refused}

held : (g : _) → (c : In_ok-number_refused g) → let a = c.args in NumberHeld (short a.table.now) a.stream (stream_of a.table.now a.stream) a.number
held g c = let a = c.args in number_held (short a.table.now) a.stream (stream_of a.table.now a.stream) a.number c.in_ok-number_refused.ensures

pub returns-in_err-block_refused : goal.returns-in_err-block_refused
returns-in_err-block_refused g c =
    let a = c.args in
    let told : c.from_residual.result ≡ Err c.in_err-block_refused.field-0.0 = search rules in
    rw told
    (list_refused g.R.Residual.NARROW a.n a.precision.bit_depth a.precision.extended a.levels a.places (short a.table.now) a.stream (stream_of a.table.now a.stream) a.number _
    (rw c.NARROW.ensures at c.in_err-block_refused.ensures))

pub returns-in_err-number_refused : goal.returns-in_err-number_refused
returns-in_err-number_refused g c =
    let a = c.args in
    let told : c.from_residual-in_err-number_refused.result ≡ Err c.in_err-number_refused.field-0.0 = search rules in
    rw told
    (list_missing g.R.Residual.NARROW a.n a.precision.bit_depth a.precision.extended a.levels a.places (short a.table.now) a.stream (stream_of a.table.now a.stream) a.number _
    (rw c.NARROW.ensures at c.in_ok-block_refused.ensures) c.in_err-number_refused.ensures)

pub scaling_list-requires : goal.scaling_list-requires
scaling_list-requires g c =
    let a = c.args in
    let h = held g c in
    let n = number-inside a.table.now a.stream a.number h.present in
    (table_room a.table.now h.room, n.0, n.1)

pub returns : goal.returns
returns g c =
    let a = c.args in
    let h = held g (goal.at.returns g c).In_ok-number_refused in
    ap accepted (c.scaling_list.ensures ∙ sym (ap list_of (held_place a.table.now a.stream a.number h.present)))
    ∙ list_found g.R.Residual.NARROW a.n a.precision.bit_depth a.precision.extended a.levels a.places (short a.table.now) a.stream (stream_of a.table.now a.stream) a.number
    (rw c.NARROW.ensures at c.in_ok-block_refused.ensures) h
