-- `edit_blocks::spans::probe_at` meets its contract: what is read of each table.
use mathlib.Core.Path.{◌∙◌}
use mir.Syntax.{w64}
use Rattle.integers.proofs.MachineLaws.{round_trip_ok}
use Rattle.integers.proofs.BoundLaws.{within_eq}
use Rattle.edit_blocks.specs.Work.{probe_at}
use Rattle.edit_blocks.proofs.spans.probe_at.Goals as goal

pub returns : goal.returns
unfolding probe_at
returns c =
    let w2 = c in
    let c6 = w2 in
    let c5 = c6 in
    let w1 = c5 in
    let c4 = w1 in
    let c3 = c4 in
    let c2 = c3 in
    let c1 = c2 in
    let t = round_trip_ok w64 c.target_cell.result c.target_cell.type_inv ∙ c.target_cell.ensures.0 in (
      rw (
        t,
        round_trip_ok w64 w2.without-2.result w2.without-2.type_inv,
        round_trip_ok w64 w1.without.result w1.without.type_inv,
        w1.without.ensures,
        w2.without-2.ensures,
        round_trip_ok w64 c1.cell-entry_one.result c1.cell-entry_one.type_inv,
        round_trip_ok w64 c2.cell-entry_two.result c2.cell-entry_two.type_inv,
        round_trip_ok w64 c3.cell.result c3.cell.type_inv,
        round_trip_ok w64 c4.cell-2.result c4.cell-2.type_inv,
        round_trip_ok w64 c5.cell-3.result c5.cell-3.type_inv,
        round_trip_ok w64 c6.cell-4.result c6.cell-4.type_inv,
        c1.cell-entry_one.ensures,
        c2.cell-entry_two.ensures,
        c3.cell.ensures,
        c4.cell-2.ensures,
        c5.cell-3.ensures,
        c6.cell-4.ensures,
      ),
      within_eq (round_trip_ok w64 c.target_cell.result c.target_cell.type_inv) c.target_cell.ensures.1,
    )
