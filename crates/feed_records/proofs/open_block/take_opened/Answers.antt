-- `feed_records::open_block::take_opened` meets its contract: the rows are the residual's of clause 8.6, and the block is open after them.
use Rattle.feed_state.specs.Buffers.{lent}
use Rattle.feed_records.proofs.HeldLaws.{opened_takes}
use Rattle.feed_records.proofs.open_block.take_opened.Goals as goal

pub returns : goal.returns
returns c =
    let a = c.args in
    rw (c.with_open.ensures, c.body_length.ensures)
    (opened_takes a.s a.p a.kind a.body.size a.body.bytes.now (lent a.levels.now a.coeff.now a.inter.now a.residual.now) c.open_body-opened.result _ _ _ _ c.saturating_add.result
    c.requires.accepted.0 c.requires.accepted.1 c.open_body-opened.ensures c.saturating_add.ensures c.put_rows-end.ensures)
