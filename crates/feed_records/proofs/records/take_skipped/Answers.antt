-- `feed_records::records::take_skipped` meets its contract: the rows are the residual's of transform skip, and no block is open after them.
use Rattle.feed_records.proofs.HeldLaws.{skipped_takes}
use Rattle.feed_records.proofs.records.take_skipped.Goals as goal

pub returns : goal.returns
returns c =
    skipped_takes c.args.s _ c.args.p c.args.body.size c.args.body.bytes.now _ _ _ c.requires.accepted.0 c.requires.accepted.1 c.skip_body-limited.ensures c.with_closed.ensures c.put_rows-end.ensures
