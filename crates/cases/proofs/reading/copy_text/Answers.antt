-- `cases::reading::copy_text` meets its contract: the byte of length was read, and at most as many bytes after it.
use Rattle.std.proofs.Common.{rules, ◌++◌, take}
use Rattle.cases.proofs.ReadingLaws.{consumes_trans, text_lost}
use Rattle.cases.proofs.reading.copy_text.Goals as goal

pub returns : goal.returns
returns g c =
    let first = c.read_full in
    let text = c.read_full-2 in
    let lost = consumes_trans _ _ _ _ _ first.ensures.bytes text.ensures.bytes in
    let lengths = text_lost first.new.buffer text.new.buffer first.result text.result (search rules) (search rules) (search rules) in
    (take first.result first.new.buffer ++ take text.result text.new.buffer, lost, lengths.0, lengths.1)
