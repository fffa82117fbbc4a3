-- `cases::defaults::Defaults::read` meets its contract: the reader lost what the three lists hold, one after another.
use Rattle.cases.proofs.ReadingLaws.{consumes_trans}
use Rattle.cases.proofs.defaults.Defaults.read.Goals as goal

pub returns : goal.returns
returns g c =
    let four = c.next_bytes in
    let intra = c.next_bytes-2 in
    let inter = c.next_bytes-3 in
    let first = consumes_trans _ _ _ _ _ four.ensures.1 intra.ensures.1 in
    (four.ensures.0, intra.ensures.0, inter.ensures.0, consumes_trans _ _ _ _ _ first inter.ensures.1)
