-- `cases::reading::UsizeNumber::next_in` meets its contract: the number's bytes are those of the array, of which the reader lost the first ones.
use Rattle.std.proofs.Common.{rules, take, sym, subst}
use Rattle.std.proofs.lemmas.Nat.{le_bytes_8}
use Rattle.std.specs.Io.KnownBytes.{Consumes}
use Rattle.cases.proofs.reading.UsizeNumber.next_in.Goals as goal

pub returns : goal.returns
returns g c =
    let read = c.next_bytes in
    let bytes = le_bytes_8 read.result _ (search rules) (search rules) c.from_le_bytes.ensures in
    (read.ensures.0, subst (λ bs. Consumes (g.R.Read.remaining c.args.input.now) (g.R.Read.remaining read.new.input) (take read.ensures.0 bs)) (sym bytes) read.ensures.1)
