-- `bits::is_there` meets its contract: a bit is there where its byte is.
use Rattle.bits.proofs.BitsLaws.{is_there_byte}
use Rattle.bits.proofs.is_there.Goals as goal

pub returns : goal.returns
returns c = is_there_byte c.args.bytes.now c.args.at
