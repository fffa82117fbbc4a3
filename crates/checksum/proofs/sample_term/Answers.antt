-- `checksum::sample_term` meets its contract: by depth, one byte or two.
use Rattle.std.proofs.Common.{◌/◌, ◌%◌, ◌<◌, sym, add-zero, arith, le-ltb, lt-ltb}
use lib.Bits.{bit_xor}
use Rattle.checksum.specs.Checksum.{sample_term}
use Rattle.checksum.proofs.ChecksumLaws.{byte_xor, low_byte, high_byte}
use Rattle.checksum.proofs.sample_term.Goals as goal
use Rattle.checksum.proofs.sample_term.Goals.{Start}

low_most : (s : Start) → bit_xor (s.args.sample % 256) s.args.mask < 256
low_most s = byte_xor _ _ (low_byte s.args.sample) s.requires

high_most : (s : Start) → bit_xor (s.args.sample / 256) s.args.mask < 256
high_most s = byte_xor _ _ (high_byte s.args.sample s.ranges.sample.fits) s.requires

pub returns-then-bit_depth-gt8 : goal.returns-then-bit_depth-gt8
unfolding sample_term
returns-then-bit_depth-gt8 c = (rw (lt-ltb 8 c.args.bit_depth (omega arith)), omega (arith, low_most (goal.at.returns-then-bit_depth-gt8 c).Start, high_most (goal.at.returns-then-bit_depth-gt8 c).Start))

pub returns-else-bit_depth-gt8 : goal.returns-else-bit_depth-gt8
unfolding sample_term
returns-else-bit_depth-gt8 c = (rw (le-ltb 8 c.args.bit_depth (omega arith)) (sym (add-zero _)), omega (arith, low_most (goal.at.returns-else-bit_depth-gt8 c).Start))
