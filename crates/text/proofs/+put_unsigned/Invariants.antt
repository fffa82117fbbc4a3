-- `text::put_unsigned` ends: each call is on a tenth of the number.
use Rattle.text.proofs.+put_unsigned.Given as goal

abbrev pub decreases-put_unsigned : goal.decreases-put_unsigned
decreases-put_unsigned l = l.n
