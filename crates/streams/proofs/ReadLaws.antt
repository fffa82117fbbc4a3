-- What two reads, one after the other, gave is what the reader lost to both.
use Rattle.std.proofs.Common.{Option, None, Some, append_assoc, ℕ, List, ◌++◌, sym, ap, ◌∙◌}
use Rattle.std.specs.Io.KnownBytes.{Consumes}

pub consumes_trans : (a b c : Option (List ℕ)) (xs ys : List ℕ) → Consumes a b xs → Consumes b c ys → Consumes a c (xs ++ ys)
consumes_trans None b c xs ys p q = tt
consumes_trans (Some l) None c xs ys p q = elim p [ ]
consumes_trans (Some l) (Some m) None xs ys p q = elim q [ ]
consumes_trans (Some l) (Some m) (Some n) xs ys p q = p ∙ ap (λ t. xs ++ t) q ∙ sym (append_assoc xs ys n)
