-- `scaling_lists_writer::writer::write_within` meets its contract: the bits stand in a buffer of zeros, so its bytes are theirs.
use mathlib.Core.Path.{◌≡◌, ap, ◌∙◌}
use mathlib.Core.List.{List, ◌++◌}
use Prim.Native.Nat.{ℕ}
use borrow.Author.Tests.{ltb-true, ltb-false}
use native.Mathlib.Nat.{zero-add}
use native.Mathlib.Omega.{arith}
use lib.ListN.{drop}
use lib.Seq.{length-take-le}
use Rattle.std.proofs.lemmas.Result.{err_from_is_err_and}
use Rattle.integers.specs.Lists.{overwrite}
use Rattle.text.proofs.WroteLaws.{wrote-length}
use Rattle.bits_written.specs.Bytes.{byte_count}
use Rattle.scaling_lists_written.proofs.WrittenLaws.{written_binary}
use Rattle.scaling_lists_writer.proofs.WriterLaws.{buffer_bit, buffer_binary, written-short, written_got}
use Rattle.scaling_lists_writer.proofs.writer.write_within.Goals as goal
use Rattle.scaling_lists_writer.proofs.writer.write_within.Goals.{After-div_ceil-bytes}

rounded : (c : After-div_ceil-bytes) → c.div_ceil-bytes.result ≡ byte_count c.put_lists-count.result
unfolding byte_count
rounded c = omega (arith, c.div_ceil-bytes.ensures)

pub returns-in_err-check : goal.returns-in_err-check
returns-in_err-check c =
    let w = c.put_lists-count.ensures in
    let p = err_from_is_err_and c.from_residual.result c.from_residual.ensures.1 in
    rw (p.1, p.2, c.in_err-check.ensures.1)
    (written-short c.args.out.now _ _ _ (w.wrote.end ∙ zero-add _) (rounded (goal.at.returns-in_err-check c).After-div_ceil-bytes) (ltb-true _ _ c.in_err-check.ensures.0))

pub put_bytes-requires : goal.put_bytes-requires
put_bytes-requires c =
    let w = c.put_lists-count.ensures in
    (buffer_binary 22120 _ w.wrote w.bound (written_binary _ _), rw (length-take-le _ _ (ltb-false _ _ c.in_ok-check.ensures)) (omega (arith, c.div_ceil-bytes.ensures, w.bound, wrote-length w.wrote)))

pub returns : goal.returns
unfolding overwrite
returns c =
    let w = c.put_lists-count.ensures in
    written_got c.args.out.now _ _ _ _ _ (w.wrote.end ∙ zero-add _) (rounded (goal.at.returns c).After-div_ceil-bytes) (ltb-false _ _ c.in_ok-check.ensures) (buffer_bit 22120 _ w.wrote w.bound)
    (ap (λ (l : List ℕ). l ++ drop c.div_ceil-bytes.result c.args.out.now) (rw (length-take-le _ _ (ltb-false _ _ c.in_ok-check.ensures)) at c.put_bytes.ensures))
