-- `scaling_lists::reader::read_scaling_lists` meets its contract: rows 5 and 7 before any bit is read, and nothing is handed out before the last list is read.
use mathlib.Core.Path.{sym, ap, ◌∙◌}
use borrow.Author.Tests.{ltb-false}
use lib.Seq.{length-take-le}
use Rattle.scaling_lists_codes.specs.Syntax.{Defaults, defaults, scaling_list_data}
use Rattle.scaling_lists.specs.Answers.{room_refused, lists_read}
use Rattle.scaling_lists.proofs.ReaderLaws.{written_got}
use Rattle.scaling_lists.proofs.reader.read_scaling_lists.Goals as goal

pub copy_from_slice-requires : goal.copy_from_slice-requires
copy_from_slice-requires c = length-take-le 1280 c.args.lists.now (ltb-false _ 1280 c.in_ok-check.ensures) ∙ sym c.read_all.new.held.whole.0

pub returns : goal.returns
unfolding lists_read room_refused
returns c =
    let a = c.args in
    let e = c.in_ok-bits.ensures ∙ ap (λ (lent : Defaults). scaling_list_data lent a.bytes.now) c.in_ok-defaults.ensures.0 in
    rw (c.in_ok-defaults.ensures.1, c.in_ok-check.ensures, c.in_ok-check-2.ensures, c.copy_from_slice.ensures.after, c.copy_from_slice-2.ensures.after)
    (written_got (defaults a.default_4x4.now a.default_intra.now a.default_inter.now) a.bytes.now a.lists.now a.dcs.now c.read_all.new.held _ e)
