-- `scaling_lists::coded::coded_entries` meets its contract: the entries that were read, with the DC that was given.
use mathlib.Core.Path.{ap, ◌∙◌}
use mathlib.Core.List.{List}
use Prim.Native.Nat.{ℕ}
use native.Mathlib.Omega.{arith}
use lib.ListN.{length}
use Rattle.std.proofs.lemmas.Result.{err_from_is_err_and}
use Rattle.scaling_lists_codes.specs.Syntax.{blank, entries_from}
use Rattle.scaling_lists.proofs.ListLaws.{coded_got, coded_stop, positions_inside}
use Rattle.scaling_lists.proofs.coded.coded_entries.Goals as goal

pub entries_from-requires : goal.entries_from-requires
entries_from-requires c = (rw c.positions-scan.ensures (positions_inside c.args.size_id), c.requires)

pub returns-in_err-behind : goal.returns-in_err-behind
returns-in_err-behind c =
    let a = c.args in
    let p = err_from_is_err_and c.from_residual.result c.from_residual.ensures.1 in
    let e = c.in_err-behind.ensures.0 ∙ ap (λ (scan : List ℕ). entries_from a.bytes.now scan a.next a.at blank) c.positions-scan.ensures in
    rw (p.1, p.2) (coded_stop a.bytes.now a.size_id a.dc a.next a.at _ e, tt)

pub returns : goal.returns
returns c =
    let a = c.args in
    let e = c.in_ok-behind.ensures.0 ∙ ap (λ (scan : List ℕ). entries_from a.bytes.now scan a.next a.at blank) c.positions-scan.ensures in
    (coded_got a.bytes.now a.size_id a.dc a.next a.at _ _ e, omega (arith, c.in_ok-behind.ensures.1, ap length c.positions-scan.ensures, (positions_inside a.size_id).few))
