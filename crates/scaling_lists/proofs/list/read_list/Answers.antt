-- `scaling_lists::list::read_list` meets its contract: the flag says whether the list is taken over or coded in full.
use mathlib.Core.Path.{◌≡◌, sym, ap, ◌∙◌}
use mathlib.Core.Bool.{true, false, not, not-not}
use native.Mathlib.Omega.{arith}
use borrow.Author.Rules.{rules}
use Rattle.std.specs.Prelude.{Err}
use Rattle.std.proofs.lemmas.Result.{IfOk-weaker}
use Rattle.scaling_lists_codes.specs.Syntax.{size_id}
use Rattle.scaling_lists_taken.specs.Lent.{lent_lists}
use Rattle.scaling_lists.proofs.ListLaws.{list_taken, list_coded, list_ended}
use Rattle.scaling_lists.proofs.list.read_list.Goals as goal

pub returns-in_err-check : goal.returns-in_err-check
returns-in_err-check c =
    let a = c.args in
    let told : c.from_residual.result ≡ Err c.in_err-check.field-0.0 = search rules in
    let ended : c.is_there.result ≡ false = sym (not-not c.is_there.result) ∙ ap not c.in_err-check.ensures.0 in
    rw (told, c.in_err-check.ensures.1) (list_ended (lent_lists a.defaults) a.bytes.now a.j a.held.now.entries a.held.now.dcs a.at (sym c.is_there.ensures ∙ ended), tt)

pub returns-then-bit-eq0 : goal.returns-then-bit-eq0
returns-then-bit-eq0 c =
    let a = c.args in
    let r = c.taken_over in
    let there : c.is_there.result ≡ true = sym (not-not c.is_there.result) ∙ ap not c.in_ok-check.ensures in
    (r.ensures.0 ∙ list_taken (lent_lists a.defaults) a.bytes.now a.j a.held.now.entries a.held.now.dcs a.at (sym c.is_there.ensures ∙ there) (sym c.bit.ensures ∙ c.if-bit-eq0.true), IfOk-weaker r.result _ _ (λ b h. omega (arith, h)) r.ensures.1)

pub returns : goal.returns
unfolding size_id
returns c =
    let a = c.args in
    let r = c.coded_list in
    let there : c.is_there.result ≡ true = sym (not-not c.is_there.result) ∙ ap not c.in_ok-check.ensures in
    (r.ensures.0 ∙ list_coded (lent_lists a.defaults) a.bytes.now a.j a.held.now.entries a.held.now.dcs a.at (sym c.is_there.ensures ∙ there) (λ e. c.if-bit-eq0.false (c.bit.ensures ∙ e)), IfOk-weaker r.result _ _ (λ b h. omega (arith, h)) r.ensures.1)
