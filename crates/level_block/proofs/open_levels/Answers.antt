-- `level_block::open_levels` meets its contract: the refusals are the ladder's; past them scaling writes the whole block, and the opening on it answers 0.
use mathlib.Core.Path.{◌≡◌, sym, ap, subst, ◌∙◌}
use mathlib.Core.List.{List}
use Prim.Native.Nat.{ℕ}
use lib.IntN.{ℤ}
use lib.ListN.{length}
use Rattle.std.proofs.Common.{rules, Ok, Err}
use Rattle.std.proofs.lemmas.List.{map-id}
use Rattle.h265.specs.ScalingFactor.{ScalingList}
use Rattle.refusal.specs.Outcome.{accepted, refused, answer, outcome}
use Rattle.refusal.proofs.ConditionLaws.{list_whole}
use Rattle.refusal.specs.Condition.{bits32}
use Rattle.scaling_blocks.specs.Blocks.{dequantized, CountWrites}
use Rattle.scaling_values.specs.Given.{entries_of}
use Rattle.scaling_values.specs.Given.{list_of as given_list}
use Rattle.block_rules.specs.declared.Source.{Source}
use Rattle.block_rules.specs.Edit.{Buffers, buffers, opened, Opens}
use Rattle.block_rules.specs.Opening.{Opening, opened_as}
use Rattle.block_rules.specs.Level.{list_of, on_levels_by, level_ladder, scaled_buffers, levels_opened, level_opened, LevelOpens}
use Rattle.block_laws.proofs.LevelLaws.{levels_passed}
use Rattle.block_laws.proofs.LevelOpeningLaws.{source_list, OpenFits, limited, level_open_refused, scaled_whole, scaled-never, open-never, level_open_ends, level_opens_stopped}
use Rattle.level_block.proofs.open_levels.Goals as goal
use Rattle.level_block.proofs.open_levels.Goals.{After-dequantize, After-level_refusal, After-open_from, In_ok-level_refusal, Start}

abbrev opening : Start → Opening
opening s = on_levels_by s.args.kind s.args.n s.args.precision.bit_depth s.args.precision.extended s.args.qp_prime.0 (given_list s.args.list)

abbrev lent : Start → Buffers
lent s = buffers s.args.coeff.now s.args.inter.now s.args.residual.now

-- the source holds the list that was given
list_is : (s : Start) → list_of (opening s).source ≡ given_list s.args.list
list_is s = source_list s.args.qp_prime.0 (given_list s.args.list)

-- what the ladder answers, for that list
ladder_is : (c : After-level_refusal) → answer c.level_refusal.result ≡ level_ladder (refused tt) (accepted tt) c.args.kind c.args.n c.args.precision.bit_depth (entries_of (list_of (opening (goal.at.After-level_refusal c).Start).source)) (length c.args.levels.now) (length c.args.coeff.now) (length c.args.inter.now) (length c.args.residual.now)
ladder_is c =
    c.level_refusal.ensures
    ∙ ap (λ (k : ℕ). level_ladder (refused tt) (accepted tt) c.args.kind c.args.n c.args.precision.bit_depth k (length c.args.levels.now) (length c.args.coeff.now) (length c.args.inter.now) (length c.args.residual.now))
    (c.len.ensures ∙ ap entries_of (sym (list_is (goal.at.After-level_refusal c).Start)))

pub returns-in_err-level_refusal : goal.returns-in_err-level_refusal
returns-in_err-level_refusal c =
    let s = (goal.at.returns-in_err-level_refusal c).Start in
    let why = c.in_err-level_refusal.field-0.0 in
    let told : c.from_residual.result ≡ Err c.in_err-level_refusal.field-0.0 = search rules in
    rw told
    (level_opens_stopped (opening s) c.args.levels.now (lent s) why
    (level_open_refused (opening s) c.args.levels.now (lent s) why (ap answer (sym c.in_err-level_refusal.was) ∙ ladder_is (goal.at.returns-in_err-level_refusal c).After-level_refusal)))

-- no condition of the ladder holds
fits : (c : In_ok-level_refusal) → OpenFits (opening (goal.at.In_ok-level_refusal c).Start) c.args.levels.now (lent (goal.at.In_ok-level_refusal c).Start)
fits c =
    levels_passed c.args.kind c.args.n c.args.precision.bit_depth (entries_of (list_of (opening (goal.at.In_ok-level_refusal c).Start).source)) (length c.args.levels.now) (length c.args.coeff.now) (length c.args.inter.now) (length c.args.residual.now)
    (ap answer (sym c.in_ok-level_refusal.was) ∙ ladder_is (goal.at.In_ok-level_refusal c).After-level_refusal)

pub source_of-source-requires : goal.source_of-source-requires
source_of-source-requires c =
    ap entries_of (sym (list_is (goal.at.source_of-source-requires c).Start)) ∙ list_whole _ (fits (goal.at.source_of-source-requires c).In_ok-level_refusal).list

-- what scaling left and answered
both : (c : After-dequantize)
    → (c.dequantize.new.out ≡ (scaled_buffers (opening (goal.at.After-dequantize c).Start) c.args.levels.now (lent (goal.at.After-dequantize c).Start)).coeff)
    × (outcome 0 c.dequantize.result ≡ accepted (limited (opening (goal.at.After-dequantize c).Start) c.args.levels.now (lent (goal.at.After-dequantize c).Start)))
both c =
    let s = (goal.at.After-dequantize c).Start in
    scaled_whole (opening s) c.args.levels.now (lent s) (fits (goal.at.After-dequantize c).In_ok-level_refusal) c.dequantize.result c.dequantize.new.out
    (subst (λ (l : ScalingList). CountWrites c.dequantize.result c.dequantize.new.out (dequantized bits32 l c.args.n c.args.qp_prime.0 c.args.precision.bit_depth c.args.precision.extended c.args.levels.now c.args.coeff.now)) (sym (list_is s))
    (rw (map-id c.args.coeff.now, map-id c.dequantize.new.out) at c.dequantize.ensures))

pub returns-in_err-limited : goal.returns-in_err-limited
returns-in_err-limited c =
    let s = (goal.at.returns-in_err-limited c).Start in
    absurd (scaled-never (opening s) c.args.levels.now (lent s) (fits (goal.at.returns-in_err-limited c).In_ok-level_refusal) c.in_err-limited.field-0.0
    (ap (outcome 0) (sym c.in_err-limited.was) ∙ (both (goal.at.returns-in_err-limited c).After-dequantize).1))

-- the opening is that on the scaled coefficients
opens : (c : After-open_from) → Opens (opened_as (opening (goal.at.After-open_from c).Start) (scaled_buffers (opening (goal.at.After-open_from c).Start) c.args.levels.now (lent (goal.at.After-open_from c).Start))) c.open_from.result c.open_from.new.inter c.open_from.new.residual
unfolding opened_as scaled_buffers
opens c =
    let as_source : Source → List ℤ → Type 0 =
    λ s xs. Opens (opened c.args.kind c.args.n c.args.precision.bit_depth c.args.precision.extended s (buffers xs c.args.inter.now c.args.residual.now)) c.open_from.result c.open_from.new.inter c.open_from.new.residual in
    subst (as_source (opening (goal.at.After-open_from c).Start).source) (both (goal.at.After-open_from c).After-dequantize).0
    (subst (λ (s : Source). as_source s c.dequantize.new.out) c.source_of-source.ensures c.open_from.ensures)

pub returns-in_err-block : goal.returns-in_err-block
returns-in_err-block c =
    let s = (goal.at.returns-in_err-block c).Start in
    absurd (open-never (opening s) c.args.levels.now (lent s) (fits (goal.at.returns-in_err-block c).In_ok-level_refusal) c.in_err-block.field-0.0 _ _
    (rw c.in_err-block.was at (opens (goal.at.returns-in_err-block c).After-open_from)))

pub returns : goal.returns
returns c =
    let s = (goal.at.returns c).Start in
    let b = both (goal.at.returns c).After-dequantize in
    subst (λ (xs : List ℤ). LevelOpens (level_opened (opening s) c.args.levels.now (lent s)) (Ok (levels_opened c.in_ok-limited.limited c.in_ok-block.block)) xs c.open_from.new.inter c.open_from.new.residual) (sym b.0)
    (level_open_ends (opening s) c.args.levels.now (lent s) (fits (goal.at.returns c).In_ok-level_refusal) c.in_ok-block.block c.open_from.new.inter c.open_from.new.residual
    (rw c.in_ok-block.was at (opens (goal.at.returns c).After-open_from)) c.in_ok-limited.limited (ap (outcome 0) (sym c.in_ok-limited.was) ∙ b.1))
