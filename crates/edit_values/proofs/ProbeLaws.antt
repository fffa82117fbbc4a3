-- What 64 bits hold of a probe.
--   entry-one_fits .. target_fits   each field
use mir.Syntax.{w64}
use mir.Val.{SFits}
use Rattle.integers.proofs.BoundLaws.{within_fits}
use Rattle.edit_values.specs.declared.Probe.{Probe}
use Rattle.edit_values.specs.Sample.{Bounded}

module _ {p : Probe} (b : Bounded p) where
  pub entry-one_fits : SFits w64 p.entry_one
  entry-one_fits = within_fits tt b.entry-one

  pub entry_two_fits : SFits w64 p.entry_two
  entry_two_fits = within_fits tt b.entry_two

  pub rest_one_fits : SFits w64 p.rest_one
  rest_one_fits = within_fits tt b.rest_one

  pub rest_two_fits : SFits w64 p.rest_two
  rest_two_fits = within_fits tt b.rest_two

  pub target_fits : SFits w64 p.target
  target_fits = within_fits tt b.target
