use Rattle.std.proofs.Common.{◌∙◌, ap, refl, sym}
use Rattle.std.specs.Option.{option_copied}
use Rattle.nv_calls.proofs.sizes.row_in_use.Goals as goal

pub returns-in-Some-clause-row : goal.returns-in-Some-clause-row
returns-in-Some-clause-row c = sym c.get.ensures ∙ ap option_copied c.in-Some.is

pub returns-in-None-clause-missing : goal.returns-in-None-clause-missing
returns-in-None-clause-missing c = (refl, sym c.get.ensures ∙ ap option_copied c.in-None.is)
