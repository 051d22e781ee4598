use Rattle.std.proofs.Common.{refl, option_map}
use Rattle.nv_args.proofs.Sizing.{no_version}
use Rattle.nv_args.proofs.reading.layout_of.Goals as goal

pub returns-in_err-may_be_number-clause-none : goal.returns-in_err-may_be_number-clause-none
returns-in_err-may_be_number-clause-none c none = no_version (option_map (λ text. text.now) c.args.text) (c.in_err-may_be_number.ensures.none refl)
