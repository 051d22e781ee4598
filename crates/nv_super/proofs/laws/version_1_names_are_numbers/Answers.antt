use Rattle.nv_super.proofs.Names.{fixed_names, number_named}
use Rattle.nv_super.proofs.laws.version_1_names_are_numbers.Goals as goal

pub returns-clause-names : goal.returns-clause-names
returns-clause-names c = number_named

pub returns-clause-version_1 : goal.returns-clause-version_1
returns-clause-version_1 c = fixed_names
