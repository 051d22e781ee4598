use Rattle.std.proofs.Common.{refl}
use Rattle.nv_commit.proofs.Called.{moved_faultless, moved_here_faultless}
use Rattle.nv_commit.proofs.faultless.renamed_is_faultless.Goals as goal

pub returns-clause-two : goal.returns-clause-two
returns-clause-two c = λ l held d h i name at time tail fresh e k other path next end pages was is directory good good_other named leads absent outside to to_directory apart first then. moved_faultless l held was d h is directory i name good at time tail fresh e other good_other path named leads absent outside k to to_directory apart next end pages first then

pub returns-clause-one : goal.returns-clause-one
returns-clause-one c = λ l held d h i name at time tail fresh other path next was is directory good good_other named leads absent outside own. moved_here_faultless l held was d h is directory i name good at time tail fresh d other good_other path named leads absent outside refl next own
