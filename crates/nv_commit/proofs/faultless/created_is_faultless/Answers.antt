use Rattle.nv_commit.proofs.Called.{created_faultless}
use Rattle.nv_commit.proofs.faultless.created_is_faultless.Goals as goal

pub returns : goal.returns
returns c = λ l held d h i name at time tail fresh new place e was is directory good out one right absent first then. created_faultless l held was d h is directory i name good at time tail fresh new place e out one right absent first then
