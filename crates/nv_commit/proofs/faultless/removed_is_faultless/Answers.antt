use Rattle.nv_commit.proofs.Called.{directory_gone_faultless, file_gone_faultless}
use Rattle.nv_commit.proofs.faultless.removed_is_faultless.Goals as goal

pub returns-clause-file : goal.returns-clause-file
returns-clause-file c = λ l held d h i f name at time tail fresh was is directory good there named own file last. file_gone_faultless l held was d h is directory i name good at time tail fresh f there named own file last

pub returns-clause-directory : goal.returns-clause-directory
returns-clause-directory c = λ l held d h i f name at time tail fresh was is directory good there named own kind empty. directory_gone_faultless l held was d h is directory i name good at time tail fresh f there named own kind empty
