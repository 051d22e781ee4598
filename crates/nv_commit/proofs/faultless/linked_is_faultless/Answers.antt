use Rattle.nv_commit.proofs.Called.{linked_faultless}
use Rattle.nv_commit.proofs.faultless.linked_is_faultless.Goals as goal

pub returns : goal.returns
returns c = λ l held d h i f name at time tail fresh file_at file_tail file_fresh was is directory good there file few absent first then. linked_faultless l held was d h is directory i name good at time tail fresh f there file file_at file_tail file_fresh few absent first then
