use Rattle.nv_logpage.proofs.Tail.{tail_page}
use Rattle.nv_logpage.proofs.laws.a_log_has_the_page_of_its_tail.Goals as goal

pub returns : goal.returns
returns c = λ R s head tail es pages starts r. tail_page starts r
