use Rattle.nv_graph.proofs.SameWords.{words_same}
use Rattle.nv_graph.proofs.steps.same_words_same_inode.Goals as goal

pub returns : goal.returns
returns c = λ R S l j w. words_same w
