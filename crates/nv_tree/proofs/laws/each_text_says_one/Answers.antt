use Rattle.nv_tree.proofs.Texts.{text_says, says_one}
use Rattle.nv_tree.proofs.laws.each_text_says_one.Goals as goal

pub returns : goal.returns
returns c = record { some = text_says; one = says_one }
