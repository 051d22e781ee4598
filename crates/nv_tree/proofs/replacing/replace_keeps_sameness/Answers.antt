use Rattle.nv_tree.proofs.Replaced.{replace_alike, replaced_kept}
use Rattle.nv_tree.proofs.replacing.replace_keeps_sameness.Goals as goal

pub returns : goal.returns
returns c = record {
  made = λ old new time t u same. replaced_kept t u same old new time;
  refused = λ w cpu p q needed t u same. replace_alike t u same w cpu p q needed;
}
