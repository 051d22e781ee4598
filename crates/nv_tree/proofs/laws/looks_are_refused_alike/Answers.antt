use Rattle.nv_tree.proofs.Tested.{read_tests_alike, list_alike, stat_alike}
use Rattle.nv_tree.proofs.laws.looks_are_refused_alike.Goals as goal

pub returns : goal.returns
returns c = record {
  read = read_tests_alike;
  list = list_alike;
  stat = stat_alike;
}
