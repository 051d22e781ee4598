use Rattle.nv_tree.proofs.Alike.{walk_alike, found_alike, passed_alike, read_alike}
use Rattle.nv_tree.proofs.laws.paths_lead_alike.Goals as goal

pub returns : goal.returns
returns c = record {
  walk = λ d names t u same. walk_alike t u same d names;
  found = λ names t u same. found_alike t u same names;
  passed = λ d names t u same. passed_alike t u same d names;
  bytes = read_alike;
}
