-- What `stat` answers.
use Rattle.std.proofs.Common.{◌≡◌, ℕ, List, ap}
use Rattle.std.specs.Option.{option_map}
use Rattle.nv_tree.specs.Tree.{Node, Tree}
use Rattle.nv_paths.specs.Seen.{LeadsTo}
use Rattle.nv_tree.specs.declared.stat.Stat.{Stat}
use Rattle.nv_tree.specs.Stat.{stat_of, IsStat}

pub numbers_of : (t : Tree) (names : List (List ℕ)) (i : ℕ) (node : Node) (s : Stat) → LeadsTo t names i node → s ≡ stat_of i node → IsStat t names s
numbers_of t names i node s led is = rw is (record { leads = led.leads; shows = ap (option_map (stat_of i)) led.shows })
