use Rattle.std.proofs.Common.{◌≡◌, ◌++◌, List, map, take}
use Rattle.nv_host.specs.declared.walking.HostEntry.{HostEntry}
use Rattle.nv_host.specs.Walking.{AreNamed}
use Rattle.nv_host.proofs.walking.push_named.Given as goal

-- what was added has the names so far
abbrev pub invariant-loop-name : goal.invariant-loop-name
invariant-loop-name g l = (inside : List HostEntry) × (l.entries.items ≡ l.fn.entries.items ++ inside)
    × AreNamed l.path l.place (map (λ name. name.now) (take l.name-index l.names)) inside
