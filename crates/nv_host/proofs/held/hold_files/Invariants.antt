use Rattle.std.proofs.Common.{◌≡◌, ◌≤◌, map, take}
use Rattle.nv_host.proofs.held.hold_files.Given as goal

abbrev pub invariant-loop-at : goal.invariant-loop-at
invariant-loop-at g l = record {
  entries : map (λ h. h.entry.now) l.held.items ≡ take l.at l.entries;
  links : map (λ h. h.link) l.held.items ≡ take l.at l.links;
  room : l.room ≤ 1073741824;
}
