use Rattle.std.proofs.Common.{◌≡◌, ◌≤◌, ◌==◌, take}
use Rattle.std.specs.List.{count_by}
use Rattle.nv_map.specs.Rank.{rank}
use Rattle.nv_map.proofs.shares.count_of.Given as goal

abbrev pub invariant-loop-told : goal.invariant-loop-told
invariant-loop-told l = (l.count ≡ count_by (λ told. rank told == rank l.kind) (take l.told-index l.uses)) × (l.count ≤ l.told-index)
