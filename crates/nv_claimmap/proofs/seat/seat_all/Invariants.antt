use Rattle.std.proofs.Common.{◌≡◌, ◌+◌, ◌≤◌, ◌-◌, []}
use Rattle.std.specs.Vec.{vec_len, vec_capacity}
use Rattle.nv_claimcore.specs.Claims.{nothing}
use Rattle.nv_claimmap.specs.Held.{map_id, fresh}
use Rattle.nv_claimmap.proofs.seat.seat_all.Given as goal

abbrev pub invariant-loop-number : goal.invariant-loop-number
invariant-loop-number l = (l.number ≤ l.others) × (l.others + 1 ≡ l.sizes.workers) × (l.last.table_id ≡ l.shared.table_id) × (l.last.me ≡ (nothing (l.sizes.workers - l.number), []))
    × (l.seats.items ≡ fresh (map_id l.shared.table_id l.sizes) l.number) × (vec_len l.seats ≡ l.number) × (l.sizes.workers ≤ vec_capacity l.seats)
