use Rattle.std.proofs.Common.{◌≡◌, ◌≢◌, ℕ, true}
use Rattle.std.specs.BTreeMap.{btree_map_len}
use Rattle.nv_inspect.specs.Held.{is_among, key_at}
use Rattle.nv_inspect.proofs.pieces.clear.Given as goal

-- where others begin stays
abbrev pub invariant-loop-page : goal.invariant-loop-page
invariant-loop-page l = (q : ℕ) → is_among l.first l.end q ≢ true → key_at l.pieces.entries q ≡ key_at l.fn.pieces.entries q

abbrev pub decreases-loop-page : goal.decreases-loop-page
decreases-loop-page l = btree_map_len l.pieces
