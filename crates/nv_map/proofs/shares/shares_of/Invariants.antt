use Rattle.std.proofs.Common.{◌≡◌, ◌<◌, ◌+◌, ◌*◌, ℕ, length, map, drop}
use Rattle.std.specs.List.{range_with_len}
use Rattle.std.specs.Slice.Iter.{chunks_rest, chunks_size}
use Rattle.nv_map.specs.Shares.{share_at}
use Rattle.nv_map.proofs.shares.shares_of.Given as goal

-- some cells were counted, and the blocks behind them are left
abbrev pub invariant-loop-chunk : goal.invariant-loop-chunk
invariant-loop-chunk l = goal.iterator-loop-chunk.can_next l.chunk-iterator × goal.iterator-loop-chunk.is_finite l.chunk-iterator
    × (chunks_size l.chunk-iterator ≡ l.each)
    × (k : ℕ) × (chunks_rest l.chunk-iterator ≡ drop (l.each * k) l.uses) × (l.each * k < length l.uses + l.each)
    × (l.first ≡ l.each * k) × (l.shares.items ≡ map (share_at l.each l.uses) (range_with_len 0 k))
