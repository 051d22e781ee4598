use Rattle.std.proofs.Common.{◌≡◌, ◌<◌, ◌+◌, ◌*◌, ℕ, ◌++◌, length, drop, string_bytes}
use Rattle.std.specs.List.{flat_map, range_with_len}
use Rattle.std.specs.Slice.Iter.{chunks_rest, chunks_size}
use Rattle.nv_block.specs.Hex.{row_at}
use Rattle.nv_block.proofs.hex.push_hex_rows.Given as goal

-- some rows were added, and the bytes behind them are left
abbrev pub invariant-loop-row : goal.invariant-loop-row
invariant-loop-row l = goal.iterator-loop-row.can_next l.row-iterator × goal.iterator-loop-row.is_finite l.row-iterator
    × (chunks_size l.row-iterator ≡ 16)
    × (k : ℕ) × (chunks_rest l.row-iterator ≡ drop (16 * k) l.bytes) × (16 * k < length l.bytes + 16) × (l.at ≡ l.start + 16 * k)
    × (string_bytes l.out ≡ string_bytes l.fn.out ++ flat_map (row_at l.start l.bytes) (range_with_len 0 k))
