use Rattle.std.proofs.Common.{◌≡◌, ◌<◌, ◌+◌, ◌*◌, ℕ, ◌++◌, length, drop, string_bytes}
use Rattle.std.specs.List.{flat_map, range_with_len}
use Rattle.std.specs.Slice.Iter.{chunks_rest, chunks_size}
use Rattle.nv_map.specs.Text.{line_at}
use Rattle.nv_map.proofs.text.push_lines.Given as goal

-- some lines were added, and the cells behind them are left
abbrev pub invariant-loop-line : goal.invariant-loop-line
invariant-loop-line l = goal.iterator-loop-line.can_next l.line-iterator × goal.iterator-loop-line.is_finite l.line-iterator
    × (chunks_size l.line-iterator ≡ 64)
    × (k : ℕ) × (chunks_rest l.line-iterator ≡ drop (64 * k) l.uses) × (64 * k < length l.uses + 64)
    × (string_bytes l.out ≡ string_bytes l.fn.out ++ flat_map (line_at l.uses) (range_with_len 0 k))
