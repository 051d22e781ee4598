use Rattle.std.proofs.Common.{◌≡◌, ℕ, List, ◌++◌}
use Rattle.std.specs.List.{flat_map}
use Rattle.std.specs.Slice.Iter.{chunks_rest, chunks_size}
use Rattle.std.specs.Io.KnownBytes.{Appends}
use Rattle.byteorder.specs.Endian.{little_bytes}
use Rattle.nv_region.proofs.pieces.write_words.Given as goal

-- some words were written, and the others are left
abbrev pub invariant-loop-some : goal.invariant-loop-some
invariant-loop-some g l = (goal.iterator-loop-some g).can_next l.some-iterator × (goal.iterator-loop-some g).is_finite l.some-iterator
    × (chunks_size l.some-iterator ≡ 16384)
    × (done : List ℕ) × (done ++ flat_map (little_bytes 8) (chunks_rest l.some-iterator) ≡ flat_map (little_bytes 8) l.words)
    × Appends (g.W.Write.contents l.initial.writer) (g.W.Write.contents l.writer) done
