use Rattle.std.proofs.Common.{◌≡◌, ◌≤◌, ◌+◌, ◌/◌, ◌++◌, length, vec_len, vec_capacity}
use Rattle.nv_region.specs.Region.{words_of, rest_of}
use Rattle.nv_region.proofs.pieces.push_words.Given as goal

abbrev pub invariant-loop-left : goal.invariant-loop-left
invariant-loop-left l =
    (l.words.items ++ words_of l.left ≡ l.fn.words.items ++ words_of l.bytes) × (rest_of l.left ≡ rest_of l.bytes)
    × (vec_len l.words + length l.left / 8 ≤ vec_capacity l.words) × (length l.left ≤ length l.bytes)

abbrev pub decreases-loop-left : goal.decreases-loop-left
decreases-loop-left l = length l.left
