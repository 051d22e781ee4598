use Rattle.std.proofs.Common.{◌≡◌, ◌+◌, ◌*◌, ◌++◌, length}
use Rattle.nv_region.specs.Region.{words_of, rest_of}
use Rattle.nv_lent.proofs.words.read_words.Given as goal

abbrev pub invariant-loop-left : goal.invariant-loop-left
invariant-loop-left l =
    (l.words.items ++ words_of l.left ≡ words_of l.fn.bytes) × (rest_of l.left ≡ rest_of l.fn.bytes) × (8 * length l.words.items + length l.left ≡ length l.fn.bytes)

abbrev pub decreases-loop-left : goal.decreases-loop-left
decreases-loop-left l = length l.left
