-- What reading a log looks at in one of its pages.
use Rattle.std.specs.Prelude.{◌≡◌, ℕ, ◌+◌, ◌/◌, ◌%◌, ◌<◌}
use Rattle.nv_region.specs.Region.{Region, word}

-- the bytes of the longest entry: three words, and those of a name of 255 bytes
abbrev pub longest_entry : ℕ
longest_entry = 280

-- The regions have the same words in this page of a log with this tail. In the tail's page these are the words in front of where an
-- entry ends at most that begins before the tail: what stands behind is never looked at.
abbrev pub SameToTail : ℕ → Region → Region → ℕ → Type 0
SameToTail tail R R' b = (a : ℕ) → a % 8 ≡ 0 → a / 4096 ≡ b → (b ≡ tail / 4096 → a < tail + longest_entry) → word R' a ≡ word R a
