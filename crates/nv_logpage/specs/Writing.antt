-- What is stored while entries are written, and what stays.
use Rattle.std.specs.Prelude.{◌≡◌, ◌⊎◌, ℕ, ◌+◌, ◌*◌, ◌/◌, ◌%◌, ◌<◌, ◌≤◌, false, List, [], ◌∷◌, get_or}
use Rattle.nv_region.specs.Region.{Region, word}
use Rattle.nv_region.specs.Stops.{Choices}
use Rattle.nv_entry.specs.declared.entry.Entry.{Entry}
use Rattle.nv_entry.specs.Spelling.{entry_length}
use Rattle.nv_logpage.specs.Reads.{is_next_page}

-- none of these is a next-page entry, and each fits in a page
abbrev pub FitPages : List Entry → Type 0
FitPages [] = Unit {0}
FitPages (e ∷ es) = (is_next_page e ≡ false) × (entry_length e ≤ 4064) × FitPages es

-- the words for entries from a place on in its page
abbrev pub PageFrom : ℕ → Choices
PageFrom p i x = (8 * i / 4096 ≡ p / 4096) × (p ≤ 8 * i) × (8 * i % 4096 < 4064)

-- and those of a block
abbrev pub FromOrIn : ℕ → ℕ → Choices
FromOrIn p b i x = PageFrom p i x ⊎ ((8 * i / 4096 ≡ b) × (8 * i % 4096 < 4064))

-- the words that link the first of these pages
abbrev pub LinkWords : List ℕ → ℕ → Choices
LinkWords pages count i x = (j : ℕ) × (j < count) × (8 * i ≡ 4096 * get_or pages j 0 + 4064)

-- What was written up to a place in the page after k others is the same in both: before the place in its page, and in
-- those others but for their links.
abbrev pub Settled : Region → Region → List ℕ → ℕ → ℕ → Type 0
Settled R S pages k p = (a : ℕ) → a % 8 ≡ 0 → a % 4096 < 4064 → ((a / 4096 ≡ p / 4096) × (a < p)) ⊎ ((j : ℕ) × (j < k) × (a / 4096 ≡ get_or pages j 0)) → word S a ≡ word R a
