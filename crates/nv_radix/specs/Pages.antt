-- What a `FileIndex` shows.
use Rattle.std.specs.Prelude.{◌≡◌, ℕ, ◌+◌, ◌<◌, ◌≤◌, Bool, true, false, nat_le, nat_lt, ◌&&◌, ◌||◌, ◌==◌, if◌then◌else◌, List, [], ◌∷◌, Option, None}
use Rattle.nv_radix.specs.declared.TheConstants.{MAX_FILE_PAGES}

-- the ready pages, each with its block or none
abbrev pub Pages : Type 0
Pages = List (ℕ × Option ℕ)

-- the block that a page maps to
abbrev pub block_at : Pages → ℕ → Option ℕ
block_at [] p = None
block_at (x ∷ xs) p = if x.0 == p then x.1 else block_at xs p

-- the page can be set without memory
abbrev pub is_ready : Pages → ℕ → Bool
is_ready [] p = false
is_ready (x ∷ xs) p = (x.0 == p) || is_ready xs p

-- the page is one of `count` pages from `first` on
abbrev pub in_run : ℕ → ℕ → ℕ → Bool
in_run first count p = nat_le first p && nat_lt p (first + count)

-- every page of the run is ready
abbrev pub AreReady : Pages → ℕ → ℕ → Type 0
AreReady m first count = (p : ℕ) → first ≤ p → p < first + count → is_ready m p ≡ true

-- every page of the run is one that a file may have
abbrev pub AreFilePages : ℕ → ℕ → Type 0
AreFilePages first count = 0 < count → first + count ≤ MAX_FILE_PAGES
