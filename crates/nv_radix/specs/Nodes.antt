-- How the nodes of a `FileIndex` hold its pages.
use Rattle.std.specs.Prelude.{◌≡◌, ℕ, ◌+◌, ◌/◌, ◌==◌, if◌then◌else◌, List, [], ◌∷◌, ◌++◌, Some, None}
use Rattle.std.specs.Int.{bit_at}
use Rattle.nv_radix.specs.Pages.{Pages, is_ready}
use Rattle.nv_radix.specs.Rising.{Rises}

-- the pages of a leaf from `first` on, each with its block, or with none where its bit is clear
abbrev pub leaf_pages : ℕ → List ℕ → ℕ → Pages
leaf_pages mapped [] first = []
leaf_pages mapped (block ∷ blocks) first = (first, if bit_at mapped first == 1 then Some block else None) ∷ leaf_pages mapped blocks (first + 1)

-- the pages, each raised by a number
abbrev pub raised : ℕ → Pages → Pages
raised by [] = []
raised by (x ∷ xs) = (by + x.0, x.1) ∷ raised by xs

-- the pages of nodes in a row, of which each holds `span` pages
abbrev pub in_row : ℕ → List Pages → Pages
in_row span [] = []
in_row span (x ∷ xs) = x ++ raised span (in_row span xs)

-- the pages rise below `span`, and those of a leaf are ready together
pub record IsNode (span : ℕ) (m : Pages) : Type 0 where
  pub rises : Rises 0 span m
  pub leaves : (p q : ℕ) → p / 64 ≡ q / 64 → is_ready m p ≡ is_ready m q
