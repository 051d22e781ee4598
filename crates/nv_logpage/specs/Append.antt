-- Where entries go that are written behind the tail of a log.
use Rattle.std.specs.Prelude.{◌≡◌, ◌≢◌, ◌⊎◌, ℕ, suc, ◌+◌, ◌*◌, ◌/◌, ◌%◌, ◌<◌, ◌≤◌, Bool, false, IsTrue, nat_le, if◌then◌else◌, List, [], ◌∷◌, length, get_or}
use Rattle.std.specs.List.{Contains}
use Rattle.nv_region.specs.Region.{Region, size, word}
use Rattle.nv_region.specs.Stops.{Choices}
use Rattle.nv_super.specs.declared.superblock.Super.{Super}
use Rattle.nv_super.specs.Layout.{is_page_start}
use Rattle.nv_entry.specs.declared.entry.Entry.{Entry}
use Rattle.nv_entry.specs.declared.entry.Entry.TheVariants.{NextPage}
use Rattle.nv_entry.specs.Spelling.{Stands, entry_length}
use Rattle.nv_logpage.specs.declared.found.Placed.{Placed}
use Rattle.nv_logpage.specs.Reads.{is_next_page, placed}

-- the entry ends within the entries of the place's page
abbrev pub fits_at : ℕ → Entry → Bool
fits_at p e = nat_le (p % 4096 + entry_length e) 4064

-- where the entry goes when k fresh pages are used: to the place, or to the start of the next fresh page
abbrev pub place_of : List ℕ → ℕ → ℕ → Entry → ℕ
place_of fresh k p e = if fits_at p e then p else 4096 * get_or fresh k 0

-- how many fresh pages are used with it
abbrev pub pages_after : ℕ → ℕ → Entry → ℕ
pages_after k p e = if fits_at p e then k else suc k

-- the entries at their places, from a place on, when k fresh pages are used
abbrev pub appended : List ℕ → ℕ → ℕ → List Entry → List Placed
appended fresh k p [] = []
appended fresh k p (e ∷ es) = placed (place_of fresh k p e) e ∷ appended fresh (pages_after k p e) (place_of fresh k p e + entry_length e) es

-- the place behind the last of them
abbrev pub end_of : List ℕ → ℕ → ℕ → List Entry → ℕ
end_of fresh k p [] = p
end_of fresh k p (e ∷ es) = end_of fresh (pages_after k p e) (place_of fresh k p e + entry_length e) es

-- how many fresh pages entries take from an offset in a page on
abbrev pub needed : ℕ → List Entry → ℕ
needed offset [] = 0
needed offset (e ∷ es) = if nat_le (offset + entry_length e) 4064 then needed (offset + entry_length e) es else suc (needed (entry_length e) es)

-- none of these is a next-page entry
abbrev pub AreGiven : List Entry → Type 0
AreGiven [] = Unit {0}
AreGiven (e ∷ es) = (is_next_page e ≡ false) × AreGiven es

-- no block stands twice
abbrev pub AllDiffer : List ℕ → Type 0
AllDiffer blocks = (i j : ℕ) → i < j → j < length blocks → get_or blocks i 0 ≢ get_or blocks j 0

-- each of these pages ends at this address or before it
abbrev pub EndBy : List ℕ → ℕ → Type 0
EndBy pages limit = (j : ℕ) → j < length pages → 4096 * get_or pages j 0 + 4096 ≤ limit

-- What is owed where entries are appended: the tail is a word of its page's entries or the page's link, there are
-- enough fresh pages, no page stands twice, and all lie within the region.
pub record CanAppend (R : Region) (tail : ℕ) (entries : List Entry) (fresh : List ℕ) : Type 0 where
  pub whole : tail % 8 ≡ 0
  pub offset : tail % 4096 ≤ 4064
  pub given : AreGiven entries
  pub enough : needed (tail % 4096) entries ≤ length fresh
  pub differ : AllDiffer (tail / 4096 ∷ fresh)
  pub inside : EndBy (tail / 4096 ∷ fresh) (size R)

-- The words that may be stored: from the tail on in its page, and in the fresh pages.
abbrev pub AppendWords : ℕ → List ℕ → Choices
AppendWords tail fresh i x = ((8 * i / 4096 ≡ tail / 4096) × (tail ≤ 8 * i)) ⊎ ((j : ℕ) × (j < length fresh) × (8 * i / 4096 ≡ get_or fresh j 0))

-- those of them that can hold entries: all but the links
abbrev pub EntryWords : ℕ → List ℕ → Choices
EntryWords tail fresh i x = AppendWords tail fresh i x × (8 * i % 4096 < 4064)

-- An entry stands where it goes. Where it left a page that isn't full, a next-page entry stands there.
abbrev pub StepLaid : Region → List ℕ → ℕ → ℕ → Entry → Type 0
StepLaid R fresh k p e = Stands R (place_of fresh k p e) e × (fits_at p e ≡ false → p % 4096 < 4064 → Stands R p NextPage)

-- so do they all
abbrev pub Laid : Region → List ℕ → ℕ → ℕ → List Entry → Type 0
Laid R fresh k p [] = Unit {0}
Laid R fresh k p (e ∷ es) = StepLaid R fresh k p e × Laid R fresh (pages_after k p e) (place_of fresh k p e + entry_length e) es

-- each of the first of these pages leads to the next
abbrev pub Linked : Region → List ℕ → ℕ → Type 0
Linked R pages count = (j : ℕ) → j < count → word R (4096 * get_or pages j 0 + 4064) ≡ 4096 * get_or pages (suc j) 0

-- each of these blocks is a data block
abbrev pub CanBePages : Super → List ℕ → Type 0
CanBePages s fresh = (j : ℕ) → j < length fresh → IsTrue (is_page_start s (4096 * get_or fresh j 0))

-- These blocks can become pages of a log that has these pages: data blocks that are none of them.
pub record FreshFor (s : Super) (fresh all : List ℕ) : Type 0 where
  pub starts : CanBePages s fresh
  pub apart : (j : ℕ) → j < length fresh → Contains all (get_or fresh j 0) → ⊥
