-- A log without one of its pages.
use Rattle.std.specs.Prelude.{ℕ, ◌+◌, ◌-◌, ◌*◌, ◌/◌, ◌==◌, not, if◌then◌else◌, List, get_or, None, IsTrue}
use Rattle.std.specs.List.{filter, remove}
use Rattle.nv_region.specs.Region.{Region}
use Rattle.nv_super.specs.declared.superblock.Super.{Super}
use Rattle.nv_super.specs.Layout.{is_page_start}
use Rattle.nv_logpage.specs.declared.found.Placed.{Placed}
use Rattle.nv_logpage.specs.Reads.{Reads}

-- the entries but for those that stand in a page
abbrev pub without_page : ℕ → List Placed → List Placed
without_page b es = filter (λ (x : Placed). not (x.at / 4096 == b)) es

-- The word that leads to the page of this place: the link of the page before it, or, for the first page, the head word at an
-- address.
abbrev pub word_to : ℕ → List ℕ → ℕ → ℕ
word_to head_at pages k = if k == 0 then head_at else 4096 * get_or pages (k - 1) 0 + 4064

-- the address of the page behind it
abbrev pub page_behind : List ℕ → ℕ → ℕ
page_behind pages k = 4096 * get_or pages (k + 1) 0

-- where the log begins without that page
abbrev pub head_without : ℕ → List ℕ → ℕ → ℕ
head_without head pages k = if k == 0 then page_behind pages k else head

-- The log of this tail is read from a new head on, without the page of this place and its entries.
abbrev pub Without : Region → Super → ℕ → ℕ → List Placed → List ℕ → ℕ → Type 0
Without R s head tail es pages k = IsTrue (is_page_start s head) × Reads R s head tail (without_page (get_or pages k 0) es) (remove pages k) None
