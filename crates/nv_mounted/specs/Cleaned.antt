-- A log without one of its pages, and the pages that a log can do without.
use Rattle.std.specs.Prelude.{◌≢◌, ℕ, eqb, get_or}
use Rattle.std.specs.List.{Contains, IsDistinct, remove}
use Rattle.nv_super.specs.Layout.{Layout}
use Rattle.nv_logpage.specs.Unlinked.{head_without, without_page}
use Rattle.nv_deadpages.specs.Dead.{IsDead}
use Rattle.nv_mounted.specs.Held.{Held}

-- what is held of an inode without the page of this place in its log, and the entries in it
abbrev pub cleaned : Held → ℕ → Held
cleaned h k = record h { head = head_without h.head h.pages k; entries = without_page (get_or h.pages k 0) h.entries; pages = remove h.pages k }

-- The log of this inode can do without the page of this place.
abbrev pub IsDeadIn : Layout → ℕ → Held → ℕ → Type 0
IsDeadIn l i h k = IsDead l.sup h.kind i h.created h.entries h.pages k

-- a page of a log went, and nothing else of what the inode owns
pub record LosesPage (h new : Held) (b : ℕ) : Type 0 where
  pub there : Contains h.pages b
  pub from : (q : ℕ) → Contains new.pages q → Contains h.pages q × (q ≢ b)
  pub rest : (q : ℕ) → Contains h.pages q → q ≢ b → Contains new.pages q
  pub once : IsDistinct eqb new.pages
