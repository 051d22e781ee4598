-- Inodes and entries without pages of files.
use Rattle.std.specs.Prelude.{◌≡◌, ℕ, None}
use Rattle.nv_super.specs.Layout.{Layout}
use Rattle.nv_logpage.specs.declared.found.Placed.{Placed}
use Rattle.nv_scan.specs.State.{block_of, says_block}
use Rattle.nv_mounted.specs.Held.{Held, good_in}

-- no page of the inode maps to a block
abbrev pub MapsNothing : Layout → Held → Type 0
MapsNothing l h = (p : ℕ) → block_of (good_in l h) p ≡ None

-- the entry says nothing of pages, as one of a name or of a link count
abbrev pub SaysNoPage : Placed → Type 0
SaysNoPage x = (p : ℕ) → says_block p x ≡ None
