-- A file whose log grew by entries that write blocks and set its size.
use Rattle.std.specs.Prelude.{◌≡◌, ◌⊎◌, ℕ, ◌*◌, ◌≤◌, true, List, Option, Some, None}
use Rattle.std.specs.List.{Contains, filter_map}
use Rattle.nv_super.specs.declared.owners.Run.{Run}
use Rattle.nv_super.specs.Layout.{Layout}
use Rattle.nv_alloc.specs.Taking.{Disjoint, HasBlock}
use Rattle.nv_entry.specs.declared.entry.Entry.{Entry}
use Rattle.nv_entry.specs.declared.entry.Entry.TheVariants.{NextPage, Write, Attr, Name, Links}
use Rattle.nv_entry.specs.Content.{is_good}
use Rattle.nv_logpage.specs.declared.found.Placed.{Placed}
use Rattle.nv_scan.specs.State.{block_of, says_size}
use Rattle.nv_mounted.specs.Held.{Held, Store, good_in}
use Rattle.nv_mounted.specs.Blocks.{IsUnowned}

-- the blocks of a write entry
abbrev pub blocks_in_entry : Entry → Option Run
blocks_in_entry (Write e) = Some (record { start = e.block; count = e.count })
blocks_in_entry NextPage = None
blocks_in_entry (Attr e) = None
blocks_in_entry (Name e) = None
blocks_in_entry (Links e) = None

-- the pages of a write entry
abbrev pub pages_in_entry : Entry → Option Run
pages_in_entry (Write e) = Some (record { start = e.offset; count = e.count })
pages_in_entry NextPage = None
pages_in_entry (Attr e) = None
pages_in_entry (Name e) = None
pages_in_entry (Links e) = None

-- the blocks that these entries write, run by run
abbrev pub written_blocks : List Placed → List Run
written_blocks more = filter_map (λ (x : Placed). blocks_in_entry x.entry) more

-- the pages that they write
abbrev pub written_pages : List Placed → List Run
written_pages more = filter_map (λ (x : Placed). pages_in_entry x.entry) more

-- Good entries that all give the file this size. They write blocks that were free and aren't these fresh pages of the log,
-- no block and no page twice.
pub record WritesData (l : Layout) (held : Store) (h : Held) (more : List Placed) (fresh : List ℕ) (size : ℕ) : Type 0 where
  pub good : (x : Placed) → Contains more x → is_good l.sup h.kind x.entry ≡ true
  pub sized : (x : Placed) → Contains more x → says_size x ≡ Some size
  pub free : (b : ℕ) → HasBlock (written_blocks more) b → IsUnowned l held b
  pub apart : (b : ℕ) → HasBlock (written_blocks more) b → Contains fresh b → ⊥
  pub blocks_once : Disjoint (written_blocks more)
  pub pages_once : Disjoint (written_pages more)

-- The block is that of a page that these entries write, or cut by the size that they give.
abbrev pub IsReplaced : Layout → Held → List Placed → ℕ → ℕ → Type 0
IsReplaced l h more size b = (p : ℕ) × (block_of (good_in l h) p ≡ Some b) × (HasBlock (written_pages more) p ⊎ (size ≤ p * 4096))
