-- What a `write` stores and appends.
use Rattle.std.specs.Prelude.{◌≡◌, ◌⊎◌, ℕ, ◌+◌, ◌-◌, ◌/◌, ◌%◌, ◌<◌, ◌≤◌, max, nat_eq, nat_lt, not, ◌&&◌, is_some, if◌then◌else◌, List, [], ◌∷◌, ◌++◌, Option, Some, None}
use Rattle.std.specs.List.{filter_map, range_with_len}
use Rattle.std.specs.Option.{option_map}
use Rattle.nv_super.specs.declared.owners.Run.{Run}
use Rattle.nv_super.specs.Layout.{system_blocks}
use Rattle.nv_alloc.specs.FreeValue.{FreeLists}
use Rattle.nv_alloc.specs.FreeLists.{IsFreeIn}
use Rattle.nv_alloc.specs.Taking.{Disjoint, HasBlock, Takes, all_blocks, left, taken, block_run}
use Rattle.nv_entry.specs.declared.entry.Entry.{Entry}
use Rattle.nv_entry.specs.declared.entry.Entry.TheVariants.{Write}
use Rattle.nv_logpage.specs.Append.{needed}
use Rattle.nv_radix.specs.Pages.{Pages, block_at}
use Rattle.nv_steps.specs.declared.planning.Plan.{Plan}

-- ---- which pages

-- The page where a file ended, where new bytes come behind it: it gets a new block too if it has one, so that the bytes
-- past the old end become zeros.
abbrev pub ending_page : (ℕ → Option ℕ) → ℕ → ℕ → Option ℕ
ending_page mapped size offset = if not (nat_eq (size % 4096) 0) && nat_lt (size / 4096) (offset / 4096) && is_some (mapped (size / 4096)) then Some (size / 4096) else None

-- what a write of so many bytes, of which there are some, does to a file with these pages and this size
abbrev pub plan_of : (ℕ → Option ℕ) → ℕ → ℕ → ℕ → ℕ → Plan
plan_of mapped size offset count time = record {
  size = max size (offset + count);
  time = time;
  first = offset / 4096;
  pages = (offset + count - 1) / 4096 + 1 - offset / 4096;
  ending = ending_page mapped size offset;
}

-- how many blocks of data it takes
abbrev pub data_blocks : Plan → ℕ
data_blocks plan = plan.pages + (if is_some plan.ending then 1 else 0)

-- ---- which entries

-- an entry for each run of blocks, for the pages from one on
abbrev pub run_entries : Plan → ℕ → List Run → List Entry
run_entries plan page [] = []
run_entries plan page (r ∷ runs) = Write (record { count = r.count; offset = page; block = r.start; size = plan.size; time = plan.time }) ∷ run_entries plan (page + r.count) runs

-- The entries over the blocks that were taken: the page where the file ended has the first of them, by itself.
abbrev pub ended_entries : Plan → Option ℕ → List Run → List Entry
ended_entries plan None runs = run_entries plan plan.first runs
ended_entries plan (Some page) runs = run_entries plan page (taken 1 runs) ++ run_entries plan plan.first (left 1 runs)

-- all entries of a write over the blocks that it got
abbrev pub data_entries : Plan → List Run → List Entry
data_entries plan runs = ended_entries plan plan.ending runs

-- ---- how many blocks

-- How many blocks of these pools a write takes behind a tail: those of its pages, and those that its entries need over the
-- runs that it gets.
abbrev pub NeedsBlocks : List (List Run) → ℕ → ℕ → Plan → ℕ → Type 0
NeedsBlocks pools cpu tail plan count = ((all_blocks pools < data_blocks plan) × (count ≡ data_blocks plan))
    ⊎ ((runs : List Run) × (after : List (List Run)) × Takes pools cpu (data_blocks plan) runs after × (count ≡ data_blocks plan + needed (tail % 4096) (data_entries plan runs)))

-- ---- which blocks are given back

-- the blocks of pages from one on, each as a run
abbrev pub page_blocks : Pages → ℕ → ℕ → List Run
page_blocks m first count = filter_map (λ p. option_map block_run (block_at m p)) (range_with_len first count)

-- the block of the page where the file ended, if the write replaces it
abbrev pub ended_blocks : Pages → Option ℕ → List Run
ended_blocks m None = []
ended_blocks m (Some page) = page_blocks m page 1

-- the blocks that the pages of a write had
abbrev pub replaced_blocks : Pages → Plan → List Run
replaced_blocks m plan = ended_blocks m plan.ending ++ page_blocks m plan.first plan.pages

-- The runs are of data blocks, none of them free, and no block is in two runs.
pub record CanGive (a : FreeLists) (runs : List Run) : Type 0 where
  pub «data» : (b : ℕ) → HasBlock runs b → (system_blocks a.sup ≤ b) × (b < a.sup.blocks)
  pub used : (cpu b : ℕ) → HasBlock runs b → IsFreeIn a cpu b → ⊥
  pub once : Disjoint runs
