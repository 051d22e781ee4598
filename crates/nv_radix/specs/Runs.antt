-- What an `ExtentMap` shows, and how it and a `RunMap` keep it.
use Rattle.std.specs.Prelude.{◌≡◌, ◌≢◌, ℕ, zero, suc, ◌+◌, ◌-◌, ◌^◌, ◌<◌, ◌≤◌, ◌==◌, if◌then◌else◌, List, [], ◌∷◌, Option, Some, None}
use Rattle.std.specs.Ordering.{nat_cmp}
use Rattle.std.specs.List.Sorted.{IsStrictlySortedBy}
use Rattle.std.specs.Map.{lookup, keys_of}
use Rattle.std.specs.BTreeMap.{is_at}
use Rattle.nv_radix.specs.declared.TheConstants.{MAX_FILE_PAGES}
use Rattle.nv_radix.specs.declared.runs.Blocks.{Blocks}
use Rattle.nv_radix.specs.Pages.{Pages, block_at, in_run}

-- runs of pages: the first page of each, and its blocks
abbrev pub Runs : Type 0
Runs = List (ℕ × Blocks)

-- the block that a page maps to
abbrev pub block_by : Runs → ℕ → Option ℕ
block_by [] p = None
block_by (x ∷ xs) p = if in_run x.0 x.1.count p then Some (x.1.start + (p - x.0)) else block_by xs p

-- a page's block as a run of one page, and none as a run without pages
abbrev pub one_page : Option ℕ → Blocks
one_page None = record { start = 0; count = 0 }
one_page (Some b) = record { start = b; count = 1 }

-- the first n pages as runs of one page
unfoldable pub front_runs : Pages → ℕ → Runs
front_runs m zero = []
front_runs m (suc n) = (n, one_page (block_at m n)) ∷ front_runs m n

-- the blocks of the run that begins at a page
abbrev pub run_at : Runs → ℕ → Option Blocks
run_at runs k = lookup (is_at (nat_cmp k)) runs

-- the first pages of a run, if there are any
abbrev pub front_of : Blocks → ℕ → Option Blocks
front_of b count = if count == 0 then None else Some (record { start = b.start; count = count })

-- some pages that a file may have, and blocks with numbers of 64 bits
pub record IsRun (first : ℕ) (b : Blocks) : Type 0 where
  pub some : 0 < b.count
  pub pages : first + b.count ≤ MAX_FILE_PAGES
  pub blocks : b.start + b.count ≤ 2 ^ 64

-- the runs rise, and no page stands in two of them
pub record AreRuns (runs : Runs) : Type 0 where
  pub rising : IsStrictlySortedBy nat_cmp (keys_of runs)
  pub each : (k : ℕ) (b : Blocks) → run_at runs k ≡ Some b → IsRun k b
  pub apart : (k l : ℕ) (b c : Blocks) → run_at runs k ≡ Some b → run_at runs l ≡ Some c → k < l → k + b.count ≤ l

-- the blocks at one first page become these, or no run begins there; the other runs stay
pub record Puts (old new : Runs) (k : ℕ) (w : Option Blocks) : Type 0 where
  pub here : run_at new k ≡ w
  pub others : (q : ℕ) → q ≢ k → run_at new q ≡ run_at old q
  pub rising : IsStrictlySortedBy nat_cmp (keys_of new)

-- a run of this many pages begins at a page
abbrev pub HasRunOf : Runs → ℕ → ℕ → Type 0
HasRunOf runs k count = (b : Blocks) × (run_at runs k ≡ Some b) × (b.count ≡ count)

-- the last run that begins before a page
pub record IsLastBefore (runs : Runs) (page : ℕ) (x : ℕ × Blocks) : Type 0 where
  pub before : x.0 < page
  pub is : run_at runs x.0 ≡ Some x.1
  pub last : (q : ℕ) → x.0 < q → q < page → run_at runs q ≡ None

-- the runs, and beside them the last one, which stands behind all of them where it has pages; no page from `end` on is mapped
pub record IsOpen (runs : Runs) (page : ℕ) (last : Blocks) (end : ℕ) : Type 0 where
  pub are : AreRuns runs
  pub is : 0 < last.count → IsRun page last
  pub behind : 0 < last.count → (p : ℕ) → page ≤ p → block_by runs p ≡ None
  pub past : (p : ℕ) → end ≤ p → block_by ((page, last) ∷ runs) p ≡ None
