-- What cleaning the logs of a region leaves of it, or why it is refused.
use Rattle.std.specs.Prelude.{◌≡◌, ◌⊎◌, ◌↔◌, ◌≤◌, ◌+◌, ℕ, Bool, eqb, false, IsTrue, List, [], ◌∷◌, ◌++◌, length, codes, decimal, Option, Some, None, ⊤}
use Rattle.std.specs.List.{Contains, IsDistinct}
use Rattle.nv_region.specs.Region.{Region, size}
use Rattle.nv_region.specs.RegionState.{RegionState, is_steady}
use Rattle.nv_super.specs.declared.owners.Owner.TheVariants as owners
use Rattle.nv_super.specs.Layout.{Layout}
use Rattle.nv_deadpages.specs.Dead.{IsFirstDead}
use Rattle.nv_deadpages.specs.InTurn.{AreDeadPages, GoInTurn}
use Rattle.nv_deadpages.specs.declared.in_turn.DeadPages.{DeadPages}
use Rattle.nv_scan.specs.Owners.{Owns}
use Rattle.nv_journal.specs.Undo.{undone}
use Rattle.nv_outcome.specs.Outcome.{Outcome, IsFree, IsOutcome}
use Rattle.nv_mounted.specs.Held.{Held, Store}
use Rattle.nv_mounted.specs.Mounted.{ShowsSound, outcome_layout}
use Rattle.nv_tree.specs.Path.{IsPath, Says}
use Rattle.nv_tree.specs.Tree.{Tree, SameTree, found}
use Rattle.nv_tree.specs.Refusals.{Path, Tests, first_refusal, refusal_word, stat_tests}
use Rattle.nv_tree.specs.declared.refusal.Refusal.TheVariants.{ReadOnly}
use Rattle.nv_text.specs.Answers.{line, refused_line}
use Rattle.nv_text.specs.Refusals.{refusal_name}
use Rattle.nv_session.specs.Calls.{LeavesTree, mounted_as}
use Rattle.nv_session.specs.Sessions.{IsSettled}
use Rattle.nv_calls.specs.Mount.{Mount, has_faults}
use Rattle.nv_paths.specs.Seen.{tree_of}
use Rattle.nv_image_check.specs.Recovering.{IsSuperRefused}
use Rattle.nv_script.specs.declared.cleaning.Cleaned.{Cleaned}
use Rattle.nv_script.specs.declared.cleaning.Cleaned.TheVariants as cleaned
use Rattle.nv_script.specs.declared.cleaning.Logs.{Logs}
use Rattle.nv_script.specs.declared.cleaning.Logs.TheVariants as which

-- ---- what is asked

-- What is tested before logs are cleaned: that there are no faults, and, if there is a path, that it leads to an inode.
abbrev pub AsksCleaning : Bool → Tree → Option (List ℕ) → Tests → Type 0
AsksCleaning faulty t None tests = tests ≡ (faulty, ReadOnly) ∷ []
AsksCleaning faulty t (Some text) tests = (p : Path) × Says text p × (tests ≡ (faulty, ReadOnly) ∷ stat_tests t p)

-- The outcome of a region, the tree that it shows once the journals are rolled back, and what is tested of it.
pub record CleaningOf (R : Region) (path : Option (List ℕ)) : Type 0 where
  pub outcome : Outcome
  pub is : IsOutcome R outcome
  pub tree : Tree
  pub shows : tree ≡ tree_of (undone outcome.sup R) outcome.rows
  pub tests : Tests
  pub are : AsksCleaning (has_faults outcome.faults) tree path tests

-- the log of this inode is to be cleaned: of the one that the path leads to, or, without a path, of each
abbrev pub IsAskedFor : Tree → Option (List ℕ) → ℕ → Type 0
IsAskedFor t None i = ⊤
IsAskedFor t (Some text) i = (names : List (List ℕ)) → IsPath text names → found t names ≡ Some i

-- ---- what is left

-- the log of this inode can do without none of its pages
abbrev pub NeedsPages : Region → Layout → ℕ → Type 0
NeedsPages T l i = (held : Store) (h : Held) → ShowsSound T l held → held i ≡ Some h → IsFirstDead l.sup h.kind i h.created h.entries h.pages None

-- the block is a page of the log of this inode
abbrev pub IsPageOf : Region → Layout → ℕ → ℕ → Type 0
IsPageOf R l i b = ∥ ((k : ℕ) × Owns R l b (owners.Log i k)) ∥₁

-- These blocks came back, each once: they were pages of the logs that are asked for. The free blocks are those of before and
-- these, and a page of a log has been one before.
pub record CameBack (R S : Region) (l : Layout) (Asked : ℕ → Type 0) (blocks : List ℕ) : Type 0 where
  pub once : IsDistinct eqb blocks
  pub were_pages : (b : ℕ) → Contains blocks b → ∥ ((i : ℕ) × Asked i × IsPageOf R l i b) ∥₁
  pub free : (b : ℕ) → IsFree S l b ↔ (IsFree R l b ⊎ Contains blocks b)
  pub still_pages : (i b : ℕ) → IsPageOf S l i b → IsPageOf R l i b

-- No test refuses the cleaning. The region is as long as the one that came and its own undone region, its outcome has the same
-- superblock and tables and no fault and shows the same tree, and nothing is pending in it. The logs that are asked for need each of their
-- pages. So many blocks came back; where none did, the region is the one that came with its journals rolled back.
pub record IsShortened (R : Region) (path : Option (List ℕ)) (m : RegionState) (pages : ℕ) : Type 0 where
  pub asked : CleaningOf R path
  pub allowed : first_refusal asked.tests ≡ None
  pub leaves : LeavesTree R m.region (mounted_as asked.outcome false) asked.tree
  pub settled : IsSettled m
  pub short : (i : ℕ) → IsAskedFor asked.tree path i → NeedsPages m.region (outcome_layout asked.outcome) i
  pub blocks : List ℕ
  pub count : length blocks ≡ pages
  pub came_back : CameBack (undone asked.outcome.sup R) m.region (outcome_layout asked.outcome) (IsAskedFor asked.tree path) blocks
  pub none : pages ≡ 0 → m.region ≡ undone asked.outcome.sup R

-- What cleaning answers: the superblock's first fault, or the refusal of the first test that holds, or, where none does, the
-- region whose logs are shorter.
abbrev pub IsCleaned : Region → Option (List ℕ) → Cleaned → Type 0
IsCleaned R path (cleaned.Unrecovered refusal) = IsSuperRefused R refusal
IsCleaned R path (cleaned.Refused refusal) = (c : CleaningOf R path) × (first_refusal c.tests ≡ Some refusal)
IsCleaned R path (cleaned.Region m pages) = IsShortened R path m pages

-- ---- what is told

-- how many pages went
abbrev pub pages_line : ℕ → List ℕ
pages_line pages = line (codes "cleaned pages " ++ decimal pages)

-- what is printed of a cleaning: how many pages went, or its refusal
abbrev pub cleaned_text : Cleaned → List ℕ
cleaned_text (cleaned.Region m pages) = pages_line pages
cleaned_text (cleaned.Unrecovered refusal) = refused_line (refusal_name refusal)
cleaned_text (cleaned.Refused refusal) = refused_line (refusal_word refusal)

-- the exit status by what came of it: 0 where a region is left, and 2 where it is refused
abbrev pub cleaned_status : Cleaned → ℕ
cleaned_status (cleaned.Region m pages) = 0
cleaned_status (cleaned.Unrecovered refusal) = 2
cleaned_status (cleaned.Refused refusal) = 2

-- ---- within

-- The mount of a region, with its journals rolled back, shows this outcome.
pub record IsOpenedAs (R : Region) (o : Outcome) (m : Mount RegionState) : Type 0 where
  pub is : IsOutcome R o
  pub region : m.memory.region ≡ undone o.sup R
  pub sup : m.sup ≡ o.sup
  pub layout : m.layout ≡ outcome_layout o
  pub rows : m.rows ≡ o.rows
  pub read_only : m.read_only ≡ has_faults o.faults

-- what is mounted may be written, and nothing stops it
pub record CanClean (m : Mount RegionState) : Type 0 where
  pub runs : m.stopped ≡ false
  pub writes : m.read_only ≡ false
  pub steady : IsTrue (is_steady m.memory)

-- the log of this inode has at most so many pages
abbrev pub HasAtMost : Mount RegionState → ℕ → ℕ → Type 0
HasAtMost m i n = (held : Store) (h : Held) → ShowsSound m.memory.region m.layout held → held i ≡ Some h → length h.pages ≤ n

-- so many pages fewer are left in the log of this inode
abbrev pub HasFewer : Mount RegionState → Mount RegionState → ℕ → ℕ → Type 0
HasFewer old new i gone = (n : ℕ) → HasAtMost old i (gone + n) → HasAtMost new i n

-- so many pages of the log of this inode go one after another, which have this place when they go
abbrev pub HasTurns : Mount RegionState → ℕ → ℕ → ℕ → Type 0
HasTurns m i k n = (held : Store) (h : Held) → ShowsSound m.memory.region m.layout held → held i ≡ Some h → GoInTurn m.layout.sup h.kind i h.created k n h.entries h.pages

-- the log of this inode needs each of its pages, or these go one after another
abbrev pub HasDeadPages : Mount RegionState → ℕ → Option DeadPages → Type 0
HasDeadPages m i dead = (held : Store) (h : Held) → ShowsSound m.memory.region m.layout held → held i ≡ Some h → AreDeadPages m.layout.sup h.kind i h.created h.entries h.pages dead

-- the log of this inode is one of these
abbrev pub IsOneOf : Logs → ℕ → Type 0
IsOneOf (which.Of i) j = j ≡ i
IsOneOf which.All j = ⊤

-- these logs are those that are to be cleaned
abbrev pub AreAsked : Tree → Option (List ℕ) → Logs → Type 0
AreAsked t path logs = (i : ℕ) → IsAskedFor t path i ↔ IsOneOf logs i

-- So many pages went, of these logs, and the tree is the same, as are length, superblock, tables and faults. Where none went, the region
-- is as before.
pub record LosesPages (old new : Mount RegionState) (Asked : ℕ → Type 0) (pages : ℕ) : Type 0 where
  pub can : CanClean new
  pub as_long : size new.memory.region ≡ size old.memory.region
  pub sup : new.sup ≡ old.sup
  pub layout : new.layout ≡ old.layout
  pub faults : new.faults ≡ old.faults
  pub tree : SameTree (tree_of new.memory.region new.rows) (tree_of old.memory.region old.rows)
  pub blocks : List ℕ
  pub count : length blocks ≡ pages
  pub came_back : CameBack old.memory.region new.memory.region old.layout Asked blocks
  pub none : pages ≡ 0 → new.memory.region ≡ old.memory.region
  -- a log that needs each of its pages stays so
  pub needs : (i : ℕ) → NeedsPages old.memory.region old.layout i → NeedsPages new.memory.region new.layout i

-- each of these logs needs each of its pages
abbrev pub AreShort : Mount RegionState → Logs → Type 0
AreShort m logs = (i : ℕ) → IsOneOf logs i → NeedsPages m.memory.region m.layout i
