-- What the calls that read tell of an inode that its number names.
use Rattle.std.specs.Prelude.{◌≡◌, ◌⊎◌, ℕ, List, None}
use Rattle.nv_tree.specs.Tree.{Tree}
use Rattle.nv_tree.specs.Refusals.{first_refusal}
use Rattle.nv_calls.specs.ByNumber.{IsInodeStat, ListsInode, list_inode_tests, stat_inode_tests}
use Rattle.nv_tree.specs.declared.stat.Stat as stats
use Rattle.nv_text.specs.Report.{stat_line}
use Rattle.nv_session.specs.Machine.{TellsRefusal, list_lines}

-- the call is refused, or tells the numbers of the inode
abbrev pub TellsInodeStat : Tree → ℕ → List ℕ → Type 0
TellsInodeStat t i text = TellsRefusal (stat_inode_tests t i) text
    ⊎ ((first_refusal (stat_inode_tests t i) ≡ None) × (s : stats.Stat) × IsInodeStat t i s × (text ≡ stat_line s))

-- the call is refused, or tells the names of the directory
abbrev pub TellsInodeNames : Tree → ℕ → List ℕ → Type 0
TellsInodeNames t i text = TellsRefusal (list_inode_tests t i) text
    ⊎ ((first_refusal (list_inode_tests t i) ≡ None) × (lines : List (List ℕ × ℕ)) × ListsInode t i lines × (text ≡ list_lines lines))
