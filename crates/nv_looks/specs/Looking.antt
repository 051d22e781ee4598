-- What looking into the region of some bytes may write, and what comes of it.
use Rattle.std.specs.Prelude.{◌≡◌, ◌≢◌, ◌⊎◌, ℕ, false, List, length, Option, Some, None}
use Rattle.std.specs.Io.KnownBytes.{Appends, Keeps}
use Rattle.nv_region.specs.Region.{Region, region_of}
use Rattle.nv_journal.specs.Undo.{undone}
use Rattle.nv_outcome.specs.Outcome.{Outcome, IsOutcome}
use Rattle.nv_tree.specs.Path.{Says}
use Rattle.nv_tree.specs.Tree.{Tree, Node}
use Rattle.nv_tree.specs.Refusals.{Path, Tests, first_refusal, refusal_word, list_tests, stat_tests, read_tests}
use Rattle.nv_tree.specs.Calls.{bytes_read}
use Rattle.nv_tree.specs.declared.refusal.Refusal.{Refusal}
use Rattle.nv_tree.specs.declared.refusal.Refusal.TheVariants as calls
use Rattle.nv_text.specs.Answers.{refused_line}
use Rattle.nv_paths.specs.Seen.{tree_of, LeadsTo}
use Rattle.nv_session.specs.Machine.{TellsRefusal, TellsNames, TellsStat}
use Rattle.nv_stream.specs.declared.fault.ScriptError.{ScriptError}
use Rattle.nv_stream.specs.declared.fault.ScriptError.TheVariants.{Read, Write, Memory}
use Rattle.nv_stream.specs.Streams.{AppendsFront}
use Rattle.nv_image_check.specs.Checking.{IsSuperRefusal}
use Rattle.nv_image_check.specs.Recovering.{IsSuperRefused}
use Rattle.nv_image_check.specs.declared.answered.Answered.{Answered}
use Rattle.nv_looks.specs.Sent.{Written, Sends, SendsFront, KeepsBoth}
use Rattle.nv_looks.specs.declared.looking.Opened.{Opened}
use Rattle.nv_looks.specs.declared.looking.Opened.TheVariants as opened

-- what a call tells of a tree, as its text and the exit status
abbrev pub Call : Type 1
Call = Tree → List ℕ → ℕ → Type 0

-- 0 where no test of a call holds, and 2 where one does
abbrev pub call_status : Option Refusal → ℕ
call_status None = 0
call_status (Some refusal) = 2

-- a call by the path that a text says, which is refused by the first of these tests that holds
abbrev pub ByPath : (Tree → Path → List ℕ → Type 0) → (Tree → Path → Tests) → List ℕ → Call
ByPath Tells tests path t text status = (p : Path) × Says path p × Tells t p text × (status ≡ call_status (first_refusal (tests t p)))

-- the names of the directory that a path leads to, as `list` prints them, or its refusal
abbrev pub ListsNames : List ℕ → Call
ListsNames path = ByPath TellsNames list_tests path

-- the numbers of the inode that a path leads to, as `stat` prints them, or its refusal
abbrev pub TellsNumbers : List ℕ → Call
TellsNumbers path = ByPath TellsStat stat_tests path

-- The path leads to an inode, and these are all its bytes.
pub record IsWholeFile (t : Tree) (names : List (List ℕ)) (bytes : List ℕ) : Type 0 where
  pub inode : ℕ
  pub node : Node
  pub leads : LeadsTo t names inode node
  pub is : bytes ≡ bytes_read 0 node.size node

-- all bytes of the file that a path leads to, as they are, or the refusal of `read`
abbrev pub TellsFile : Tree → Path → List ℕ → Type 0
TellsFile t p text = TellsRefusal (read_tests t p) text
    ⊎ ((names : List (List ℕ)) × (p ≡ Some names) × (first_refusal (read_tests t p) ≡ None) × IsWholeFile t names text)

-- the same by the path that a text says
abbrev pub GivesBytes : List ℕ → Call
GivesBytes path = ByPath TellsFile read_tests path

-- A call that only reads is made of the region of some bytes: the superblock's first fault is named, or the call tells what
-- the rows of the region's outcome show, once the journals are rolled back.
abbrev pub IsLook : Call → Region → List ℕ → Answered → Type 0
IsLook Tells R text answered = (IsSuperRefusal R text answered.status × (answered.faults ≡ 0))
    ⊎ ((o : Outcome) × IsOutcome R o × Tells (tree_of (undone o.sup R) o.rows) text answered.status × (answered.faults ≡ length o.faults))

-- the text of such a look was written, to the errors where it is a refusal
abbrev pub WritesLook : Call → List ℕ → Written → Written → Answered → Type 0
WritesLook Tells bytes old new answered = (text : List ℕ) × IsLook Tells (region_of bytes) text answered × Sends answered.status old new text

-- a front of the text of such a look was written
abbrev pub WritesLookFront : Call → List ℕ → Written → Written → Type 0
WritesLookFront Tells bytes old new = (text : List ℕ) × (answered : Answered) × IsLook Tells (region_of bytes) text answered × SendsFront answered.status old new text

-- After an error: a front of the text where the writer failed, and nothing where memory was refused.
abbrev pub FailsLook : Call → List ℕ → ScriptError → Written → Written → Type 0
FailsLook Tells bytes Read old new = ⊥
FailsLook Tells bytes Write old new = WritesLookFront Tells bytes old new
FailsLook Tells bytes Memory old new = KeepsBoth old new

-- The same where the text is written in pieces: a front of it, or nothing, where memory was refused.
abbrev pub FailsCat : Call → List ℕ → ScriptError → Written → Written → Type 0
FailsCat Tells bytes Read old new = ⊥
FailsCat Tells bytes Write old new = WritesLookFront Tells bytes old new
FailsCat Tells bytes Memory old new = KeepsBoth old new ⊎ WritesLookFront Tells bytes old new

-- ---- within

-- The region is mounted, with its journals rolled back, and what the mount shows is its outcome; or its superblock isn't accepted.
abbrev pub IsOpened : Region → Opened → Type 0
IsOpened R (opened.Mounted m) = (o : Outcome) × IsOutcome R o × (m.memory.region ≡ undone o.sup R) × (m.rows ≡ o.rows) × (m.faults ≡ o.faults) × (m.stopped ≡ false)
IsOpened R (opened.Refused refusal) = IsSuperRefused R refusal

-- The path leads to an inode of so many bytes.
pub record IsSized (t : Tree) (names : List (List ℕ)) (size : ℕ) : Type 0 where
  pub inode : ℕ
  pub node : Node
  pub leads : LeadsTo t names inode node
  pub is : size ≡ node.size

-- the bytes of the file were written, or after an error a front of them, or none
abbrev pub WritesFile : Tree → List (List ℕ) → Option (List ℕ) → Option (List ℕ) → Type 0
WritesFile t names old new = (bytes : List ℕ) × IsWholeFile t names bytes × Appends old new bytes

-- what an error leaves of the bytes of the file
abbrev pub FailsFile : Tree → List (List ℕ) → ScriptError → Option (List ℕ) → Option (List ℕ) → Type 0
FailsFile t names Read old new = ⊥
FailsFile t names Write old new = (bytes : List ℕ) × IsWholeFile t names bytes × AppendsFront old new bytes
FailsFile t names Memory old new = Keeps old new ⊎ ((bytes : List ℕ) × IsWholeFile t names bytes × AppendsFront old new bytes)

-- the call is refused so, which isn't for want of memory
abbrev pub WritesRefusal : Refusal → Option (List ℕ) → Option (List ℕ) → ℕ → Type 0
WritesRefusal refusal old new status = (refusal ≢ calls.Memory) × (status ≡ 2) × Appends old new (refused_line (refusal_word refusal))

-- what an error leaves of the text of a refusal
abbrev pub FailsRefusal : Refusal → ScriptError → Option (List ℕ) → Option (List ℕ) → Type 0
FailsRefusal refusal Read old new = ⊥
FailsRefusal refusal Write old new = (refusal ≢ calls.Memory) × AppendsFront old new (refused_line (refusal_word refusal))
FailsRefusal refusal Memory old new = Keeps old new

-- the same where the call may be refused
abbrev pub WritesCall : Tree → Path → Written → Written → ℕ → Type 0
WritesCall t p old new status = (text : List ℕ) × TellsFile t p text × (status ≡ call_status (first_refusal (read_tests t p))) × Sends status old new text

-- a front of what such a call tells was written
abbrev pub WritesCallFront : Tree → Path → Written → Written → Type 0
WritesCallFront t p old new = (text : List ℕ) × TellsFile t p text × SendsFront (call_status (first_refusal (read_tests t p))) old new text

-- what an error leaves of a call that may be refused
abbrev pub FailsCall : Tree → Path → ScriptError → Written → Written → Type 0
FailsCall t p Read old new = ⊥
FailsCall t p Write old new = WritesCallFront t p old new
FailsCall t p Memory old new = KeepsBoth old new ⊎ WritesCallFront t p old new
