-- What looking into the region of some bytes may write of an inode that its number names, and what comes of it.
use Rattle.std.specs.Prelude.{◌≡◌, ◌⊎◌, ℕ, List, Option, Some, None}
use Rattle.std.specs.Io.KnownBytes.{Appends, Keeps}
use Rattle.nv_tree.specs.Tree.{Tree, Node}
use Rattle.nv_tree.specs.Refusals.{Tests, first_refusal}
use Rattle.nv_tree.specs.Calls.{bytes_read}
use Rattle.nv_calls.specs.ByNumber.{list_inode_tests, stat_inode_tests, read_inode_tests}
use Rattle.nv_session.specs.Machine.{TellsRefusal}
use Rattle.nv_session.specs.ByNumber.{TellsInodeNames, TellsInodeStat}
use Rattle.nv_stream.specs.declared.fault.ScriptError.{ScriptError}
use Rattle.nv_stream.specs.declared.fault.ScriptError.TheVariants.{Read, Write, Memory}
use Rattle.nv_stream.specs.Streams.{AppendsFront}
use Rattle.nv_looks.specs.Sent.{Written, Sends, SendsFront, KeepsBoth}
use Rattle.nv_looks.specs.Looking.{Call, call_status}

-- a call by an inode's number, which is refused by the first of these tests that holds
abbrev pub ByNumber : (Tree → ℕ → List ℕ → Type 0) → (Tree → ℕ → Tests) → ℕ → Call
ByNumber Tells tests i t text status = Tells t i text × (status ≡ call_status (first_refusal (tests t i)))

-- the names of the directory of this number, as `list` prints them, or its refusal
abbrev pub ListsInodeNames : ℕ → Call
ListsInodeNames i = ByNumber TellsInodeNames list_inode_tests i

-- the numbers of the inode of this number, as `stat` prints them, or its refusal
abbrev pub TellsInodeNumbers : ℕ → Call
TellsInodeNumbers i = ByNumber TellsInodeStat stat_inode_tests i

-- the inode is in use, and these are all its bytes
abbrev pub IsWholeInode : Tree → ℕ → List ℕ → Type 0
IsWholeInode t i bytes = (node : Node) × (t i ≡ Some node) × (bytes ≡ bytes_read 0 node.size node)

-- all bytes of the file of this number, as they are, or the refusal
abbrev pub TellsInodeFile : Tree → ℕ → List ℕ → Type 0
TellsInodeFile t i text = TellsRefusal (read_inode_tests t i) text ⊎ ((first_refusal (read_inode_tests t i) ≡ None) × IsWholeInode t i text)

-- the same with its status
abbrev pub GivesInodeBytes : ℕ → Call
GivesInodeBytes i = ByNumber TellsInodeFile read_inode_tests i

-- ---- within

-- the inode is in use, and has so many bytes
abbrev pub IsInodeSized : Tree → ℕ → ℕ → Type 0
IsInodeSized t i size = (node : Node) × (t i ≡ Some node) × (size ≡ node.size)

-- the bytes of the file were written, or after an error a front of them, or none
abbrev pub WritesInode : Tree → ℕ → Option (List ℕ) → Option (List ℕ) → Type 0
WritesInode t i old new = (bytes : List ℕ) × IsWholeInode t i bytes × Appends old new bytes

-- what an error leaves of the bytes of the file
abbrev pub FailsInode : Tree → ℕ → ScriptError → Option (List ℕ) → Option (List ℕ) → Type 0
FailsInode t i Read old new = ⊥
FailsInode t i Write old new = (bytes : List ℕ) × IsWholeInode t i bytes × AppendsFront old new bytes
FailsInode t i Memory old new = Keeps old new ⊎ ((bytes : List ℕ) × IsWholeInode t i bytes × AppendsFront old new bytes)

-- the same where the call may be refused
abbrev pub WritesInodeCall : Tree → ℕ → Written → Written → ℕ → Type 0
WritesInodeCall t i old new status = (text : List ℕ) × TellsInodeFile t i text × (status ≡ call_status (first_refusal (read_inode_tests t i))) × Sends status old new text

-- a front of what such a call tells was written
abbrev pub WritesInodeCallFront : Tree → ℕ → Written → Written → Type 0
WritesInodeCallFront t i old new = (text : List ℕ) × TellsInodeFile t i text × SendsFront (call_status (first_refusal (read_inode_tests t i))) old new text

-- what an error leaves of a call that may be refused
abbrev pub FailsInodeCall : Tree → ℕ → ScriptError → Written → Written → Type 0
FailsInodeCall t i Read old new = ⊥
FailsInodeCall t i Write old new = WritesInodeCallFront t i old new
FailsInodeCall t i Memory old new = KeepsBoth old new ⊎ WritesInodeCallFront t i old new
