-- Which calls a change makes of a tree.
use Rattle.std.specs.Prelude.{◌≡◌, ◌⊎◌, ℕ, List, [], ◌∷◌, Option, Some}
use Rattle.std.specs.Option.{unwrap_or}
use Rattle.std.specs.Borrow.{Bor}
use Rattle.nv_bytes.specs.declared.contents.Data.TheVariants.{Given}
use Rattle.nv_tree.specs.Path.{IsPath}
use Rattle.nv_tree.specs.Tree.{Node, Tree, found}
use Rattle.nv_paths.specs.Seen.{LeadsTo}
use Rattle.nv_session.specs.Machine.{directory_mode, file_mode}
use Rattle.nv_history.specs.declared.calls.Call.{Call}
use Rattle.nv_history.specs.declared.calls.Call.TheVariants as calls
use Rattle.nv_changes.specs.declared.change.Change.{Change}
use Rattle.nv_changes.specs.declared.change.Change.TheVariants.{MakeDirectory, Remove, RemoveDirectory, Rename, Link, SetSize, SetMode, SetOwner, Put}

-- a path leads to an inode in use
abbrev pub IsThere : Tree → List ℕ → Type 0
IsThere t text = (names : List (List ℕ)) × (i : ℕ) × IsPath text names × (found t names ≡ Some i)

-- the inode that a path leads to, if it leads to one, has this mode, owner and group
abbrev pub HasAttributes : Tree → List ℕ → ℕ → ℕ → ℕ → Type 0
HasAttributes t text mode owner group = (names : List (List ℕ)) (i : ℕ) (node : Node) → IsPath text names → LeadsTo t names i node
    → (mode ≡ node.mode) × (owner ≡ node.owner) × (group ≡ node.group)

-- sets a mode, and the owner and the group that are there
abbrev pub SetsMode : Tree → Bor (List ℕ) → ℕ → ℕ → ℕ → Call → Type 0
SetsMode t path mode cpu time call = (before : ℕ) × (owner : ℕ) × (group : ℕ) × HasAttributes t path.now before owner group
    × (call ≡ calls.SetAttributes cpu path mode owner group time)

-- sets an owner, a group, or where none is given the one that is there, and the mode that is there
abbrev pub SetsOwner : Tree → Bor (List ℕ) → ℕ → Option ℕ → ℕ → ℕ → Call → Type 0
SetsOwner t path owner group cpu time call = (mode : ℕ) × (before : ℕ) × (old : ℕ) × HasAttributes t path.now mode before old
    × (call ≡ calls.SetAttributes cpu path mode owner (unwrap_or group old) time)

-- cuts what a path leads to at no bytes, or, where it leads to nothing, makes a file
abbrev pub BeginsFile : Tree → Bor (List ℕ) → ℕ → ℕ → Call → Type 0
BeginsFile t path cpu time call = (IsThere t path.now × (call ≡ calls.SetSize cpu path 0 time)) ⊎ ((¬ IsThere t path.now) × (call ≡ calls.Create cpu path file_mode time))

-- the first call of a change
abbrev pub IsFirstCall : Tree → Change → ℕ → ℕ → Call → Type 0
IsFirstCall t (MakeDirectory path) cpu time call = call ≡ calls.MakeDirectory cpu path directory_mode time
IsFirstCall t (Remove path) cpu time call = call ≡ calls.Unlink cpu path time
IsFirstCall t (RemoveDirectory path) cpu time call = call ≡ calls.RemoveDirectory cpu path time
IsFirstCall t (Rename old new) cpu time call = call ≡ calls.Rename cpu old new time
IsFirstCall t (Link old new) cpu time call = call ≡ calls.Link cpu old new time
IsFirstCall t (SetSize path size) cpu time call = call ≡ calls.SetSize cpu path size time
IsFirstCall t (SetMode path mode) cpu time call = SetsMode t path mode cpu time call
IsFirstCall t (SetOwner path owner group) cpu time call = SetsOwner t path owner group cpu time call
IsFirstCall t (Put path bytes) cpu time call = BeginsFile t path cpu time call

-- the calls behind it: all bytes are written from the first one on
abbrev pub next_calls : Change → ℕ → ℕ → List Call
next_calls (Put path bytes) cpu time = calls.Write cpu path 0 (Given bytes) time ∷ []
next_calls _ cpu time = []

-- the calls of a change
abbrev pub AreCallsOf : Tree → Change → ℕ → ℕ → List Call → Type 0
AreCallsOf t change cpu time these = (first : Call) × IsFirstCall t change cpu time first × (these ≡ first ∷ next_calls change cpu time)
