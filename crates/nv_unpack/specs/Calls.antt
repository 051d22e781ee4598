-- Which calls a step makes of a tree, once the way to its place is there.
use Rattle.std.specs.Prelude.{◌≡◌, ◌⊎◌, ℕ, List, [], ◌∷◌, ◌++◌, map}
use Rattle.nv_super.specs.declared.kind.Kind.TheVariants as kinds
use Rattle.nv_tree.specs.Path.{IsPath}
use Rattle.nv_tree.specs.Tree.{Node, Tree}
use Rattle.nv_paths.specs.Seen.{LeadsTo}
use Rattle.nv_changes.specs.Calls.{IsThere}
use Rattle.nv_untar.specs.declared.item.ItemKind.{ItemKind}
use Rattle.nv_untar.specs.declared.item.ItemKind.TheVariants as item_kinds
use Rattle.nv_untar.specs.Items.{Item, item_of}
use Rattle.nv_unpack.specs.declared.step.Step.{Step}
use Rattle.nv_unpack.specs.declared.step.Step.TheVariants as steps
use Rattle.nv_history.specs.declared.calls.Call.{Call}
use Rattle.nv_history.specs.Said.{Said, said, Create, MakeDirectory, Write, SetSize, SetAttributes, Link, Unlink}

-- a path leads to a directory
abbrev pub IsDirectoryAt : Tree → List ℕ → Type 0
IsDirectoryAt t text = (names : List (List ℕ)) × (i : ℕ) × (node : Node) × IsPath text names × LeadsTo t names i node × (node.kind ≡ kinds.Directory)

-- ---- the item itself

-- the mode, owner, group and time of an item
abbrev pub attributes_call : ℕ → List ℕ → Item → Said
attributes_call cpu text item = SetAttributes cpu text item.mode item.owner item.group item.time

-- a directory is made, unless there is one, whose names stay
abbrev pub MakesDirectory : Tree → ℕ → List ℕ → Item → List Said → Type 0
MakesDirectory t cpu text item own = (IsDirectoryAt t text × (own ≡ []))
    ⊎ ((¬ IsDirectoryAt t text) × (own ≡ MakeDirectory cpu text item.mode item.time ∷ []))

-- what is there is cut at no bytes, or, where nothing is, a file is made
abbrev pub BeginsFile : Tree → ℕ → List ℕ → Item → Said → Type 0
BeginsFile t cpu text item first = (IsThere t text × (first ≡ SetSize cpu text 0 item.time))
    ⊎ ((¬ IsThere t text) × (first ≡ Create cpu text item.mode item.time))

-- a file has the item's bytes and attributes
abbrev pub MakesFile : Tree → ℕ → List ℕ → Item → List Said → Type 0
MakesFile t cpu text item own = (first : Said) × BeginsFile t cpu text item first × (own ≡ first ∷ Write cpu text 0 item.bytes item.time ∷ attributes_call cpu text item ∷ [])

-- a further name of a file takes the place of the name that is there
abbrev pub MakesLink : Tree → ℕ → List ℕ → List ℕ → Item → List Said → Type 0
MakesLink t cpu text old item own = (IsThere t text × (own ≡ Unlink cpu text item.time ∷ Link cpu old text item.time ∷ []))
    ⊎ ((¬ IsThere t text) × (own ≡ Link cpu old text item.time ∷ []))

-- by its kind
abbrev pub MakesKind : ItemKind → Tree → ℕ → List ℕ → List ℕ → Item → List Said → Type 0
MakesKind item_kinds.File t cpu text old item own = MakesFile t cpu text item own
MakesKind item_kinds.Link t cpu text old item own = MakesLink t cpu text old item own
MakesKind item_kinds.Directory t cpu text old item own = MakesDirectory t cpu text item own

-- the calls of a step of its own, where its item goes to such a place, a further name of a file by the place of its first one
abbrev pub AreCallsAt : Tree → List ℕ → List ℕ → ℕ → Step → List Said → Type 0
AreCallsAt t text old cpu (steps.Make item) all = MakesKind (item_of item).kind t cpu text old (item_of item) all
AreCallsAt t text old cpu (steps.SetAttributes item) all = all ≡ attributes_call cpu text (item_of item) ∷ []

-- ---- within

-- calls of this kind come behind those that were there
abbrev pub Adds : (List Said → Type 0) → List Call → List Call → Type 0
Adds IsKind before after = (more : List Said) × IsKind more × (map said after ≡ map said before ++ more)
