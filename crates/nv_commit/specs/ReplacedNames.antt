-- A name of one inode that is given to another, by what is held.
use Rattle.std.specs.Prelude.{◌≡◌, ◌≢◌, ◌⊎◌, ℕ, ◌≤◌, List, [], ◌∷◌, Some, None}
use Rattle.std.specs.List.{Contains}
use Rattle.nv_super.specs.declared.kind.Kind.TheVariants.{File, Directory}
use Rattle.nv_super.specs.Layout.{Layout}
use Rattle.nv_entry.specs.declared.entry.Operation.TheVariants.{Add, Remove}
use Rattle.nv_logpage.specs.declared.found.Placed.{Placed}
use Rattle.nv_graph.specs.Graph.{IsOfKind, passed, walked}
use Rattle.nv_graph.specs.Step.{IsGoodName, name_entry}
use Rattle.nv_mounted.specs.Held.{Held, Store}
use Rattle.nv_mounted.specs.Graph.{graph_in, node_in}
use Rattle.nv_mounted.specs.Mounted.{IsFaultless}

-- Nothing is wrong with what is held. Directory d names inode i, and the path leads to directory e, which has another name for inode
-- j. A directory is moved only where that path doesn't pass it.
pub record CanTakeName (l : Layout) (held : Store) (d : ℕ) (h : Held) (name : List ℕ) (path : List (List ℕ)) (e : ℕ) (k : Held) (other : List ℕ) (i j : ℕ) (f : Held) : Type 0 where
  pub was : IsFaultless l held
  pub from : held d ≡ Some h
  pub to : held e ≡ Some k
  pub there : held j ≡ Some f
  pub good : IsGoodName l.sup i name
  pub good_other : IsGoodName l.sup i other
  pub good_there : IsGoodName l.sup j other
  pub named : (graph_in l held).name d name ≡ Some i
  pub leads : walked (graph_in l held) 1 path ≡ Some e
  pub taken : (graph_in l held).name e other ≡ Some j
  pub differ : i ≢ j
  pub outside : IsOfKind (graph_in l held) i Directory → Contains (passed (graph_in l held) 1 path) i → ⊥

-- a file with its last link, or a directory without names
abbrev pub CanGo : Layout → Store → ℕ → Held → Type 0
CanGo l held j f = ((f.kind ≡ File) × ((node_in l f).links ≤ 1)) ⊎ ((f.kind ≡ Directory) × ((q : List ℕ) → (graph_in l held).name j q ≡ None))

-- the entries that take a name from inode j and give it to inode i
abbrev pub taking_entries : ℕ → ℕ → List ℕ → ℕ → ℕ → ℕ → List Placed
taking_entries i j other time at next = name_entry at Remove j other time ∷ name_entry next Add i other time ∷ []
