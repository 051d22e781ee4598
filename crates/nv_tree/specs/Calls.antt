-- What each call makes of the tree, where no test refuses it. Names are a path's; each inode whose log gets an entry has
-- the call's time.
use Rattle.std.specs.Prelude.{ℕ, ◌+◌, ◌-◌, ◌%◌, nat_lt, nat_le, nat_eq, ◌==◌, ◌&&◌, if◌then◌else◌, max, min, List, [], ◌∷◌, length, map, slice_index, Option, Some, None, Result, Ok, Err}
use Rattle.std.specs.List.{range_with_len}
use Rattle.std.specs.Option.{option_map, option_map_or}
use Rattle.std.specs.Cmp.Lexicographic.{pointwise}
use Rattle.nv_super.specs.declared.kind.Kind.{Kind}
use Rattle.nv_tree.specs.declared.refusal.Refusal.{Refusal}
use Rattle.nv_tree.specs.Path.{last_name}
use Rattle.nv_tree.specs.Tree.{Node, Tree, walk, found}

-- ---- one inode changed

-- the tree with this at a number
abbrev pub put_node : ℕ → Option Node → Tree → Tree
put_node i o t j = if j == i then o else t j

-- the tree with one inode changed
abbrev pub edit : ℕ → (Node → Node) → Tree → Tree
edit i change t = put_node i (option_map change (t i)) t

-- an inode with one link, no names and no bytes
abbrev pub new_node : Kind → ℕ → ℕ → Node
new_node kind mode time = record { kind = kind; mode = mode % 4096; owner = 0; group = 0; size = 0; links = 1; time = time; count = 0; names = λ name. None; bytes = λ x. 0 }

-- the directory with one name more, for inode i
abbrev pub with_name : List ℕ → ℕ → ℕ → Node → Node
with_name name i time node = record node { names = λ q. if pointwise nat_eq q name then Some i else node.names q; count = node.count + 1; time = time }

-- the directory without a name
abbrev pub without_name : List ℕ → ℕ → Node → Node
without_name name time node = record node { names = λ q. if pointwise nat_eq q name then None else node.names q; count = node.count - 1; time = time }

-- the file with so many links
abbrev pub with_links : ℕ → ℕ → Node → Node
with_links links time node = record node { links = links; time = time }

-- The file with new bytes from an offset on: a gap before them is zeros, and what follows stays.
abbrev pub with_bytes : ℕ → List ℕ → ℕ → Node → Node
with_bytes offset new time node = record node {
  bytes = λ x. if nat_le offset x && nat_lt x (offset + length new) then slice_index new (x - offset) else if nat_lt x node.size then node.bytes x else 0;
  size = max node.size (offset + length new);
  time = time;
}

-- the file cut at a size, or lengthened to it by zeros
abbrev pub with_size : ℕ → ℕ → Node → Node
with_size size time node = record node { bytes = λ x. if nat_lt x node.size then node.bytes x else 0; size = size; time = time }

-- the inode with other attributes
abbrev pub with_attributes : ℕ → ℕ → ℕ → ℕ → Node → Node
with_attributes mode owner group time node = record node { mode = mode % 4096; owner = owner; group = group; time = time }

-- ---- the calls

-- what a call makes of the tree by a number, where it is there
abbrev pub on_some : Option ℕ → (ℕ → Tree) → Tree → Tree
on_some None change t = t
on_some (Some i) change t = change i

-- what a call makes of the tree by the directory where a walk ended
abbrev pub on_ok : Result ℕ Refusal → (ℕ → Tree) → Tree → Tree
on_ok (Err r) change t = t
on_ok (Ok d) change t = change d

-- `create` and `mkdir`: a new inode by an unused number, and its name
abbrev pub created : Kind → Option ℕ → List (List ℕ) → ℕ → ℕ → Tree → Tree
created kind unused names mode time t = on_some unused (λ i. on_ok (walk t 1 names) (λ d. edit d (with_name (last_name names) i time) (put_node i (Some (new_node kind mode time)) t)) t) t

-- `write`; no bytes change nothing
abbrev pub written : List (List ℕ) → ℕ → List ℕ → ℕ → Tree → Tree
written names offset [] time t = t
written names offset (b ∷ bytes) time t = on_some (found t names) (λ i. edit i (with_bytes offset (b ∷ bytes) time) t) t

-- `set_size`
abbrev pub resized : List (List ℕ) → ℕ → ℕ → Tree → Tree
resized names size time t = on_some (found t names) (λ i. edit i (with_size size time) t) t

-- `set_attr`
abbrev pub attributed : List (List ℕ) → ℕ → ℕ → ℕ → ℕ → Tree → Tree
attributed names mode owner group time t = on_some (found t names) (λ i. edit i (with_attributes mode owner group time) t) t

-- how many links an inode has; none where it isn't in use
abbrev pub links_at : Tree → ℕ → ℕ
links_at t i = option_map_or (λ (node : Node). node.links) (t i) 0

-- `link`: one more name of a file
abbrev pub linked : List (List ℕ) → List (List ℕ) → ℕ → Tree → Tree
linked old new time t = on_some (found t old) (λ i. on_ok (walk t 1 new) (λ d. edit d (with_name (last_name new) i time) (edit i (with_links (links_at t i + 1) time) t)) t) t

-- a file with one link less, which is gone where that was its last one
abbrev pub released : ℕ → ℕ → Tree → Tree
released i time t = if nat_le (links_at t i) 1 then put_node i None t else edit i (with_links (links_at t i - 1) time) t

-- `unlink`: a name of a file less
abbrev pub unlinked : List (List ℕ) → ℕ → Tree → Tree
unlinked names time t = on_some (found t names) (λ i. on_ok (walk t 1 names) (λ d. edit d (without_name (last_name names) time) (released i time t)) t) t

-- `rmdir`: a directory and its name less
abbrev pub removed : List (List ℕ) → ℕ → Tree → Tree
removed names time t = on_some (found t names) (λ i. on_ok (walk t 1 names) (λ d. edit d (without_name (last_name names) time) (put_node i None t)) t) t

-- `rename`: the old name less, and then the new one more for the same inode
abbrev pub renamed : List (List ℕ) → List (List ℕ) → ℕ → Tree → Tree
renamed old new time t = on_some (found t old) (λ i. on_ok (walk t 1 old) (λ d. on_ok (walk t 1 new) (λ e. edit e (with_name (last_name new) i time) (edit d (without_name (last_name old) time) t)) t)
    t) t

-- ---- what the reading calls answer

-- `read`: the bytes from an offset up to the size, at most so many
abbrev pub bytes_read : ℕ → ℕ → Node → List ℕ
bytes_read offset count node = map node.bytes (range_with_len offset (min count (node.size - offset)))
