-- Trees that nobody can tell apart: an equivalence, and what changes of one inode make of them.
use Rattle.std.proofs.Common.{◌≡◌, ℕ, ◌+◌, ◌-◌, ◌<◌, Bool, true, false, nat_lt, nat_le, ◌&&◌, cond, eqb, max, List, length, slice_index, Option, Some, None, refl, sym, ◌∙◌, ap, subst}
use Rattle.std.specs.Option.{option_map}
use Rattle.std.specs.Cmp.Lexicographic.{pointwise}
use Rattle.std.proofs.lemmas.Bool.{ltb-true}
use Rattle.nv_tree.specs.Tree.{Node, Tree, SameNode, SameNodes, SameTree}
use Rattle.nv_tree.specs.Calls.{put_node, edit, with_name, without_name, with_links, with_bytes, with_size, with_attributes}

-- ---- an equivalence

pub same_node : (a : Node) → SameNode a a
same_node a = record { kind = refl; mode = refl; owner = refl; group = refl; size = refl; links = refl; time = refl; count = refl; names = λ name. refl; bytes = λ x h. refl }

other_node : (a b : Node) → SameNode a b → SameNode b a
other_node a b s = record {
  kind = sym s.kind;
  mode = sym s.mode;
  owner = sym s.owner;
  group = sym s.group;
  size = sym s.size;
  links = sym s.links;
  time = sym s.time;
  count = sym s.count;
  names = λ name. sym (s.names name);
  bytes = λ x h. sym (s.bytes x (subst (λ n. x < n) (sym s.size) h));
}

third_node : (a b c : Node) → SameNode a b → SameNode b c → SameNode a c
third_node a b c s r = record {
  kind = s.kind ∙ r.kind;
  mode = s.mode ∙ r.mode;
  owner = s.owner ∙ r.owner;
  group = s.group ∙ r.group;
  size = s.size ∙ r.size;
  links = s.links ∙ r.links;
  time = s.time ∙ r.time;
  count = s.count ∙ r.count;
  names = λ name. s.names name ∙ r.names name;
  bytes = λ x h. s.bytes x h ∙ r.bytes x (subst (λ n. x < n) s.size h);
}

same_nodes : (o : Option Node) → SameNodes o o
same_nodes None = tt
same_nodes (Some a) = same_node a

other_nodes : (o p : Option Node) → SameNodes o p → SameNodes p o
other_nodes None None s = tt
other_nodes None (Some b) s = s
other_nodes (Some a) None s = s
other_nodes (Some a) (Some b) s = other_node a b s

third_nodes : (o p q : Option Node) → SameNodes o p → SameNodes p q → SameNodes o q
third_nodes None None q s r = r
third_nodes None (Some b) q s r = absurd s
third_nodes (Some a) None q s r = absurd s
third_nodes (Some a) (Some b) None s r = r
third_nodes (Some a) (Some b) (Some c) s r = third_node a b c s r

pub same_itself : (t : Tree) → SameTree t t
same_itself t i = same_nodes (t i)

pub same_symmetric : (t u : Tree) → SameTree t u → SameTree u t
same_symmetric t u s i = other_nodes (t i) (u i) (s i)

pub same_transitive : (t u v : Tree) → SameTree t u → SameTree u v → SameTree t v
same_transitive t u v s r i = third_nodes (t i) (u i) (v i) (s i) (r i)

-- ---- one inode put or changed

one_of : (b : Bool) (o p x y : Option Node) → SameNodes o p → SameNodes x y → SameNodes (cond b o x) (cond b p y)
one_of true o p x y s r = s
one_of false o p x y s r = r

pub put_kept : (t u : Tree) (i : ℕ) (o p : Option Node) → SameNodes o p → SameTree t u → SameTree (put_node i o t) (put_node i p u)
put_kept t u i o p s same j = one_of (eqb j i) o p (t j) (u j) s (same j)

mapped_kept : (f g : Node → Node) → ((a b : Node) → SameNode a b → SameNode (f a) (g b)) → (o p : Option Node) → SameNodes o p → SameNodes (option_map f o) (option_map g p)
mapped_kept f g keeps None None s = tt
mapped_kept f g keeps None (Some b) s = s
mapped_kept f g keeps (Some a) None s = s
mapped_kept f g keeps (Some a) (Some b) s = keeps a b s

pub edit_kept : (t u : Tree) (i : ℕ) (f g : Node → Node) → ((a b : Node) → SameNode a b → SameNode (f a) (g b)) → SameTree t u → SameTree (edit i f t) (edit i g u)
edit_kept t u i f g keeps same = put_kept t u i (option_map f (t i)) (option_map g (u i)) (mapped_kept f g keeps (t i) (u i) (same i)) same

-- ---- the changes of an inode

pub name_kept : (name : List ℕ) (i time : ℕ) (a b : Node) → SameNode a b → SameNode (with_name name i time a) (with_name name i time b)
name_kept name i time a b s = record {
  kind = s.kind;
  mode = s.mode;
  owner = s.owner;
  group = s.group;
  size = s.size;
  links = s.links;
  time = refl;
  count = ap (λ n. n + 1) s.count;
  names = λ q. ap (λ (o : Option ℕ). cond (pointwise eqb q name) (Some i) o) (s.names q);
  bytes = s.bytes;
}

pub no_name_kept : (name : List ℕ) (time : ℕ) (a b : Node) → SameNode a b → SameNode (without_name name time a) (without_name name time b)
no_name_kept name time a b s = record {
  kind = s.kind;
  mode = s.mode;
  owner = s.owner;
  group = s.group;
  size = s.size;
  links = s.links;
  time = refl;
  count = ap (λ n. n - 1) s.count;
  names = λ q. ap (λ (o : Option ℕ). cond (pointwise eqb q name) None o) (s.names q);
  bytes = s.bytes;
}

pub links_kept : (m n time : ℕ) → m ≡ n → (a b : Node) → SameNode a b → SameNode (with_links m time a) (with_links n time b)
links_kept m n time e a b s = record { kind = s.kind; mode = s.mode; owner = s.owner; group = s.group; size = s.size; links = e; time = refl; count = s.count; names = s.names; bytes = s.bytes }

pub attributes_kept : (mode owner group time : ℕ) (a b : Node) → SameNode a b → SameNode (with_attributes mode owner group time a) (with_attributes mode owner group time b)
attributes_kept mode owner group time a b s = record { kind = s.kind; mode = refl; owner = refl; group = refl; size = s.size; links = s.links; time = refl; count = s.count; names = s.names; bytes = s.bytes }

-- a byte below the size, and 0 past it
old_byte : (a b : Node) → SameNode a b → (x : ℕ) → cond (nat_lt x a.size) (a.bytes x) 0 ≡ cond (nat_lt x b.size) (b.bytes x) 0
old_byte a b s x = by (nat_lt x a.size) refl ∙ ap (λ n. cond (nat_lt x n) (b.bytes x) 0) s.size
  where
    by : (v : Bool) → nat_lt x a.size ≡ v → cond v (a.bytes x) 0 ≡ cond v (b.bytes x) 0
    by true e = s.bytes x (ltb-true x a.size e)
    by false e = refl

pub bytes_kept : (offset : ℕ) (new : List ℕ) (time : ℕ) (a b : Node) → SameNode a b → SameNode (with_bytes offset new time a) (with_bytes offset new time b)
bytes_kept offset new time a b s = record {
  kind = s.kind;
  mode = s.mode;
  owner = s.owner;
  group = s.group;
  size = ap (λ n. max n (offset + length new)) s.size;
  links = s.links;
  time = refl;
  count = s.count;
  names = s.names;
  bytes = λ x h. ap (λ n. cond (nat_le offset x && nat_lt x (offset + length new)) (slice_index new (x - offset)) n) (old_byte a b s x);
}

pub size_kept : (size time : ℕ) (a b : Node) → SameNode a b → SameNode (with_size size time a) (with_size size time b)
size_kept size time a b s = record { kind = s.kind; mode = s.mode; owner = s.owner; group = s.group; size = refl; links = s.links; time = refl; count = s.count; names = s.names; bytes = λ x h. old_byte a b s x }
