-- Trees whose files have the same bytes, and in which paths lead to the same: what each call makes of them is so too.
use Rattle.std.proofs.Common.{◌≡◌, ℕ, ◌+◌, ◌-◌, ◌<◌, Bool, true, false, nat_lt, nat_le, ◌&&◌, cond, eqb, max, List, [], ◌∷◌, length, slice_index, Option, Some, None, Result, Ok, Err, refl, sym, ◌∙◌, ap, subst}
use Rattle.std.specs.Option.{option_map}
use Rattle.std.proofs.lemmas.Bool.{ltb-true}
use Rattle.nv_super.specs.declared.kind.Kind.{Kind}
use Rattle.nv_tree.specs.declared.refusal.Refusal.{Refusal}
use Rattle.nv_tree.specs.Path.{last_name}
use Rattle.nv_tree.specs.Tree.{Node, Tree, SameNode, SameNodes, walk, found}
use Rattle.nv_tree.specs.Calls.{put_node, edit, new_node, with_name, without_name, with_links, with_bytes, with_size, with_attributes, on_some, on_ok, links_at, released, created, written, resized, attributed, linked, unlinked, removed, renamed}

-- as long, with the same bytes
pub record SameContent (a b : Node) : Type 0 where
  pub size : a.size ≡ b.size
  pub bytes : (x : ℕ) → x < a.size → a.bytes x ≡ b.bytes x

-- both aren't in use, or their bytes are the same
abbrev pub SameContents : Option Node → Option Node → Type 0
SameContents None None = Unit {0}
SameContents (Some a) (Some b) = SameContent a b
SameContents None (Some b) = ⊥
SameContents (Some a) None = ⊥

-- inode by inode so
abbrev pub SameFiles : Tree → Tree → Type 0
SameFiles t u = (i : ℕ) → SameContents (t i) (u i)

-- ---- between trees that nobody can tell apart from these

seen_content : (a b : Node) → SameNode a b → SameContent a b
seen_content a b s = record { size = s.size; bytes = s.bytes }

third_content : (a b c : Node) → SameContent a b → SameContent b c → SameContent a c
third_content a b c s r = record { size = s.size ∙ r.size; bytes = λ x h. s.bytes x h ∙ r.bytes x (subst (λ (n : ℕ). x < n) s.size h) }

other_content : (a b : Node) → SameContent a b → SameContent b a
other_content a b s = record { size = sym s.size; bytes = λ x h. sym (s.bytes x (subst (λ (n : ℕ). x < n) (sym s.size) h)) }

-- The bytes of two inodes, each seen as one of two whose bytes are the same.
pub between : (a b : Node) (o p : Option Node) → SameNodes (Some a) o → SameNodes (Some b) p → SameContents o p → SameContent a b
between a b None p first second same = absurd first
between a b (Some c) None first second same = absurd second
between a b (Some c) (Some d) first second same = third_content a c b (seen_content a c first) (third_content c d b same (other_content b d (seen_content b d second)))

-- ---- one inode put or changed

one_of : (b : Bool) (o p x y : Option Node) → SameContents o p → SameContents x y → SameContents (cond b o x) (cond b p y)
one_of true o p x y s r = s
one_of false o p x y s r = r

pub put_same : (t u : Tree) (i : ℕ) (o p : Option Node) → SameContents o p → SameFiles t u → SameFiles (put_node i o t) (put_node i p u)
put_same t u i o p s same j = one_of (eqb j i) o p (t j) (u j) s (same j)

mapped_same : (f g : Node → Node) → ((a b : Node) → SameContent a b → SameContent (f a) (g b)) → (o p : Option Node) → SameContents o p → SameContents (option_map f o) (option_map g p)
mapped_same f g keeps None None s = tt
mapped_same f g keeps None (Some b) s = s
mapped_same f g keeps (Some a) None s = s
mapped_same f g keeps (Some a) (Some b) s = keeps a b s

pub edit_same : (t u : Tree) (i : ℕ) (f g : Node → Node) → ((a b : Node) → SameContent a b → SameContent (f a) (g b)) → SameFiles t u → SameFiles (edit i f t) (edit i g u)
edit_same t u i f g keeps same = put_same t u i (option_map f (t i)) (option_map g (u i)) (mapped_same f g keeps (t i) (u i) (same i)) same

-- ---- the changes of an inode

pub name_same : (name : List ℕ) (i time : ℕ) (a b : Node) → SameContent a b → SameContent (with_name name i time a) (with_name name i time b)
name_same name i time a b s = record { size = s.size; bytes = s.bytes }

pub no_name_same : (name : List ℕ) (time : ℕ) (a b : Node) → SameContent a b → SameContent (without_name name time a) (without_name name time b)
no_name_same name time a b s = record { size = s.size; bytes = s.bytes }

pub links_same : (m n time : ℕ) (a b : Node) → SameContent a b → SameContent (with_links m time a) (with_links n time b)
links_same m n time a b s = record { size = s.size; bytes = s.bytes }

attributes_same : (mode owner group time : ℕ) (a b : Node) → SameContent a b → SameContent (with_attributes mode owner group time a) (with_attributes mode owner group time b)
attributes_same mode owner group time a b s = record { size = s.size; bytes = s.bytes }

-- a byte below the size, and 0 past it
old_byte : (a b : Node) → SameContent a b → (x : ℕ) → cond (nat_lt x a.size) (a.bytes x) 0 ≡ cond (nat_lt x b.size) (b.bytes x) 0
old_byte a b s x = by (nat_lt x a.size) refl ∙ ap (λ (n : ℕ). cond (nat_lt x n) (b.bytes x) 0) s.size where
  by : (v : Bool) → nat_lt x a.size ≡ v → cond v (a.bytes x) 0 ≡ cond v (b.bytes x) 0
  by true e = s.bytes x (ltb-true x a.size e)
  by false e = refl

bytes_same : (offset : ℕ) (new : List ℕ) (time : ℕ) (a b : Node) → SameContent a b → SameContent (with_bytes offset new time a) (with_bytes offset new time b)
bytes_same offset new time a b s = record {
  size = ap (λ (n : ℕ). max n (offset + length new)) s.size;
  bytes = λ x h. ap (λ (n : ℕ). cond (nat_le offset x && nat_lt x (offset + length new)) (slice_index new (x - offset)) n) (old_byte a b s x);
}

size_same : (size time : ℕ) (a b : Node) → SameContent a b → SameContent (with_size size time a) (with_size size time b)
size_same size time a b s = record { size = refl; bytes = λ x h. old_byte a b s x }

new_same : (a : Node) → SameContent a a
new_same a = record { size = refl; bytes = λ x h. refl }

-- ---- the calls

module _ (t u : Tree) (same : SameFiles t u) (walks : (names : List (List ℕ)) → walk t 1 names ≡ walk u 1 names) (finds : (names : List (List ℕ)) → found t names ≡ found u names) (links : (i : ℕ) → links_at t i ≡ links_at u i) where
  some_same : (o p : Option ℕ) → o ≡ p → (f g : ℕ → Tree) → ((i : ℕ) → SameFiles (f i) (g i)) → SameFiles (on_some o f t) (on_some p g u)
  some_same o p e f g keeps = subst (λ (x : Option ℕ). SameFiles (on_some o f t) (on_some x g u)) e (by o) where
    by : (x : Option ℕ) → SameFiles (on_some x f t) (on_some x g u)
    by None = same
    by (Some i) = keeps i

  ok_same : (r s : Result ℕ Refusal) → r ≡ s → (f g : ℕ → Tree) → ((d : ℕ) → SameFiles (f d) (g d)) → SameFiles (on_ok r f t) (on_ok s g u)
  ok_same r s e f g keeps = subst (λ (x : Result ℕ Refusal). SameFiles (on_ok r f t) (on_ok x g u)) e (by r) where
    by : (x : Result ℕ Refusal) → SameFiles (on_ok x f t) (on_ok x g u)
    by (Err refusal) = same
    by (Ok d) = keeps d

  -- what is made by the directory where a walk ends, and by the inode that a path leads to
  walk_same : (names : List (List ℕ)) (f g : ℕ → Tree) → ((d : ℕ) → SameFiles (f d) (g d)) → SameFiles (on_ok (walk t 1 names) f t) (on_ok (walk u 1 names) g u)
  walk_same names f g keeps = ok_same (walk t 1 names) (walk u 1 names) (walks names) f g keeps

  found_same : (names : List (List ℕ)) (f g : ℕ → Tree) → ((i : ℕ) → SameFiles (f i) (g i)) → SameFiles (on_some (found t names) f t) (on_some (found u names) g u)
  found_same names f g keeps = some_same (found t names) (found u names) (finds names) f g keeps

  change_same : (names : List (List ℕ)) (f : Node → Node) → ((a b : Node) → SameContent a b → SameContent (f a) (f b)) → SameFiles (on_some (found t names) (λ i. edit i f t) t) (on_some (found u names) (λ i. edit i f u) u)
  change_same names f keeps = found_same names (λ i. edit i f t) (λ i. edit i f u) (λ i. edit_same t u i f f keeps same)

  pub created_same : (kind : Kind) (a b : Option ℕ) → a ≡ b → (names : List (List ℕ)) (mode time : ℕ) → SameFiles (created kind a names mode time t) (created kind b names mode time u)
  created_same kind a b e names mode time =
      let made : ℕ → Tree → Tree = λ i v. put_node i (Some (new_node kind mode time)) v in
      let named : ℕ → ℕ → Tree → Tree = λ i d v. edit d (with_name (last_name names) i time) (made i v) in
      some_same a b e (λ i. on_ok (walk t 1 names) (λ d. named i d t) t) (λ i. on_ok (walk u 1 names) (λ d. named i d u) u)
      (λ i. walk_same names (λ d. named i d t) (λ d. named i d u)
      (λ d. edit_same (made i t) (made i u) d (with_name (last_name names) i time) (with_name (last_name names) i time) (name_same (last_name names) i time)
      (put_same t u i (Some (new_node kind mode time)) (Some (new_node kind mode time)) (new_same (new_node kind mode time)) same)))

  pub written_same : (names : List (List ℕ)) (offset : ℕ) (bytes : List ℕ) (time : ℕ) → SameFiles (written names offset bytes time t) (written names offset bytes time u)
  written_same names offset [] time = same
  written_same names offset (b ∷ bytes) time = change_same names (with_bytes offset (b ∷ bytes) time) (bytes_same offset (b ∷ bytes) time)

  pub resized_same : (names : List (List ℕ)) (size time : ℕ) → SameFiles (resized names size time t) (resized names size time u)
  resized_same names size time = change_same names (with_size size time) (size_same size time)

  pub attributed_same : (names : List (List ℕ)) (mode owner group time : ℕ) → SameFiles (attributed names mode owner group time t) (attributed names mode owner group time u)
  attributed_same names mode owner group time = change_same names (with_attributes mode owner group time) (attributes_same mode owner group time)

  pub linked_same : (old new : List (List ℕ)) (time : ℕ) → SameFiles (linked old new time t) (linked old new time u)
  linked_same old new time =
      let counted : ℕ → Tree → Tree = λ i v. edit i (with_links (links_at v i + 1) time) v in
      let named : ℕ → ℕ → Tree → Tree = λ i d v. edit d (with_name (last_name new) i time) (counted i v) in
      found_same old (λ i. on_ok (walk t 1 new) (λ d. named i d t) t) (λ i. on_ok (walk u 1 new) (λ d. named i d u) u)
      (λ i. walk_same new (λ d. named i d t) (λ d. named i d u)
      (λ d. edit_same (counted i t) (counted i u) d (with_name (last_name new) i time) (with_name (last_name new) i time) (name_same (last_name new) i time)
      (edit_same t u i (with_links (links_at t i + 1) time) (with_links (links_at u i + 1) time) (links_same (links_at t i + 1) (links_at u i + 1) time) same)))

  released_same : (i time : ℕ) → SameFiles (released i time t) (released i time u)
  released_same i time = subst (λ (b : Bool). SameFiles (released i time t) (cond b (put_node i None u) (edit i (with_links (links_at u i - 1) time) u))) (ap (λ (n : ℕ). nat_le n 1) (links i)) (by (nat_le (links_at t i) 1)) where
    by : (b : Bool) → SameFiles (cond b (put_node i None t) (edit i (with_links (links_at t i - 1) time) t)) (cond b (put_node i None u) (edit i (with_links (links_at u i - 1) time) u))
    by true = put_same t u i None None tt same
    by false = edit_same t u i (with_links (links_at t i - 1) time) (with_links (links_at u i - 1) time) (links_same (links_at t i - 1) (links_at u i - 1) time) same

  -- a name less, in what was made of the tree before
  unnamed_same : (names : List (List ℕ)) (time : ℕ) (before : ℕ → Tree → Tree) → ((i : ℕ) → SameFiles (before i t) (before i u))
      → SameFiles (on_some (found t names) (λ i. on_ok (walk t 1 names) (λ d. edit d (without_name (last_name names) time) (before i t)) t) t) (on_some (found u names) (λ i. on_ok (walk u 1 names) (λ d. edit d (without_name (last_name names) time) (before i u)) u) u)
  unnamed_same names time before keeps =
      found_same names (λ i. on_ok (walk t 1 names) (λ d. edit d (without_name (last_name names) time) (before i t)) t) (λ i. on_ok (walk u 1 names) (λ d. edit d (without_name (last_name names) time) (before i u)) u)
      (λ i. walk_same names (λ d. edit d (without_name (last_name names) time) (before i t)) (λ d. edit d (without_name (last_name names) time) (before i u))
      (λ d. edit_same (before i t) (before i u) d (without_name (last_name names) time) (without_name (last_name names) time) (no_name_same (last_name names) time) (keeps i)))

  pub unlinked_same : (names : List (List ℕ)) (time : ℕ) → SameFiles (unlinked names time t) (unlinked names time u)
  unlinked_same names time = unnamed_same names time (λ i v. released i time v) (λ i. released_same i time)

  pub removed_same : (names : List (List ℕ)) (time : ℕ) → SameFiles (removed names time t) (removed names time u)
  removed_same names time = unnamed_same names time (λ i v. put_node i None v) (λ i. put_same t u i None None tt same)

  pub renamed_same : (old new : List (List ℕ)) (time : ℕ) → SameFiles (renamed old new time t) (renamed old new time u)
  renamed_same old new time =
      let less : ℕ → Tree → Tree = λ d v. edit d (without_name (last_name old) time) v in
      let named : ℕ → ℕ → ℕ → Tree → Tree = λ i d e v. edit e (with_name (last_name new) i time) (less d v) in
      found_same old (λ i. on_ok (walk t 1 old) (λ d. on_ok (walk t 1 new) (λ e. named i d e t) t) t) (λ i. on_ok (walk u 1 old) (λ d. on_ok (walk u 1 new) (λ e. named i d e u) u) u)
      (λ i. walk_same old (λ d. on_ok (walk t 1 new) (λ e. named i d e t) t) (λ d. on_ok (walk u 1 new) (λ e. named i d e u) u)
      (λ d. walk_same new (λ e. named i d e t) (λ e. named i d e u)
      (λ e. edit_same (less d t) (less d u) e (with_name (last_name new) i time) (with_name (last_name new) i time) (name_same (last_name new) i time)
      (edit_same t u d (without_name (last_name old) time) (without_name (last_name old) time) (no_name_same (last_name old) time) same))))
