-- Trees that nobody can tell apart: what each call makes of them can't be told apart either.
use Rattle.std.proofs.Common.{◌≡◌, ℕ, ◌+◌, ◌-◌, Bool, true, false, nat_le, cond, List, [], ◌∷◌, Option, Some, None, Result, Ok, Err, refl, ap, subst}
use Rattle.nv_super.specs.declared.kind.Kind.{Kind}
use Rattle.nv_tree.specs.declared.refusal.Refusal.{Refusal}
use Rattle.nv_tree.specs.Path.{last_name}
use Rattle.nv_tree.specs.Tree.{Node, Tree, SameNode, SameTree, walk, found}
use Rattle.nv_tree.specs.Calls.{put_node, edit, new_node, with_name, without_name, with_links, with_bytes, with_size, with_attributes, on_some, on_ok, links_at, released, created, written, resized, attributed, linked, unlinked, removed, renamed}
use Rattle.nv_tree.proofs.Same.{same_node, put_kept, edit_kept, name_kept, no_name_kept, links_kept, attributes_kept, bytes_kept, size_kept}
use Rattle.nv_tree.proofs.Alike.{walk_alike, found_alike, links_alike}

some_kept : (t u : Tree) → SameTree t u → (o p : Option ℕ) → o ≡ p → (f g : ℕ → Tree) → ((i : ℕ) → SameTree (f i) (g i)) → SameTree (on_some o f t) (on_some p g u)
some_kept t u same o p e f g keeps = subst (λ x. SameTree (on_some o f t) (on_some x g u)) e (by o)
  where
    by : (x : Option ℕ) → SameTree (on_some x f t) (on_some x g u)
    by None = same
    by (Some i) = keeps i

ok_kept : (t u : Tree) → SameTree t u → (r s : Result ℕ Refusal) → r ≡ s → (f g : ℕ → Tree) → ((d : ℕ) → SameTree (f d) (g d)) → SameTree (on_ok r f t) (on_ok s g u)
ok_kept t u same r s e f g keeps = subst (λ x. SameTree (on_ok r f t) (on_ok x g u)) e (by r)
  where
    by : (x : Result ℕ Refusal) → SameTree (on_ok x f t) (on_ok x g u)
    by (Err refusal) = same
    by (Ok d) = keeps d

-- a walk's directory, and what is made of the tree by it
walk_kept : (t u : Tree) → SameTree t u → (names : List (List ℕ)) (f g : ℕ → Tree) → ((d : ℕ) → SameTree (f d) (g d)) → SameTree (on_ok (walk t 1 names) f t) (on_ok (walk u 1 names) g u)
walk_kept t u same names f g keeps = ok_kept t u same (walk t 1 names) (walk u 1 names) (walk_alike t u same 1 names) f g keeps

found_kept : (t u : Tree) → SameTree t u → (names : List (List ℕ)) (f g : ℕ → Tree) → ((i : ℕ) → SameTree (f i) (g i)) → SameTree (on_some (found t names) f t) (on_some (found u names) g u)
found_kept t u same names f g keeps = some_kept t u same (found t names) (found u names) (found_alike t u same names) f g keeps

-- one change of the inode that a path leads to
change_kept : (t u : Tree) → SameTree t u → (names : List (List ℕ)) (f : Node → Node) → ((a b : Node) → SameNode a b → SameNode (f a) (f b)) → SameTree (on_some (found t names) (λ i. edit i f t) t) (on_some (found u names) (λ i. edit i f u) u)
change_kept t u same names f keeps = found_kept t u same names (λ i. edit i f t) (λ i. edit i f u) (λ i. edit_kept t u i f f keeps same)

pub created_kept : (kind : Kind) (unused : Option ℕ) (names : List (List ℕ)) (mode time : ℕ) (t u : Tree) → SameTree t u → SameTree (created kind unused names mode time t) (created kind unused names mode time u)
created_kept kind unused names mode time t u same =
    let made : ℕ → Tree → Tree = λ i v. put_node i (Some (new_node kind mode time)) v in
    let named : ℕ → ℕ → Tree → Tree = λ i d v. edit d (with_name (last_name names) i time) (made i v) in
    some_kept t u same unused unused refl (λ i. on_ok (walk t 1 names) (λ d. named i d t) t) (λ i. on_ok (walk u 1 names) (λ d. named i d u) u)
    (λ i. walk_kept t u same names (λ d. named i d t) (λ d. named i d u)
    (λ d. edit_kept (made i t) (made i u) d (with_name (last_name names) i time) (with_name (last_name names) i time) (name_kept (last_name names) i time)
    (put_kept t u i (Some (new_node kind mode time)) (Some (new_node kind mode time)) (same_node (new_node kind mode time)) same)))

pub written_kept : (names : List (List ℕ)) (offset : ℕ) (bytes : List ℕ) (time : ℕ) (t u : Tree) → SameTree t u → SameTree (written names offset bytes time t) (written names offset bytes time u)
written_kept names offset [] time t u same = same
written_kept names offset (b ∷ bytes) time t u same = change_kept t u same names (with_bytes offset (b ∷ bytes) time) (bytes_kept offset (b ∷ bytes) time)

pub resized_kept : (names : List (List ℕ)) (size time : ℕ) (t u : Tree) → SameTree t u → SameTree (resized names size time t) (resized names size time u)
resized_kept names size time t u same = change_kept t u same names (with_size size time) (size_kept size time)

pub attributed_kept : (names : List (List ℕ)) (mode owner group time : ℕ) (t u : Tree) → SameTree t u → SameTree (attributed names mode owner group time t) (attributed names mode owner group time u)
attributed_kept names mode owner group time t u same = change_kept t u same names (with_attributes mode owner group time) (attributes_kept mode owner group time)

pub linked_kept : (old new : List (List ℕ)) (time : ℕ) (t u : Tree) → SameTree t u → SameTree (linked old new time t) (linked old new time u)
linked_kept old new time t u same =
    let counted : ℕ → Tree → Tree = λ i v. edit i (with_links (links_at v i + 1) time) v in
    let named : ℕ → ℕ → Tree → Tree = λ i d v. edit d (with_name (last_name new) i time) (counted i v) in
    found_kept t u same old (λ i. on_ok (walk t 1 new) (λ d. named i d t) t) (λ i. on_ok (walk u 1 new) (λ d. named i d u) u)
    (λ i. walk_kept t u same new (λ d. named i d t) (λ d. named i d u)
    (λ d. edit_kept (counted i t) (counted i u) d (with_name (last_name new) i time) (with_name (last_name new) i time) (name_kept (last_name new) i time)
    (edit_kept t u i (with_links (links_at t i + 1) time) (with_links (links_at u i + 1) time) (links_kept (links_at t i + 1) (links_at u i + 1) time (ap (λ n. n + 1) (links_alike t u same i))) same)))

released_kept : (i time : ℕ) (t u : Tree) → SameTree t u → SameTree (released i time t) (released i time u)
released_kept i time t u same = subst (λ b. SameTree (released i time t) (cond b (put_node i None u) (edit i (with_links (links_at u i - 1) time) u))) (ap (λ n. nat_le n 1) (links_alike t u same i)) (by (nat_le (links_at t i) 1))
  where
    by : (b : Bool) → SameTree (cond b (put_node i None t) (edit i (with_links (links_at t i - 1) time) t)) (cond b (put_node i None u) (edit i (with_links (links_at u i - 1) time) u))
    by true = put_kept t u i None None tt same
    by false = edit_kept t u i (with_links (links_at t i - 1) time) (with_links (links_at u i - 1) time) (links_kept (links_at t i - 1) (links_at u i - 1) time (ap (λ n. n - 1) (links_alike t u same i))) same

-- a name less, in what was made of the tree before
unnamed_kept : (names : List (List ℕ)) (time : ℕ) (before : ℕ → Tree → Tree) → ((i : ℕ) (t u : Tree) → SameTree t u → SameTree (before i t) (before i u)) → (t u : Tree) → SameTree t u
    → SameTree (on_some (found t names) (λ i. on_ok (walk t 1 names) (λ d. edit d (without_name (last_name names) time) (before i t)) t) t) (on_some (found u names) (λ i. on_ok (walk u 1 names) (λ d. edit d (without_name (last_name names) time) (before i u)) u) u)
unnamed_kept names time before keeps t u same =
    found_kept t u same names (λ i. on_ok (walk t 1 names) (λ d. edit d (without_name (last_name names) time) (before i t)) t) (λ i. on_ok (walk u 1 names) (λ d. edit d (without_name (last_name names) time) (before i u)) u)
    (λ i. walk_kept t u same names (λ d. edit d (without_name (last_name names) time) (before i t)) (λ d. edit d (without_name (last_name names) time) (before i u))
    (λ d. edit_kept (before i t) (before i u) d (without_name (last_name names) time) (without_name (last_name names) time) (no_name_kept (last_name names) time) (keeps i t u same)))

pub unlinked_kept : (names : List (List ℕ)) (time : ℕ) (t u : Tree) → SameTree t u → SameTree (unlinked names time t) (unlinked names time u)
unlinked_kept names time t u same = unnamed_kept names time (λ i v. released i time v) (λ i v w s. released_kept i time v w s) t u same

pub removed_kept : (names : List (List ℕ)) (time : ℕ) (t u : Tree) → SameTree t u → SameTree (removed names time t) (removed names time u)
removed_kept names time t u same = unnamed_kept names time (λ i v. put_node i None v) (λ i v w s. put_kept v w i None None tt s) t u same

pub renamed_kept : (old new : List (List ℕ)) (time : ℕ) (t u : Tree) → SameTree t u → SameTree (renamed old new time t) (renamed old new time u)
renamed_kept old new time t u same =
    let cut : ℕ → Tree → Tree = λ d v. edit d (without_name (last_name old) time) v in
    let named : ℕ → ℕ → ℕ → Tree → Tree = λ i d e v. edit e (with_name (last_name new) i time) (cut d v) in
    found_kept t u same old (λ i. on_ok (walk t 1 old) (λ d. on_ok (walk t 1 new) (λ e. named i d e t) t) t) (λ i. on_ok (walk u 1 old) (λ d. on_ok (walk u 1 new) (λ e. named i d e u) u) u)
    (λ i. walk_kept t u same old (λ d. on_ok (walk t 1 new) (λ e. named i d e t) t) (λ d. on_ok (walk u 1 new) (λ e. named i d e u) u)
    (λ d. walk_kept t u same new (λ e. named i d e t) (λ e. named i d e u)
    (λ e. edit_kept (cut d t) (cut d u) e (with_name (last_name new) i time) (with_name (last_name new) i time) (name_kept (last_name new) i time)
    (edit_kept t u d (without_name (last_name old) time) (without_name (last_name old) time) (no_name_kept (last_name old) time) same))))
