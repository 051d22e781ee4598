-- What names stand for after each call.
use Rattle.std.proofs.Common.{◌≡◌, ℕ, ◌+◌, ◌-◌, Bool, true, false, nat_le, cond, List, [], ◌∷◌, Some, None, Ok, refl, sym, ◌∙◌, ap, subst}
use Rattle.std.specs.Option.{option_and_then}
use Rattle.std.proofs.lemmas.Bool.{eq-eqb}
use Rattle.nv_super.specs.declared.kind.Kind.{Kind}
use Rattle.nv_tree.specs.Path.{last_name}
use Rattle.nv_tree.specs.Tree.{Node, Tree, name_in, walk, last_in, found}
use Rattle.nv_tree.specs.Calls.{put_node, edit, new_node, with_name, without_name, with_links, on_some, on_ok, links_at, released, created, linked, unlinked, removed, renamed}
use Rattle.nv_tree.specs.Laws.{HasNoNames, SetsName}
use Rattle.nv_tree.proofs.Named.{put_same, edit_same, name_set, name_cut, set_after}
use Rattle.nv_tree.proofs.Leads.{StaysInUse, GrowsName, put_stays, edit_stays, stays_on, walk_ends, used_now, path_grows, path_stays, stood_for_none}

-- a path that leads somewhere leads to an inode in use
pub found_used : (t : Tree) (names : List (List ℕ)) (i : ℕ) → found t names ≡ Some i → (a : Node) × (t i ≡ Some a)
found_used t [] i h = let r = used_now t (Some 1) i h in (r.0, r.2)
found_used t (name ∷ names) i h = let r = used_now t (last_in t (walk t 1 (name ∷ names)) (name ∷ names)) i h in (r.0, r.2)

-- ---- create and mkdir

-- the tree with the new inode, and then with its name
placed : Kind → ℕ → ℕ → ℕ → Tree → Tree
placed kind i mode time t = put_node i (Some (new_node kind mode time)) t

entered : Kind → ℕ → ℕ → List (List ℕ) → ℕ → ℕ → Tree → Tree
entered kind i d names mode time t = edit d (with_name (last_name names) i time) (placed kind i mode time t)

created_is : (t : Tree) (kind : Kind) (i d : ℕ) (names : List (List ℕ)) (mode time : ℕ) → walk t 1 names ≡ Ok d → created kind (Some i) names mode time t ≡ entered kind i d names mode time t
unfolding entered placed
created_is t kind i d names mode time way = ap (λ r. on_ok r (λ e. entered kind i e names mode time t) t) way

placed_same : (t : Tree) (kind : Kind) (i mode time : ℕ) → t i ≡ None → (e : ℕ) (q : List ℕ) → name_in (placed kind i mode time t) e q ≡ name_in t e q
unfolding placed
placed_same t kind i mode time unused = put_same t i (Some (new_node kind mode time)) (λ q. sym (ap (option_and_then (λ (node : Node). node.names q)) unused))

placed_stays : (t : Tree) (kind : Kind) (i mode time : ℕ) → t i ≡ None → StaysInUse t (placed kind i mode time t)
unfolding placed
placed_stays t kind i mode time unused = put_stays t i (Some (new_node kind mode time)) unused

placed_here : (t : Tree) (kind : Kind) (i mode time : ℕ) → placed kind i mode time t i ≡ Some (new_node kind mode time)
unfolding placed
placed_here t kind i mode time = ap (λ b. cond b (Some (new_node kind mode time)) (t i)) (eq-eqb i i refl)

entered_sets : (t : Tree) (kind : Kind) (i d : ℕ) (name : List ℕ) (names : List (List ℕ)) (mode time : ℕ) → t i ≡ None → walk t 1 (name ∷ names) ≡ Ok d
    → SetsName t d (last_name (name ∷ names)) (Some i) (entered kind i d (name ∷ names) mode time t)
unfolding entered
entered_sets t kind i d name names mode time unused way =
    let s = placed kind i mode time t in
    let a = walk_ends t 1 name names d way in
    let b = (placed_stays t kind i mode time unused).stays d a.0 a.1 in
    set_after t s (entered kind i d (name ∷ names) mode time t) d (last_name (name ∷ names)) (Some i) (placed_same t kind i mode time unused) (name_set s d b.0 (last_name (name ∷ names)) i time b.1)

entered_stays : (t : Tree) (kind : Kind) (i d : ℕ) (names : List (List ℕ)) (mode time : ℕ) → StaysInUse (placed kind i mode time t) (entered kind i d names mode time t)
unfolding entered
entered_stays t kind i d names mode time = edit_stays (placed kind i mode time t) d (with_name (last_name names) i time) (λ a. refl)

entered_grows : (t : Tree) (kind : Kind) (i d : ℕ) (name : List ℕ) (names : List (List ℕ)) (mode time : ℕ) → t i ≡ None → walk t 1 (name ∷ names) ≡ Ok d → found t (name ∷ names) ≡ None
    → GrowsName t d (last_name (name ∷ names)) i (entered kind i d (name ∷ names) mode time t)
entered_grows t kind i d name names mode time unused way none = record {
  sets = entered_sets t kind i d name names mode time unused way;
  kept = stays_on t (placed kind i mode time t) (entered kind i d (name ∷ names) mode time t) (placed_stays t kind i mode time unused) (entered_stays t kind i d (name ∷ names) mode time);
  free = stood_for_none t d (name ∷ names) way none;
}

pub created_found : (t : Tree) (kind : Kind) (i d : ℕ) (name : List ℕ) (names : List (List ℕ)) (mode time : ℕ) → t i ≡ None → walk t 1 (name ∷ names) ≡ Ok d → found t (name ∷ names) ≡ None
    → found (created kind (Some i) (name ∷ names) mode time t) (name ∷ names) ≡ Some i
created_found t kind i d name names mode time unused way none =
    let b = (entered_stays t kind i d (name ∷ names) mode time).stays i (new_node kind mode time) (placed_here t kind i mode time) in
    ap (λ (u : Tree). found u (name ∷ names)) (created_is t kind i d (name ∷ names) mode time way)
    ∙ path_grows t d i (entered kind i d (name ∷ names) mode time t) name names (entered_grows t kind i d name names mode time unused way none) b.0 b.1 way

pub created_paths : (t : Tree) (kind : Kind) (i d : ℕ) (name : List ℕ) (names : List (List ℕ)) (mode time : ℕ) → t i ≡ None → walk t 1 (name ∷ names) ≡ Ok d → found t (name ∷ names) ≡ None
    → (path : List (List ℕ)) (j : ℕ) → found t path ≡ Some j → found (created kind (Some i) (name ∷ names) mode time t) path ≡ Some j
created_paths t kind i d name names mode time unused way none path j led =
    ap (λ (u : Tree). found u path) (created_is t kind i d (name ∷ names) mode time way)
    ∙ path_stays t d (last_name (name ∷ names)) i (entered kind i d (name ∷ names) mode time t) (entered_grows t kind i d name names mode time unused way none) path j led

pub created_names : (t : Tree) (kind : Kind) (i d : ℕ) (name : List ℕ) (names : List (List ℕ)) (mode time : ℕ) → t i ≡ None → walk t 1 (name ∷ names) ≡ Ok d
    → SetsName t d (last_name (name ∷ names)) (Some i) (created kind (Some i) (name ∷ names) mode time t)
created_names t kind i d name names mode time unused way =
    subst (λ (u : Tree). SetsName t d (last_name (name ∷ names)) (Some i) u) (sym (created_is t kind i d (name ∷ names) mode time way)) (entered_sets t kind i d name names mode time unused way)

-- ---- link

-- the tree with the greater count of links, and then with the name
counted : ℕ → ℕ → Tree → Tree
counted i time t = edit i (with_links (links_at t i + 1) time) t

joined : ℕ → ℕ → List (List ℕ) → ℕ → Tree → Tree
joined i d names time t = edit d (with_name (last_name names) i time) (counted i time t)

linked_is : (t : Tree) (old : List (List ℕ)) (i d : ℕ) (names : List (List ℕ)) (time : ℕ) → found t old ≡ Some i → walk t 1 names ≡ Ok d → linked old names time t ≡ joined i d names time t
unfolding joined counted
linked_is t old i d names time led way =
    ap (λ o. on_some o (λ j. on_ok (walk t 1 names) (λ e. joined j e names time t) t) t) led
    ∙ ap (λ r. on_ok r (λ e. joined i e names time t) t) way

counted_stays : (t : Tree) (i time : ℕ) → StaysInUse t (counted i time t)
unfolding counted
counted_stays t i time = edit_stays t i (with_links (links_at t i + 1) time) (λ a. refl)

counted_same : (t : Tree) (i time : ℕ) (e : ℕ) (q : List ℕ) → name_in (counted i time t) e q ≡ name_in t e q
unfolding counted
counted_same t i time = edit_same t i (with_links (links_at t i + 1) time) (λ a q. refl)

joined_sets : (t : Tree) (i d : ℕ) (name : List ℕ) (names : List (List ℕ)) (time : ℕ) → walk t 1 (name ∷ names) ≡ Ok d → SetsName t d (last_name (name ∷ names)) (Some i) (joined i d (name ∷ names) time t)
unfolding joined
joined_sets t i d name names time way =
    let s = counted i time t in
    let a = walk_ends t 1 name names d way in
    let b = (counted_stays t i time).stays d a.0 a.1 in
    set_after t s (joined i d (name ∷ names) time t) d (last_name (name ∷ names)) (Some i) (counted_same t i time) (name_set s d b.0 (last_name (name ∷ names)) i time b.1)

joined_stays : (t : Tree) (i d : ℕ) (names : List (List ℕ)) (time : ℕ) → StaysInUse t (joined i d names time t)
unfolding joined
joined_stays t i d names time = stays_on t (counted i time t) (joined i d names time t) (counted_stays t i time) (edit_stays (counted i time t) d (with_name (last_name names) i time) (λ a. refl))

joined_grows : (t : Tree) (i d : ℕ) (name : List ℕ) (names : List (List ℕ)) (time : ℕ) → walk t 1 (name ∷ names) ≡ Ok d → found t (name ∷ names) ≡ None
    → GrowsName t d (last_name (name ∷ names)) i (joined i d (name ∷ names) time t)
joined_grows t i d name names time way none = record {
  sets = joined_sets t i d name names time way;
  kept = joined_stays t i d (name ∷ names) time;
  free = stood_for_none t d (name ∷ names) way none;
}

pub linked_found : (t : Tree) (old : List (List ℕ)) (i d : ℕ) (name : List ℕ) (names : List (List ℕ)) (time : ℕ) → found t old ≡ Some i → walk t 1 (name ∷ names) ≡ Ok d → found t (name ∷ names) ≡ None
    → found (linked old (name ∷ names) time t) (name ∷ names) ≡ Some i
linked_found t old i d name names time led way none =
    let a = found_used t old i led in
    let b = (joined_stays t i d (name ∷ names) time).stays i a.0 a.1 in
    ap (λ (u : Tree). found u (name ∷ names)) (linked_is t old i d (name ∷ names) time led way)
    ∙ path_grows t d i (joined i d (name ∷ names) time t) name names (joined_grows t i d name names time way none) b.0 b.1 way

pub linked_paths : (t : Tree) (old : List (List ℕ)) (i d : ℕ) (name : List ℕ) (names : List (List ℕ)) (time : ℕ) → found t old ≡ Some i → walk t 1 (name ∷ names) ≡ Ok d → found t (name ∷ names) ≡ None
    → (path : List (List ℕ)) (j : ℕ) → found t path ≡ Some j → found (linked old (name ∷ names) time t) path ≡ Some j
linked_paths t old i d name names time led way none path j was =
    ap (λ (u : Tree). found u path) (linked_is t old i d (name ∷ names) time led way)
    ∙ path_stays t d (last_name (name ∷ names)) i (joined i d (name ∷ names) time t) (joined_grows t i d name names time way none) path j was

pub linked_names : (t : Tree) (old : List (List ℕ)) (i d : ℕ) (name : List ℕ) (names : List (List ℕ)) (time : ℕ) → found t old ≡ Some i → walk t 1 (name ∷ names) ≡ Ok d
    → SetsName t d (last_name (name ∷ names)) (Some i) (linked old (name ∷ names) time t)
linked_names t old i d name names time led way =
    subst (λ (u : Tree). SetsName t d (last_name (name ∷ names)) (Some i) u) (sym (linked_is t old i d (name ∷ names) time led way)) (joined_sets t i d name names time way)

-- ---- unlink and rmdir

released_same : (t : Tree) (i time : ℕ) → HasNoNames t i → (e : ℕ) (q : List ℕ) → name_in (released i time t) e q ≡ name_in t e q
released_same t i time none e q = by (nat_le (links_at t i) 1)
  where
    by : (b : Bool) → name_in (cond b (put_node i None t) (edit i (with_links (links_at t i - 1) time) t)) e q ≡ name_in t e q
    by true = put_same t i None (λ r. sym (none r)) e q
    by false = edit_same t i (with_links (links_at t i - 1) time) (λ a r. refl) e q

-- a name less, in a tree of the same names
name_less : (t s : Tree) (d : ℕ) (name : List ℕ) (time : ℕ) → ((e : ℕ) (q : List ℕ) → name_in s e q ≡ name_in t e q) → SetsName t d name None (edit d (without_name name time) s)
name_less t s d name time same = set_after t s (edit d (without_name name time) s) d name None same (name_cut s d name time)

pub unlinked_names : (t : Tree) (i d : ℕ) (names : List (List ℕ)) (time : ℕ) → found t names ≡ Some i → walk t 1 names ≡ Ok d → HasNoNames t i → SetsName t d (last_name names) None (unlinked names time t)
unlinked_names t i d names time led way none =
    let after : ℕ → ℕ → Tree = λ j e. edit e (without_name (last_name names) time) (released j time t) in
    let is : unlinked names time t ≡ after i d = ap (λ o. on_some o (λ j. on_ok (walk t 1 names) (after j) t) t) led ∙ ap (λ r. on_ok r (after i) t) way in
    subst (λ (u : Tree). SetsName t d (last_name names) None u) (sym is) (name_less t (released i time t) d (last_name names) time (released_same t i time none))

pub removed_names : (t : Tree) (i d : ℕ) (names : List (List ℕ)) (time : ℕ) → found t names ≡ Some i → walk t 1 names ≡ Ok d → HasNoNames t i → SetsName t d (last_name names) None (removed names time t)
removed_names t i d names time led way none =
    let after : ℕ → ℕ → Tree = λ j e. edit e (without_name (last_name names) time) (put_node j None t) in
    let is : removed names time t ≡ after i d = ap (λ o. on_some o (λ j. on_ok (walk t 1 names) (after j) t) t) led ∙ ap (λ r. on_ok r (after i) t) way in
    subst (λ (u : Tree). SetsName t d (last_name names) None u) (sym is) (name_less t (put_node i None t) d (last_name names) time (put_same t i None (λ q. sym (none q))))

-- ---- rename

pub renamed_names : (t : Tree) (old : List (List ℕ)) (i d e : ℕ) (name : List ℕ) (names : List (List ℕ)) (time : ℕ) → found t old ≡ Some i → walk t 1 old ≡ Ok d → walk t 1 (name ∷ names) ≡ Ok e
    → (without : Tree) × SetsName t d (last_name old) None without × SetsName without e (last_name (name ∷ names)) (Some i) (renamed old (name ∷ names) time t)
renamed_names t old i d e name names time led from way =
    let cut : ℕ → Tree = λ k. edit k (without_name (last_name old) time) t in
    let after : ℕ → ℕ → ℕ → Tree = λ j k l. edit l (with_name (last_name (name ∷ names)) j time) (cut k) in
    let is : renamed old (name ∷ names) time t ≡ after i d e =
    ap (λ o. on_some o (λ j. on_ok (walk t 1 old) (λ k. on_ok (walk t 1 (name ∷ names)) (after j k) t) t) t) led
    ∙ ap (λ r. on_ok r (λ k. on_ok (walk t 1 (name ∷ names)) (after i k) t) t) from
    ∙ ap (λ r. on_ok r (after i d) t) way in
    let a = walk_ends t 1 name names e way in
    let b = (edit_stays t d (without_name (last_name old) time) (λ c. refl)).stays e a.0 a.1 in (
      cut d,
      name_cut t d (last_name old) time,
      subst (λ (u : Tree). SetsName (cut d) e (last_name (name ∷ names)) (Some i) u) (sym is) (name_set (cut d) e b.0 (last_name (name ∷ names)) i time b.1),
    )
