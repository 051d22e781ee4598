-- What the step of a member makes: the next stage.
use Rattle.std.proofs.Common.{◌≡◌, ℕ, suc, ◌<◌, ◌≤◌, ◌⊎◌, Bool, true, false, IsTrue, is_some, nat_lt, ◌&&◌, ◌||◌, cond, flat_map, All, List, [], ◌∷◌, ◌++◌, length, take, get_or, slice_index, slice_index_or, codes, Option, Some, None, Ok, refl, sym, ◌∙◌, ap, subst, inl, inr, arith}
use Rattle.std.specs.List.{slice_get}
use Rattle.std.proofs.lemmas.Bool.{ltb-true, eqb-true}
use Rattle.std.proofs.lemmas.List.{length-take}
use Rattle.std.proofs.lemmas.List.Elements.{All-cons, All-head, All-nil, All-tail}
use Rattle.nv_super.specs.declared.superblock.Super.{Super}
use Rattle.nv_super.specs.declared.kind.Kind.{Kind}
use Rattle.nv_super.specs.declared.kind.Kind.TheVariants as kinds
use Rattle.nv_entry.specs.Content.{is_dots}
use Rattle.nv_tree.specs.Path.{IsPath, IsPathName, is_slash, path_text, spelled}
use Rattle.nv_tree.specs.Tree.{Node, Tree, SameTree, walk}
use Rattle.nv_tree.specs.Calls.{attributed, bytes_read, created, linked, written}
use Rattle.nv_tree.proofs.Same.{same_transitive}
use Rattle.nv_restored.specs.Orderly.{IsOrderly}
use Rattle.nv_restored.specs.Numbers.{HasNumbersFor}
use Rattle.nv_members.specs.Members.{IsNameOf, AreMembers}
use Rattle.nv_members.specs.declared.member.Member.{Member}
use Rattle.nv_untar.specs.Items.{Item}
use Rattle.nv_history.specs.Making.{is_upgrade, lowest_unused}
use Rattle.nv_history.specs.Said.{Said, said, Create, MakeDirectory, Write, SetAttributes, Link}
use Rattle.nv_unpack.specs.Places.{place}
use Rattle.nv_changes.specs.Calls.{IsThere}
use Rattle.nv_unpack.specs.declared.maker.Maker.{Maker}
use Rattle.nv_unpack.specs.Calls.{BeginsFile, MakesDirectory, MakesKind, MakesLink}
use Rattle.nv_unpack.specs.Turns.{IsInodeMaker, IsMaker}
use Rattle.nv_unpack.specs.Ways.{MakesWay, ends_above}
use Rattle.nv_tar.specs.Archive.{ArePaths, escape, link_path, member_kind, path_of, shown_path, tar_name}
use Rattle.nv_roundtrip.specs.Archives.{bytes_of, item_kind}
use Rattle.nv_restored.proofs.Contents.{IsFilled}
use Rattle.nv_restored.proofs.Copies.{add}
use Rattle.nv_restored.proofs.Stages.{IsStage, directory_once, one_node, root_place, stands_of}
use Rattle.nv_restored.proofs.Walks.{front_found}
use Rattle.nv_restored.proofs.Ways.{IsNext, IsTextOf, next_way, way_at}
use Rattle.nv_restored.proofs.Same.{path_of_names}
use Rattle.nv_restored.proofs.Calls.{directory_made, file_made, link_made}
use Rattle.nv_restored.proofs.Texts.{IsFront, directory_place, file_place, front_at}
use Rattle.nv_restored.proofs.Saids.{AreSaid, SaidMakes, by_both, by_names, lowest_is_unused, more_said, no_way, none_said, not_there}

used_node : (o : Option Node) → IsTrue (is_some o) → (b : Node) × (o ≡ Some b)
used_node None h = absurd (cc)
used_node (Some b) h = (b, refl)

-- a name that a path can say stands in a path as it is
pub kept_name : (name : List ℕ) → IsPathName name → tar_name name ≡ name
kept_name name good = ap (λ (x : Bool). cond x (flat_map escape name) name) (ap (λ (x : Bool). x || is_dots name) good.bytes ∙ good.no_dots)

pub all_left : (xs ys : List (List ℕ)) → All IsPathName (xs ++ ys) → All IsPathName xs
all_left [] ys h = All-nil IsPathName
all_left (x ∷ xs) ys h = All-cons IsPathName x xs (All-head IsPathName x (xs ++ ys) h) (all_left xs ys (All-tail IsPathName x (xs ++ ys) h))

both_left : (x y : Bool) → (x && y) ≡ true → (x ≡ true) × (y ≡ true)
both_left true y h = (refl, h)
both_left false y h = absurd (cc)

pub text_of_path : (front : List (List ℕ)) (q : List ℕ) → path_text (front ++ q ∷ []) ≡ spelled (front ++ q ∷ [])
text_of_path [] q = refl
text_of_path (n ∷ front) q = refl

-- the names of the next member are those of a path, and each directory above its place is there
module _ (v : Tree) (front : List (List ℕ)) (q : List ℕ) (good : All IsPathName (front ++ q ∷ [])) (short : length (spelled (front ++ q ∷ [])) ≤ 4096) (e : ℕ) (way : walk v 1 (front ++ q ∷ []) ≡ Ok e) where
  pub path_is : IsPath (path_text (front ++ q ∷ [])) (front ++ q ∷ [])
  path_is = record { spells = refl; short = subst (λ (x : List ℕ). length x ≤ 4096) (sym (text_of_path front q)) short; good = good }

  by_front : (text : List ℕ) → length text ≤ 4096 → IsFront (front ++ q ∷ []) text → IsThere v text
  by_front text fits f =
      let led = front_found v f.first f.front f.next f.behind e (ap (λ (x : List (List ℕ)). walk v 1 x) (sym f.whole) ∙ way) in
      (f.first ∷ f.front, led.0, record { spells = f.says; short = fits; good = all_left (f.first ∷ f.front) (f.next ∷ f.behind) (subst (All IsPathName) f.whole good) }, led.1)

  pub all_above : (k : ℕ) → ends_above (path_text (front ++ q ∷ [])) k ≡ true → IsThere v (take k (path_text (front ++ q ∷ [])))
  all_above k ends = subst (λ (x : List ℕ). ends_above x k ≡ true → IsThere v (take k x)) (sym (text_of_path front q)) here ends
    where
      here : ends_above (spelled (front ++ q ∷ [])) k ≡ true → IsThere v (take k (spelled (front ++ q ∷ [])))
      here is =
          let both = both_left (nat_lt 0 k) (is_slash (slice_index (spelled (front ++ q ∷ [])) k)) is in
          by_front (take k (spelled (front ++ q ∷ []))) (omega (arith, short, length-take k (spelled (front ++ q ∷ [])))) (front_at (front ++ q ∷ []) good k (ltb-true 0 k both.0) (eqb-true (get_or (spelled (front ++ q ∷ [])) k 0) 47 both.1))

-- What makes an item at a place: the way to it, and its own calls.
pub record MakesItem (sup : Super) (maker : Maker) (text old : List ℕ) (item : Item) (v w : Tree) : Type 0 where
  pub tree : Tree
  pub leads : MakesWay sup maker item.time text (length text) v tree
  pub cpu : ℕ
  pub may : (IsThere tree text × IsMaker maker sup cpu) ⊎ IsInodeMaker maker sup tree cpu
  pub all : List Said
  pub makes : MakesKind item.kind tree cpu text old item all
  pub made : AreSaid sup all tree w

module _ (t : Tree) (members : List Member) (are : AreMembers t 1 false members) (orderly : IsOrderly t) (lost : List ℕ) (paths : List (List ℕ)) (are_paths : ArePaths (codes ".") lost members paths) where
  abbrev pub text : ℕ → List ℕ
  text k = slice_index_or paths k []

  pub texts : (k : ℕ) (m : Member) → slice_get members k ≡ Some m → IsTextOf text k m.parent m
  texts k m at = by m.parent refl (are_paths.each k m at)
    where
      by : (o : Option ℕ) → m.parent ≡ o → text k ≡ path_of (codes ".") lost paths k m o → IsTextOf text k o m
      by None is path = path ∙ ap (λ (x : ℕ). path_of (codes ".") lost paths x m None) (root_place t members are orderly k m at is).0
      by (Some p) is path =
          let s = stands_of t members are orderly k m p at is in
          path ∙ ap (λ (x : List ℕ). text p ++ (codes "/" ++ x)) (kept_name m.name.now (orderly.names s.directory.inode m.inode m.name.now s.names))

  -- what is said of a member of this kind
  abbrev pub item_for : Kind → Bool → ℕ → Member → Node → Item
  item_for kind first k m a = record {
    path = shown_path (member_kind kind first) (text k);
    kind = item_kind kind first;
    mode = a.mode;
    owner = a.owner;
    group = a.group;
    time = a.time;
    link = link_path (member_kind kind first) (text m.first);
    bytes = bytes_of (item_kind kind first) a;
  }

  -- its calls
  abbrev pub CallsFor : Super → Maker → Kind → Bool → ℕ → Member → Node → Tree → Tree → Type 0
  CallsFor sup maker kind first k m a v w = MakesItem sup maker (place (codes "/") (item_for kind first k m a).path) (place (codes "/") (item_for kind first k m a).link) (item_for kind first k m a) v w

  -- no copy yet of what stands for the first time
  not_copied : (P : ℕ → Node → Type 0) (k : ℕ) (f : ℕ → Option ℕ) (v : Tree) → IsStage t members P k f v → (m : Member) → slice_get members k ≡ Some m → (m.first ≡ k) ⊎ (m.kind ≡ kinds.Directory) → f m.inode ≡ None
  not_copied P k f v stage m at new = by (f m.inode) refl
    where
      never : (j : ℕ) → f m.inode ≡ Some j → (m.first ≡ k) ⊎ (m.kind ≡ kinds.Directory) → ⊥
      never j is (inl first) =
          let n = stage.from m.inode j is in
          let same = are.once n.0 k n.1 m n.3 at n.4 in
          let below = n.2 in
          let earlier = (are.each n.0 n.1 n.3).earlier in
          omega (arith, same, first, below, earlier)
      never j is (inr kind) =
          let n = stage.from m.inode j is in
          let same = directory_once t members are orderly k n.0 m n.1 at n.3 (sym n.4) kind in
          let below = n.2 in
          omega (arith, same, below)

      by : (o : Option ℕ) → f m.inode ≡ o → o ≡ None
      by None is = refl
      by (Some j) is = absurd (never j is new)

  module _ (sup : Super) (maker : Maker) (room : HasNumbersFor sup maker (length members)) (k : ℕ) (f : ℕ → Option ℕ) (v w : Tree) (stage : IsStage t members (IsFilled t) k f v) (m : Member) (p : ℕ) (at : slice_get members k ≡ Some m) (hangs : m.parent ≡ Some p) (within : k < length members) (a : Node) (shows : t m.inode ≡ Some a) where
    its : IsNameOf t members k p m
    its = stands_of t members are orderly k m p at hangs

    next : IsNext text f v k m its.directory
    next = next_way t members are orderly text texts (IsFilled t) k f v stage m p at hangs its

    path : List (List ℕ)
    path = next.front ++ m.name.now ∷ []

    kind_is : a.kind ≡ m.kind
    kind_is = let shown = are.each k m at in ap (λ (x : Node). x.kind) (one_node a shown.node (sym shows ∙ shown.shows)) ∙ sym shown.kind

    short : length (spelled (next.front ++ m.name.now ∷ [])) ≤ 4096
    short = let long = next.long in let fits = (are.each k m at).short in omega (arith, long, fits)

    unused : (cpu : ℕ) → IsInodeMaker maker sup v cpu → (n : ℕ) × (lowest_unused sup v cpu ≡ Some n) × (v n ≡ None)
    unused cpu may =
        let few = stage.few.1 in
        let n = room v stage.few.0 (omega (arith, few, within)) (λ i used. let b = used_node (v i) used in stage.few.2 i b.0 b.1) cpu may in
        (n.0, n.1, lowest_is_unused sup v cpu n.0 n.1)

    says_path : IsPath (path_text (next.front ++ m.name.now ∷ [])) (next.front ++ m.name.now ∷ [])
    says_path = path_is v next.front m.name.now next.good short next.number next.way

    missing : IsThere v (path_text (next.front ++ m.name.now ∷ [])) → ⊥
    missing = not_there v (path_text (next.front ++ m.name.now ∷ [])) (next.front ++ m.name.now ∷ []) says_path next.none

    -- where nothing is at its place, its CPU may make an inode
    may_make : (cpu : ℕ) → (IsThere v (path_text (next.front ++ m.name.now ∷ [])) × IsMaker maker sup cpu) ⊎ IsInodeMaker maker sup v cpu → IsInodeMaker maker sup v cpu
    may_make cpu (inl there) = absurd (missing there.0)
    may_make cpu (inr may) = may

    -- its calls, of this tree
    abbrev OwnCalls : List ℕ → Item → Tree → Type 0
    OwnCalls old item x = (cpu : ℕ) × ((IsThere x (path_text (next.front ++ m.name.now ∷ [])) × IsMaker maker sup cpu) ⊎ IsInodeMaker maker sup x cpu) × (all : List Said)
        × MakesKind item.kind x cpu (path_text (next.front ++ m.name.now ∷ [])) old item all × AreSaid sup all x w

    -- nothing is made for the way
    own_calls : (old : List ℕ) (item : Item) → MakesItem sup maker (path_text (next.front ++ m.name.now ∷ [])) old item v w → OwnCalls old item v
    own_calls old item calls =
        let same = no_way sup maker item.time (path_text (next.front ++ m.name.now ∷ [])) v (all_above v next.front m.name.now next.good short next.number next.way) (length (path_text (next.front ++ m.name.now ∷ []))) v calls.tree refl calls.leads in
        subst (OwnCalls old item) same (calls.cpu, calls.may, calls.all, calls.makes, calls.made)

    -- a file that stands for the first time
    pub file_step : m.kind ≡ kinds.File → m.first ≡ k → CallsFor sup maker kinds.File true k m a v w → (g : ℕ → Option ℕ) × IsStage t members (IsFilled t) (suc k) g w
    file_step kind first calls =
        let there : place (codes "/") (text k) ≡ path_text (next.front ++ m.name.now ∷ []) = ap (place (codes "/")) next.says ∙ file_place (next.front ++ m.name.now ∷ []) next.good in
        let item = item_for kinds.File true k m a in
        let own = own_calls (place (codes "/") []) item (subst (λ (x : List ℕ). MakesItem sup maker x (place (codes "/") []) item v w) there calls) in
        by own.0 (may_make own.0 own.1) own.3.0 own.3.1 (subst (λ (x : List Said). AreSaid sup x v w) own.3.2 own.4)
      where
        by : (cpu : ℕ) → IsInodeMaker maker sup v cpu → (one : Said) → BeginsFile v cpu (path_text (next.front ++ m.name.now ∷ [])) (item_for kinds.File true k m a) one
            → AreSaid sup (one ∷ Write cpu (path_text (next.front ++ m.name.now ∷ [])) 0 (bytes_read 0 a.size a) a.time ∷ SetAttributes cpu (path_text (next.front ++ m.name.now ∷ [])) a.mode a.owner a.group a.time ∷ []) v w
            → (g : ℕ → Option ℕ) × IsStage t members (IsFilled t) (suc k) g w
        by cpu may one (inl is) said = absurd (missing is.0)
        by cpu may one (inr is) said =
            let names = next.front ++ m.name.now ∷ [] in
            let x = more_said sup one _ v w (ap is_upgrade is.1) said in
            let y = more_said sup _ _ x.0 w refl x.2 in
            let z = more_said sup _ [] y.0 w refl y.2 in
            let n = unused cpu may in
            let create : SaidMakes sup (Create cpu (path_text names) a.mode a.time) v x.0 = subst (λ (c : Said). SaidMakes sup c v x.0) is.1 x.1 in
            let begun = by_names (path_text names) names (λ r. created kinds.File (lowest_unused sup v cpu) r a.mode a.time v) x.0 says_path create in
            let begun_now : SameTree x.0 (created kinds.File (Some n.0) names a.mode a.time v) = subst (λ (o : Option ℕ). SameTree x.0 (created kinds.File o names a.mode a.time v)) n.1 begun in
            let filled = by_names (path_text names) names (λ r. written r 0 (bytes_read 0 a.size a) a.time x.0) y.0 says_path y.1 in
            let set = by_names (path_text names) names (λ r. attributed r a.mode a.owner a.group a.time y.0) z.0 says_path z.1 in
            let last = same_transitive w z.0 (attributed names a.mode a.owner a.group a.time y.0) (none_said sup z.0 w z.2) set in (
              add f m.inode n.0,
              file_made t members are orderly text texts k f v stage m p at hangs its next a shows n.0 a.time a.mode x.0 y.0 w
                  (not_copied (IsFilled t) k f v stage m at (inl first)) n.2 (kind_is ∙ kind) begun_now filled last,
            )

    -- a directory
    pub directory_step : (first : Bool) → m.kind ≡ kinds.Directory → CallsFor sup maker kinds.Directory first k m a v w → (g : ℕ → Option ℕ) × IsStage t members (IsFilled t) (suc k) g w
    directory_step first kind calls =
        let there : place (codes "/") (text k ++ codes "/") ≡ path_text (next.front ++ m.name.now ∷ []) = ap (λ (x : List ℕ). place (codes "/") (x ++ codes "/")) next.says ∙ directory_place (next.front ++ m.name.now ∷ []) next.good in
        let item = item_for kinds.Directory first k m a in
        let own = own_calls (place (codes "/") []) item (subst (λ (x : List ℕ). MakesItem sup maker x (place (codes "/") []) item v w) there calls) in
        by own.0 (may_make own.0 own.1) own.2 own.3 own.4
      where
        by : (cpu : ℕ) → IsInodeMaker maker sup v cpu → (all : List Said) → MakesDirectory v cpu (path_text (next.front ++ m.name.now ∷ [])) (item_for kinds.Directory first k m a) all → AreSaid sup all v w → (g : ℕ → Option ℕ) × IsStage t members (IsFilled t) (suc k) g w
        by cpu may all (inl is) said = let d = is.0 in absurd (missing (d.0, d.1, d.3, d.4.leads))
        by cpu may all (inr is) said =
            let names = next.front ++ m.name.now ∷ [] in
            let x = more_said sup (MakeDirectory cpu (path_text names) a.mode a.time) [] v w refl (subst (λ (c : List Said). AreSaid sup c v w) is.1 said) in
            let n = unused cpu may in
            let begun = by_names (path_text names) names (λ r. created kinds.Directory (lowest_unused sup v cpu) r a.mode a.time v) x.0 says_path x.1 in
            let begun_now : SameTree x.0 (created kinds.Directory (Some n.0) names a.mode a.time v) = subst (λ (o : Option ℕ). SameTree x.0 (created kinds.Directory o names a.mode a.time v)) n.1 begun in (
              add f m.inode n.0,
              directory_made t members are orderly text texts k f v stage m p at hangs its next a shows n.0 a.time a.mode w
                  (not_copied (IsFilled t) k f v stage m at (inr kind)) n.2 (kind_is ∙ kind) (same_transitive w x.0 (created kinds.Directory (Some n.0) names a.mode a.time v) (none_said sup x.0 w x.2) begun_now),
            )

    -- a further name of a file
    pub link_step : m.kind ≡ kinds.File → m.first < k → CallsFor sup maker kinds.File false k m a v w → (g : ℕ → Option ℕ) × IsStage t members (IsFilled t) (suc k) g w
    link_step kind earlier calls =
        let there : place (codes "/") (text k) ≡ path_text (next.front ++ m.name.now ∷ []) = ap (place (codes "/")) next.says ∙ file_place (next.front ++ m.name.now ∷ []) next.good in
        let item = item_for kinds.File false k m a in
        let own = own_calls (place (codes "/") (text m.first)) item (subst (λ (x : List ℕ). MakesItem sup maker x (place (codes "/") (text m.first)) item v w) there calls) in
        by own.0 own.2 own.3 own.4
      where
        by : (cpu : ℕ) (all : List Said) → MakesLink v cpu (path_text (next.front ++ m.name.now ∷ [])) (place (codes "/") (text m.first)) (item_for kinds.File false k m a) all → AreSaid sup all v w → (g : ℕ → Option ℕ) × IsStage t members (IsFilled t) (suc k) g w
        by cpu all (inl is) said = absurd (missing is.0)
        by cpu all (inr is) said =
            let names = next.front ++ m.name.now ∷ [] in
            let first = are.first k m at in
            let old = way_at t members are orderly text texts (IsFilled t) k f v stage m.first first.0 earlier first.1 in
            let old_is : place (codes "/") (text m.first) ≡ path_text old.names = ap (place (codes "/")) old.says ∙ file_place old.names old.good in
            let short_old : length (spelled old.names) ≤ 4096 = (let long = old.long in let fits = (are.each m.first first.0 first.1).short in omega (arith, long, fits)) in
            let x = more_said sup (Link cpu (place (codes "/") (text m.first)) (path_text names) a.time) [] v w refl (subst (λ (c : List Said). AreSaid sup c v w) is.1 said) in
            let link : SaidMakes sup (Link cpu (path_text old.names) (path_text names) a.time) v x.0 = subst (λ (c : List ℕ). SaidMakes sup (Link cpu c (path_text names) a.time) v x.0) old_is x.1 in
            let made = by_both (path_text old.names) (path_text names) old.names names (λ r q. linked r q a.time v) x.0 (path_of_names old.names old.good short_old) says_path link in
            let number : f m.inode ≡ Some old.number = ap f (sym first.2) ∙ old.of in (
              f,
              link_made t members are orderly text texts k f v stage m p at hangs its next a shows old.number a.time old.names w number old.leads refl (kind_is ∙ kind)
                  (same_transitive w x.0 (linked old.names names a.time v) (none_said sup x.0 w x.2) made),
            )
