-- The paths of members lead in the copy where they lead in the tree.
use Rattle.std.proofs.Common.{◌≡◌, ℕ, zero, suc, ◌+◌, ◌<◌, false, true, All, List, [], ◌∷◌, ◌++◌, length, Option, Some, None, Ok, refl, sym, ◌∙◌, ap, subst, arith}
use Rattle.std.specs.List.{slice_get}
use Rattle.std.proofs.lemmas.Grind.{flat_map-append}
use Rattle.std.proofs.lemmas.List.{length-append}
use Rattle.std.proofs.lemmas.List.Elements.{All-nil, All-push}
use Rattle.nv_super.specs.declared.kind.Kind.TheVariants.{Directory}
use Rattle.nv_tree.specs.Path.{IsPathName, spelled}
use Rattle.nv_tree.specs.Tree.{Node, Tree, in_use, is_directory, found, name_in, walk}
use Rattle.nv_tree.proofs.Leads.{in_use_at}
use Rattle.nv_tree.proofs.Spelled.{one_spelling}
use Rattle.nv_restored.specs.Orderly.{IsOrderly}
use Rattle.nv_members.specs.Members.{IsNameOf, AreMembers, Stands}
use Rattle.nv_members.specs.declared.member.Member.{Member}
use Rattle.nv_restored.proofs.Stages.{IsStage, one_number, one_node, root_place, stands_of, IsMade}
use Rattle.nv_restored.proofs.Making.{free_name}
use Rattle.nv_restored.proofs.Walks.{directory_ok, found_more, walk_more}

-- the text of a member: that of the root, or a name behind that of its directory
abbrev pub IsTextOf : (ℕ → List ℕ) → ℕ → Option ℕ → Member → Type 0
IsTextOf text k None m = text k ≡ 46 ∷ []
IsTextOf text k (Some p) m = text k ≡ text p ++ 47 ∷ m.name.now

-- The text of a member says names that lead to the copy of its inode.
pub record IsWay (text : ℕ → List ℕ) (f : ℕ → Option ℕ) (v : Tree) (k : ℕ) (m : Member) : Type 0 where
  pub names : List (List ℕ)
  pub says : text k ≡ 46 ∷ spelled names
  pub good : All IsPathName names
  pub long : length (spelled names) ≡ m.length
  pub number : ℕ
  pub of : f m.inode ≡ Some number
  pub leads : found v names ≡ Some number

-- The text of the next member says names that lead to the copy of its directory, and there to nothing.
pub record IsNext (text : ℕ → List ℕ) (f : ℕ → Option ℕ) (v : Tree) (k : ℕ) (m d : Member) : Type 0 where
  pub front : List (List ℕ)
  pub says : text k ≡ 46 ∷ spelled (front ++ m.name.now ∷ [])
  pub good : All IsPathName (front ++ m.name.now ∷ [])
  pub long : length (spelled (front ++ m.name.now ∷ [])) ≡ m.length
  pub number : ℕ
  pub of : f d.inode ≡ Some number
  pub way : walk v 1 (front ++ m.name.now ∷ []) ≡ Ok number
  pub none : found v (front ++ m.name.now ∷ []) ≡ None

none_behind : (l : List ℕ) → l ++ [] ≡ l
none_behind [] = refl
none_behind (b ∷ l) = ap (λ (x : List ℕ). b ∷ x) (none_behind l)

pub spelled_more : (front : List (List ℕ)) (q : List ℕ) → spelled (front ++ q ∷ []) ≡ spelled front ++ 47 ∷ q
spelled_more front q = flat_map-append (λ (name : List ℕ). 47 ∷ name) front (q ∷ []) ∙ ap (λ (l : List ℕ). spelled front ++ 47 ∷ l) (none_behind q)

text_more : (one two : List ℕ) (front : List (List ℕ)) (q : List ℕ) → one ≡ 46 ∷ spelled front → two ≡ one ++ 47 ∷ q → two ≡ 46 ∷ spelled (front ++ q ∷ [])
text_more one two front q is more = more ∙ ap (λ (l : List ℕ). l ++ 47 ∷ q) is ∙ ap (λ (l : List ℕ). 46 ∷ l) (sym (spelled_more front q))

long_more : (front : List (List ℕ)) (q : List ℕ) (d m : ℕ) → length (spelled front) ≡ d → m ≡ d + 1 + length q → length (spelled (front ++ q ∷ [])) ≡ m
long_more front q d m is more = ap (length {A = ℕ}) (spelled_more front q) ∙ length-append (spelled front) (47 ∷ q) ∙ omega (arith, is, more)

cut_first : (x y : List ℕ) → 46 ∷ x ≡ 46 ∷ y → x ≡ y
cut_first x y h = cc

module _ (t : Tree) (members : List Member) (are : AreMembers t 1 false members) (orderly : IsOrderly t) (text : ℕ → List ℕ) (texts : (k : ℕ) (m : Member) → slice_get members k ≡ Some m → IsTextOf text k m.parent m) where
  text_of : (k : ℕ) (m : Member) (o : Option ℕ) → slice_get members k ≡ Some m → m.parent ≡ o → IsTextOf text k o m
  text_of k m o at is = subst (λ (x : Option ℕ). IsTextOf text k x m) is (texts k m at)

  made_at : (count k : ℕ) (m : Member) (p : ℕ) (d : Member) → k < count → slice_get members k ≡ Some m → m.parent ≡ Some p → slice_get members p ≡ Some d → IsMade members count d.inode m.name.now
  made_at count k m p d below at hangs there = record { place = k; member = m; p = p; directory = d; below = below; at = at; hangs = hangs; there = there; of = refl; name = refl }

  module _ (P : ℕ → Node → Type 0) (count : ℕ) (f : ℕ → Option ℕ) (v : Tree) (stage : IsStage t members P count f v) where
    -- the copy of a directory is one
    pub copied_directory : (p : ℕ) (d : Member) (e : ℕ) → slice_get members p ≡ Some d → d.kind ≡ Directory → f d.inode ≡ Some e → (b : Node) × (v e ≡ Some b) × (is_directory b.kind ≡ true)
    copied_directory p d e at kind is =
        let x = stage.copy.nodes d.inode e is in
        let shown = are.each p d at in
        let same : shown.node ≡ x.0 = one_node shown.node x.0 (sym shown.shows ∙ x.2) in
        (x.1, x.3, ap is_directory (sym x.4 ∙ ap (λ (y : Node). y.kind) (sym same) ∙ sym shown.kind ∙ kind))

    way_below : (n k : ℕ) (m : Member) → k < n → k < count → slice_get members k ≡ Some m → IsWay text f v k m
    way_below zero k m low below at = absurd (omega (arith, low))
    way_below (suc n) k m low below at = by m.parent refl (λ p d before there. way_below n p d (omega (arith, low, before)) (omega (arith, below, before)) there)
      where
        by : (o : Option ℕ) → m.parent ≡ o → ((p : ℕ) (d : Member) → p < k → slice_get members p ≡ Some d → IsWay text f v p d) → IsWay text f v k m
        by None is earlier =
            let r = root_place t members are orderly k m at is in
            let x = stage.copy.nodes 1 1 stage.copy.root in
            let none : m.length ≡ 0 = subst (λ (o : Option ℕ). Stands t members k o m) is (are.each k m at).stands in
            record {
              names = [];
              says = text_of k m None at is;
              good = All-nil IsPathName;
              long = sym none;
              number = 1;
              of = ap f r.1 ∙ stage.copy.root;
              leads = in_use_at v 1 x.1 x.3;
            }
        by (Some p) is earlier =
            let s = stands_of t members are orderly k m p at is in
            let r = earlier p s.directory s.before s.there in
            let c = stage.copy.there s.directory.inode m.inode m.name.now (made_at count k m p s.directory below at is s.there) s.names in
            let d = copied_directory p s.directory r.number s.there s.kind r.of in
            let same : c.0 ≡ r.number = one_number c.0 r.number (sym c.2 ∙ r.of) in
            let x = stage.copy.nodes m.inode c.1 c.3 in
            record {
              names = r.names ++ m.name.now ∷ [];
              says = text_more (text p) (text k) r.names m.name.now r.says (text_of k m (Some p) at is);
              good = All-push IsPathName r.names m.name.now r.good (orderly.names s.directory.inode m.inode m.name.now s.names);
              long = long_more r.names m.name.now s.directory.length m.length r.long s.length;
              number = c.1;
              of = c.3;
              leads = found_more v r.names m.name.now r.number d.0 r.leads d.1 d.2 ∙ ap (in_use v) (ap (λ (y : ℕ). name_in v y m.name.now) (sym same) ∙ c.4) ∙ in_use_at v c.1 x.1 x.3;
            }

    pub way_at : (k : ℕ) (m : Member) → k < count → slice_get members k ≡ Some m → IsWay text f v k m
    way_at k m below at = way_below (suc k) k m (omega arith) below at

    -- the same by the names that the text says
    pub leads_at : (k : ℕ) (m : Member) → k < count → slice_get members k ≡ Some m → (names : List (List ℕ)) → All IsPathName names → text k ≡ 46 ∷ spelled names → (j : ℕ) → f m.inode ≡ Some j → found v names ≡ Some j
    leads_at k m below at names good says j is =
        let w = way_at k m below at in
        let same : w.names ≡ names = one_spelling w.names names w.good good (cut_first (spelled w.names) (spelled names) (sym w.says ∙ says)) in
        let number : w.number ≡ j = one_number w.number j (sym w.of ∙ is) in
        ap (found v) (sym same) ∙ w.leads ∙ ap (λ (x : ℕ). Some x) number

    pub next_way : (m : Member) (p : ℕ) → slice_get members count ≡ Some m → m.parent ≡ Some p → (s : IsNameOf t members count p m) → IsNext text f v count m s.directory
    next_way m p at hangs s =
        let r = way_at p s.directory s.before s.there in
        let d = copied_directory p s.directory r.number s.there s.kind r.of in
        record {
          front = r.names;
          says = text_more (text p) (text count) r.names m.name.now r.says (text_of count m (Some p) at hangs);
          good = All-push IsPathName r.names m.name.now r.good (orderly.names s.directory.inode m.inode m.name.now s.names);
          long = long_more r.names m.name.now s.directory.length m.length r.long s.length;
          number = r.number;
          of = r.of;
          way = walk_more v r.names m.name.now r.number r.leads ∙ directory_ok v r.number d.0 d.1 d.2;
          none = found_more v r.names m.name.now r.number d.0 r.leads d.1 d.2 ∙ ap (in_use v) (free_name t members are orderly P count f v stage m p at hangs s r.number r.of);
        }
