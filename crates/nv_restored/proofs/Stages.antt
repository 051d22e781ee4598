-- What has been made of the members of an archive, one after the other: a copy of the part of the tree that they show.
use Rattle.std.proofs.Common.{◌≡◌, ℕ, suc, ◌<◌, ◌≤◌, ◌⊎◌, false, List, length, Option, Some, None, refl, sym, ◌∙◌, ap, subst, inl, inr, arith}
use Rattle.std.specs.List.{Contains, slice_get}
use Rattle.std.proofs.lemmas.Bool.{cases_lt}
use Rattle.nv_super.specs.declared.kind.Kind.TheVariants.{File, Directory}
use Rattle.nv_tree.specs.Tree.{Node, Tree}
use Rattle.nv_restored.specs.Links.{LinksAreNames}
use Rattle.nv_restored.specs.Orderly.{IsOrderly}
use Rattle.nv_members.specs.Members.{IsNameOf, Stands, AreMembers}
use Rattle.nv_members.specs.declared.member.Member.{Member}
use Rattle.nv_restored.proofs.Copies.{HoldsFor, IsCopy}

pub one_member : (m n : Member) → Some m ≡ Some n → m ≡ n
one_member m n h = cc

pub one_number : (m n : ℕ) → Some m ≡ Some n → m ≡ n
one_number m n h = cc

pub one_node : (m n : Node) → Some m ≡ Some n → m ≡ n
one_node m n h = cc

pub files_differ : File ≡ Directory → ⊥
files_differ h = cc

-- the name of a directory was made, as the name of a member before this place
pub record IsMade (members : List Member) (count d : ℕ) (q : List ℕ) : Type 0 where
  pub place : ℕ
  pub member : Member
  pub p : ℕ
  pub directory : Member
  pub below : place < count
  pub at : slice_get members place ≡ Some member
  pub hangs : member.parent ≡ Some p
  pub there : slice_get members p ≡ Some directory
  pub of : directory.inode ≡ d
  pub name : member.name.now ≡ q

-- A copy of what so many members show.
pub record IsStage (t : Tree) (members : List Member) (P : ℕ → Node → Type 0) (count : ℕ) (f : ℕ → Option ℕ) (v : Tree) : Type 0 where
  pub copy : IsCopy t (IsMade members count) f v
  pub holds : HoldsFor f v P
  pub has : (k : ℕ) (m : Member) → k < count → slice_get members k ≡ Some m → (j : ℕ) × (f m.inode ≡ Some j)
  pub from : (i j : ℕ) → f i ≡ Some j → (k : ℕ) × (m : Member) × (k < count) × (slice_get members k ≡ Some m) × (m.inode ≡ i)
  pub links : LinksAreNames v
  pub few : (used : List ℕ) × (length used ≤ count) × ((j : ℕ) (b : Node) → v j ≡ Some b → Contains used j)

module _ (t : Tree) (members : List Member) (are : AreMembers t 1 false members) (orderly : IsOrderly t) where
  -- ---- members

  pub stands_of : (k : ℕ) (m : Member) (p : ℕ) → slice_get members k ≡ Some m → m.parent ≡ Some p → IsNameOf t members k p m
  stands_of k m p at hangs = subst (λ (o : Option ℕ). Stands t members k o m) hangs (are.each k m at).stands

  pub root_place : (k : ℕ) (m : Member) → slice_get members k ≡ Some m → m.parent ≡ None → (k ≡ 0) × (m.inode ≡ 1)
  root_place k m at none =
      let zero_is = are.reached refl k m at none in
      let r = are.begins in
      let same : m ≡ r.0 = one_member m r.0 (sym at ∙ ap (slice_get members) zero_is ∙ r.1) in
      (zero_is, ap (λ (x : Member). x.inode) same ∙ r.3)

  -- a member of the root has no name
  never_named : (k : ℕ) (m : Member) (p i : ℕ) → slice_get members k ≡ Some m → m.parent ≡ Some p → m.inode ≡ 1 → ⊥
  never_named k m p i at hangs is =
      let s = stands_of k m p at hangs in
      orderly.top s.directory.inode m.name.now (s.names ∙ ap (λ (x : ℕ). Some x) is)

  -- members of directories whose places are first ones stand at one place, where they show one inode
  pub same_place : (p q : ℕ) (d e : Member) → slice_get members p ≡ Some d → slice_get members q ≡ Some e → d.first ≡ p → e.first ≡ q → d.inode ≡ e.inode → p ≡ q
  same_place p q d e at there first other same = sym first ∙ are.once p q d e at there same ∙ other

  -- a directory has one member
  pub directory_once : (j k : ℕ) (m n : Member) → slice_get members j ≡ Some m → slice_get members k ≡ Some n → m.inode ≡ n.inode → m.kind ≡ Directory → j ≡ k
  directory_once j k m n at there same kind = by m.parent refl n.parent refl
    where
      by : (o : Option ℕ) → m.parent ≡ o → (r : Option ℕ) → n.parent ≡ r → j ≡ k
      by None is None other = (root_place j m at is).0 ∙ sym (root_place k n there other).0
      by None is (Some q) other = absurd (never_named k n q 0 there other (sym same ∙ (root_place j m at is).1))
      by (Some p) is None other = absurd (never_named j m p 0 at is (same ∙ (root_place k n there other).1))
      by (Some p) is (Some q) other =
          let s = stands_of j m p at is in
          let r = stands_of k n q there other in
          let shown = are.each j m at in
          let one = orderly.single s.directory.inode r.directory.inode m.inode m.name.now n.name.now shown.node shown.shows (sym shown.kind ∙ kind) s.names (r.names ∙ ap (λ (x : ℕ). Some x) (sym same)) in
          let places = same_place p q s.directory r.directory s.there r.there s.first r.first one.0 in
          are.single j k p m n at there is (other ∙ ap (λ (x : ℕ). Some x) (sym places)) one.1

  pub directory_first : (k : ℕ) (m : Member) → slice_get members k ≡ Some m → m.kind ≡ Directory → m.first ≡ k
  directory_first k m at kind =
      let n = are.first k m at in
      sym (directory_once k m.first m n.0 at n.1 (sym n.2) kind)

  -- ---- made names

  pub made_more : (count d : ℕ) (q : List ℕ) → IsMade members count d q → IsMade members (suc count) d q
  made_more count d q h = record {
    place = h.place;
    member = h.member;
    p = h.p;
    directory = h.directory;
    below = let b = h.below in omega (arith, b);
    at = h.at;
    hangs = h.hangs;
    there = h.there;
    of = h.of;
    name = h.name;
  }

  pub made_now : (k : ℕ) (m : Member) (p : ℕ) (d : Member) → slice_get members k ≡ Some m → m.parent ≡ Some p → slice_get members p ≡ Some d → IsMade members (suc k) d.inode m.name.now
  made_now k m p d at hangs there = record { place = k; member = m; p = p; directory = d; below = omega arith; at = at; hangs = hangs; there = there; of = refl; name = refl }

  pub made_before : (k : ℕ) (m : Member) (p : ℕ) (d : Member) → slice_get members k ≡ Some m → m.parent ≡ Some p → slice_get members p ≡ Some d → (c : ℕ) (r : List ℕ) → IsMade members (suc k) c r
      → IsMade members k c r ⊎ ((c ≡ d.inode) × (r ≡ m.name.now))
  made_before k m p d at hangs there c r h = by (cases_lt h.place k)
    where
      by : (h.place < k) ⊎ (k ≤ h.place) → IsMade members k c r ⊎ ((c ≡ d.inode) × (r ≡ m.name.now))
      by (inl below) = inl (record { place = h.place; member = h.member; p = h.p; directory = h.directory; below = below; at = h.at; hangs = h.hangs; there = h.there; of = h.of; name = h.name })
      by (inr past) =
          let within = h.below in
          let here : h.place ≡ k = omega (arith, within, past) in
          let member_is : h.member ≡ m = one_member h.member m (sym h.at ∙ ap (slice_get members) here ∙ at) in
          let p_is : h.p ≡ p = one_number h.p p (sym h.hangs ∙ ap (λ (x : Member). x.parent) member_is ∙ hangs) in
          let directory_is : h.directory ≡ d = one_member h.directory d (sym h.there ∙ ap (slice_get members) p_is ∙ there) in
          inr (sym h.of ∙ ap (λ (x : Member). x.inode) directory_is, sym h.name ∙ ap (λ (x : Member). x.name.now) member_is)

  -- the name of the next member wasn't made
  pub not_made : (k : ℕ) (m : Member) (p : ℕ) → slice_get members k ≡ Some m → m.parent ≡ Some p → (s : IsNameOf t members k p m) → IsMade members k s.directory.inode m.name.now → ⊥
  not_made k m p at hangs s h =
      let r = stands_of h.place h.member h.p h.at h.hangs in
      let d_is : r.directory ≡ h.directory = one_member r.directory h.directory (sym r.there ∙ h.there) in
      let inode_is : r.directory.inode ≡ s.directory.inode = ap (λ (x : Member). x.inode) d_is ∙ h.of in
      let p_is : h.p ≡ p = same_place h.p p r.directory s.directory r.there s.there r.first s.first inode_is in
      let here : h.place ≡ k = are.single h.place k p h.member m h.at at (h.hangs ∙ ap (λ (x : ℕ). Some x) p_is) hangs h.name in
      let below = h.below in
      omega (arith, here, below)
