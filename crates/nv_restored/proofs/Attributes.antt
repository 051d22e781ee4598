-- A stage while directories get their attributes, behind all that was made.
use Rattle.std.proofs.Common.{◌≡◌, ℕ, suc, ◌<◌, ◌≤◌, ◌⊎◌, false, All, List, ◌∷◌, Option, Some, refl, sym, ◌∙◌, ap, subst, inl, inr, arith}
use Rattle.std.specs.List.{slice_get}
use Rattle.std.proofs.lemmas.Bool.{cases_lt}
use Rattle.nv_super.specs.declared.kind.Kind.TheVariants.{Directory}
use Rattle.nv_tree.specs.Path.{IsPathName, spelled}
use Rattle.nv_tree.specs.Tree.{Node, Tree, SameTree}
use Rattle.nv_tree.specs.Calls.{attributed, edit, with_attributes}
use Rattle.nv_tree.proofs.Same.{same_symmetric}
use Rattle.nv_restored.specs.Orderly.{IsOrderly}
use Rattle.nv_members.specs.Members.{AreMembers}
use Rattle.nv_members.specs.declared.member.Member.{Member}
use Rattle.nv_restored.proofs.Copies.{IsStable}
use Rattle.nv_restored.proofs.Contents.{IsFilled, SameAttributes, attributes_alike, attributes_set, filled_stable}
use Rattle.nv_restored.proofs.Stages.{IsStage, files_differ, one_member, one_node}
use Rattle.nv_restored.proofs.Making.{stage_alike, stage_edited}
use Rattle.nv_restored.proofs.Ways.{IsTextOf, leads_at}
use Rattle.nv_restored.proofs.Calls.{attributed_at}

-- files have their bytes and attributes, and the directories of members before a place their attributes
abbrev pub IsSet : Tree → List Member → ℕ → ℕ → Node → Type 0
IsSet t members count i b = IsFilled t i b
    × ((k : ℕ) (m : Member) → k < count → slice_get members k ≡ Some m → m.kind ≡ Directory → m.inode ≡ i → (a : Node) → t i ≡ Some a → SameAttributes a b)

set_stable : (t : Tree) (members : List Member) (count : ℕ) → IsStable (IsSet t members count)
set_stable t members count i b c s h = (filled_stable t i b c s h.0, λ k m below at kind is a shows. attributes_alike a b c s (h.1 k m below at kind is a shows))

stage_weaker : (t : Tree) (members : List Member) (P Q : ℕ → Node → Type 0) (count : ℕ) (f : ℕ → Option ℕ) (v : Tree) → ((i : ℕ) (b : Node) → P i b → Q i b) → IsStage t members P count f v → IsStage t members Q count f v
stage_weaker t members P Q count f v weaker s = record { copy = s.copy; holds = λ i j b is there. weaker i b (s.holds i j b is there); has = s.has; from = s.from; links = s.links; few = s.few }

module _ (t : Tree) (members : List Member) (are : AreMembers t 1 false members) (orderly : IsOrderly t) (text : ℕ → List ℕ) (texts : (k : ℕ) (m : Member) → slice_get members k ≡ Some m → IsTextOf text k m.parent m) (count : ℕ) (f : ℕ → Option ℕ) (v : Tree) where
  -- no attributes yet
  pub none_set : IsStage t members (IsFilled t) count f v → IsStage t members (IsSet t members 0) count f v
  none_set s = stage_weaker t members (IsFilled t) (IsSet t members 0) count f v (λ i b h. (h, λ k m below. absurd (omega (arith, below)))) s

  -- a file is passed over
  pub file_passed : (k : ℕ) (m : Member) → slice_get members k ≡ Some m → (m.kind ≡ Directory → ⊥) → IsStage t members (IsSet t members k) count f v → IsStage t members (IsSet t members (suc k)) count f v
  file_passed k m at file s = stage_weaker t members (IsSet t members k) (IsSet t members (suc k)) count f v (λ i b h. (h.0, λ x y below there kind is a shows. by i b h x y there kind is a shows below (cases_lt x k))) s
    where
      by : (i : ℕ) (b : Node) → IsSet t members k i b → (x : ℕ) (y : Member) → slice_get members x ≡ Some y → y.kind ≡ Directory → y.inode ≡ i → (a : Node) → t i ≡ Some a → x < suc k → (x < k) ⊎ (k ≤ x) → SameAttributes a b
      by i b h x y there kind is a shows within (inl below) = h.1 x y below there kind is a shows
      by i b h x y there kind is a shows within (inr past) =
          let here : x ≡ k = omega (arith, past, within) in
          let same : m ≡ y = one_member m y (sym at ∙ ap (slice_get members) (sym here) ∙ there) in
          absurd (file (ap (λ (z : Member). z.kind) same ∙ kind))

  -- a directory gets its attributes
  pub directory_set : (k : ℕ) (m : Member) (a : Node) (names : List (List ℕ)) (w : Tree) → k < count → slice_get members k ≡ Some m → m.kind ≡ Directory → t m.inode ≡ Some a → a.kind ≡ Directory → All IsPathName names → text k ≡ 46 ∷ spelled names
      → SameTree w (attributed names a.mode a.owner a.group a.time v) → IsStage t members (IsSet t members k) count f v → IsStage t members (IsSet t members (suc k)) count f w
  directory_set k m a names w below at kind shows is_directory good says same s =
      let n = s.has k m below at in
      let led = leads_at t members are orderly text texts (IsSet t members k) count f v s k m below at names good says n.0 n.1 in
      let x : Tree = edit n.0 (with_attributes a.mode a.owner a.group a.time) v in
      let same_now : SameTree w x = subst (λ (y : Tree). SameTree w y) (attributed_at v names n.0 a.mode a.owner a.group a.time led) same in
      stage_alike t members are orderly (IsSet t members (suc k)) count f x w (set_stable t members (suc k)) (same_symmetric w x same_now) same_now
      (stage_edited t members are orderly (IsSet t members k) (IsSet t members (suc k)) count f v s m.inode n.0 (with_attributes a.mode a.owner a.group a.time) n.1 (λ b. refl) (λ b. refl) (λ b q. refl)
      (λ i b other h. (h.0, λ y z low there z_kind is c c_shows. elsewhere i b other h y z there z_kind is c c_shows low (cases_lt y k)))
      (λ b h. (
        λ c there file. absurd (files_differ (sym file ∙ ap (λ (z : Node). z.kind) (one_node c a (sym there ∙ shows)) ∙ is_directory)),
        λ y z low there z_kind is c c_shows. subst (λ (d : Node). SameAttributes d (with_attributes a.mode a.owner a.group a.time b)) (one_node a c (sym shows ∙ c_shows)) (attributes_set a b (orderly.modes m.inode a shows)),
      )))
    where
      elsewhere : (i : ℕ) (b : Node) → (i ≡ m.inode → ⊥) → IsSet t members k i b → (y : ℕ) (z : Member) → slice_get members y ≡ Some z → z.kind ≡ Directory → z.inode ≡ i → (c : Node) → t i ≡ Some c → y < suc k → (y < k) ⊎ (k ≤ y) → SameAttributes c b
      elsewhere i b other h y z there z_kind is c c_shows within (inl low) = h.1 y z low there z_kind is c c_shows
      elsewhere i b other h y z there z_kind is c c_shows within (inr past) =
          let here : y ≡ k = omega (arith, past, within) in
          let z_is : z ≡ m = one_member z m (sym there ∙ ap (slice_get members) here ∙ at) in
          absurd (other (sym is ∙ ap (λ (x : Member). x.inode) z_is))
