-- A stage after the calls for the next member, and after the attributes of a directory were set.
use Rattle.std.proofs.Common.{◌≡◌, ℕ, suc, ◌+◌, false, List, [], ◌∷◌, ◌++◌, Option, Some, None, Ok, refl, sym, ◌∙◌, ap, subst, inl, inr, arith}
use Rattle.std.specs.List.{slice_get}
use Rattle.std.specs.Option.{option_map_or}
use Rattle.std.proofs.lemmas.Bool.{cases_eq}
use Rattle.nv_super.specs.declared.kind.Kind.{Kind}
use Rattle.nv_super.specs.declared.kind.Kind.TheVariants.{File, Directory}
use Rattle.nv_tree.specs.Path.{last_name}
use Rattle.nv_tree.specs.Tree.{Node, Tree, SameTree, found, walk}
use Rattle.nv_tree.specs.Calls.{attributed, bytes_read, created, edit, linked, links_at, new_node, on_ok, on_some, put_node, with_attributes, with_bytes, with_links, with_name, written}
use Rattle.nv_tree.proofs.Same.{same_symmetric}
use Rattle.nv_restored.specs.Orderly.{IsOrderly}
use Rattle.nv_members.specs.Members.{IsNameOf, AreMembers}
use Rattle.nv_members.specs.declared.member.Member.{Member}
use Rattle.nv_restored.proofs.Copies.{add, add_at}
use Rattle.nv_restored.proofs.Contents.{HasBytes, IsBare, IsFilled, IsWritten, SameAttributes, SameBytes, attributes_set, bare_stable, bytes_written, filled_stable, none_written, read_same, written_stable}
use Rattle.nv_restored.proofs.Stages.{IsStage, files_differ, one_node}
use Rattle.nv_restored.proofs.Making.{stage_alike, stage_created, stage_edited, stage_linked}
use Rattle.nv_restored.proofs.Walks.{last_more}
use Rattle.nv_restored.proofs.Ways.{IsNext, IsTextOf, leads_at}

-- ---- what calls make where the path leads

created_at : (kind : Kind) (v : Tree) (front : List (List ℕ)) (q : List ℕ) (e n mode time : ℕ) → walk v 1 (front ++ q ∷ []) ≡ Ok e
    → created kind (Some n) (front ++ q ∷ []) mode time v ≡ edit e (with_name q n time) (put_node n (Some (new_node kind mode time)) v)
created_at kind v front q e n mode time way =
    let made : List ℕ → ℕ → Tree = λ name d. edit d (with_name name n time) (put_node n (Some (new_node kind mode time)) v) in
    ap (λ r. on_ok r (made (last_name (front ++ q ∷ []))) v) way ∙ ap (λ name. made name e) (last_more front q)

linked_at : (v : Tree) (old front : List (List ℕ)) (q : List ℕ) (j e time : ℕ) → found v old ≡ Some j → walk v 1 (front ++ q ∷ []) ≡ Ok e
    → linked old (front ++ q ∷ []) time v ≡ edit e (with_name q j time) (edit j (with_links (links_at v j + 1) time) v)
linked_at v old front q j e time led way =
    let made : List ℕ → ℕ → ℕ → Tree = λ name i d. edit d (with_name name i time) (edit i (with_links (links_at v i + 1) time) v) in
    ap (λ o. on_some o (λ i. on_ok (walk v 1 (front ++ q ∷ [])) (made (last_name (front ++ q ∷ [])) i) v) v) led
    ∙ ap (λ r. on_ok r (made (last_name (front ++ q ∷ [])) j) v) way ∙ ap (λ name. made name j e) (last_more front q)

pub attributed_at : (v : Tree) (names : List (List ℕ)) (j mode owner group time : ℕ) → found v names ≡ Some j → attributed names mode owner group time v ≡ edit j (with_attributes mode owner group time) v
attributed_at v names j mode owner group time led = ap (λ o. on_some o (λ i. edit i (with_attributes mode owner group time) v) v) led

module _ (t : Tree) (members : List Member) (are : AreMembers t 1 false members) (orderly : IsOrderly t) (text : ℕ → List ℕ) (texts : (k : ℕ) (m : Member) → slice_get members k ≡ Some m → IsTextOf text k m.parent m) where
  -- the node of the directory of a member
  directory_node : (k : ℕ) (m : Member) (p : ℕ) (s : IsNameOf t members k p m) → (a : Node) → t s.directory.inode ≡ Some a → a.kind ≡ Directory
  directory_node k m p s a shows =
      let shown = are.each p s.directory s.there in
      ap (λ (x : Node). x.kind) (one_node a shown.node (sym shows ∙ shown.shows)) ∙ sym shown.kind ∙ s.kind

  -- what is known of files says nothing of a directory
  no_file : (k : ℕ) (m : Member) (p : ℕ) (s : IsNameOf t members k p m) → (b : Node) → IsFilled t s.directory.inode b
  no_file k m p s b a shows file = absurd (files_differ (sym file ∙ directory_node k m p s a shows))

  file_differs : (k : ℕ) (m : Member) (p : ℕ) (s : IsNameOf t members k p m) (a : Node) → t m.inode ≡ Some a → a.kind ≡ File → s.directory.inode ≡ m.inode → ⊥
  file_differs k m p s a shows file same = files_differ (sym file ∙ directory_node k m p s a (ap t same ∙ shows))

  -- ---- the next member

  module _ (k : ℕ) (f : ℕ → Option ℕ) (v : Tree) (stage : IsStage t members (IsFilled t) k f v) (m : Member) (p : ℕ) (at : slice_get members k ≡ Some m) (hangs : m.parent ≡ Some p) (s : IsNameOf t members k p m) (next : IsNext text f v k m s.directory) (a : Node) (shows : t m.inode ≡ Some a) where
    path : List (List ℕ)
    path = next.front ++ m.name.now ∷ []

    pub directory_made : (n time mode : ℕ) (w : Tree) → f m.inode ≡ None → v n ≡ None → a.kind ≡ Directory → SameTree w (created Directory (Some n) (next.front ++ m.name.now ∷ []) mode time v)
        → IsStage t members (IsFilled t) (suc k) (add f m.inode n) w
    directory_made n time mode w none free kind same =
        let now = created_at Directory v next.front m.name.now next.number n mode time next.way in
        let u : Tree = edit next.number (with_name m.name.now n time) (put_node n (Some (new_node Directory mode time)) v) in
        let same_now : SameTree w u = subst (λ (x : Tree). SameTree w x) now same in
        stage_alike t members are orderly (IsFilled t) (suc k) (add f m.inode n) u w (filled_stable t) (same_symmetric w u same_now) same_now
        (stage_created t members are orderly (IsFilled t) (IsFilled t) (IsFilled t) k f v stage m p at hangs s next.number n next.of none free Directory mode time a shows kind
        (λ x b other h. h) (λ c there file. absurd (files_differ (sym file ∙ ap (λ (x : Node). x.kind) (one_node c a (sym there ∙ shows)) ∙ kind)))
        (λ x b other h. h) (λ b h. no_file k m p s (with_name m.name.now n time b)))

    -- a file that has no bytes yet
    file_begun : (n time mode : ℕ) (w : Tree) → f m.inode ≡ None → v n ≡ None → a.kind ≡ File → SameTree w (created File (Some n) (next.front ++ m.name.now ∷ []) mode time v)
        → IsStage t members (IsBare t m.inode) (suc k) (add f m.inode n) w
    file_begun n time mode w none free kind same =
        let now = created_at File v next.front m.name.now next.number n mode time next.way in
        let u : Tree = edit next.number (with_name m.name.now n time) (put_node n (Some (new_node File mode time)) v) in
        let same_now : SameTree w u = subst (λ (x : Tree). SameTree w x) now same in
        stage_alike t members are orderly (IsBare t m.inode) (suc k) (add f m.inode n) u w (bare_stable t m.inode) (same_symmetric w u same_now) same_now
        (stage_created t members are orderly (IsFilled t) (IsBare t m.inode) (IsBare t m.inode) k f v stage m p at hangs s next.number n next.of none free File mode time a shows kind
        (λ x b other h. (λ differs. h, λ is. absurd (other is))) (λ differs. absurd (differs refl), λ is. refl)
        (λ x b other h. h) (λ b h. (λ differs. no_file k m p s (with_name m.name.now n time b), λ is. absurd (file_differs k m p s a shows kind is))))

    -- a file that has its bytes
    file_written : (bytes : List ℕ) (g : ℕ → Option ℕ) (n time : ℕ) (u w : Tree) → IsStage t members (IsBare t m.inode) (suc k) g u → g m.inode ≡ Some n → SameTree w (written (next.front ++ m.name.now ∷ []) 0 bytes time u)
        → IsStage t members (IsWritten t m.inode bytes) (suc k) g w
    file_written [] g n time u w stage_now is same =
        let made = stage_edited t members are orderly (IsBare t m.inode) (IsWritten t m.inode []) (suc k) g u stage_now m.inode n (λ b. b) is (λ b. refl) (λ b. refl) (λ b q. refl)
        (λ x b other h. (h.0, λ same_inode. absurd (other same_inode))) (λ b h. (λ differs. absurd (differs refl), λ same_inode. none_written b (h.1 refl))) in
        stage_alike t members are orderly (IsWritten t m.inode []) (suc k) g u w (written_stable t m.inode []) (same_symmetric w u same) same (relabelled made)
      where
        relabelled : IsStage t members (IsWritten t m.inode []) (suc k) g (edit n (λ b. b) u) → IsStage t members (IsWritten t m.inode []) (suc k) g u
        relabelled made = record {
          copy = stage_now.copy;
          holds = λ i j b i_is there. elim (cases_eq i m.inode) [
            | inl here ↦ (λ differs. absurd (differs here), λ same_inode. none_written b ((stage_now.holds i j b i_is there).1 here))
            | inr other ↦ (λ differs. (stage_now.holds i j b i_is there).0 differs, λ same_inode. absurd (other same_inode))
          ];
          has = stage_now.has;
          from = stage_now.from;
          links = stage_now.links;
          few = stage_now.few;
        }
    file_written (byte ∷ bytes) g n time u w stage_now is same =
        let led = leads_at t members are orderly text texts (IsBare t m.inode) (suc k) g u stage_now k m (omega arith) at (next.front ++ m.name.now ∷ []) next.good next.says n is in
        let x : Tree = edit n (with_bytes 0 (byte ∷ bytes) time) u in
        let now : written (next.front ++ m.name.now ∷ []) 0 (byte ∷ bytes) time u ≡ x = ap (λ o. on_some o (λ i. edit i (with_bytes 0 (byte ∷ bytes) time) u) u) led in
        let same_now : SameTree w x = subst (λ (y : Tree). SameTree w y) now same in
        stage_alike t members are orderly (IsWritten t m.inode (byte ∷ bytes)) (suc k) g x w (written_stable t m.inode (byte ∷ bytes)) (same_symmetric w x same_now) same_now
        (stage_edited t members are orderly (IsBare t m.inode) (IsWritten t m.inode (byte ∷ bytes)) (suc k) g u stage_now m.inode n (with_bytes 0 (byte ∷ bytes) time) is (λ b. refl) (λ b. refl) (λ b q. refl)
        (λ y b other h. (h.0, λ same_inode. absurd (other same_inode))) (λ b h. (λ differs. absurd (differs refl), λ same_inode. bytes_written (byte ∷ bytes) time b (h.1 refl))))

    -- a file that has its attributes too
    file_attributed : (g : ℕ → Option ℕ) (n : ℕ) (u w : Tree) → IsStage t members (IsWritten t m.inode (bytes_read 0 a.size a)) (suc k) g u → g m.inode ≡ Some n
        → SameTree w (attributed (next.front ++ m.name.now ∷ []) a.mode a.owner a.group a.time u) → IsStage t members (IsFilled t) (suc k) g w
    file_attributed g n u w stage_now is same =
        let led = leads_at t members are orderly text texts (IsWritten t m.inode (bytes_read 0 a.size a)) (suc k) g u stage_now k m (omega arith) at (next.front ++ m.name.now ∷ []) next.good next.says n is in
        let x : Tree = edit n (with_attributes a.mode a.owner a.group a.time) u in
        let same_now : SameTree w x = subst (λ (y : Tree). SameTree w y) (attributed_at u (next.front ++ m.name.now ∷ []) n a.mode a.owner a.group a.time led) same in
        stage_alike t members are orderly (IsFilled t) (suc k) g x w (filled_stable t) (same_symmetric w x same_now) same_now
        (stage_edited t members are orderly (IsWritten t m.inode (bytes_read 0 a.size a)) (IsFilled t) (suc k) g u stage_now m.inode n (with_attributes a.mode a.owner a.group a.time) is (λ b. refl) (λ b. refl) (λ b q. refl)
        (λ y b other h. h.0 other) (λ b h c there file. here b (h.1 refl) c (one_node c a (sym there ∙ shows))))
      where
        here : (b : Node) → HasBytes (bytes_read 0 a.size a) b → (c : Node) → c ≡ a → SameAttributes c (with_attributes a.mode a.owner a.group a.time b) × SameBytes c (with_attributes a.mode a.owner a.group a.time b)
        here b h c c_is =
            let sized = read_same a b h in
            subst (λ (y : Node). SameAttributes y (with_attributes a.mode a.owner a.group a.time b) × SameBytes y (with_attributes a.mode a.owner a.group a.time b)) (sym c_is)
            (attributes_set a b (orderly.modes m.inode a shows), record { size = sized.size; bytes = sized.bytes })

    -- A file that stands for the first time.
    pub file_made : (n time mode : ℕ) (x y w : Tree) → f m.inode ≡ None → v n ≡ None → a.kind ≡ File → SameTree x (created File (Some n) (next.front ++ m.name.now ∷ []) mode time v)
        → SameTree y (written (next.front ++ m.name.now ∷ []) 0 (bytes_read 0 a.size a) time x) → SameTree w (attributed (next.front ++ m.name.now ∷ []) a.mode a.owner a.group a.time y)
        → IsStage t members (IsFilled t) (suc k) (add f m.inode n) w
    file_made n time mode x y w none free kind first second third =
        let begun = file_begun n time mode x none free kind first in
        let filled = file_written (bytes_read 0 a.size a) (add f m.inode n) n time x y begun (add_at f m.inode n) second in
        file_attributed (add f m.inode n) n y w filled (add_at f m.inode n) third

    -- A further name of a file.
    pub link_made : (j time : ℕ) (old : List (List ℕ)) (w : Tree) → f m.inode ≡ Some j → found v old ≡ Some j → time ≡ a.time → a.kind ≡ File → SameTree w (linked old (next.front ++ m.name.now ∷ []) time v)
        → IsStage t members (IsFilled t) (suc k) f w
    link_made j time old w is led time_is kind same =
        let now = linked_at v old next.front m.name.now j next.number time led next.way in
        let u : Tree = edit next.number (with_name m.name.now j time) (edit j (with_links (links_at v j + 1) time) v) in
        let same_now : SameTree w u = subst (λ (x : Tree). SameTree w x) now same in
        stage_alike t members are orderly (IsFilled t) (suc k) f u w (filled_stable t) (same_symmetric w u same_now) same_now
        (stage_linked t members are orderly (IsFilled t) (IsFilled t) (IsFilled t) k f v stage m p at hangs s next.number j next.of is (links_at v j + 1) time (λ b there. ap (λ (o : Option Node). option_map_or (λ (node : Node). node.links) o 0 + 1) there)
        (λ x b other h. h) (λ b h c there file. let both = h c there file in
        let c_is : c ≡ a = one_node c a (sym there ∙ shows) in
        (record { mode = both.0.mode; owner = both.0.owner; group = both.0.group; time = ap (λ (y : Node). y.time) c_is ∙ sym time_is }, record { size = both.1.size; bytes = both.1.bytes }))
        (λ x b other h. h) (λ b h. no_file k m p s (with_name m.name.now j time b)))
