-- A stage after one change of the tree: a new inode with its name, a further name, or a change of one inode.
use Rattle.std.proofs.Common.{◌≡◌, ℕ, suc, ◌+◌, ◌<◌, ◌≤◌, ◌⊎◌, false, List, ◌∷◌, Option, Some, None, refl, sym, ◌∙◌, ap, subst, inl, inr, arith}
use Rattle.std.specs.List.{Contains, slice_get}
use Rattle.std.specs.Option.{option_and_then}
use Rattle.std.proofs.lemmas.Bool.{cases_eq, cases_lt}
use Rattle.nv_super.specs.declared.kind.Kind.{Kind}
use Rattle.nv_super.proofs.Rising.{Contains-head, Contains-tail}
use Rattle.nv_tree.specs.Tree.{Node, Tree, SameTree, name_in}
use Rattle.nv_tree.specs.Calls.{put_node, edit, new_node, with_links, with_name}
use Rattle.nv_tree.specs.Laws.{SetsName}
use Rattle.nv_tree.proofs.Named.{put_same, edit_same, name_set, set_after}
use Rattle.nv_tree.proofs.Leads.{StaysInUse, put_stays, edit_stays, stays_on}
use Rattle.nv_restored.specs.Orderly.{IsOrderly}
use Rattle.nv_members.specs.Members.{IsNameOf, AreMembers}
use Rattle.nv_members.specs.declared.member.Member.{Member}
use Rattle.nv_restored.proofs.Copies.{HoldsFor, IsCopy, IsNamed, IsStable, add, add_at, add_cases, add_keeps, copy_alike, copy_created, copy_edited, copy_linked, edit_used, holds_alike, holds_edit, holds_put, put_at, put_used, same_node, used_alike}
use Rattle.nv_restored.proofs.Links.{edit_node, links_alike, links_created, links_edited, links_linked}
use Rattle.nv_restored.proofs.Stages.{IsMade, IsStage, made_before, made_more, made_now, not_made, one_member}

module _ (t : Tree) (members : List Member) (are : AreMembers t 1 false members) (orderly : IsOrderly t) where
  pub stage_alike : (P : ℕ → Node → Type 0) (k : ℕ) (f : ℕ → Option ℕ) (v w : Tree) → IsStable P → SameTree v w → SameTree w v → IsStage t members P k f v → IsStage t members P k f w
  stage_alike P k f v w stable same other s = record {
    copy = copy_alike t (IsMade members k) f v w same other s.copy;
    holds = holds_alike f v w P stable same other s.holds;
    has = s.has;
    from = s.from;
    links = links_alike v w same other s.links;
    few = (s.few.0, s.few.1, λ j b is. let a = used_alike w v other j b is in s.few.2 j a.0 a.1);
  }

  -- the next name isn't there
  pub free_name : (P : ℕ → Node → Type 0) (k : ℕ) (f : ℕ → Option ℕ) (v : Tree) → IsStage t members P k f v → (m : Member) (p : ℕ) → slice_get members k ≡ Some m → m.parent ≡ Some p → (s : IsNameOf t members k p m) → (e : ℕ) → f s.directory.inode ≡ Some e
      → name_in v e m.name.now ≡ None
  free_name P k f v stage m p at hangs s e is = by (name_in v e m.name.now) refl
    where
      by : (o : Option ℕ) → name_in v e m.name.now ≡ o → o ≡ None
      by None there = refl
      by (Some j) there =
          let o = stage.copy.only e j m.name.now there in
          let d_is : o.0 ≡ s.directory.inode = stage.copy.one o.0 s.directory.inode e o.2 is in
          absurd (not_made t members are orderly k m p at hangs s (subst (λ (x : ℕ). IsMade members k x m.name.now) d_is o.4))

  -- ---- a new inode

  module _ (P Q R : ℕ → Node → Type 0) (k : ℕ) (f : ℕ → Option ℕ) (v : Tree) (stage : IsStage t members P k f v) (m : Member) (p : ℕ) (at : slice_get members k ≡ Some m) (hangs : m.parent ≡ Some p) (s : IsNameOf t members k p m) (e n : ℕ) (way : f s.directory.inode ≡ Some e) (none : f m.inode ≡ None) (free : v n ≡ None) (kind : Kind) (mode time : ℕ) where
    put_tree : Tree
    put_tree = put_node n (Some (new_node kind mode time)) v

    abbrev pub created_tree : Tree
    created_tree = edit e (with_name m.name.now n time) (put_node n (Some (new_node kind mode time)) v)

    in_use : (b : Node) × (v e ≡ Some b)
    in_use = let x = stage.copy.nodes s.directory.inode e way in (x.1, x.3)

    new_stays : StaysInUse v created_tree
    new_stays = stays_on v (put_node n (Some (new_node kind mode time)) v) created_tree (put_stays v n (Some (new_node kind mode time)) free) (edit_stays (put_node n (Some (new_node kind mode time)) v) e (with_name m.name.now n time) (λ a. refl))

    new_sets : SetsName v e m.name.now (Some n) created_tree
    new_sets =
        let w : Tree = put_node n (Some (new_node kind mode time)) v in
        let b = (put_stays v n (Some (new_node kind mode time)) free).stays e in_use.0 in_use.1 in
        set_after v w created_tree e m.name.now (Some n) (put_same v n (Some (new_node kind mode time)) (λ q. sym (ap (option_and_then (λ (node : Node). node.names q)) free))) (name_set w e b.0 m.name.now n time b.1)

    new_is : (b : Node) × (created_tree n ≡ Some b) × (kind ≡ b.kind)
    new_is = let b = (edit_stays (put_node n (Some (new_node kind mode time)) v) e (with_name m.name.now n time) (λ a. refl)).stays n (new_node kind mode time) (put_at v n (Some (new_node kind mode time))) in (b.0, b.1, b.2)

    new_named : IsNamed t (IsMade members k) (IsMade members (suc k)) f (add f m.inode n) v created_tree s.directory.inode m.inode m.name.now e n
    new_named = record {
      keeps = λ c r h. made_more t members are orderly k c r h;
      here = made_now t members are orderly k m p s.directory at hangs s.there;
      else_was = λ c r h. made_before t members are orderly k m p s.directory at hangs s.there c r h;
      name = s.names;
      way = way;
      on = add_keeps f m.inode n none;
      at = add_at f m.inode n;
      sets = new_sets;
      free = free_name P k f v stage m p at hangs s e way;
    }

    were : (j : ℕ) (b : Node) → created_tree j ≡ Some b → (j ≡ n) ⊎ ((a : Node) × (v j ≡ Some a))
    were j b is = let c = edit_used (put_node n (Some (new_node kind mode time)) v) e (with_name m.name.now n time) j b is in by (put_used v n (Some (new_node kind mode time)) j c.0 c.1)
      where
        by : {c : Node} → (j ≡ n) ⊎ (v j ≡ Some c) → (j ≡ n) ⊎ ((a : Node) × (v j ≡ Some a))
        by (inl x) = inl x
        by {c = c} (inr x) = inr (c, x)

    no_names : (x : ℕ × List ℕ) → name_in v x.0 x.1 ≡ Some n → ⊥
    no_names x is =
        let o = stage.copy.only x.0 n x.1 is in
        let y = stage.copy.nodes o.1 n o.3 in
        let never : None ≡ Some y.1 = sym free ∙ y.3 in
        cc

    created_nodes : (i : ℕ) (c : Node) → created_tree i ≡ Some c → ((i ≡ n) × (c.links ≡ 1)) ⊎ ((i ≡ n → ⊥) × ((b : Node) × (v i ≡ Some b) × (b.kind ≡ c.kind) × (b.links ≡ c.links)))
    created_nodes i c there =
        let b = edit_node (put_node n (Some (new_node kind mode time)) v) e (with_name m.name.now n time) i c there in
        by b.0 b.1 (same b.0 b.2) (cases_eq i n)
      where
        same : (b : Node) → ((i ≡ e) × (c ≡ with_name m.name.now n time b)) ⊎ ((i ≡ e → ⊥) × (c ≡ b)) → (b.kind ≡ c.kind) × (b.links ≡ c.links)
        same b (inl is) = (ap (λ (x : Node). x.kind) (sym is.1), ap (λ (x : Node). x.links) (sym is.1))
        same b (inr is) = (ap (λ (x : Node). x.kind) (sym is.1), ap (λ (x : Node). x.links) (sym is.1))

        by : (b : Node) → put_node n (Some (new_node kind mode time)) v i ≡ Some b → (b.kind ≡ c.kind) × (b.links ≡ c.links) → (i ≡ n) ⊎ (i ≡ n → ⊥) → ((i ≡ n) × (c.links ≡ 1)) ⊎ ((i ≡ n → ⊥) × ((b : Node) × (v i ≡ Some b) × (b.kind ≡ c.kind) × (b.links ≡ c.links)))
        by b was kept (inl is) =
            let now : Some (new_node kind mode time) ≡ Some b = sym (ap (put_node n (Some (new_node kind mode time)) v) is ∙ put_at v n (Some (new_node kind mode time))) ∙ was in
            let b_is : b ≡ new_node kind mode time = same_node b (new_node kind mode time) (sym now) in
            inl (is, sym kept.1 ∙ ap (λ (x : Node). x.links) b_is)
        by b was kept (inr differs) = inr (differs, (b, before (put_used v n (Some (new_node kind mode time)) i b was), kept.0, kept.1))
          where
            before : (i ≡ n) ⊎ (v i ≡ Some b) → v i ≡ Some b
            before (inl is) = absurd (differs is)
            before (inr is) = is

    pub stage_created : (a : Node) → t m.inode ≡ Some a → a.kind ≡ kind → ((x : ℕ) (b : Node) → (x ≡ m.inode → ⊥) → P x b → Q x b) → Q m.inode (new_node kind mode time)
        → ((x : ℕ) (b : Node) → (x ≡ s.directory.inode → ⊥) → Q x b → R x b) → ((b : Node) → Q s.directory.inode b → R s.directory.inode (with_name m.name.now n time b))
        → IsStage t members R (suc k) (add f m.inode n) created_tree
    stage_created a shows kind_is first new then named =
        let copy : IsCopy t (IsMade members (suc k)) (add f m.inode n) created_tree =
        copy_created t (IsMade members k) (IsMade members (suc k)) f v created_tree s.directory.inode m.inode m.name.now e n stage.copy new_named new_stays none free a new_is.0 shows new_is.1 (kind_is ∙ new_is.2) were in
        let put : HoldsFor (add f m.inode n) (put_node n (Some (new_node kind mode time)) v) Q =
        holds_put f v P Q stage.holds (λ i j is. let x = stage.copy.nodes i j is in (x.1, x.3)) m.inode n (new_node kind mode time) none free first new in
        record {
          copy = copy;
          holds = holds_edit (add f m.inode n) (put_node n (Some (new_node kind mode time)) v) Q R copy.one put s.directory.inode e (with_name m.name.now n time) (add_keeps f m.inode n none s.directory.inode e way) then named;
          has = λ x y below there. has x y there (cases_lt x k) below;
          from = λ i j is. from i j (add_cases f m.inode n i j is);
          links = links_created v created_tree e n m.name.now new_sets (free_name P k f v stage m p at hangs s e way) no_names created_nodes stage.links;
          few = (n ∷ stage.few.0, (let b = stage.few.1 in omega (arith, b)), λ j b is. few j (were j b is));
        }
      where
        has : (x : ℕ) (y : Member) → slice_get members x ≡ Some y → (x < k) ⊎ (k ≤ x) → x < suc k → (j : ℕ) × (add f m.inode n y.inode ≡ Some j)
        has x y there (inl below) within = let h = stage.has x y below there in (h.0, add_keeps f m.inode n none y.inode h.0 h.1)
        has x y there (inr past) within =
            let here : x ≡ k = omega (arith, past, within) in
            let same : y ≡ m = one_member y m (sym there ∙ ap (slice_get members) here ∙ at) in
            (n, ap (λ (z : Member). add f m.inode n z.inode) same ∙ add_at f m.inode n)

        from : (i j : ℕ) → ((i ≡ m.inode) × (j ≡ n)) ⊎ (f i ≡ Some j) → (x : ℕ) × (y : Member) × (x < suc k) × (slice_get members x ≡ Some y) × (y.inode ≡ i)
        from i j (inl is) = (k, m, omega arith, at, sym is.0)
        from i j (inr is) = let h = stage.from i j is in (h.0, h.1, (let b = h.2 in omega (arith, b)), h.3, h.4)

        few : (j : ℕ) → (j ≡ n) ⊎ ((b : Node) × (v j ≡ Some b)) → Contains (n ∷ stage.few.0) j
        few j (inl is) = subst (λ (x : ℕ). Contains (n ∷ stage.few.0) x) (sym is) (Contains-head n stage.few.0)
        few j (inr is) = Contains-tail n stage.few.0 j (stage.few.2 j is.0 is.1)

  -- ---- a further name

  module _ (P Q R : ℕ → Node → Type 0) (k : ℕ) (f : ℕ → Option ℕ) (v : Tree) (stage : IsStage t members P k f v) (m : Member) (p : ℕ) (at : slice_get members k ≡ Some m) (hangs : m.parent ≡ Some p) (s : IsNameOf t members k p m) (e j : ℕ) (way : f s.directory.inode ≡ Some e) (is : f m.inode ≡ Some j) (links time : ℕ) (more : (b : Node) → v j ≡ Some b → links ≡ b.links + 1) where
    abbrev pub linked_tree : Tree
    linked_tree = edit e (with_name m.name.now j time) (edit j (with_links links time) v)

    counted_stays : StaysInUse v (edit j (with_links links time) v)
    counted_stays = edit_stays v j (with_links links time) (λ a. refl)

    link_stays : StaysInUse v linked_tree
    link_stays = stays_on v (edit j (with_links links time) v) linked_tree counted_stays (edit_stays (edit j (with_links links time) v) e (with_name m.name.now j time) (λ a. refl))

    link_sets : SetsName v e m.name.now (Some j) linked_tree
    link_sets =
        let x = stage.copy.nodes s.directory.inode e way in
        let b = counted_stays.stays e x.1 x.3 in
        set_after v (edit j (with_links links time) v) linked_tree e m.name.now (Some j) (edit_same v j (with_links links time) (λ a q. refl)) (name_set (edit j (with_links links time) v) e b.0 m.name.now j time b.1)

    link_named : IsNamed t (IsMade members k) (IsMade members (suc k)) f f v linked_tree s.directory.inode m.inode m.name.now e j
    link_named = record {
      keeps = λ c r h. made_more t members are orderly k c r h;
      here = made_now t members are orderly k m p s.directory at hangs s.there;
      else_was = λ c r h. made_before t members are orderly k m p s.directory at hangs s.there c r h;
      name = s.names;
      way = way;
      on = λ x y h. h;
      at = is;
      sets = link_sets;
      free = free_name P k f v stage m p at hangs s e way;
    }

    link_were : (i : ℕ) (b : Node) → linked_tree i ≡ Some b → (a : Node) × (v i ≡ Some a)
    link_were i b there = let c = edit_used (edit j (with_links links time) v) e (with_name m.name.now j time) i b there in edit_used v j (with_links links time) i c.0 c.1

    linked_nodes : (i : ℕ) (c : Node) → linked_tree i ≡ Some c → (a : Node) × (v i ≡ Some a) × (a.kind ≡ c.kind) × (((i ≡ j) × (c.links ≡ a.links + 1)) ⊎ ((i ≡ j → ⊥) × (c.links ≡ a.links)))
    linked_nodes i c there =
        let b = edit_node (edit j (with_links links time) v) e (with_name m.name.now j time) i c there in
        let a = edit_node v j (with_links links time) i b.0 b.1 in
        let kept = same b.0 b.2 in
        by a.0 b.0 a.1 kept a.2
      where
        same : (b : Node) → ((i ≡ e) × (c ≡ with_name m.name.now j time b)) ⊎ ((i ≡ e → ⊥) × (c ≡ b)) → (c.kind ≡ b.kind) × (c.links ≡ b.links)
        same b (inl is) = (ap (λ (x : Node). x.kind) is.1, ap (λ (x : Node). x.links) is.1)
        same b (inr is) = (ap (λ (x : Node). x.kind) is.1, ap (λ (x : Node). x.links) is.1)

        by : (a b : Node) → v i ≡ Some a → (c.kind ≡ b.kind) × (c.links ≡ b.links) → ((i ≡ j) × (b ≡ with_links links time a)) ⊎ ((i ≡ j → ⊥) × (b ≡ a)) → (a : Node) × (v i ≡ Some a) × (a.kind ≡ c.kind) × (((i ≡ j) × (c.links ≡ a.links + 1)) ⊎ ((i ≡ j → ⊥) × (c.links ≡ a.links)))
        by a b was kept (inl is) = (a, was, ap (λ (x : Node). x.kind) (sym is.1) ∙ sym kept.0, inl (is.0, kept.1 ∙ ap (λ (x : Node). x.links) is.1 ∙ more a (ap v (sym is.0) ∙ was)))
        by a b was kept (inr is) = (a, was, ap (λ (x : Node). x.kind) (sym is.1) ∙ sym kept.0, inr (is.0, kept.1 ∙ ap (λ (x : Node). x.links) is.1))

    pub stage_linked : ((x : ℕ) (b : Node) → (x ≡ m.inode → ⊥) → P x b → Q x b) → ((b : Node) → P m.inode b → Q m.inode (with_links links time b))
        → ((x : ℕ) (b : Node) → (x ≡ s.directory.inode → ⊥) → Q x b → R x b) → ((b : Node) → Q s.directory.inode b → R s.directory.inode (with_name m.name.now j time b))
        → IsStage t members R (suc k) f linked_tree
    stage_linked first new then named =
        let counted : HoldsFor f (edit j (with_links links time) v) Q = holds_edit f v P Q stage.copy.one stage.holds m.inode j (with_links links time) is first new in
        record {
          copy = copy_linked t (IsMade members k) (IsMade members (suc k)) f v linked_tree s.directory.inode m.inode m.name.now e j stage.copy link_named link_stays link_were;
          holds = holds_edit f (edit j (with_links links time) v) Q R stage.copy.one counted s.directory.inode e (with_name m.name.now j time) way then named;
          has = λ x y below there. has x y there (cases_lt x k) below;
          links = links_linked v linked_tree e j m.name.now link_sets (free_name P k f v stage m p at hangs s e way) linked_nodes stage.links;
          from = λ i y h. let r = stage.from i y h in (r.0, r.1, (let b = r.2 in omega (arith, b)), r.3, r.4);
          few = (stage.few.0, (let b = stage.few.1 in omega (arith, b)), λ i b there. let a = link_were i b there in stage.few.2 i a.0 a.1);
        }
      where
        has : (x : ℕ) (y : Member) → slice_get members x ≡ Some y → (x < k) ⊎ (k ≤ x) → x < suc k → (i : ℕ) × (f y.inode ≡ Some i)
        has x y there (inl below) within = stage.has x y below there
        has x y there (inr past) within =
            let here : x ≡ k = omega (arith, past, within) in
            let same : y ≡ m = one_member y m (sym there ∙ ap (slice_get members) here ∙ at) in
            (j, ap (λ (z : Member). f z.inode) same ∙ is)

  -- ---- a change of one inode that leaves its names and its kind

  pub stage_edited : (P Q : ℕ → Node → Type 0) (k : ℕ) (f : ℕ → Option ℕ) (v : Tree) → IsStage t members P k f v → (i j : ℕ) (change : Node → Node) → f i ≡ Some j → ((a : Node) → a.kind ≡ (change a).kind) → ((a : Node) → a.links ≡ (change a).links) → ((a : Node) (q : List ℕ) → (change a).names q ≡ a.names q)
      → ((x : ℕ) (b : Node) → (x ≡ i → ⊥) → P x b → Q x b) → ((b : Node) → P i b → Q i (change b)) → IsStage t members Q k f (edit j change v)
  stage_edited P Q k f v stage i j change is kinds link_counts names others here = record {
    copy = copy_edited t (IsMade members k) f v (edit j change v) stage.copy (edit_stays v j change kinds) (edit_used v j change) (edit_same v j change names);
    holds = holds_edit f v P Q stage.copy.one stage.holds i j change is others here;
    has = stage.has;
    from = stage.from;
    links = links_edited v j change kinds link_counts (edit_same v j change names) stage.links;
    few = (stage.few.0, stage.few.1, λ x b there. let a = edit_used v j change x b there in stage.few.2 x a.0 a.1);
  }
