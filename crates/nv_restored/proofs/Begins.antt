-- The first stage: the root alone, in a tree that has nothing else.
use Rattle.std.proofs.Common.{◌≡◌, ℕ, ◌⊎◌, false, List, [], ◌∷◌, Option, Some, None, sym, ◌∙◌, ap, subst, inl, inr, arith}
use Rattle.std.specs.List.{Contains, slice_get}
use Rattle.std.specs.Option.{option_and_then}
use Rattle.std.proofs.lemmas.Bool.{cases_eq}
use Rattle.nv_super.proofs.Rising.{Contains-head}
use Rattle.nv_tree.specs.Tree.{Node, Tree, name_in}
use Rattle.nv_restored.specs.Orderly.{IsEmpty, IsOrderly}
use Rattle.nv_members.specs.Members.{AreMembers}
use Rattle.nv_members.specs.declared.member.Member.{Member}
use Rattle.nv_restored.proofs.Copies.{IsCopy, add, add_at, add_cases}
use Rattle.nv_restored.proofs.Contents.{IsFilled}
use Rattle.nv_restored.proofs.Stages.{IsMade, IsStage, files_differ, one_member, one_node}

-- only the root has a number
abbrev pub first_table : ℕ → Option ℕ
first_table = add (λ i. None) 1 1

in_first : (i j : ℕ) → first_table i ≡ Some j → (i ≡ 1) × (j ≡ 1)
in_first i j is = by (add_cases (λ i. None) 1 1 i j is)
  where
    by : ((i ≡ 1) × (j ≡ 1)) ⊎ (None ≡ Some j) → (i ≡ 1) × (j ≡ 1)
    by (inl both) = both
    by (inr never) = absurd (cc)

module _ (t : Tree) (members : List Member) (are : AreMembers t 1 false members) (orderly : IsOrderly t) (v : Tree) (empty : IsEmpty v) where
  root : (a : Node) × (b : Node) × (t 1 ≡ Some a) × (v 1 ≡ Some b) × (a.kind ≡ b.kind)
  root = let a = orderly.root in let b = empty.root in (a.0, b.0, a.1, b.1, a.2 ∙ sym b.2)

  alone : (j : ℕ) (b : Node) → v j ≡ Some b → j ≡ 1
  alone j b there = by (cases_eq j 1)
    where
      by : (j ≡ 1) ⊎ (j ≡ 1 → ⊥) → j ≡ 1
      by (inl is) = is
      by (inr differs) = let never : None ≡ Some b = sym (empty.alone j differs) ∙ there in absurd (cc)

  no_name : (e j : ℕ) (q : List ℕ) → name_in v e q ≡ Some j → ⊥
  no_name e j q is = by (cases_eq e 1)
    where
      of : Option Node → Option ℕ
      of o = option_and_then (λ (node : Node). node.names q) o

      by : (e ≡ 1) ⊎ (e ≡ 1 → ⊥) → ⊥
      by (inl here) = let b = empty.root in let never : None ≡ Some j = sym (ap (λ (y : ℕ). name_in v y q) here ∙ ap (λ (o : Option Node). option_and_then (λ (node : Node). node.names q) o) b.1 ∙ b.3 q) ∙ is in cc
      by (inr differs) = let never : None ≡ Some j = sym (ap (λ (o : Option Node). option_and_then (λ (node : Node). node.names q) o) (empty.alone e differs)) ∙ is in cc

  none_made : (d : ℕ) (q : List ℕ) → IsMade members 1 d q → ⊥
  none_made d q h =
      let below = h.below in
      let first : h.place ≡ 0 = omega (arith, below) in
      let r = are.begins in
      let same : h.member ≡ r.0 = one_member h.member r.0 (sym h.at ∙ ap (slice_get members) first ∙ r.1) in
      let never : Some h.p ≡ None = sym h.hangs ∙ ap (λ (x : Member). x.parent) same ∙ r.2 in
      cc

  first_copy : IsCopy t (IsMade members 1) first_table v
  first_copy = record {
    root = add_at (λ i. None) 1 1;
    one = λ i k j is at. (in_first i j is).0 ∙ sym (in_first k j at).0;
    nodes = λ i j is. let both = in_first i j is in (root.0, root.1, ap t both.0 ∙ root.2, ap v both.1 ∙ root.3, root.4);
    used = λ j b there. (1, add_at (λ i. None) 1 1 ∙ ap (λ (y : ℕ). Some y) (sym (alone j b there)));
    there = λ d i q made name. absurd (none_made d q made);
    only = λ e j q is. absurd (no_name e j q is);
  }

  pub first_stage : IsStage t members (IsFilled t) 1 first_table v
  first_stage = record {
    copy = first_copy;
    holds = λ i j b is there a shows file.
        let o = orderly.root in
        let a_is : a ≡ o.0 = one_node a o.0 (sym shows ∙ ap t (in_first i j is).0 ∙ o.1) in
        absurd (files_differ (sym file ∙ ap (λ (y : Node). y.kind) a_is ∙ o.2));
    has = λ k m below at.
        let r = are.begins in
        let first : k ≡ 0 = omega (arith, below) in
        let same : m ≡ r.0 = one_member m r.0 (sym at ∙ ap (slice_get members) first ∙ r.1) in
        (1, ap first_table (ap (λ (y : Member). y.inode) same ∙ r.3) ∙ add_at (λ i. None) 1 1);
    links = λ i c there file.
        let b = empty.root in
        let c_is : c ≡ b.0 = one_node c b.0 (sym there ∙ ap v (alone i c there) ∙ b.1) in
        absurd (files_differ (sym file ∙ ap (λ (y : Node). y.kind) c_is ∙ b.2));
    from = λ i j is. let r = are.begins in (0, r.0, omega arith, r.1, r.3 ∙ sym (in_first i j is).0);
    few = (1 ∷ [], omega arith, λ j b there. subst (λ (y : ℕ). Contains (1 ∷ []) y) (sym (alone j b there)) (Contains-head 1 []));
  }
