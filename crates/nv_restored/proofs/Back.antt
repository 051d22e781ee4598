-- Where a path leads in the whole copy, and where it leads in the tree.
use Rattle.std.proofs.Common.{◌≡◌, ℕ, ◌+◌, ◌<◌, ◌≤◌, false, true, IsTrue, is_some, List, [], ◌∷◌, ◌++◌, length, Option, Some, None, Result, Ok, Err, refl, sym, ◌∙◌, ap, subst, arith}
use Rattle.std.specs.List.{slice_get}
use Rattle.std.proofs.lemmas.List.{length-append}
use Rattle.nv_super.specs.declared.kind.Kind.{Kind}
use Rattle.nv_super.specs.declared.kind.Kind.TheVariants.{File, Directory}
use Rattle.nv_tree.specs.declared.refusal.Refusal.{Refusal}
use Rattle.nv_tree.specs.Path.{IsPath, last_name, spelled}
use Rattle.nv_tree.specs.Tree.{Node, Tree, and_then, as_directory, found, in_use, is_directory, last_in, name_in, or_not_found, walk}
use Rattle.nv_tree.proofs.Leads.{ended, had_name, in_use_at, used_now, went_on}
use Rattle.nv_restored.specs.Orderly.{IsOrderly}
use Rattle.nv_members.specs.Members.{AreMembers, IsUsed, Stands}
use Rattle.nv_members.specs.declared.member.Member.{Member}
use Rattle.nv_restored.proofs.Stages.{IsMade, IsStage, directory_first, one_member, one_node, one_number, stands_of}
use Rattle.nv_restored.proofs.Walks.{directory_ok}
use Rattle.nv_restored.proofs.Ways.{IsTextOf}

directory_kind : (k : Kind) → is_directory k ≡ true → k ≡ Directory
directory_kind File is = absurd (cc)
directory_kind Directory is = refl

used_of : (t : Tree) (i : ℕ) (a : Node) → t i ≡ Some a → IsUsed t i
used_of t i a there = subst (λ (o : Option Node). IsTrue (is_some o)) (sym there) here
  where
    here : IsTrue (is_some (Some a))
    here = refl

module _ (t : Tree) (members : List Member) (are : AreMembers t 1 false members) (orderly : IsOrderly t) (text : ℕ → List ℕ) (texts : (k : ℕ) (m : Member) → slice_get members k ≡ Some m → IsTextOf text k m.parent m) (count : ℕ) (whole : (k : ℕ) (m : Member) → slice_get members k ≡ Some m → k < count) (P : ℕ → Node → Type 0) (f : ℕ → Option ℕ) (u : Tree) (stage : IsStage t members P count f u) where
  -- ---- from the copy to the tree

  -- the copy of a directory is of one
  copied_of : (d e : ℕ) (a : Node) → f d ≡ Some e → u e ≡ Some a → is_directory a.kind ≡ true → as_directory d (t d) ≡ Ok d
  copied_of d e a is there kind =
      let x = stage.copy.nodes d e is in
      directory_ok t d x.0 x.2 (ap is_directory (x.4 ∙ ap (λ (y : Node). y.kind) (one_node x.1 a (sym x.3 ∙ there))) ∙ kind)

  walk_back : (d e : ℕ) → f d ≡ Some e → (q : List ℕ) (names : List (List ℕ)) (c : ℕ) → walk u e (q ∷ names) ≡ Ok c → (x : ℕ) × (f x ≡ Some c) × (walk t d (q ∷ names) ≡ Ok x)
  walk_back d e is q [] c way = let r = ended e c (u e) way in (d, is ∙ ap (λ (y : ℕ). Some y) r.3, copied_of d e r.0 is r.1 r.2)
  walk_back d e is q (next ∷ names) c way =
      let s = went_on (as_directory e (u e)) (λ y. and_then (or_not_found (name_in u y q)) (λ i. walk u i (next ∷ names))) c way in
      let r = went_on (or_not_found (name_in u s.0 q)) (λ i. walk u i (next ∷ names)) c s.2 in
      let a = ended e s.0 (u e) s.1 in
      let o = stage.copy.only s.0 r.0 q (had_name (name_in u s.0 q) r.0 r.1) in
      let here : o.0 ≡ d = stage.copy.one o.0 d e (o.2 ∙ ap (λ (y : ℕ). Some y) (sym a.3)) is in
      let named : name_in t d q ≡ Some o.1 = ap (λ (y : ℕ). name_in t y q) (sym here) ∙ o.5 in
      let rest = walk_back o.1 r.0 o.3 next names c r.2 in (
        rest.0,
        rest.1,
        ap (λ x. and_then x (λ y. and_then (or_not_found (name_in t y q)) (λ i. walk t i (next ∷ names)))) (copied_of d e a.0 is a.1 a.2)
            ∙ ap (λ x. and_then (or_not_found x) (λ i. walk t i (next ∷ names))) named ∙ rest.2,
      )

  pub found_back : (names : List (List ℕ)) (j : ℕ) → found u names ≡ Some j → (i : ℕ) × (f i ≡ Some j) × (found t names ≡ Some i)
  found_back [] j led =
      let s = used_now u (Some 1) j led in
      let same : 1 ≡ j = one_number 1 j s.1 in
      let r = orderly.root in
      (1, stage.copy.root ∙ ap (λ (y : ℕ). Some y) same, in_use_at t 1 r.0 r.1)
  found_back (n ∷ names) j led = by (walk u 1 (n ∷ names)) refl
    where
      by : (r : Result ℕ Refusal) → walk u 1 (n ∷ names) ≡ r → (i : ℕ) × (f i ≡ Some j) × (found t (n ∷ names) ≡ Some i)
      by (Err refusal) is = let never : None ≡ Some j = sym (ap (λ r. in_use u (last_in u r (n ∷ names))) is) ∙ led in absurd (cc)
      by (Ok c) is =
          let s = used_now u (name_in u c (last_name (n ∷ names))) j (sym (ap (λ r. in_use u (last_in u r (n ∷ names))) is) ∙ led) in
          let w = walk_back 1 1 stage.copy.root n names c is in
          let o = stage.copy.only c j (last_name (n ∷ names)) s.1 in
          let here : o.0 ≡ w.0 = stage.copy.one o.0 w.0 c o.2 w.1 in
          let x = stage.copy.nodes o.1 j o.3 in
          (o.1, o.3, ap (λ r. in_use t (last_in t r (n ∷ names))) w.2 ∙ ap (in_use t) (ap (λ (y : ℕ). name_in t y (last_name (n ∷ names))) (sym here) ∙ o.5) ∙ in_use_at t o.1 x.0 x.2)

  -- ---- from the tree to the copy

  -- A member of an inode, and its copy.
  record Copied (i : ℕ) : Type 0 where
    place : ℕ
    member : Member
    at : slice_get members place ≡ Some member
    of : member.inode ≡ i
    number : ℕ
    is : f i ≡ Some number

  -- the same of a directory, below which so many bytes have room
  record CopiedDirectory (i room : ℕ) : Type 0 where
    it : Copied i
    kind : it.member.kind ≡ Directory
    short : it.member.length + room ≤ 4096

  kind_at : (k : ℕ) (m : Member) (i : ℕ) (a : Node) → slice_get members k ≡ Some m → m.inode ≡ i → t i ≡ Some a → is_directory a.kind ≡ true → m.kind ≡ Directory
  kind_at k m i a at of there is =
      let shown = are.each k m at in
      shown.kind ∙ ap (λ (y : Node). y.kind) (one_node shown.node a (sym shown.shows ∙ ap t of ∙ there)) ∙ directory_kind a.kind is

  -- a name of a directory, where its path isn't too long
  name_on : (i : ℕ) (q : List ℕ) (j : ℕ) (b : Node) (d : CopiedDirectory i (1 + length q)) → name_in t i q ≡ Some j → t j ≡ Some b
      → (c : Copied j) × (name_in u d.it.number q ≡ Some c.number) × (c.member.length ≡ d.it.member.length + 1 + length q)
  name_on i q j b d named there =
      let first = directory_first t members are orderly d.it.place d.it.member d.it.at d.kind in
      let short = d.short in
      let has = are.whole d.it.place d.it.member q j d.it.at first d.kind (ap (λ (y : ℕ). name_in t y q) d.it.of ∙ named) (used_of t j b there) (omega (arith, short)) in
      let at = has.2 in
      let s = stands_of t members are orderly has.0 has.1 d.it.place at has.3 in
      let d_is : s.directory ≡ d.it.member = one_member s.directory d.it.member (sym s.there ∙ d.it.at) in
      let made : IsMade members count i q = record { place = has.0; member = has.1; p = d.it.place; directory = d.it.member; below = whole has.0 has.1 at; at = at; hangs = has.3; there = d.it.at; of = d.it.of; name = has.4 } in
      let c = stage.copy.there i j q made named in
      let e_is : c.0 ≡ d.it.number = one_number c.0 d.it.number (sym c.2 ∙ d.it.is) in (
        record { place = has.0; member = has.1; at = at; of = has.5; number = c.1; is = c.3 },
        ap (λ (y : ℕ). name_in u y q) (sym e_is) ∙ c.4,
        s.length ∙ ap (λ (y : Member). y.length + 1 + length has.1.name.now) d_is ∙ ap (λ (y : List ℕ). d.it.member.length + 1 + length y) has.4,
      )

  directory_on : (i e : ℕ) (a : Node) → f i ≡ Some e → t i ≡ Some a → is_directory a.kind ≡ true → as_directory e (u e) ≡ Ok e
  directory_on i e a is there kind =
      let x = stage.copy.nodes i e is in
      directory_ok u e x.1 x.3 (ap is_directory (sym x.4 ∙ ap (λ (y : Node). y.kind) (one_node x.0 a (sym (sym there ∙ x.2)))) ∙ kind)

  -- the bytes of a name, and of those behind it
  parted : (q : List ℕ) (rest : List ℕ) → length ((47 ∷ q) ++ rest) ≡ 1 + length q + length rest
  parted q rest = length-append (47 ∷ q) rest ∙ omega arith

  walk_on : (i : ℕ) (q : List ℕ) (names : List (List ℕ)) (c : ℕ) → (d : CopiedDirectory i (length (spelled (q ∷ names)))) → walk t i (q ∷ names) ≡ Ok c
      → (z : CopiedDirectory c (1 + length (last_name (q ∷ names)))) × (walk u d.it.number (q ∷ names) ≡ Ok z.it.number)
  walk_on i q [] c d way =
      let r = ended i c (t i) way in
      let short = d.short in (
        record {
          it = record { place = d.it.place; member = d.it.member; at = d.it.at; of = d.it.of ∙ r.3; number = d.it.number; is = ap f (sym r.3) ∙ d.it.is };
          kind = d.kind;
          short = omega (arith, short, parted q []);
        },
        directory_on i d.it.number r.0 d.it.is r.1 r.2,
      )
  walk_on i q (next ∷ names) c d way =
      let s = went_on (as_directory i (t i)) (λ y. and_then (or_not_found (name_in t y q)) (λ k. walk t k (next ∷ names))) c way in
      let r = went_on (or_not_found (name_in t s.0 q)) (λ k. walk t k (next ∷ names)) c s.2 in
      let a = ended i s.0 (t i) s.1 in
      let named : name_in t i q ≡ Some r.0 = ap (λ (y : ℕ). name_in t y q) a.3 ∙ had_name (name_in t s.0 q) r.0 r.1 in
      let b = begins r.0 next names r.2 in
      let short = d.short in
      let n = name_on i q r.0 b.0 (record { it = d.it; kind = d.kind; short = omega (arith, short, parted q (spelled (next ∷ names))) }) named b.1 in
      let long = n.2 in
      let z = walk_on r.0 next names c (record {
        it = n.0;
        kind = kind_at n.0.place n.0.member r.0 b.0 n.0.at n.0.of b.1 b.2;
        short = omega (arith, short, long, parted q (spelled (next ∷ names)));
      }) r.2 in (
        z.0,
        ap (λ x. and_then x (λ y. and_then (or_not_found (name_in u y q)) (λ k. walk u k (next ∷ names)))) (directory_on i d.it.number a.0 d.it.is a.1 a.2)
            ∙ ap (λ x. and_then (or_not_found x) (λ k. walk u k (next ∷ names))) n.1 ∙ z.1,
      )
    where
      begins : (e : ℕ) (m : List ℕ) (more : List (List ℕ)) → walk t e (m ∷ more) ≡ Ok c → (a : Node) × (t e ≡ Some a) × (is_directory a.kind ≡ true)
      begins e m [] h = let r = ended e c (t e) h in (r.0, r.1, r.2)
      begins e m (next ∷ more) h =
          let s = went_on (as_directory e (t e)) (λ y. and_then (or_not_found (name_in t y m)) (λ k. walk t k (next ∷ more))) c h in
          let r = ended e s.0 (t e) s.1 in
          (r.0, r.1, r.2)

  -- the root and its copy
  root_copied : (room : ℕ) → room ≤ 4096 → CopiedDirectory 1 room
  root_copied room fits =
      let r = are.begins in
      let o = orderly.root in
      let none : r.0.length ≡ 0 = subst (λ (x : Option ℕ). Stands t members 0 x r.0) r.2 (are.each 0 r.0 r.1).stands in
      record {
        it = record { place = 0; member = r.0; at = r.1; of = r.3; number = 1; is = stage.copy.root };
        kind = kind_at 0 r.0 1 o.0 r.1 r.3 o.1 (ap is_directory o.2);
        short = omega (arith, none, fits);
      }

  pub found_on : (said : List ℕ) (names : List (List ℕ)) (i : ℕ) → IsPath said names → found t names ≡ Some i → (j : ℕ) × (f i ≡ Some j) × (found u names ≡ Some j)
  found_on said [] i path led =
      let s = used_now t (Some 1) i led in
      let same : 1 ≡ i = one_number 1 i s.1 in
      let x = stage.copy.nodes 1 1 stage.copy.root in
      (1, ap f (sym same) ∙ stage.copy.root, in_use_at u 1 x.1 x.3)
  found_on said (n ∷ names) i path led = by (walk t 1 (n ∷ names)) refl
    where
      by : (r : Result ℕ Refusal) → walk t 1 (n ∷ names) ≡ r → (j : ℕ) × (f i ≡ Some j) × (found u (n ∷ names) ≡ Some j)
      by (Err refusal) is = let never : None ≡ Some i = sym (ap (λ r. in_use t (last_in t r (n ∷ names))) is) ∙ led in absurd (cc)
      by (Ok c) is =
          let s = used_now t (name_in t c (last_name (n ∷ names))) i (sym (ap (λ r. in_use t (last_in t r (n ∷ names))) is) ∙ led) in
          let fits : length (spelled (n ∷ names)) ≤ 4096 = subst (λ (x : List ℕ). length x ≤ 4096) path.spells path.short in
          let top = root_copied (length (spelled (n ∷ names))) fits in
          let top_is : 1 ≡ top.it.number = one_number 1 top.it.number (sym stage.copy.root ∙ top.it.is) in
          let z = walk_on 1 n names c top is in
          let m = name_on c (last_name (n ∷ names)) i s.0 z.0 s.1 s.2 in
          let x = stage.copy.nodes i m.0.number m.0.is in
          (m.0.number, m.0.is, ap (λ r. in_use u (last_in u r (n ∷ names))) (ap (λ (y : ℕ). walk u y (n ∷ names)) top_is ∙ z.1) ∙ ap (in_use u) m.1 ∙ in_use_at u m.0.number x.1 x.3)
