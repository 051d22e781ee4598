-- What is wrong between the inodes of a region is what is wrong with its graph.
use Rattle.std.proofs.Common.{◌≡◌, ℕ, ◌<◌, inl, inr, Option, Some, None, List, length, refl, ap, sym, ◌∙◌, arith}
use Rattle.std.proofs.lemmas.Bool.{cases_eq}
use Rattle.std.proofs.lemmas.Option.{none-some}
use Rattle.nv_region.specs.Region.{Region}
use Rattle.nv_super.specs.Layout.{Layout}
use Rattle.nv_super.specs.declared.kind.Kind.{Kind}
use Rattle.nv_super.specs.declared.kind.Kind.TheVariants.{File, Directory}
use Rattle.nv_super.specs.declared.faults.Fault.{Fault}
use Rattle.nv_super.specs.declared.faults.Fault.TheVariants as faults
use Rattle.nv_super.proofs.Options.{some_is}
use Rattle.nv_super.proofs.Rising.{Lists-same}
use Rattle.nv_scan.specs.State.{links_of}
use Rattle.nv_scan.specs.Inode.{Log, IsInode, good_of}
use Rattle.nv_outcome.specs.Outcome as reg
use Rattle.nv_outcome.specs.Outcome.{HasName, AreNamesOf, IsCrossFault}
use Rattle.nv_graph.specs.Graph.{Node, Graph, IsOfKind, pair_key, AreNames, NoCrossFaults}
use Rattle.nv_graph.specs.Graph as graph
use Rattle.nv_graph.proofs.Names.{one_count}
use Rattle.nv_graph.specs.Read.{IsGraphOf, HasAllNames}

module _ {R : Region} {l : Layout} {g : Graph} (is : IsGraphOf R l g) where
  names_there : (i : ℕ) (names : List (ℕ × List ℕ)) → AreNamesOf R l i names → AreNames g i names
  names_there i names h = Lists-same pair_key (λ x. (at : ℕ) × HasName R l x.0 x.1 i at) (λ x. g.name x.0 x.1 ≡ Some i) names (λ x w. is.name x.0 x.1 i w.0 w.1) (λ x e. is.named x.0 x.1 i e) h

  -- the inode behind a node
  record Behind (i : ℕ) (n : Node) : Type 0 where
    a : ℕ
    log : Log
    inode : IsInode R l i a log
    kind : log.kind ≡ n.kind
    links : links_of (good_of l log) ≡ n.links

  behind : (i : ℕ) (n : Node) → g.node i ≡ Some n → Behind i n
  behind i n e =
      let u = is.in_use i n e in
      let same = some_is _ n (g.node i) (is.node i u.0 u.1 u.2) e in
      record { a = u.0; log = u.1; inode = u.2; kind = ap (λ (m : Node). m.kind) same; links = ap (λ (m : Node). m.links) same }

  of_kind : (i a : ℕ) (log : Log) (k : Kind) → IsInode R l i a log → log.kind ≡ k → IsOfKind g i k
  of_kind i a log k h e = (record { kind = log.kind; links = links_of (good_of l log) }, is.node i a log h, e)

  reached_there : {i : ℕ} → reg.IsReached R l i → graph.IsReached g i
  reached_there (reg.IsReached.root h dir) = graph.IsReached.root
  reached_there (reg.IsReached.step {d = d} {i = i} name at before h u) = graph.IsReached.step name (reached_there before) (is.name d name i at h)

  reached_back : NoCrossFaults g → {i : ℕ} → graph.IsReached g i → reg.IsReached R l i
  reached_back f graph.IsReached.root = let b = behind 1 f.root.0 f.root.1 in reg.IsReached.root b.inode (b.kind ∙ f.root.2)
  reached_back f (graph.IsReached.step {d = d} {i = i} name before e) =
      let w = is.named d name i e in let n = f.in_use d name i e in
      reg.IsReached.step name w.0 (reached_back f before) w.1 (is.in_use i n.0 n.1)

  pub no_faults : NoCrossFaults g → (f : Fault) → IsCrossFault R l f → ⊥
  no_faults c _ (reg.IsCrossFault.c1 {d = d} {at = at} name i h out) = let n = c.in_use d name i (is.name d name i at h) in out (is.in_use i n.0 n.1)
  no_faults c _ (reg.IsCrossFault.c2 {i = i} {a = a} {log = log} names h dir other are ne) =
      ne (one_count g i (length names) 1 (names, names_there i names are, refl) (c.directories i (of_kind i a log Directory h dir) other))
  no_faults c _ (reg.IsCrossFault.c2_root names h dir are some) =
      let e = one_count g 1 (length names) 0 (names, names_there 1 names are, refl) c.root_unnamed in omega (arith, e, some)
  no_faults c _ (reg.IsCrossFault.c3 {i = i} {a = a} {log = log} names h file are ne) =
      ne (sym (one_count g i (length names) _ (names, names_there i names are, refl) (c.files i _ (is.node i a log h) file)))
  no_faults c _ (reg.IsCrossFault.c4 {i = i} u out) = c.reached i _ (is.node i u.0 u.1 u.2) (λ r. out (reached_back c r))
  no_faults c _ (reg.IsCrossFault.c5 out) = let b = behind 1 c.root.0 c.root.1 in out b.a b.log b.inode (b.kind ∙ c.root.2)

  -- a name's inode is in use, or not
  used : ((f : Fault) → IsCrossFault R l f → ⊥) → (d : ℕ) (name : List ℕ) (i : ℕ) → g.name d name ≡ Some i → (o : Option Node) → g.node i ≡ o → (n : Node) × (g.node i ≡ Some n)
  used none d name i e None q = absurd (let w = is.named d name i e in none (faults.C1 d w.0) (reg.IsCrossFault.c1 name i w.1 (λ u. none-some _ (sym q ∙ is.node i u.0 u.1 u.2))))
  used none d name i e (Some n) q = (n, q)

  root : ((f : Fault) → IsCrossFault R l f → ⊥) → (o : Option Node) → g.node 1 ≡ o → IsOfKind g 1 Directory
  root none None q = absurd (none faults.C5 (reg.IsCrossFault.c5 (λ a log h dir. none-some _ (sym q ∙ is.node 1 a log h))))
  root none (Some n) q = kind n.kind refl where
    kind : (k : Kind) → n.kind ≡ k → IsOfKind g 1 Directory
    kind Directory e = (n, q, e)
    kind File e = absurd (none faults.C5 (reg.IsCrossFault.c5 (λ a log h dir. (
        let same = some_is _ n (g.node 1) (is.node 1 a log h) q in
        let z : Directory ≡ File = sym dir ∙ ap (λ (m : Node). m.kind) same ∙ e in cc))))

  zero_or : (k : ℕ) → (0 < k → ⊥) → k ≡ 0
  zero_or k out = elim (cases_eq k 0) [ inl w ↦ w | inr w ↦ absurd (out (omega (arith, w))) ]

  pub is_faultless : HasAllNames R l → ((f : Fault) → IsCrossFault R l f → ⊥) → NoCrossFaults g
  is_faultless all none = record {
    within = λ d name i e. (let w = is.named d name i e in let h = w.1 in of_kind d h.0 h.1 Directory h.2 h.3);
    in_use = λ d name i e. used none d name i e (g.node i) refl;
    directories = λ i k ne. (
        let b = behind i k.0 k.1 in let m = all i in (
          m.0,
          names_there i m.0 m.1,
          elim (cases_eq (length m.0) 1) [
            | inl w ↦ w
            | inr w ↦ absurd (none (faults.C2 i) (reg.IsCrossFault.c2 m.0 b.inode (b.kind ∙ k.2) ne m.1 w))
          ],
        ));
    root_unnamed = (
        let k = root none (g.node 1) refl in let b = behind 1 k.0 k.1 in let m = all 1 in
        (m.0, names_there 1 m.0 m.1, zero_or (length m.0) (λ some. none (faults.C2 1) (reg.IsCrossFault.c2_root m.0 b.inode (b.kind ∙ k.2) m.1 some))));
    files = λ i n e file. (
        let b = behind i n e in let m = all i in (
          m.0,
          names_there i m.0 m.1,
          elim (cases_eq (links_of (good_of l b.log)) (length m.0)) [
            | inl w ↦ sym w ∙ b.links
            | inr w ↦ absurd (none (faults.C3 i) (reg.IsCrossFault.c3 m.0 b.inode (b.kind ∙ file) m.1 w))
          ],
        ));
    reached = λ i n e out. none (faults.C4 i) (reg.IsCrossFault.c4 (is.in_use i n e) (λ r. out (reached_there r)));
    root = root none (g.node 1) refl;
  }
