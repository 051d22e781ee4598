-- What is wrong between the rows is what is wrong between the inodes.
use Rattle.std.proofs.Common.{◌≡◌, ℕ, Some, List, ◌∷◌, refl, sym, ◌∙◌, subst}
use Rattle.std.specs.List.{Contains}
use Rattle.std.proofs.lemmas.Option.{none-some}
use Rattle.nv_region.specs.Region.{Region}
use Rattle.nv_super.specs.Layout.{Layout}
use Rattle.nv_super.specs.declared.kind.Kind.{Kind}
use Rattle.nv_super.specs.declared.kind.Kind.TheVariants.{File, Directory}
use Rattle.nv_super.specs.declared.faults.Fault.{Fault}
use Rattle.nv_super.specs.declared.faults.Fault.TheVariants as faults
use Rattle.nv_super.proofs.Rising.{Lists-same}
use Rattle.nv_scan.specs.State.{named}
use Rattle.nv_scan.specs.Inode.{Log, IsInode, IsInUse, good_of}
use Rattle.nv_scan.specs.Rows.{IsRow}
use Rattle.nv_scan.specs.declared.piece.Row.{Row}
use Rattle.nv_scan.proofs.Only.{IsInode-only}
use Rattle.nv_scan.proofs.KindsApart.{file_names}
use Rattle.nv_cross_check.specs.Cross as rowed
use Rattle.nv_cross_check.specs.Cross.{HasNameIn, IsUnusedIn, AreNamesIn, IsReachedIn, IsCrossFaultIn}
use Rattle.nv_outcome.specs.Outcome as reg
use Rattle.nv_outcome.specs.Outcome.{AreRows, HasName, AreNamesOf, IsReached, IsCrossFault}

-- a log that says names is a directory's
pub names_directory : (l : Layout) (log : Log) (name : List ℕ) (x : ℕ × ℕ) → named (good_of l log) name ≡ Some x → log.kind ≡ Directory
names_directory l log name x e = test log.kind refl where
  of_kind : Kind → Log
  of_kind k = record { kind = k; entries = log.entries; pages = log.pages; fault = log.fault }

  test : (k : Kind) → log.kind ≡ k → log.kind ≡ Directory
  test Directory h = h
  test File h = absurd (
      let P : Kind → Type 0 = λ k. named (good_of l (of_kind k)) name ≡ Some x in
      none-some x (sym (file_names l.sup log.entries name) ∙ subst P h e))

module _ {R : Region} {l : Layout} {rows : List Row} (are : AreRows R l rows) where
  -- a row of an inode, with what stands behind it
  pub record Stands (i : ℕ) (a : ℕ) (log : Log) : Type 0 where
    pub row : Row
    pub here : Contains rows row
    pub is : IsRow R l a log row
    pub inode : row.inode ≡ i

  pub stands : (i a : ℕ) (log : Log) → IsInode R l i a log → Stands i a log
  stands i a w h =
      let r = are.all i (a, w, h) in
      let q = are.each r.0 r.1 in
      let P : ℕ → Type 0 = λ j. IsInode R l j q.0 q.1 in
      let one = IsInode-only h (subst P r.2 q.2.inode) in
      let A : ℕ → Type 0 = λ b. IsRow R l b q.1 r.0 in
      let W : Log → Type 0 = λ v. IsRow R l a v r.0 in
      record { row = r.0; here = r.1; is = subst W (sym one.1) (subst A (sym one.0) q.2); inode = r.2 }

  in_use : (r : Row) → Contains rows r → IsInUse R l r.inode
  in_use r c = let q = are.each r c in (q.0, q.1, q.2.inode)

  used : (i : ℕ) → IsInUse R l i → IsUnusedIn rows i → ⊥
  used i u none = let r = are.all i u in none r.0 r.1 r.2

  unused : (i : ℕ) → (IsInUse R l i → ⊥) → IsUnusedIn rows i
  unused i h r c e = h (let P : ℕ → Type 0 = λ j. IsInUse R l j in subst P e (in_use r c))

  -- the rows have the names that the directories have
  has_name : (d : ℕ) (name : List ℕ) (i at : ℕ) → HasNameIn rows d name i at → HasName R l d name i at
  has_name d name i at h =
      let q = are.each h.0 h.1 in
      let says : named (good_of l q.1) name ≡ Some (i, at) = sym (q.2.names name) ∙ h.3 in
      let P : ℕ → Type 0 = λ j. IsInode R l j q.0 q.1 in
      (q.0, q.1, subst P h.2 q.2.inode, names_directory l q.1 name (i, at) says, says)

  named_in : (d : ℕ) (name : List ℕ) (i at : ℕ) → HasName R l d name i at → HasNameIn rows d name i at
  named_in d name i at h = let s = stands d h.0 h.1 h.2 in (s.row, s.here, s.inode, s.is.names name ∙ h.4)

  pub names_are : (i : ℕ) (names : List (ℕ × List ℕ)) → AreNamesIn rows i names → AreNamesOf R l i names
  names_are i names h = Lists-same (λ (x : ℕ × List ℕ). x.0 ∷ x.1) _ _ names (λ x w. (w.0, has_name x.0 x.1 i w.0 w.1)) (λ x w. (w.0, named_in x.0 x.1 i w.0 w.1)) h

  are_names : (i : ℕ) (names : List (ℕ × List ℕ)) → AreNamesOf R l i names → AreNamesIn rows i names
  are_names i names h = Lists-same (λ (x : ℕ × List ℕ). x.0 ∷ x.1) _ _ names (λ x w. (w.0, named_in x.0 x.1 i w.0 w.1)) (λ x w. (w.0, has_name x.0 x.1 i w.0 w.1)) h

  -- an inode with its log, of the kind that its row says
  of_kind : (r : Row) (k : Kind) → Contains rows r → r.kind ≡ k → (a : ℕ) × (log : Log) × IsInode R l r.inode a log × (log.kind ≡ k)
  of_kind r k c e = let q = are.each r c in (q.0, q.1, q.2.inode, sym q.2.kind ∙ e)

  reached : {i : ℕ} → IsReachedIn rows i → IsReached R l i
  reached (rowed.root r c one dir) = let q = of_kind r Directory c dir in let P : ℕ → Type 0 = λ j. IsInode R l j q.0 q.1 in reg.root (subst P one q.2) q.3
  reached (rowed.step {d = d} {i = i} name at r before h c e) =
      let P : ℕ → Type 0 = λ j. IsInUse R l j in reg.step name at (reached before) (has_name d name i at h) (subst P e (in_use r c))

  reached_in : {i : ℕ} → IsReached R l i → IsReachedIn rows i
  reached_in (reg.root h dir) = let s = stands 1 _ _ h in rowed.root s.row s.here s.inode (s.is.kind ∙ dir)
  reached_in (reg.step {d = d} {i = i} name at before h u) = let r = are.all i u in rowed.step name at r.0 (reached_in before) (named_in d name i at h) r.1 r.2

  pub cross_there : (f : Fault) → IsCrossFaultIn rows f → IsCrossFault R l f
  cross_there _ (rowed.c1 {d = d} {at = at} name i h none) = reg.c1 name i (has_name d name i at h) (λ u. used i u none)
  cross_there _ (rowed.c2 r names c dir other are_its ne) = let q = of_kind r Directory c dir in reg.c2 names q.2 q.3 other (names_are r.inode names are_its) ne
  cross_there _ (rowed.c2_root r names c dir one are_its some) =
      let q = of_kind r Directory c dir in let P : ℕ → Type 0 = λ j. IsInode R l j q.0 q.1 in reg.c2_root names (subst P one q.2) q.3 (names_are 1 names are_its) some
  cross_there _ (rowed.c3 r names c file are_its ne) =
      let q = are.each r c in reg.c3 names q.2.inode (sym q.2.kind ∙ file) (names_are r.inode names are_its) (λ e. ne (q.2.numbers.links ∙ e))
  cross_there _ (rowed.c4 r c out) = reg.c4 (in_use r c) (λ u. out (reached_in u))
  cross_there _ (rowed.c5 out) = reg.c5 (λ a log h dir. (let s = stands 1 a log h in out s.row s.here s.inode (s.is.kind ∙ dir)))

  pub cross_back : (f : Fault) → IsCrossFault R l f → IsCrossFaultIn rows f
  cross_back _ (reg.c1 {d = d} {at = at} name i h out) = rowed.c1 name i (named_in d name i at h) (unused i out)
  cross_back _ (reg.c2 {i = i} names h dir other are_its ne) = let s = stands i _ _ h in
      let P : ℕ → Type 0 = λ j. IsCrossFaultIn rows (faults.C2 j) in let N : ℕ → Type 0 = λ j. AreNamesIn rows j names in
      subst P s.inode (rowed.c2 s.row names s.here (s.is.kind ∙ dir) (λ e. other (sym s.inode ∙ e)) (subst N (sym s.inode) (are_names i names are_its)) ne)
  cross_back _ (reg.c2_root names h dir are_its some) = let s = stands 1 _ _ h in rowed.c2_root s.row names s.here (s.is.kind ∙ dir) s.inode (are_names 1 names are_its) some
  cross_back _ (reg.c3 {i = i} names h file are_its ne) = let s = stands i _ _ h in
      let P : ℕ → Type 0 = λ j. IsCrossFaultIn rows (faults.C3 j) in let N : ℕ → Type 0 = λ j. AreNamesIn rows j names in
      subst P s.inode (rowed.c3 s.row names s.here (s.is.kind ∙ file) (subst N (sym s.inode) (are_names i names are_its)) (λ e. ne (sym s.is.numbers.links ∙ e)))
  cross_back _ (reg.c4 {i = i} u out) = let r = are.all i u in
      let P : ℕ → Type 0 = λ j. IsCrossFaultIn rows (faults.C4 j) in let Q : ℕ → Type 0 = λ j. IsReachedIn rows j in
      subst P r.2 (rowed.c4 r.0 r.1 (λ v. out (reached (subst Q r.2 v))))
  cross_back _ (reg.c5 out) = rowed.c5 (λ r c one dir. (let q = of_kind r Directory c dir in let P : ℕ → Type 0 = λ j. IsInode R l j q.0 q.1 in out q.0 q.1 (subst P one q.2) q.3))
