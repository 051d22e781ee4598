-- Recovering again shows the same, but for pending records.
use Rattle.std.proofs.Common.{◌≡◌, inl, inr, ◌==◌, if◌then◌else◌, Bool, true, false, ℕ, List, [], ◌∷◌, Option, Some, None, sym, ◌∙◌, refl, subst}
use Rattle.std.specs.List.{Contains, cons_option, filter_map, range_with_len}
use Rattle.nv_region.specs.Region.{Region}
use Rattle.nv_super.specs.declared.superblock.Super.{Super}
use Rattle.nv_super.specs.declared.owners.Owner.{Owner}
use Rattle.nv_super.specs.declared.faults.Fault.{Fault}
use Rattle.nv_super.specs.declared.faults.Fault.TheVariants as faults
use Rattle.nv_super.specs.Layout.{Layout, is_page_start}
use Rattle.nv_super.specs.Order.{Lists, claim_key, fault_key}
use Rattle.nv_super.specs.Super.{IsSuper}
use Rattle.nv_super.proofs.Members.{none_in}
use Rattle.nv_super.proofs.Rising.{Contains-cons, Lists-only}
use Rattle.nv_super.proofs.Filters.{rises_filter, from_filter, into_filter}
use Rattle.nv_inode.specs.Chains.{chain_faults, end_fault, fault_behind, chain_in, chains_in, layout_of, link_fault}
use Rattle.nv_journal.specs.Undo.{undone}
use Rattle.nv_journal.specs.Faults.{HasFault, IsPointerFault}
use Rattle.nv_scan.specs.Faults.{IsFaultOf, IsEntryFault, e1, e2, e3, e4, i1, i2, i3, l1, l2, l3, l4, entry}
use Rattle.nv_outcome.specs.Outcome.{AreRows, AreFreeLists, IsDoubled, IsCrossFault, c1, c2, c2_root, c3, c4, c5, IsFaulty, journal, chain, inode, cross, double, Outcome, IsOutcome}
use Rattle.nv_outcome.specs.Same.{is_lasting, IsLasting, ShowsAgain, lasting_outcome}
use Rattle.nv_outcome.proofs.SuperOf.{one_super, layout_of_super}
use Rattle.nv_outcome.proofs.OnlyOne.{same_rows, same_free}
use Rattle.nv_journal.proofs.KeptLinks.{faults_again, undone_twice}
use Rattle.nv_journal.proofs.SuperKept.{super_undone}

-- ---- faults that last

pub entry_lasts : {s : Super} {kind : _} {i : ℕ} {entries : _} {f : Fault} → IsEntryFault s kind i entries f → IsLasting f
entry_lasts (e1 before x behind fault) = refl
entry_lasts (e2 before x behind fault) = refl
entry_lasts (e3 before at e old behind good add known) = refl
entry_lasts (e4 before at e behind good remove unknown) = refl

pub inode_lasts : {R : Region} {l : Layout} {i : ℕ} {f : Fault} → IsFaultOf R l i f → IsLasting f
inode_lasts (i1 s h) = refl
inode_lasts (i2 s h k) = refl
inode_lasts (i3 s k t) = refl
inode_lasts (l1 h e) = refl
inode_lasts (l2 h e) = refl
inode_lasts (l3 h e) = refl
inode_lasts (l4 h e) = refl
inode_lasts (entry h e) = entry_lasts e

pub cross_lasts : {R : Region} {l : Layout} {f : Fault} → IsCrossFault R l f → IsLasting f
cross_lasts (c1 name i h out) = refl
cross_lasts (c2 names h dir other are ne) = refl
cross_lasts (c2_root names h dir are some) = refl
cross_lasts (c3 names h file are ne) = refl
cross_lasts (c4 u out) = refl
cross_lasts (c5 out) = refl

link_lasts : (s : Super) (cpu at link : ℕ) (f : Fault) → link_fault s cpu at link ≡ Some f → IsLasting f
link_lasts s cpu at link f e = by (link == 0) (is_page_start s link) e where
  by : (none start : Bool) → (if none then None else if start then Some (faults.H2 cpu at) else Some (faults.H1 cpu at)) ≡ Some f → IsLasting f
  by true start e = absurd (cc)
  by false true e = let same : faults.H2 cpu at ≡ f = cc in subst (λ (x : Fault). IsLasting x) same refl
  by false false e = let same : faults.H1 cpu at ≡ f = cc in subst (λ (x : Fault). IsLasting x) same refl

end_lasts : (s : Super) (R : Region) (cpu : ℕ) (f : Fault) → end_fault s R cpu ≡ Some f → IsLasting f
end_lasts s R cpu f e = by (s.version == 2) e where
  by : (chained : Bool) → (if chained then fault_behind s R cpu (chain_in s R cpu) else None) ≡ Some f → IsLasting f
  by true e = link_lasts s cpu _ _ f e
  by false e = absurd (cc)

one_or_more : (end : Option Fault) (fs : List Fault) (f : Fault) → ((g : Fault) → end ≡ Some g → IsLasting g) → ((g : Fault) → Contains fs g → IsLasting g) → Contains (cons_option end fs) f → IsLasting f
one_or_more None fs f one more c = more f c
one_or_more (Some g) fs f one more c = elim (Contains-cons g fs f c) [ inl same ↦ subst (λ (x : Fault). IsLasting x) (sym same) (one g refl) | inr rest ↦ more f rest ]

ends_last : (s : Super) (R : Region) (cpus : List ℕ) (f : Fault) → Contains (filter_map (end_fault s R) cpus) f → IsLasting f
ends_last s R [] f c = absurd (none_in f c)
ends_last s R (cpu ∷ cpus) f c = one_or_more (end_fault s R cpu) (filter_map (end_fault s R) cpus) f (λ g e. end_lasts s R cpu g e) (λ g d. ends_last s R cpus g d) c

-- the faults of chains last: they aren't those of records
pub chain_lasts : (s : Super) (R : Region) (f : Fault) → Contains (chain_faults s R) f → IsLasting f
chain_lasts s R f c = ends_last s R (range_with_len 0 s.cpus) f c

pub pointer_lasts : (f : Fault) → IsPointerFault f → IsLasting f
pointer_lasts (faults.J1 cpu) h = refl
pointer_lasts _ h = absurd h

-- of a journal's faults those of pointers last
pub lasts_pointer : (s : Super) (R : Region) (f : Fault) → HasFault s R f → IsLasting f → IsPointerFault f
lasts_pointer s R (faults.J1 cpu) h lasting = tt
lasts_pointer s R (faults.J2 cpu k) h lasting = absurd (cc)
lasts_pointer s R _ h lasting = absurd h.2

-- ---- the region with its journals rolled back

module _ (R : Region) (s : Super) (is : IsSuper R s) where
  -- it stays so
  pub stays : undone s (undone s R) ≡ undone s R
  stays = undone_twice s R (layout_of_super R s is)

  -- its superblock is as before
  pub super_again : (t : Super) → IsSuper (undone s R) t → t ≡ s
  super_again t q = one_super (undone s R) s t (super_undone s R (layout_of_super R s is) is) q

  pub faulty_before : {f : Fault} → IsFaulty (undone s R) s f → IsFaulty R s f × IsLasting f
  faulty_before {f} (journal h) = let w = (faults_again s R f (layout_of_super R s is)).0 h in (journal w.0, pointer_lasts f w.1)
  faulty_before {f} (chain h) = let P : Region → Type 0 = λ Q. Contains (chain_faults s Q) f in (chain (subst P stays h), chain_lasts s (undone s (undone s R)) f h)
  faulty_before {f} (inode i h) = let P : Region → Type 0 = λ Q. IsFaultOf Q (layout_of s Q) i f in (inode i (subst P stays h), inode_lasts h)
  faulty_before {f} (cross h) = let P : Region → Type 0 = λ Q. IsCrossFault Q (layout_of s Q) f in (cross (subst P stays h), cross_lasts h)
  faulty_before (double {b = b} {o = o} h) = let P : Region → Type 0 = λ Q. IsDoubled Q (layout_of s Q) b o in (double (subst P stays h), refl)

  pub faulty_again : {f : Fault} → IsFaulty R s f → IsLasting f → IsFaulty (undone s R) s f
  faulty_again {f} (journal h) lasting = journal ((faults_again s R f (layout_of_super R s is)).1 (h, lasts_pointer s R f h lasting))
  faulty_again {f} (chain h) lasting = let P : Region → Type 0 = λ Q. Contains (chain_faults s Q) f in chain (subst P (sym stays) h)
  faulty_again {f} (inode i h) lasting = let P : Region → Type 0 = λ Q. IsFaultOf Q (layout_of s Q) i f in inode i (subst P (sym stays) h)
  faulty_again {f} (cross h) lasting = let P : Region → Type 0 = λ Q. IsCrossFault Q (layout_of s Q) f in cross (subst P (sym stays) h)
  faulty_again (double {b = b} {o = o} h) lasting = let P : Region → Type 0 = λ Q. IsDoubled Q (layout_of s Q) b o in double (subst P (sym stays) h)

pub shows_again : (R : Region) (a b : Outcome) → IsOutcome R a → IsOutcome (undone a.sup R) b → ShowsAgain a b
shows_again R a b p q = record {
  sup = e;
  tables = as_first (λ U s. b.tables ≡ chains_in s U) q.tables ∙ sym p.tables;
  rows = same_rows a.rows b.rows p.rows (as_first (λ U s. AreRows U (layout_of s U) b.rows) q.rows);
  free = same_free a.free b.free p.free (as_first (λ U s. AreFreeLists U (layout_of s U) b.free) q.free);
  doubled = Lists-only claim_key _ b.doubled a.doubled (as_first (λ U s. Lists claim_key (λ (x : ℕ × Owner). IsDoubled U (layout_of s U) x.0 x.1) b.doubled) q.doubled) p.doubled;
  faults = λ f. (
    (λ c. (let w = faulty_before R a.sup p.sup (its.each f c) in (p.faults.all f w.0, w.1))),
    (λ c. its.all f (faulty_again R a.sup p.sup (p.faults.each f c.0) c.1)),
  );
} where
  e : b.sup ≡ a.sup
  e = super_again R a.sup p.sup b.sup q.sup

  as_first : (P : Region → Super → Type 0) → P (undone b.sup (undone a.sup R)) b.sup → P (undone a.sup R) a.sup
  as_first P h =
      let at : P (undone a.sup (undone a.sup R)) a.sup = subst (λ (s : Super). P (undone s (undone a.sup R)) s) e h in
      subst (λ (U : Region). P U a.sup) (stays R a.sup p.sup) at

  its : Lists fault_key (IsFaulty (undone a.sup R) a.sup) b.faults
  its = subst (λ (s : Super). Lists fault_key (IsFaulty (undone a.sup R) s) b.faults) e q.faults

-- ---- the outcome of the region that was rolled back

pub rolled_back : (R : Region) (o : Outcome) → IsOutcome R o → IsOutcome (undone o.sup R) (lasting_outcome o)
rolled_back R o is = record {
  sup = super_undone o.sup R (layout_of_super R o.sup is.sup) is.sup;
  tables = (let P : Region → Type 0 = λ Q. o.tables ≡ chains_in o.sup Q in subst P (sym same) is.tables);
  rows = (let P : Region → Type 0 = λ Q. AreRows Q (layout_of o.sup Q) o.rows in subst P (sym same) is.rows);
  free = (let P : Region → Type 0 = λ Q. AreFreeLists Q (layout_of o.sup Q) o.free in subst P (sym same) is.free);
  doubled = (let P : Region → Type 0 = λ Q. Lists claim_key (λ (x : ℕ × Owner). IsDoubled Q (layout_of o.sup Q) x.0 x.1) o.doubled in subst P (sym same) is.doubled);
  faults = record {
    rising = rises_filter fault_key is_lasting o.faults is.faults.rising;
    each = λ f c. (let w = from_filter is_lasting o.faults f c in faulty_again R o.sup is.sup (is.faults.each f w.0) w.1);
    all = λ f h. (let w = faulty_before R o.sup is.sup h in into_filter is_lasting o.faults f (is.faults.all f w.0) w.1);
  };
} where
  same : undone o.sup (undone o.sup R) ≡ undone o.sup R
  same = stays R o.sup is.sup
