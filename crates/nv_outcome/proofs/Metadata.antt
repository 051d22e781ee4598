-- The outcome of a region is read from its metadata alone.
use Rattle.std.proofs.Common.{◌≡◌, ◌⊎◌, ℕ, ◌+◌, ◌*◌, ◌/◌, ◌%◌, ◌==◌, ◌<◌, cond, ◌&&◌, ◌||◌, Bool, true, false, nat_le, inl, inr, List, ap, refl, sym, ◌∙◌, subst, arith, Some, slice_get}
use Rattle.std.proofs.lemmas.Bool.Decides.{nat_tests}
use Rattle.std.specs.List.{Contains}
use Rattle.nv_region.specs.Region.{Region, size, word}
use Rattle.nv_super.specs.declared.superblock.Super.{Super}
use Rattle.nv_super.specs.declared.owners.Owner.{Owner}
use Rattle.nv_super.specs.declared.faults.Fault.{Fault}
use Rattle.nv_super.specs.Layout.{Layout, IsLayout, chain_of, slot_of, system_blocks}
use Rattle.nv_super.specs.Order.{Lists, claim_key, fault_key}
use Rattle.nv_super.specs.Super.{IsSuper}
use Rattle.nv_super.proofs.Accepted.{super_stays}
use Rattle.nv_super.proofs.Rising.{Lists-same}
use Rattle.nv_inode.specs.Chains.{IsLaid, chain_faults, first_link, in_chains, layout_of}
use Rattle.nv_inode.specs.Permitted.{in_extra, in_fixed, is_key_offset, is_permitted_by, slots_end}
use Rattle.nv_inode.proofs.LayoutWords.{listed_in, named_permitted, slot_stands}
use Rattle.nv_inode.proofs.ReadChains.{region_laid}
use Rattle.nv_journal.specs.Faults.{HasFault, IsJournalFault}
use Rattle.nv_journal.specs.Undo.{undone, undone_by}
use Rattle.nv_journal.specs.Undone.{SameBefore}
use Rattle.nv_journal.proofs.Front.{journal_fault_same, same_undone}
use Rattle.nv_journal.proofs.KeptLinks.{faults_undone, own_rule, undone_layout}
use Rattle.nv_logpage.specs.ToTail.{SameToTail}
use Rattle.nv_scan.specs.Inode.{Log, IsInode}
use Rattle.nv_scan.specs.Faults.{IsFaultOf}
use Rattle.nv_scan.proofs.Alone.{IsInode-same}
use Rattle.nv_scan.proofs.InUse.{has_log}
use Rattle.nv_scan.proofs.Only.{IsInode-only, kind_in_use, slot_in_use}
use Rattle.nv_outcome.specs.Outcome.{AreRows, AreFreeLists, IsCrossFault, IsDoubled, IsFaulty, journal, chain, inode, cross, double, Outcome, IsOutcome}
use Rattle.nv_outcome.specs.Metadata.{SameMetadata}
use Rattle.nv_outcome.proofs.SameChains.{same_ends, same_tables}
use Rattle.nv_outcome.proofs.SameInodes.{SameInodes, SameSlotWords, turned, rows_there, free_there, doubled_there, fault_there, cross_there}
use Rattle.nv_outcome.proofs.SuperOf.{layout_of_super}

-- in version 2 slots may stand in each block
pub end_two : (s : Super) → s.version ≡ 2 → slots_end s ≡ s.blocks
end_two s two = ap (λ (v : ℕ). cond (v == 2) s.blocks (system_blocks s)) two

fixed_before : (s : Super) (a : ℕ) → in_fixed s a ≡ true → a < system_blocks s * 4096
fixed_before s a h = grind (arith, nat_tests)

both_of : (p q r : Bool) → (p && (q || r)) ≡ true → (q ≡ true) ⊎ (r ≡ true)
both_of true true r h = inl refl
both_of true false true h = inr refl
both_of true false false h = absurd (cc)
both_of false q r h = absurd (cc)

first_of : (p q : Bool) → (p && q) ≡ true → p ≡ true
first_of true q h = refl
first_of false q h = absurd (cc)

-- a slot stands in front of the data blocks, or in a block of a chain
slot_place : (l : Layout) (i a : ℕ) → IsLaid l → slot_of l i ≡ Some a → (a < system_blocks l.sup * 4096) ⊎ (in_chains l.chains (a / 4096) ≡ true)
slot_place l i a laid slot = elim (both_of (is_key_offset a) (in_fixed l.sup a) (in_extra l a) (named_permitted l a laid (i, a, slot, inl refl))) [
  | inl fixed ↦ inl (fixed_before l.sup a fixed)
  | inr extra ↦ inr (first_of (in_chains l.chains (a / 4096)) (nat_le 128 (a % 4096)) extra)
]

module _ (s : Super) (R S : Region) (is : IsSuper R s) (same : SameMetadata s R S) where
  abbrev l : Layout
  l = layout_of s R

  layout : IsLayout s
  layout = layout_of_super R s is

  before_tables : SameBefore ((1 + s.cpus) * 4096) R S
  before_tables at aligned low = same.front at aligned (omega (arith, low))

  -- ---- the chains of the tables

  firsts : (c : ℕ) → c < s.cpus → word S (first_link c) ≡ word R (first_link c)
  firsts c below = same.front (4096 * (1 + c) + 16) (omega arith) (omega (arith, below))

  links : (c k b : ℕ) → slice_get (chain_of (layout_of s R) c) k ≡ Some b → word S (4096 * b) ≡ word R (4096 * b)
  links c k b has = let block : 4096 * b / 4096 ≡ b = omega arith in same.chains (4096 * b) (omega arith) (ap (in_chains (layout_of s R).chains) block ∙ listed_in (layout_of s R).chains c k b has)

  pub tables_there : layout_of s S ≡ l
  tables_there = same_tables R S (layout_of s R) refl firsts links

  same_chain_faults : chain_faults s S ≡ chain_faults s R
  same_chain_faults = same_ends R S (layout_of s R) refl firsts links

  -- they stay while the journals are rolled back
  pub tables_of_undone : layout_of s (undone s R) ≡ l
  tables_of_undone = undone_layout s R layout

  pub tables_of_other : layout_of s (undone s S) ≡ l
  tables_of_other = undone_layout s S layout ∙ tables_there

  undone_chain_faults : chain_faults s (undone s S) ≡ chain_faults s (undone s R)
  undone_chain_faults = faults_undone s S layout ∙ same_chain_faults ∙ sym (faults_undone s R layout)

  -- ---- the words of the regions with their journals rolled back

  -- a word that is the same is the same then
  pub word_undone : (at : ℕ) → at % 8 ≡ 0 → word S at ≡ word R at → word (undone s S) at ≡ word (undone s R) at
  word_undone at aligned here =
      ap (λ (x : Layout). word (undone_by x S) at) tables_there
      ∙ same_undone (is_permitted_by (layout_of s R)) s.cpus R S before_tables (own_rule s R layout) same.as_long at aligned here

  -- a word of a slot
  slot_word : (i a k : ℕ) → slot_of l i ≡ Some a → k % 8 ≡ 0 → k < 128 → word (undone s S) (a + k) ≡ word (undone s R) (a + k)
  slot_word i a k slot aligned inside =
      let whole : a % 128 ≡ 0 = slot_stands (layout_of s R) i (Some a) (region_laid s R layout) (sym slot) in
      word_undone (a + k) (omega (arith, whole, aligned)) (elim (slot_place (layout_of s R) i a (region_laid s R layout) slot) [
        | inl before ↦ same.front (a + k) (omega (arith, whole, aligned)) (omega (arith, whole, before, inside))
        | inr marked ↦ (
            let block : (a + k) / 4096 ≡ a / 4096 = omega (arith, whole, inside) in
            same.chains (a + k) (omega (arith, whole, aligned)) (ap (in_chains (layout_of s R).chains) block ∙ marked))
      ])

  slot_words : (i a : ℕ) → slot_of l i ≡ Some a → SameSlotWords (undone s R) (undone s S) a
  slot_words i a slot = record {
    valid = (let here : a + 0 ≡ a = omega arith in subst (λ (at : ℕ). word (undone s S) at ≡ word (undone s R) at) here (slot_word i a 0 slot refl (omega arith)));
    kind = slot_word i a 8 slot refl (omega arith);
    head = slot_word i a 16 slot refl (omega arith);
    tail = slot_word i a 24 slot refl (omega arith);
    created = slot_word i a 32 slot refl (omega arith);
  }

  -- ---- the inodes

  log_page : {i a : ℕ} {log : Log} → IsInode (undone s R) l i a log → (b : ℕ) → Contains log.pages b → SameToTail (word (undone s R) (a + 24)) (undone s R) (undone s S) b
  log_page {i} {a} {log} h b c at aligned here below =
      word_undone at aligned (same.pages i a log b (subst (λ (x : Layout). IsInode (undone s R) x i a log) (sym tables_of_undone) h) c at aligned here below)

  there : {i a : ℕ} {log : Log} → IsInode (undone s R) l i a log → IsInode (undone s S) l i a log
  there {i} {a} h = let e = slot_words i a (slot_in_use h) in IsInode-same (undone s S) (record { valid = e.valid; kind = e.kind; head = e.head; tail = e.tail }) (log_page h) h

  back : {i a : ℕ} {log : Log} → IsInode (undone s S) l i a log → IsInode (undone s R) l i a log
  back {i} {a} {log} h =
      let e = slot_words i a (slot_in_use h) in
      let mine = has_log (undone s R) l i a log.kind (slot_in_use h) (rw (sym e.valid, sym e.kind) (kind_in_use h)) in
      subst (λ (x : Log). IsInode (undone s R) l i a x) (IsInode-only (there mine.2) h).1 mine.2

  pub same_inodes : SameInodes (layout_of s R) (undone s R) (undone s S)
  same_inodes = record { slots = slot_words; there = λ h. there h; back = λ h. back h }

  -- ---- all of it

  -- what is so of the undone regions by the same tables is so by their own
  pub from_R : (P : Layout → Type 0) → P (layout_of s (undone s R)) → P (layout_of s R)
  from_R P h = subst P tables_of_undone h

  pub to_R : (P : Layout → Type 0) → P (layout_of s R) → P (layout_of s (undone s R))
  to_R P h = subst P (sym tables_of_undone) h

  pub from_S : (P : Layout → Type 0) → P (layout_of s (undone s S)) → P (layout_of s R)
  from_S P h = subst P tables_of_other h

  pub to_S : (P : Layout → Type 0) → P (layout_of s R) → P (layout_of s (undone s S))
  to_S P h = subst P (sym tables_of_other) h

  journal_there : (f : Fault) → HasFault s R f → HasFault s S f
  journal_there f h = subst (λ (x : Layout). IsJournalFault (is_permitted_by x) s.cpus S f) (sym tables_there) (journal_fault_same (is_permitted_by (layout_of s R)) s.cpus R S before_tables f h)

  journal_back : (f : Fault) → HasFault s S f → HasFault s R f
  journal_back f h =
      journal_fault_same (is_permitted_by (layout_of s R)) s.cpus S R (λ at aligned low. sym (before_tables at aligned low)) f
      (subst (λ (x : Layout). IsJournalFault (is_permitted_by x) s.cpus S f) tables_there h)

  faulty_there : (f : Fault) → IsFaulty R s f → IsFaulty S s f
  faulty_there f (journal h) = journal (journal_there f h)
  faulty_there f (chain h) = chain (subst (λ (fs : List Fault). Contains fs f) (sym undone_chain_faults) h)
  faulty_there f (inode i h) = inode i (to_S (λ x. IsFaultOf (undone s S) x i f) (fault_there same_inodes (from_R (λ x. IsFaultOf (undone s R) x i f) h)))
  faulty_there f (cross h) = cross (to_S (λ x. IsCrossFault (undone s S) x f) (cross_there same_inodes (from_R (λ x. IsCrossFault (undone s R) x f) h)))
  faulty_there _ (double {b = b} {o = o} h) = double (to_S (λ x. IsDoubled (undone s S) x b o) (doubled_there same_inodes (from_R (λ x. IsDoubled (undone s R) x b o) h)))

  faulty_back : (f : Fault) → IsFaulty S s f → IsFaulty R s f
  faulty_back f (journal h) = journal (journal_back f h)
  faulty_back f (chain h) = chain (subst (λ (fs : List Fault). Contains fs f) undone_chain_faults h)
  faulty_back f (inode i h) = inode i (to_R (λ x. IsFaultOf (undone s R) x i f) (fault_there (turned same_inodes) (from_S (λ x. IsFaultOf (undone s S) x i f) h)))
  faulty_back f (cross h) = cross (to_R (λ x. IsCrossFault (undone s R) x f) (cross_there (turned same_inodes) (from_S (λ x. IsCrossFault (undone s S) x f) h)))
  faulty_back _ (double {b = b} {o = o} h) = double (to_R (λ x. IsDoubled (undone s R) x b o) (doubled_there (turned same_inodes) (from_S (λ x. IsDoubled (undone s S) x b o) h)))

  size_same : size S ≡ size R
  size_same = λ i. 8 * same.as_long i + same.rest_as_long i

  super_there : IsSuper S s
  super_there = super_stays R S size_same (λ at aligned low. same.front at aligned (omega (arith, low))) s is

pub metadata_alone : (R S : Region) (o : Outcome) → SameMetadata o.sup R S → IsOutcome R o → IsOutcome S o
metadata_alone R S o same is = record {
  sup = super_there o.sup R S is.sup same;
  tables = is.tables ∙ ap (λ (x : Layout). x.chains) (tables_of_undone o.sup R S is.sup same ∙ sym (tables_of_other o.sup R S is.sup same));
  rows = there (λ x. AreRows (undone o.sup S) x o.rows) (rows_there inodes (here (λ x. AreRows (undone o.sup R) x o.rows) is.rows));
  free = there (λ x. AreFreeLists (undone o.sup S) x o.free) (free_there inodes (here (λ x. AreFreeLists (undone o.sup R) x o.free) is.free));
  doubled = there (λ x. Lists claim_key (λ (y : ℕ × Owner). IsDoubled (undone o.sup S) x y.0 y.1) o.doubled)
      (Lists-same claim_key (λ (y : ℕ × Owner). IsDoubled (undone o.sup R) (layout_of o.sup R) y.0 y.1) (λ y. IsDoubled (undone o.sup S) (layout_of o.sup R) y.0 y.1) o.doubled
      (λ y h. doubled_there inodes h) (λ y h. doubled_there (turned inodes) h)
      (here (λ x. Lists claim_key (λ (y : ℕ × Owner). IsDoubled (undone o.sup R) x y.0 y.1) o.doubled) is.doubled));
  faults = Lists-same fault_key (IsFaulty R o.sup) (IsFaulty S o.sup) o.faults (faulty_there o.sup R S is.sup same) (faulty_back o.sup R S is.sup same) is.faults;
} where
  inodes : SameInodes (layout_of o.sup R) (undone o.sup R) (undone o.sup S)
  inodes = same_inodes o.sup R S is.sup same

  here : (P : Layout → Type 0) → P (layout_of o.sup (undone o.sup R)) → P (layout_of o.sup R)
  here P h = from_R o.sup R S is.sup same P h

  there : (P : Layout → Type 0) → P (layout_of o.sup R) → P (layout_of o.sup (undone o.sup S))
  there P h = to_S o.sup R S is.sup same P h
