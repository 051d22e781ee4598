-- What is put together is the piece of its inode.
use Rattle.std.proofs.Common.{◌≡◌, ℕ, ◌+◌, ◌*◌, ◌/◌, ◌<◌, ◌⊎◌, inl, inr, Bool, true, false, nat_lt, ◌==◌, List, [], ◌∷◌, ◌++◌, refl, ap, sym, ◌∙◌, subst, Option, Some, None, slice_get, IsTrue, append-nil, cond, eqb-true, arith}
use Rattle.std.specs.Option.{MatchOption}
use Rattle.std.specs.List.{Contains, cons_option}
use Rattle.std.proofs.lemmas.Bool.{true≢false}
use Rattle.std.proofs.lemmas.Bool.Decides.{nat_tests}
use Rattle.std.proofs.lemmas.Nat.{div_below}
use Rattle.std.proofs.lemmas.List.Elements.{Contains-append_left, Contains-append_right, Contains-append_cases}
use Rattle.std.proofs.lemmas.Option.{same_Some}
use Rattle.nv_region.specs.Region.{Region, word}
use Rattle.nv_super.specs.declared.superblock.Super.{Super}
use Rattle.nv_super.specs.declared.kind.Kind.{Kind}
use Rattle.nv_super.specs.declared.kind.Kind.TheVariants.{File, Directory}
use Rattle.nv_super.specs.declared.owners.Owner.{Owner}
use Rattle.nv_super.specs.declared.owners.Owner.TheVariants as owners
use Rattle.nv_super.specs.declared.faults.Fault.{Fault}
use Rattle.nv_super.specs.declared.faults.Fault.TheVariants as faults
use Rattle.nv_super.specs.Layout.{IsLayout, is_number, slot_address, slot_of, fixed_layout, Layout}
use Rattle.nv_super.specs.Order.{owner_key}
use Rattle.nv_super.proofs.Rising.{Contains-cons, Contains-head, rises_append}
use Rattle.nv_super.proofs.Options.{some_is}
use Rattle.nv_inode.specs.declared.slot.Slot.{Slot}
use Rattle.nv_inode.specs.Slot.{slot_at, kind_of, kind_at, is_right_log}
use Rattle.nv_inode.proofs.Slots.{number_above, number_below}
use Rattle.nv_logpage.specs.declared.found.LogEnd.{LogEnd}
use Rattle.nv_logpage.specs.declared.found.LogFault.{LogFault}
use Rattle.nv_logpage.specs.declared.found.LogFault.TheVariants as logs
use Rattle.nv_logpage.specs.Reads.{Reads}
use Rattle.nv_radix.specs.Pages.{Pages, block_at}
use Rattle.nv_scan.specs.State.{block_of}
use Rattle.nv_scan.specs.Inode.{Log, IsInode, IsInUse, right, wrong, empty_log, good_of}
use Rattle.nv_scan.specs.Owners.{Owns, by_table, by_log, by_page, teller, IsTable, table, AreClaims}
use Rattle.nv_scan.specs.ChainBlocks.{TellsTable, table_claims}
use Rattle.nv_scan.specs.Faults.{Has, HasOnce, IsOnce, IsEntryFault, IsFaultOf, i1, i2, i3, l1, l2, l3, l4, entry}
use Rattle.nv_scan.specs.Fold.{Holds}
use Rattle.nv_scan.specs.Rows.{AreNumbers, IsRow, IsPiece}
use Rattle.nv_names.specs.Names.{Names, name_at}
use Rattle.nv_scan.specs.Claims.{IsClaim, of_log, of_page, AreClaimsBy}
use Rattle.nv_scan.specs.Reading.{IsRead}
use Rattle.nv_scan.specs.Scanned.{fault_by, fault_of_end, IsPieceOf, IsEmptyPiece}
use Rattle.nv_scan.specs.declared.chain_block.ChainBlock.{ChainBlock}
use Rattle.nv_scan.specs.declared.fold.Fold.{Fold}
use Rattle.nv_scan.specs.declared.piece.Row.{Row}
use Rattle.nv_scan.specs.declared.piece.Piece.{Piece}
use Rattle.nv_scan.proofs.FaultsOnce.{IsOnce-option, IsOnce-more, end_apart, head_apart, inode_apart}
use Rattle.nv_scan.proofs.Only.{IsInode-only, slot_in_use, kind_in_use, owned_table, owned_log, owned_page}
use Rattle.nv_scan.proofs.ChainBlocks.{told_before}

-- an inode's slot stands in the fixed tables
pub slot_is : (s : Super) (i : ℕ) → IsLayout s → IsTrue (is_number s i) → slot_of (fixed_layout s) i ≡ Some (slot_address s i)
slot_is s i layout number =
    let above : 0 < i = number_above s i number in
    let below : i < 32 * s.cpus * s.table_blocks = number_below s i number in
    let some : 0 < s.cpus = omega (arith, layout.cpus_from) in
    let place : i / s.cpus < 32 * s.table_blocks = div_below i s.cpus (32 * s.table_blocks) some (omega arith) in
    let not_first : (i == 0) ≡ false = grind (arith, nat_tests) in
    let fixed : nat_lt (i / s.cpus) (32 * s.table_blocks) ≡ true = grind (arith, nat_tests) in
    rw (not_first, fixed) refl

-- the block of a chain is owned, and told with the inode
pub owns_table : {R : Region} {l : Layout} {i : ℕ} (x : ℕ × Owner) → IsTable l i x → Owns R l x.0 x.1 × (teller l x.1 ≡ i)
owns_table _ (table has number) = (by_table has, number)

module _ {R : Region} {l : Layout} {i a : ℕ} {log : Log} (is : IsInode R l i a log) where
  same_log : {b : ℕ} {other : Log} → IsInode R l i b other → other ≡ log
  same_log h = (IsInode-only h is).1

  -- what is told with the inode is the block of a chain, or what its log's pages and its index give
  pub owned : (pages : List ℕ) (m : Pages) → pages ≡ log.pages → ((p : ℕ) → block_at m p ≡ block_of (good_of l log) p)
      → (b : ℕ) (o : Owner) → Owns R l b o → teller l o ≡ i → IsTable l i (b, o) ⊎ IsClaim i pages m (b, o)
  owned pages m same index b (owners.Table c k) h e = inl (table (owned_table h) e)
  owned pages m same index b (owners.Log j k) h e =
      let w = owned_log (subst (λ (n : ℕ). Owns R l b (owners.Log n k)) e h) in
      inr (subst (λ (n : ℕ). IsClaim i pages m (b, owners.Log n k)) (sym e)
      (of_log k b (ap (λ (xs : List ℕ). slice_get xs k) same ∙ ap (λ (x : Log). slice_get x.pages k) (sym (same_log w.is)) ∙ w.page)))
  owned pages m same index b (owners.Data j p) h e =
      let w = owned_page (subst (λ (n : ℕ). Owns R l b (owners.Data n p)) e h) in
      inr (subst (λ (n : ℕ). IsClaim i pages m (b, owners.Data n p)) (sym e)
      (of_page p b (index p ∙ ap (λ (x : Log). block_of (good_of l x) p) (sym (same_log w.is)) ∙ w.maps)))

  pub owns : (pages : List ℕ) (m : Pages) → pages ≡ log.pages → ((p : ℕ) → block_at m p ≡ block_of (good_of l log) p)
      → (x : ℕ × Owner) → IsClaim i pages m x → Owns R l x.0 x.1 × (teller l x.1 ≡ i)
  owns pages m same index _ (of_log k b h) = (by_log is (ap (λ (xs : List ℕ). slice_get xs k) (sym same) ∙ h), refl)
  owns pages m same index _ (of_page p b h) = (by_page is (sym (index p) ∙ h), refl)

  pub claims_are : (told : Option ChainBlock) (pages : List ℕ) (m : Pages) (claims : List (ℕ × Owner)) → TellsTable l i told → pages ≡ log.pages → ((p : ℕ) → block_at m p ≡ block_of (good_of l log) p)
      → AreClaimsBy told i pages m claims → AreClaims R l i claims
  claims_are told pages m claims tells same index (own, split, lists) = subst (λ (cs : List (ℕ × Owner)). AreClaims R l i cs) (sym split) record {
    rising = rises_append (λ (x : ℕ × Owner). owner_key x.1) (table_claims told) own tells.rising lists.rising (λ x y c d. told_before l i pages m x y (tells.each x c) (lists.each y d));
    each = λ x c. elim (Contains-append_cases (table_claims told) own x c) [ inl w ↦ owns_table x (tells.each x w) | inr w ↦ owns pages m same index x (lists.each x w) ];
    all = λ x h. elim (owned pages m same index x.0 x.1 h.0 h.1) [ inl w ↦ Contains-append_left (table_claims told) own x (tells.all x w) | inr w ↦ Contains-append_right (table_claims told) own x (lists.all x w) ];
  }

  -- the faults of an inode in use: those of its entries, and one by its log, if there is one
  pub record FaultBy (fault : Option Fault) : Type 0 where
    pub is_one : (f : Fault) → fault ≡ Some f → IsFaultOf R l i f
    pub split : (f : Fault) → IsFaultOf R l i f → IsEntryFault l.sup log.kind i log.entries f ⊎ (fault ≡ Some f)
    pub apart : (f : Fault) → fault ≡ Some f → IsEntryFault l.sup log.kind i log.entries f → ⊥

  pub faults_are : (found : List Fault) (fault : Option Fault) → FaultBy fault → Has (IsEntryFault l.sup log.kind i log.entries) found → Has (IsFaultOf R l i) (found ++ cons_option fault [])
  faults_are found None by has = rw append-nil record {
    each = λ f c. entry is (has.each f c);
    all = λ f h. elim (by.split f h) [ inl w ↦ has.all f w | inr w ↦ absurd (cc) ];
  }
  faults_are found (Some t) by has = record {
    each = λ f c. elim (Contains-append_cases found (t ∷ []) f c) [
      | inl w ↦ entry is (has.each f w)
      | inr w ↦ elim (Contains-cons t [] f w) [
        | inl v ↦ by.is_one f (ap Some (sym v))
        | inr v ↦ absurd (omega (arith, v.1))
      ]
    ];
    all = λ f h. elim (by.split f h) [
      | inl w ↦ Contains-append_left found (t ∷ []) f (has.all f w)
      | inr w ↦ Contains-append_right found (t ∷ []) f (let e : t ≡ f = cc in subst (Contains (t ∷ [])) e (Contains-head t []))
    ];
  }

  pub faults_once : (found : List Fault) (fault : Option Fault) → FaultBy fault → Has (IsEntryFault l.sup log.kind i log.entries) found → IsOnce found → HasOnce (IsFaultOf R l i) (found ++ cons_option fault [])
  faults_once found fault by has once = record {
    has = faults_are found fault by has;
    once = IsOnce-more found fault once (λ f e c. by.apart f e (has.each f c));
  }

  -- the piece of an inode in use
  pub piece_is : (told : Option ChainBlock) (kind : Kind) (slot : Slot) (pages : List ℕ) (fold : Fold) (fault : Option Fault) (p : Piece) → TellsTable l i told → slot ≡ slot_at R a → log.kind ≡ kind → pages ≡ log.pages
      → Holds l.sup kind i slot.created log.entries fold → FaultBy fault → IsPieceOf i told kind slot pages fold fault p → IsPiece R l p
  piece_is told kind slot pages fold fault p tells words same_kind same_pages h by of =
      let holds : Holds l.sup log.kind i slot.created log.entries fold = subst (λ (k : Kind). Holds l.sup k i slot.created log.entries fold) (sym same_kind) h in
      let r = of.row in
      let row = of.is_row in
      let index : (q : ℕ) → block_at r.index q ≡ block_of (good_of l log) q = λ q. row.6 q ∙ holds.extents q in
      let is_row : IsRow R l a log r = record {
        inode = subst (λ (n : ℕ). IsInode R l n a log) (sym row.0) is;
        kind = row.1 ∙ sym same_kind;
        numbers = rw row.2 (subst (λ (t : Slot). AreNumbers t.created (good_of l log) fold.numbers) words holds.numbers);
        head = row.3 ∙ ap (λ (t : Slot). t.head) words;
        tail = row.4 ∙ ap (λ (t : Slot). t.tail) words;
        pages = row.5 ∙ same_pages;
        index = index;
        names = λ q. ap (λ (n : Names). name_at n q) row.7 ∙ holds.names q;
      } in
      record {
        row = subst (λ (o : Option Row). MatchOption o (IsInUse R l p.inode → ⊥) (λ r. (r.inode ≡ p.inode) × (a : ℕ) × (log : Log) × IsRow R l a log r)) (sym of.has_row) (row.0 ∙ sym of.inode, a, log, is_row);
        claims = subst (λ (n : ℕ). AreClaims R l n p.claims.items) (sym of.inode) (claims_are told pages r.index p.claims.items tells same_pages index of.claims);
        faults = subst (λ (n : ℕ). HasOnce (IsFaultOf R l n) p.faults.items) (sym of.inode)
            (subst (λ (fs : List Fault). HasOnce (IsFaultOf R l i) fs) (sym of.faults) (faults_once fold.faults.items fault by holds.found (holds.once (inode_apart is))));
      }

-- the valid word of a slot of a kind
pub valid_one : (slot : Slot) (kind : Kind) → kind_of slot ≡ Some kind → slot.valid ≡ 1
valid_one slot kind h = by_test (slot.valid == 1) refl h
  where
    by_test : (t : Bool) → (slot.valid == 1) ≡ t → cond t (cond (slot.kind == 1) (Some File) (cond (slot.kind == 2) (Some Directory) None)) None ≡ Some kind → slot.valid ≡ 1
    by_test true e g = eqb-true slot.valid 1 e
    by_test false e g = absurd (cc)

-- an inode in use is neither badly valid nor without a kind
not_i1 : {R : Region} {l : Layout} {i a b : ℕ} {log : Log} → IsInode R l i a log → slot_of l i ≡ Some b → 1 < word R b → ⊥
not_i1 {R} {l} {i} {a} {b} {log} is s big =
    let same : a ≡ b = some_is a b (slot_of l i) (slot_in_use is) s in
    let one : word R a ≡ 1 = valid_one (slot_at R a) log.kind (kind_in_use is) in
    let more : 1 < word R a = subst (λ (n : ℕ). 1 < word R n) (sym same) big in
    omega arith

not_i2 : {R : Region} {l : Layout} {i a b : ℕ} {log : Log} → IsInode R l i a log → slot_of l i ≡ Some b → kind_at R b ≡ None → ⊥
not_i2 {R} {l} {i} {a} {b} {log} is s none =
    let same : a ≡ b = some_is a b (slot_of l i) (slot_in_use is) s in
    let clash : Some log.kind ≡ None = sym (kind_in_use is) ∙ subst (λ (n : ℕ). kind_at R n ≡ None) (sym same) none in
    cc

abbrev end_by : ℕ → LogFault → LogEnd
end_by at fault = record { fault = fault; at = at }

-- an end by a fault is the fault of the log
end_is : {R : Region} {l : Layout} {i a : ℕ} {log : Log} → IsInode R l i a log → (end : Option LogEnd) → log.fault ≡ end → (f : Fault) → fault_of_end i end ≡ Some f → IsFaultOf R l i f
end_is is None e f h = absurd (cc)
end_is {R} {l} {i} {a} {log} is (Some end) e f h = by_class end.fault refl h
  where
    ends_as : {c : LogFault} → end.fault ≡ c → log.fault ≡ Some (record { fault = c; at = end.at })
    ends_as k = e ∙ ap (λ (d : LogFault). Some (end_by end.at d)) k

    told_as : {c : LogFault} → end.fault ≡ c → fault_of_end i (Some end) ≡ Some f → fault_by i c end.at ≡ f
    told_as {c} k g = same_Some (fault_by i c end.at) f (ap (λ (d : LogFault). Some (fault_by i d end.at)) (sym k) ∙ g)

    by_class : (c : LogFault) → end.fault ≡ c → fault_of_end i (Some end) ≡ Some f → IsFaultOf R l i f
    by_class logs.L1 k g = subst (IsFaultOf R l i) (told_as k g) (l1 is (ends_as k))
    by_class logs.L2 k g = subst (IsFaultOf R l i) (told_as k g) (l2 is (ends_as k))
    by_class logs.L3 k g = subst (IsFaultOf R l i) (told_as k g) (l3 is (ends_as k))
    by_class logs.L4 k g = subst (IsFaultOf R l i) (told_as k g) (l4 is (ends_as k))

-- the faults of an inode whose head and tail are right
pub right_faults : {R : Region} {l : Layout} {i a : ℕ} {log : Log} (is : IsInode R l i a log) → is_right_log l.sup (word R (a + 16)) (word R (a + 24)) ≡ true → FaultBy is (fault_of_end i log.fault)
right_faults {R} {l} {i} {a} {log} is t = record {
  is_one = end_is is log.fault refl;
  split = split;
  apart = end_apart l.sup log.kind i log.entries log.fault;
}
  where
    split : (f : Fault) → IsFaultOf R l i f → IsEntryFault l.sup log.kind i log.entries f ⊎ (fault_of_end i log.fault ≡ Some f)
    split _ (i1 {a = b} s big) = absurd (not_i1 is s big)
    split _ (i2 {a = b} s one no_kind) = absurd (not_i2 is s no_kind)
    split _ (i3 {a = b} s k f) = absurd (true≢false (sym (subst (λ (n : ℕ). is_right_log l.sup (word R (n + 16)) (word R (n + 24)) ≡ true) (some_is a b (slot_of l i) (slot_in_use is) s) t) ∙ f))
    split _ (l1 {at = at} h e) = inr (ap (λ (x : Log). fault_of_end i x.fault) (sym (same_log is h)) ∙ ap (fault_of_end i) e)
    split _ (l2 {at = at} h e) = inr (ap (λ (x : Log). fault_of_end i x.fault) (sym (same_log is h)) ∙ ap (fault_of_end i) e)
    split _ (l3 {at = at} h e) = inr (ap (λ (x : Log). fault_of_end i x.fault) (sym (same_log is h)) ∙ ap (fault_of_end i) e)
    split _ (l4 {at = at} h e) = inr (ap (λ (x : Log). fault_of_end i x.fault) (sym (same_log is h)) ∙ ap (fault_of_end i) e)
    split f (entry h e) = inl (subst (λ (x : Log). IsEntryFault l.sup x.kind i x.entries f) (same_log is h) e)

-- the faults of an inode whose head or tail isn't right
pub wrong_faults : {R : Region} {l : Layout} {i a : ℕ} {log : Log} (is : IsInode R l i a log) → log.fault ≡ None → is_right_log l.sup (word R (a + 16)) (word R (a + 24)) ≡ false → FaultBy is (Some (faults.I3 i))
wrong_faults {R} {l} {i} {a} {log} is none t = record {
  is_one = λ f h. (let e : faults.I3 i ≡ f = cc in subst (IsFaultOf R l i) e (i3 (slot_in_use is) (kind_in_use is) t));
  split = split;
  apart = head_apart l.sup log.kind i log.entries;
}
  where
    no_fault : {b : ℕ} {other : Log} {end : LogEnd} → IsInode R l i b other → other.fault ≡ Some end → ⊥
    no_fault h e = let n = sym none ∙ ap (λ (x : Log). x.fault) (sym (same_log is h)) ∙ e in cc

    split : (f : Fault) → IsFaultOf R l i f → IsEntryFault l.sup log.kind i log.entries f ⊎ (Some (faults.I3 i) ≡ Some f)
    split _ (i1 {a = b} s big) = absurd (not_i1 is s big)
    split _ (i2 {a = b} s one no_kind) = absurd (not_i2 is s no_kind)
    split _ (i3 {a = b} s k f) = inr refl
    split _ (l1 {at = at} h e) = absurd (no_fault h e)
    split _ (l2 {at = at} h e) = absurd (no_fault h e)
    split _ (l3 {at = at} h e) = absurd (no_fault h e)
    split _ (l4 {at = at} h e) = absurd (no_fault h e)
    split f (entry h e) = inl (subst (λ (x : Log). IsEntryFault l.sup x.kind i x.entries f) (same_log is h) e)

-- the piece of an inode whose head and tail are right
pub right_piece : (R : Region) (l : Layout) (i a : ℕ) (told : Option ChainBlock) (kind : Kind) (slot : Slot) (fold : Fold) (pages : List ℕ) (end : Option LogEnd) (p : Piece) → TellsTable l i told → slot_of l i ≡ Some a
    → slot ≡ slot_at R a → kind_of slot ≡ Some kind → is_right_log l.sup slot.head slot.tail ≡ true → IsRead R l.sup i kind slot fold pages end
    → IsPieceOf i told kind slot pages fold (fault_of_end i end) p → IsPiece R l p
right_piece R l i a told kind slot fold pages end p tells here words is_kind is_right r of =
    let log : Log = record { kind = kind; entries = r.entries; pages = pages; fault = end } in
    let right_at : is_right_log l.sup (word R (a + 16)) (word R (a + 24)) ≡ true = subst (λ (t : Slot). is_right_log l.sup t.head t.tail ≡ true) words is_right in
    let is : IsInode R l i a log = right here (subst (λ (t : Slot). kind_of t ≡ Some kind) words is_kind) right_at
    (subst (λ (t : Slot). Reads R l.sup t.head t.tail r.entries pages end) words r.reads) in
    piece_is is told kind slot pages fold (fault_of_end i end) p tells words refl refl r.holds (right_faults is right_at) of

-- the piece of an inode whose head or tail isn't right
pub wrong_piece : (R : Region) (l : Layout) (i a : ℕ) (told : Option ChainBlock) (kind : Kind) (slot : Slot) (fold : Fold) (p : Piece) → TellsTable l i told → slot_of l i ≡ Some a
    → slot ≡ slot_at R a → kind_of slot ≡ Some kind → is_right_log l.sup slot.head slot.tail ≡ false → Holds l.sup kind i slot.created [] fold
    → IsPieceOf i told kind slot [] fold (Some (faults.I3 i)) p → IsPiece R l p
wrong_piece R l i a told kind slot fold p tells here words is_kind is_wrong h of =
    let wrong_at : is_right_log l.sup (word R (a + 16)) (word R (a + 24)) ≡ false = subst (λ (t : Slot). is_right_log l.sup t.head t.tail ≡ false) words is_wrong in
    let is : IsInode R l i a (empty_log kind) = wrong here (subst (λ (t : Slot). kind_of t ≡ Some kind) words is_kind) wrong_at in
    piece_is is told kind slot [] fold (Some (faults.I3 i)) p tells words refl refl h (wrong_faults is refl wrong_at) of

module _ (R : Region) (l : Layout) (i a : ℕ) (here : slot_of l i ≡ Some a) (no_kind : kind_of (slot_at R a) ≡ None) where
  pub unused : {b : ℕ} {log : Log} → IsInode R l i b log → ⊥
  unused {b} {log} h =
      let same : b ≡ a = some_is b a (slot_of l i) (slot_in_use h) here in
      let clash : Some log.kind ≡ None = sym (kind_in_use h) ∙ subst (λ (n : ℕ). kind_at R n ≡ None) (sym same) no_kind in
      cc

  first : (f : Fault) (o : Option Fault) → o ≡ Some f → Contains (cons_option o []) f
  first f None h = absurd (cc)
  first f (Some t) h = let g : t ≡ f = cc in subst (Contains (t ∷ [])) g (Contains-head t [])

  at_slot : {b : ℕ} → slot_of l i ≡ Some b → b ≡ a
  at_slot {b} h = some_is b a (slot_of l i) h here

  -- what is wrong with an inode that isn't in use
  pub empty_faults : (o : Option Fault) → ((f : Fault) → o ≡ Some f → IsFaultOf R l i f) → (1 < word R a → o ≡ Some (faults.I1 i)) → (word R a ≡ 1 → o ≡ Some (faults.I2 i)) → HasOnce (IsFaultOf R l i) (cons_option o [])
  empty_faults o told one two = record { has = record { each = each o told; all = all }; once = IsOnce-option o }
    where
      each : (o : Option Fault) → ((f : Fault) → o ≡ Some f → IsFaultOf R l i f) → (f : Fault) → Contains (cons_option o []) f → IsFaultOf R l i f
      each None told f c = absurd (omega (arith, c.1))
      each (Some t) told f c = elim (Contains-cons t [] f c) [ inl v ↦ told f (ap Some (sym v)) | inr v ↦ absurd (omega (arith, v.1)) ]

      all : (f : Fault) → IsFaultOf R l i f → Contains (cons_option o []) f
      all _ (i1 h big) = first (faults.I1 i) o (one (subst (λ (n : ℕ). 1 < word R n) (at_slot h) big))
      all _ (i2 h valid none) = first (faults.I2 i) o (two (subst (λ (n : ℕ). word R n ≡ 1) (at_slot h) valid))
      all _ (i3 h k t) = absurd (let clash = sym k ∙ subst (λ (n : ℕ). kind_at R n ≡ None) (sym (at_slot h)) no_kind in cc)
      all _ (l1 h e) = absurd (unused h)
      all _ (l2 h e) = absurd (unused h)
      all _ (l3 h e) = absurd (unused h)
      all _ (l4 h e) = absurd (unused h)
      all f (entry h e) = absurd (unused h)

  -- it claims the block of a chain alone
  empty_claims : (told : Option ChainBlock) → TellsTable l i told → AreClaims R l i (table_claims told)
  empty_claims told tells = record {
    rising = tells.rising;
    each = λ x c. owns_table x (tells.each x c);
    all = λ x h. tells.all x (is_table x.0 x.1 h.0 h.1);
  }
    where
      is_table : (b : ℕ) (o : Owner) → Owns R l b o → teller l o ≡ i → IsTable l i (b, o)
      is_table b (owners.Table c k) h same = table (owned_table h) same
      is_table b (owners.Log j k) h same = absurd (unused (owned_log (subst (λ (n : ℕ). Owns R l b (owners.Log n k)) same h)).is)
      is_table b (owners.Data j q) h same = absurd (unused (owned_page (subst (λ (n : ℕ). Owns R l b (owners.Data n q)) same h)).is)

  -- the piece of an inode that isn't in use
  pub empty_piece : (told : Option ChainBlock) (fault : Option Fault) (p : Piece) → TellsTable l i told
      → ((f : Fault) → fault ≡ Some f → IsFaultOf R l i f) → (1 < word R a → fault ≡ Some (faults.I1 i)) → (word R a ≡ 1 → fault ≡ Some (faults.I2 i))
      → IsEmptyPiece i told fault p → IsPiece R l p
  empty_piece told fault p tells is_one one two e = record {
    row = subst (λ (o : Option Row). MatchOption o (IsInUse R l p.inode → ⊥) (λ r. (r.inode ≡ p.inode) × (a : ℕ) × (log : Log) × IsRow R l a log r)) (sym e.row)
        (subst (λ (n : ℕ). IsInUse R l n → ⊥) (sym e.inode) (λ u. unused u.2));
    claims = subst (λ (n : ℕ). AreClaims R l n p.claims.items) (sym e.inode) (subst (λ (cs : List (ℕ × Owner)). AreClaims R l i cs) (sym e.claims) (empty_claims told tells));
    faults = subst (λ (n : ℕ). HasOnce (IsFaultOf R l n) p.faults.items) (sym e.inode) (subst (λ (fs : List Fault). HasOnce (IsFaultOf R l i) fs) (sym e.faults) (empty_faults fault is_one one two));
  }
