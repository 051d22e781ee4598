-- What there is of each inode: its faults as a list, and its row, if it is in use.
use Rattle.std.proofs.Common.{◌≡◌, ◌≢◌, ◌⊎◌, inl, inr, ◌==◌, nat_eq, ℕ, zero, suc, ◌+◌, ◌^◌, ◌<◌, ◌≤◌, Bool, true, false, cond, List, [], ◌∷◌, ◌++◌, map, length, Option, Some, None, refl, sym, ◌∙◌, ap, subst, append-nil, append_assoc, eqb-true, eq-eqb, arith}
use Rattle.std.specs.Prelude.{Vec}
use Rattle.std.specs.List.{Contains, cons_option}
use Rattle.std.specs.Cmp.Lexicographic.{pointwise, nat_list_eq_equiv}
use Rattle.std.specs.declared.alloc.Global.{Global}
use Rattle.std.proofs.lemmas.Bool.{cases_eq, cases_lt}
use denote.RawPtr.{null_ptr}
use Rattle.nv_region.specs.Region.{Region, word}
use Rattle.nv_super.specs.declared.superblock.Super.{Super}
use Rattle.nv_super.specs.declared.kind.Kind.{Kind}
use Rattle.nv_super.specs.declared.faults.Fault.{Fault}
use Rattle.nv_super.specs.declared.faults.Fault.TheVariants as faults
use Rattle.nv_super.specs.Layout.{Layout, slot_of}
use Rattle.nv_super.proofs.Rising.{Contains-cons, Contains-head, Contains-tail}
use Rattle.nv_super.proofs.Sorted.{same_keys}
use Rattle.nv_super.proofs.Options.{some_is}
use Rattle.nv_inode.specs.Slot.{kind_at, is_right_log}
use Rattle.nv_entry.specs.declared.entry.Entry.{Entry}
use Rattle.nv_entry.specs.declared.entry.Entry.TheVariants.{NextPage, Write, Attr, Name, Links}
use Rattle.nv_logpage.specs.declared.found.Placed.{Placed}
use Rattle.nv_radix.specs.Pages.{Pages, block_at}
use Rattle.nv_names.specs.Names.{found_in}
use Rattle.nv_scan.specs.State.{size_of, mode_of, owner_of, group_of, links_of, time_of, block_of, named, says_name, name_in, named_by}
use Rattle.nv_scan.specs.Inode.{Log, IsInode, IsInUse, wrong, empty_log, good_of}
use Rattle.nv_scan.specs.Faults.{Has, IsEntryFault, IsFaultOf, i1, i2, i3, l1, l2, l3, l4, entry}
use Rattle.nv_scan.specs.Scanned.{fault_of_end}
use Rattle.nv_scan.specs.Rows.{IsRow}
use Rattle.nv_scan.specs.declared.piece.Row.{Row}
use Rattle.nv_scan.proofs.Blocks.{last_word-all, data_pages}
use Rattle.nv_scan.proofs.EntryFaults.{fault_behind, found-more, found-none}
use Rattle.nv_scan.proofs.InUse.{has_log}
use Rattle.nv_scan.proofs.Only.{slot_in_use, kind_in_use}
use Rattle.nv_scan.proofs.Pieces.{faults_are, right_faults, wrong_faults, empty_faults}

-- ---- vectors

a_heap : Global
a_heap = record { memory = record { seal = tt } }

-- a vector of these elements
pub vec_of : {A : Type 0} (xs : List A) → length xs < 2 ^ 63 → Vec A Global
vec_of xs small = record { ptr = null_ptr; len = length xs; cap = length xs; alloc = a_heap; items = xs; ok = (refl, omega arith); small = small }

pub vec_items : {A : Type 0} (xs : List A) (small : length xs < 2 ^ 63) → (vec_of xs small).items ≡ xs
unfolding vec_of
vec_items xs small = refl

-- ---- faults

-- those of entries, one entry after another
entry_faults : (s : Super) (kind : Kind) (i : ℕ) (before rest : List Placed) (found : List Fault) → Has (IsEntryFault s kind i before) found → (all : List Fault) × Has (IsEntryFault s kind i (before ++ rest)) all
entry_faults s kind i before [] found has = (found, subst (λ (es : List Placed). Has (IsEntryFault s kind i es) found) (sym (append-nil before)) has)
entry_faults s kind i before (x ∷ rest) found has =
    let r = entry_faults s kind i (before ++ x ∷ []) rest (found ++ cons_option (fault_behind s kind i before x) []) (found-more s kind i before x found (fault_behind s kind i before x) refl has) in
    (r.0, subst (λ (es : List Placed). Has (IsEntryFault s kind i es) r.0) (append_assoc before (x ∷ []) rest) r.1)

-- a fault of an inode tells its slot
pub slot_of_fault : {R : Region} {l : Layout} {i : ℕ} {f : Fault} → IsFaultOf R l i f → (a : ℕ) × (slot_of l i ≡ Some a)
slot_of_fault (i1 {a = a} s h) = (a, s)
slot_of_fault (i2 {a = a} s h k) = (a, s)
slot_of_fault (i3 {a = a} s k t) = (a, s)
slot_of_fault (l1 {a = a} h e) = (a, slot_in_use h)
slot_of_fault (l2 {a = a} h e) = (a, slot_in_use h)
slot_of_fault (l3 {a = a} h e) = (a, slot_in_use h)
slot_of_fault (l4 {a = a} h e) = (a, slot_in_use h)
slot_of_fault (entry {a = a} h e) = (a, slot_in_use h)

module _ (R : Region) (l : Layout) (i a : ℕ) (here : slot_of l i ≡ Some a) where
  Found : Type 0
  Found = (found : List Fault) × Has (IsFaultOf R l i) found

  -- of an inode that isn't in use, by its valid word
  of_unused : kind_at R a ≡ None → (o : Option Fault) → ((f : Fault) → o ≡ Some f → IsFaultOf R l i f)
      → (1 < word R a → o ≡ Some (faults.I1 i)) → (word R a ≡ 1 → o ≡ Some (faults.I2 i)) → Found
  unfolding Found
  of_unused no_kind o told one two = (cons_option o [], (empty_faults R l i a here no_kind o told one two).has)

  unused_faults : kind_at R a ≡ None → Found
  unused_faults no_kind = elim (cases_lt 1 (word R a)) [
    | inl big ↦ of_unused no_kind (Some (faults.I1 i)) (λ f h. (let e : faults.I1 i ≡ f = cc in subst (IsFaultOf R l i) e (i1 here big))) (λ _. refl) (λ one. absurd (omega (arith, one, big)))
    | inr low ↦ elim (cases_eq (word R a) 1) [
      | inl one ↦ of_unused no_kind (Some (faults.I2 i)) (λ f h. (let e : faults.I2 i ≡ f = cc in subst (IsFaultOf R l i) e (i2 here one no_kind))) (λ big. absurd (omega (arith, one, big))) (λ _. refl)
      | inr other ↦ of_unused no_kind None (λ f h. absurd (cc)) (λ big. absurd (omega (arith, low, big))) (λ one. absurd (other one))
    ]
  ]

  -- of an inode in use
  used_faults : (kind : Kind) → kind_at R a ≡ Some kind → Found
  unfolding Found
  used_faults kind is_kind = by_test (is_right_log l.sup (word R (a + 16)) (word R (a + 24))) refl where
    by_test : (t : Bool) → is_right_log l.sup (word R (a + 16)) (word R (a + 24)) ≡ t → (found : List Fault) × Has (IsFaultOf R l i) found
    by_test true t =
        let h = has_log R l i a kind here is_kind in
        let e = entry_faults l.sup h.0.kind i [] h.0.entries [] (found-none l.sup h.0.kind i) in
        (e.0 ++ cons_option (fault_of_end i h.0.fault) [], faults_are h.2 e.0 (fault_of_end i h.0.fault) (right_faults h.2 t) e.1)
    by_test false t =
        let is : IsInode R l i a (empty_log kind) = wrong here is_kind t in
        (faults.I3 i ∷ [], faults_are is [] (Some (faults.I3 i)) (wrong_faults is refl t) (found-none l.sup kind i))

  -- The faults of an inode alone.
  pub inode_faults : (found : List Fault) × Has (IsFaultOf R l i) found
  unfolding Found
  inode_faults = by_kind (kind_at R a) refl where
    by_kind : (o : Option Kind) → kind_at R a ≡ o → (found : List Fault) × Has (IsFaultOf R l i) found
    by_kind None k = unused_faults k
    by_kind (Some kind) k = used_faults kind k

-- ---- an index of pages

table : (ℕ → Option ℕ) → ℕ → Pages
table f zero = []
table f (suc n) = (n, f n) ∷ table f n

table_at : (f : ℕ → Option ℕ) (n p : ℕ) → p < n → block_at (table f n) p ≡ f p
unfolding table
table_at f zero p less = absurd (omega arith)
table_at f (suc n) p less = test (n == p) refl (table_at f n p) where
  test : (t : Bool) → (n == p) ≡ t → (p < n → block_at (table f n) p ≡ f p) → cond t (f n) (block_at (table f n) p) ≡ f p
  test true e rest = ap f (eqb-true n p e)
  test false e rest = rest (lower (cases_eq n p)) where
    lower : (n ≡ p) ⊎ (n ≢ p) → p < n
    lower (inl same) = absurd (let clash : true ≡ false = sym (eq-eqb n p same) ∙ e in cc)
    lower (inr differ) = omega (arith, less, differ)

table_past : (f : ℕ → Option ℕ) (n p : ℕ) → n ≤ p → block_at (table f n) p ≡ None
unfolding table
table_past f zero p past = refl
table_past f (suc n) p past = test (n == p) refl (table_past f n p (omega arith)) where
  test : (t : Bool) → (n == p) ≡ t → block_at (table f n) p ≡ None → cond t (f n) (block_at (table f n) p) ≡ None
  test true e rest = absurd (let same = eqb-true n p e in omega (arith, same, past))
  test false e rest = rest

-- an index of what maps below a page
index_of : (f : ℕ → Option ℕ) (n : ℕ) → ((p b : ℕ) → f p ≡ Some b → p < n) → (m : Pages) × ((p : ℕ) → block_at m p ≡ f p)
index_of f n low = (table f n, λ p. elim (cases_lt p n) [ inl less ↦ table_at f n p less | inr past ↦ table_past f n p past ∙ sym (none p past (f p) refl) ]) where
  none : (p : ℕ) → n ≤ p → (o : Option ℕ) → f p ≡ o → f p ≡ None
  none p past None e = e
  none p past (Some b) e = absurd (let less = low p b e in omega (arith, less, past))

-- ---- an index of names

-- the entries of the names that stand for something
abbrev entry_of : List ℕ → Option (ℕ × ℕ) → List (List ℕ × ℕ × ℕ) → List (List ℕ × ℕ × ℕ)
entry_of q None es = es
entry_of q (Some v) es = (q, v.0, v.1) ∷ es

name_table : (List ℕ → Option (ℕ × ℕ)) → List (List ℕ) → List (List ℕ × ℕ × ℕ)
name_table f [] = []
name_table f (q ∷ names) = entry_of q (f q) (name_table f names)

-- what it finds is so
table_finds : (f : List ℕ → Option (ℕ × ℕ)) (names : List (List ℕ)) (q : List ℕ) (v : ℕ × ℕ) → found_in (name_table f names) q ≡ Some v → f q ≡ Some v
unfolding name_table
table_finds f [] q v h = absurd (cc)
table_finds f (n ∷ names) q v h = test (f n) refl (table_finds f names q v) h where
  test : (o : Option (ℕ × ℕ)) → f n ≡ o → (found_in (name_table f names) q ≡ Some v → f q ≡ Some v) → found_in (entry_of n o (name_table f names)) q ≡ Some v → f q ≡ Some v
  test None e rest h = rest h
  test (Some w) e rest h = found (pointwise nat_eq q n) refl h where
    found : (t : Bool) → pointwise nat_eq q n ≡ t → cond t (Some (w.0, w.1)) (found_in (name_table f names) q) ≡ Some v → f q ≡ Some v
    found true same g = ap f (same_keys q n same) ∙ e ∙ g
    found false other g = rest g

-- and each of these names is found
table_has : (f : List ℕ → Option (ℕ × ℕ)) (names : List (List ℕ)) (q : List ℕ) (v : ℕ × ℕ) → Contains names q → f q ≡ Some v → found_in (name_table f names) q ≡ Some v
unfolding name_table
table_has f [] q v c h = absurd (omega (arith, c.1))
table_has f (n ∷ names) q v c h = test (f n) refl (Contains-cons n names q c) (λ w. table_has f names q v w h) where
  test : (o : Option (ℕ × ℕ)) → f n ≡ o → (q ≡ n) ⊎ Contains names q → (Contains names q → found_in (name_table f names) q ≡ Some v) → found_in (entry_of n o (name_table f names)) q ≡ Some v
  test None e (inl same) rest = absurd (let z : None ≡ Some v = sym e ∙ ap f (sym same) ∙ h in cc)
  test None e (inr w) rest = rest w
  test (Some u) e c rest = found (pointwise nat_eq q n) refl c where
    found : (t : Bool) → pointwise nat_eq q n ≡ t → (q ≡ n) ⊎ Contains names q → cond t (Some (u.0, u.1)) (found_in (name_table f names) q) ≡ Some v
    found true same c = sym e ∙ ap f (sym (same_keys q n same)) ∙ h
    found false other (inl same) = absurd (let on : pointwise nat_eq q n ≡ true = subst (λ (z : List ℕ). pointwise nat_eq q z ≡ true) same (nat_list_eq_equiv.refl q) in let clash : true ≡ false = sym on ∙ other in cc)
    found false other (inr w) = rest w

names_index : (f : List ℕ → Option (ℕ × ℕ)) (names : List (List ℕ)) → ((q : List ℕ) (v : ℕ × ℕ) → f q ≡ Some v → Contains names q) → (es : List (List ℕ × ℕ × ℕ)) × ((q : List ℕ) → found_in es q ≡ f q)
names_index f names all = (name_table f names, λ q. both q (f q) refl (found_in (name_table f names) q) refl) where
  both : (q : List ℕ) (o : Option (ℕ × ℕ)) → f q ≡ o → (t : Option (ℕ × ℕ)) → found_in (name_table f names) q ≡ t → found_in (name_table f names) q ≡ f q
  both q (Some v) e t h = table_has f names q v (all q v e) e ∙ sym e
  both q None e None h = h ∙ sym e
  both q None e (Some v) h = absurd (let z : None ≡ Some v = sym e ∙ table_finds f names q v h in cc)

-- the name that an entry speaks of
abbrev entry_name : Entry → List ℕ
entry_name (Name e) = e.name
entry_name NextPage = []
entry_name (Write e) = []
entry_name (Attr e) = []
entry_name (Links e) = []

abbrev names_said : List Placed → List (List ℕ)
names_said good = map (λ (x : Placed). entry_name x.entry) good

said : (good : List Placed) (x : Placed) → Contains good x → Contains (names_said good) (entry_name x.entry)
said [] x c = absurd (omega (arith, c.1))
said (y ∷ good) x c = elim (Contains-cons y good x c) [
  | inl e ↦ subst (λ (z : Placed). Contains (entry_name y.entry ∷ names_said good) (entry_name z.entry)) (sym e) (Contains-head (entry_name y.entry) (names_said good))
  | inr w ↦ Contains-tail (entry_name y.entry) (names_said good) (entry_name x.entry) (said good x w)
]

-- an entry says something of its own name alone
own_name : (q : List ℕ) (at : ℕ) (e : Entry) (v : Option (ℕ × ℕ)) → name_in q at e ≡ Some v → q ≡ entry_name e
own_name q at (Name e) v h = test (pointwise nat_eq q e.name) refl h where
  test : (t : Bool) → pointwise nat_eq q e.name ≡ t → cond t (Some (named_by at e.inode e.operation)) None ≡ Some v → q ≡ e.name
  test true same h = same_keys q e.name same
  test false other h = absurd (cc)
own_name q at NextPage v h = absurd (cc)
own_name q at (Write e) v h = absurd (cc)
own_name q at (Attr e) v h = absurd (cc)
own_name q at (Links e) v h = absurd (cc)

named_said : (good : List Placed) (q : List ℕ) (v : ℕ × ℕ) → named good q ≡ Some v → Contains (names_said good) q
named_said good q v h = last_word-all (says_name q) IsSaid None good (λ v e. absurd (cc)) (λ x w c says v e. subst (Contains (names_said good)) (sym (own_name q x.at x.entry w says)) (said good x c)) v h where
  IsSaid : Option (ℕ × ℕ) → Type 0
  IsSaid o = (v : ℕ × ℕ) → o ≡ Some v → Contains (names_said good) q

-- ---- a row

-- The row of an inode in use.
pub row_of_inode : (R : Region) (l : Layout) (i a : ℕ) (log : Log) → IsInode R l i a log → (row : Row) × (row.inode ≡ i) × IsRow R l a log row
row_of_inode R l i a log is = (row, refl, is_row) where
  pages : (m : Pages) × ((p : ℕ) → block_at m p ≡ block_of (good_of l log) p)
  pages = index_of (block_of (good_of l log)) 262144 (λ p b h. (data_pages l.sup log.kind log.entries p b h).0)

  names : (es : List (List ℕ × ℕ × ℕ)) × ((q : List ℕ) → found_in es q ≡ named (good_of l log) q)
  names = names_index (named (good_of l log)) (names_said (good_of l log)) (named_said (good_of l log))

  row : Row
  row = record {
    inode = i;
    kind = log.kind;
    numbers = record {
      size = size_of (good_of l log);
      mode = mode_of (good_of l log);
      owner = owner_of (good_of l log);
      group = group_of (good_of l log);
      links = links_of (good_of l log);
      time = time_of (word R (a + 32)) (good_of l log);
    };
    head = word R (a + 16);
    tail = word R (a + 24);
    pages = record { items = log.pages; capacity = length log.pages };
    index = pages.0;
    names = record { names = names.0; room = 0 };
  }

  is_row : IsRow R l a log row
  is_row = record {
    inode = is;
    kind = refl;
    numbers = record { size = refl; mode = refl; owner = refl; group = refl; links = refl; time = refl };
    head = refl;
    tail = refl;
    pages = refl;
    index = pages.1;
    names = names.1;
  }

-- Its row, or that an inode isn't in use.
pub row_or_none : (R : Region) (l : Layout) (i a : ℕ) → slot_of l i ≡ Some a → ((row : Row) × (row.inode ≡ i) × ((a : ℕ) × (log : Log) × IsRow R l a log row)) ⊎ (IsInUse R l i → ⊥)
row_or_none R l i a here = by_kind (kind_at R a) refl where
  by_kind : (o : Option Kind) → kind_at R a ≡ o → ((row : Row) × (row.inode ≡ i) × ((a : ℕ) × (log : Log) × IsRow R l a log row)) ⊎ (IsInUse R l i → ⊥)
  by_kind None k = inr (λ u. (
      let same = some_is u.0 a (slot_of l i) (slot_in_use u.2) here in
      let clash : None ≡ Some u.1.kind = sym k ∙ subst (λ (n : ℕ). kind_at R n ≡ Some u.1.kind) same (kind_in_use u.2) in
      cc))
  by_kind (Some kind) k =
      let h = has_log R l i a kind here k in
      let r = row_of_inode R l i a h.0 h.2 in
      inl (r.0, r.1, (a, h.0, r.2))
