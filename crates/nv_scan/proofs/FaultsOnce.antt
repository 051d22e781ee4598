-- Each fault of an inode is told once.
use Rattle.std.proofs.Common.{◌≡◌, ℕ, ◌+◌, eqb, false, List, [], ◌∷◌, ◌++◌, inl, inr, ap, sym, ◌∙◌, subst, arith, Option, Some, None, append-nil, eq-eqb}
use Rattle.std.specs.List.{Contains, IsDistinct, AllByRecursion, cons_option}
use Rattle.std.proofs.lemmas.Bool.{true≢false}
use Rattle.std.proofs.lemmas.List.Elements.{Contains-append_cases, Contains-append_right}
use Rattle.nv_super.proofs.Rising.{Contains-cons, Contains-head, Contains-tail}
use Rattle.nv_super.specs.declared.superblock.Super.{Super}
use Rattle.nv_super.specs.declared.kind.Kind.{Kind}
use Rattle.nv_super.specs.declared.faults.Fault.{Fault}
use Rattle.nv_super.specs.declared.faults.Fault.TheVariants as faults
use Rattle.nv_entry.specs.declared.content.ContentFault.{ContentFault}
use Rattle.nv_entry.specs.declared.content.ContentFault.TheVariants.{OutOfRange, WrongKind}
use Rattle.nv_entry.specs.declared.entry.Operation.{Operation}
use Rattle.nv_entry.specs.declared.entry.Operation.TheVariants.{Add, Remove}
use Rattle.nv_entry.specs.declared.entry.Entry.{Entry}
use Rattle.nv_entry.specs.declared.entry.Entry.TheVariants.{NextPage, Write, Attr, Name, Links}
use Rattle.nv_entry.specs.Content.{content_fault}
use Rattle.nv_region.specs.Region.{Region, word}
use Rattle.nv_super.specs.Layout.{Layout}
use Rattle.nv_logpage.specs.declared.found.LogEnd.{LogEnd}
use Rattle.nv_logpage.specs.declared.found.LogFault.{LogFault}
use Rattle.nv_logpage.specs.declared.found.LogFault.TheVariants as logs
use Rattle.nv_logpage.specs.declared.found.Placed.{Placed}
use Rattle.nv_logpage.specs.Good.{good_entries}
use Rattle.nv_logpage.specs.Reads.{places_of}
use Rattle.nv_logpage.proofs.Places.{entries_apart}
use Rattle.nv_logpage.proofs.RightLogs.{head_starts}
use Rattle.nv_scan.specs.State.{named}
use Rattle.nv_scan.specs.Faults.{Has, IsOnce, IsEntryFault}
use Rattle.nv_scan.specs.Fold.{clash, name_fault, fault_with}
use Rattle.nv_scan.specs.Inode.{Log, IsInode, right, wrong}
use Rattle.nv_scan.specs.Scanned.{fault_by, fault_of_end}
use Rattle.nv_scan.proofs.EntryFaults.{fault_behind, is_told}

pub IsOnce-option : {A : Type 0} (o : Option A) → IsOnce (cons_option o [])
IsOnce-option None = tt
IsOnce-option (Some x) = (λ c. absurd (omega (arith, c.1)), tt)

-- one element more, that isn't there yet
IsOnce-push : {A : Type 0} (xs : List A) (y : A) → IsOnce xs → (Contains xs y → ⊥) → IsOnce (xs ++ y ∷ [])
IsOnce-push [] y once new = (λ c. absurd (omega (arith, c.1)), tt)
IsOnce-push {A} (x ∷ xs) y once new = (
  λ c. elim (Contains-append_cases xs (y ∷ []) x c) [
    | inl w ↦ once.0 w
    | inr w ↦ elim (Contains-cons y [] x w) [ inl same ↦ new (let P : A → Type 0 = λ z. Contains (x ∷ xs) z in subst P same (Contains-head x xs)) | inr v ↦ absurd (omega (arith, v.1)) ]
  ],
  IsOnce-push xs y once.1 (λ c. new (Contains-tail x xs y c)),
)

pub IsOnce-more : {A : Type 0} (xs : List A) (o : Option A) → IsOnce xs → ((x : A) → o ≡ Some x → Contains xs x → ⊥) → IsOnce (xs ++ cons_option o [])
IsOnce-more xs None once new = rw append-nil once
IsOnce-more xs (Some y) once new = IsOnce-push xs y once (new y (λ i. Some y))

-- the place of the entry of which a fault is told
abbrev entry_place : Fault → Option ℕ
entry_place (faults.E1 i at) = Some at
entry_place (faults.E2 i at) = Some at
entry_place (faults.E3 i at) = Some at
entry_place (faults.E4 i at) = Some at
entry_place _ = None

clash_place : (i at : ℕ) (op : Operation) (old : Option (ℕ × ℕ)) (f : Fault) → clash op i at old ≡ Some f → entry_place f ≡ Some at
clash_place i at Add (Some old) f h = let same : faults.E3 i at ≡ f = cc in ap entry_place (sym same)
clash_place i at Add None f h = absurd (cc)
clash_place i at Remove (Some old) f h = absurd (cc)
clash_place i at Remove None f h = let same : faults.E4 i at ≡ f = cc in ap entry_place (sym same)

name_place : (i : ℕ) (known : List ℕ → Option (ℕ × ℕ)) (at : ℕ) (e : Entry) (f : Fault) → name_fault i known at e ≡ Some f → entry_place f ≡ Some at
name_place i known at (Name e) f h = clash_place i at e.operation (known e.name) f h
name_place i known at NextPage f h = absurd (cc)
name_place i known at (Write e) f h = absurd (cc)
name_place i known at (Attr e) f h = absurd (cc)
name_place i known at (Links e) f h = absurd (cc)

told_place : (i : ℕ) (known : List ℕ → Option (ℕ × ℕ)) (x : Placed) (o : Option ContentFault) (f : Fault) → fault_with i known x o ≡ Some f → entry_place f ≡ Some x.at
told_place i known x (Some OutOfRange) f h = let same : faults.E1 i x.at ≡ f = cc in ap entry_place (sym same)
told_place i known x (Some WrongKind) f h = let same : faults.E2 i x.at ≡ f = cc in ap entry_place (sym same)
told_place i known x None f h = name_place i known x.at x.entry f h

-- what is told of an entry names its place
behind_place : (s : Super) (kind : Kind) (i : ℕ) (before : List Placed) (x : Placed) (f : Fault) → fault_behind s kind i before x ≡ Some f → entry_place f ≡ Some x.at
behind_place s kind i before x f h = told_place i (named (good_entries s kind before)) x (content_fault s kind x.entry) f h

-- a fault of entries names the place of one of them
fault_place : (s : Super) (kind : Kind) (i : ℕ) (entries : List Placed) (f : Fault) → IsEntryFault s kind i entries f → (x : Placed) × Contains entries x × (entry_place f ≡ Some x.at)
fault_place s kind i entries f h =
    let t = is_told s kind i entries f h in
    (t.x, subst (λ (es : List Placed). Contains es t.x) (sym t.stands.1) (Contains-append_right t.before (t.x ∷ t.stands.0) t.x (Contains-head t.x t.stands.0)), behind_place s kind i t.before t.x f t.told)

front_all : (P : ℕ → Type 0) (es : List Placed) (y : Placed) → AllByRecursion P (places_of (es ++ y ∷ [])) → AllByRecursion P (places_of es) × P y.at
front_all P [] y h = (tt, h.0)
front_all P (x ∷ es) y h = let rest = front_all P es y h.1 in ((h.0, rest.0), rest.1)

-- the last of entries at different places stands at none of the others'
last_apart : (es : List Placed) (y : Placed) → IsDistinct eqb (places_of (es ++ y ∷ [])) → IsDistinct eqb (places_of es) × ((z : Placed) → Contains es z → z.at ≡ y.at → ⊥)
unfolding IsDistinct
last_apart [] y d = (tt, λ z c same. omega (arith, c.1))
last_apart (x ∷ es) y d =
    let front = front_all (λ (b : ℕ). eqb x.at b ≡ false) es y d.0 in
    let rest = last_apart es y d.1 in (
      (front.0, rest.0),
      λ z c same. elim (Contains-cons x es z c) [
        | inl is ↦ true≢false (sym (eq-eqb x.at y.at (ap (λ (w : Placed). w.at) (sym is) ∙ same)) ∙ front.1)
        | inr later ↦ rest.1 z later same
      ],
    )

-- what is told of one entry more was told of none before
pub once-more : (s : Super) (kind : Kind) (i : ℕ) (entries : List Placed) (y : Placed) (found : List Fault) → Has (IsEntryFault s kind i entries) found
    → (IsDistinct eqb (places_of entries) → IsOnce found) → IsDistinct eqb (places_of (entries ++ y ∷ [])) → IsOnce (found ++ cons_option (fault_behind s kind i entries y) [])
once-more s kind i entries y found has once apart =
    let last = last_apart entries y apart in
    IsOnce-more found (fault_behind s kind i entries y) (once last.0) (λ f told c.
    let p = fault_place s kind i entries f (has.each f c) in
    let q = behind_place s kind i entries y f told in
    let same : p.0.at ≡ y.at = (let both : Some p.0.at ≡ Some y.at = sym p.2 ∙ q in cc) in
    last.1 p.0 p.1 same)

-- the fault of a log is none of its entries'
pub end_apart : (s : Super) (kind : Kind) (i : ℕ) (entries : List Placed) (end : Option LogEnd) (f : Fault) → fault_of_end i end ≡ Some f → IsEntryFault s kind i entries f → ⊥
end_apart s kind i entries end f told h =
    let p = fault_place s kind i entries f h in
    let clash : Some p.0.at ≡ None = sym p.2 ∙ no_place end told in
    cc
  where
    by_class : (c : LogFault) (at : ℕ) → entry_place (fault_by i c at) ≡ None
    by_class logs.L1 at = λ i. None
    by_class logs.L2 at = λ i. None
    by_class logs.L3 at = λ i. None
    by_class logs.L4 at = λ i. None

    no_place : (end : Option LogEnd) → fault_of_end i end ≡ Some f → entry_place f ≡ None
    no_place None e = absurd (cc)
    no_place (Some end) e = let same : fault_by i end.fault end.at ≡ f = cc in ap entry_place (sym same) ∙ by_class end.fault end.at

-- and neither is that of a head or tail
pub head_apart : (s : Super) (kind : Kind) (i : ℕ) (entries : List Placed) (f : Fault) → Some (faults.I3 i) ≡ Some f → IsEntryFault s kind i entries f → ⊥
head_apart s kind i entries f told h =
    let p = fault_place s kind i entries f h in
    let same : faults.I3 i ≡ f = cc in
    let clash : Some p.0.at ≡ None = sym p.2 ∙ ap entry_place (sym same) in
    cc

-- no two entries of an inode's log stand at one place
pub inode_apart : {R : Region} {l : Layout} {i a : ℕ} {log : Log} → IsInode R l i a log → IsDistinct eqb (places_of log.entries)
unfolding IsDistinct
inode_apart {R} {l} {i} {a} (right s k t r) = entries_apart (head_starts l.sup (word R (a + 16)) (word R (a + 24)) t) r
inode_apart (wrong s k t) = tt
