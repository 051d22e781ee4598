-- The faults of entries, after one entry more.
use Rattle.std.proofs.Common.{◌≡◌, ◌⊎◌, inl, inr, ℕ, List, [], ◌∷◌, ◌++◌, refl, ap, sym, ◌∙◌, subst, Option, Some, None, append_assoc, append-nil, arith}
use Rattle.std.specs.List.{Contains, cons_option}
use Rattle.std.proofs.lemmas.List.Elements.{Contains-append_left, Contains-append_right, Contains-append_cases}
use Rattle.nv_super.proofs.Rising.{Contains-cons, Contains-head}
use Rattle.nv_super.specs.declared.superblock.Super.{Super}
use Rattle.nv_super.specs.declared.kind.Kind.{Kind}
use Rattle.nv_super.specs.declared.faults.Fault.{Fault}
use Rattle.nv_super.specs.declared.faults.Fault.TheVariants as faults
use Rattle.nv_super.proofs.Options.{some_is}
use Rattle.nv_entry.specs.declared.content.ContentFault.TheVariants.{OutOfRange, WrongKind}
use Rattle.nv_entry.specs.declared.content.ContentFault.{ContentFault}
use Rattle.nv_entry.specs.declared.entry.Operation.{Operation}
use Rattle.nv_entry.specs.declared.entry.Operation.TheVariants.{Add, Remove}
use Rattle.nv_entry.specs.declared.entry.NameEntry.{NameEntry}
use Rattle.nv_entry.specs.declared.entry.Entry.{Entry}
use Rattle.nv_entry.specs.declared.entry.Entry.TheVariants.{NextPage, Write, Attr, Name, Links}
use Rattle.nv_entry.specs.Content.{content_fault}
use Rattle.nv_logpage.specs.declared.found.Placed.{Placed}
use Rattle.nv_logpage.specs.Reads.{placed}
use Rattle.nv_logpage.specs.Good.{good_entries}
use Rattle.nv_scan.specs.State.{named}
use Rattle.nv_scan.specs.Faults.{Has, IsEntryFault, StandsBehind, e1, e2, e3, e4}
use Rattle.nv_scan.specs.Fold.{told, clash, name_fault, fault_with, entry_fault}

-- an element of a list with one more at its end is the one more, or stands in the list
pub split_last : {A : Type 0} (xs : List A) (y : A) (before : List A) (x : A) (after : List A) → xs ++ y ∷ [] ≡ before ++ x ∷ after
    → ((before ≡ xs) × (x ≡ y)) ⊎ StandsBehind xs before x
split_last [] y [] x after h = inl (refl, cc)
split_last {A} [] y (b ∷ bs) x after h =
    let tails : [] ≡ bs ++ x ∷ after = cc in
    absurd (none bs tails)
  where
    none : (bs : List A) → [] ≡ bs ++ x ∷ after → ⊥
    none [] h = cc
    none (b ∷ bs) h = cc
split_last {A} (e ∷ es) y [] x after h =
    let same : e ≡ x = cc in
    inr (es, ap (λ (z : A). z ∷ es) same)
split_last {A} (e ∷ es) y (b ∷ bs) x after h =
    let same : e ≡ b = cc in
    let tails : es ++ y ∷ [] ≡ bs ++ x ∷ after = cc in
    elim (split_last es y bs x after tails) [
      | inl w ↦ inl ((let front : bs ≡ es = w.0 in cc), w.1)
      | inr w ↦ inr (w.0, (let rest : es ≡ bs ++ x ∷ w.0 = w.1 in cc))
    ]

-- what stands in a list stands in it with one more at its end
pub stands_more : {A : Type 0} (xs : List A) (y : A) (before : List A) (x : A) → StandsBehind xs before x → StandsBehind (xs ++ y ∷ []) before x
stands_more {A} xs y before x w = (w.0 ++ y ∷ [], ap (λ (zs : List A). zs ++ y ∷ []) w.1 ∙ append_assoc before (x ∷ w.0) (y ∷ []))

-- what an entry's fault is, by all entries before it
abbrev pub fault_behind : Super → Kind → ℕ → List Placed → Placed → Option Fault
fault_behind s kind i before x = entry_fault s kind i (named (good_entries s kind before)) x

pub from_told : (s : Super) (kind : Kind) (i : ℕ) (entries before : List Placed) (x : Placed) (f : ContentFault) → StandsBehind entries before x → content_fault s kind x.entry ≡ Some f → IsEntryFault s kind i entries (told f i x.at)
from_told s kind i entries before x OutOfRange w h = e1 before x w h
from_told s kind i entries before x WrongKind w h = e2 before x w h

from_clash : (s : Super) (kind : Kind) (i : ℕ) (entries before : List Placed) (at : ℕ) (e : NameEntry) (f : Fault) → StandsBehind entries before (placed at (Name e)) → content_fault s kind (Name e) ≡ None
    → (op : Operation) → e.operation ≡ op → (old : Option (ℕ × ℕ)) → named (good_entries s kind before) e.name ≡ old → clash op i at old ≡ Some f → IsEntryFault s kind i entries f
from_clash s kind i entries before at e f w good Add p (Some old) n h = let same : faults.E3 i at ≡ f = cc in subst (IsEntryFault s kind i entries) same (e3 before at e old w good p n)
from_clash s kind i entries before at e f w good Add p None n h = absurd (cc)
from_clash s kind i entries before at e f w good Remove p (Some old) n h = absurd (cc)
from_clash s kind i entries before at e f w good Remove p None n h = let same : faults.E4 i at ≡ f = cc in subst (IsEntryFault s kind i entries) same (e4 before at e w good p n)

from_name : (s : Super) (kind : Kind) (i : ℕ) (entries before : List Placed) (at : ℕ) (e : Entry) (f : Fault) → StandsBehind entries before (placed at e) → content_fault s kind e ≡ None
    → name_fault i (named (good_entries s kind before)) at e ≡ Some f → IsEntryFault s kind i entries f
from_name s kind i entries before at (Name e) f w good h = from_clash s kind i entries before at e f w good e.operation refl (named (good_entries s kind before) e.name) refl h
from_name s kind i entries before at NextPage f w good h = absurd (cc)
from_name s kind i entries before at (Write e) f w good h = absurd (cc)
from_name s kind i entries before at (Attr e) f w good h = absurd (cc)
from_name s kind i entries before at (Links e) f w good h = absurd (cc)

from_with : (s : Super) (kind : Kind) (i : ℕ) (entries before : List Placed) (x : Placed) (f : Fault) → StandsBehind entries before x → (o : Option ContentFault) → content_fault s kind x.entry ≡ o
    → fault_with i (named (good_entries s kind before)) x o ≡ Some f → IsEntryFault s kind i entries f
from_with s kind i entries before x f w (Some t) p h = let same : told t i x.at ≡ f = cc in subst (IsEntryFault s kind i entries) same (from_told s kind i entries before x t w p)
from_with s kind i entries before x f w None p h = from_name s kind i entries before x.at x.entry f w p h

-- what is told of an entry is one of the faults
pub fault_is : (s : Super) (kind : Kind) (i : ℕ) (entries before : List Placed) (x : Placed) (f : Fault) → StandsBehind entries before x → fault_behind s kind i before x ≡ Some f → IsEntryFault s kind i entries f
fault_is s kind i entries before x f w h = from_with s kind i entries before x f w (content_fault s kind x.entry) refl h

-- an entry and what is told of it
pub record IsTold (s : Super) (kind : Kind) (i : ℕ) (entries : List Placed) (f : Fault) : Type 0 where
  pub before : List Placed
  pub x : Placed
  pub stands : StandsBehind entries before x
  pub told : fault_behind s kind i before x ≡ Some f

-- each fault is told of an entry
pub is_told : (s : Super) (kind : Kind) (i : ℕ) (entries : List Placed) (f : Fault) → IsEntryFault s kind i entries f → IsTold s kind i entries f
is_told s kind i entries _ (e1 before x w h) = record { before = before; x = x; stands = w; told = rw h refl }
is_told s kind i entries _ (e2 before x w h) = record { before = before; x = x; stands = w; told = rw h refl }
is_told s kind i entries _ (e3 before at e old w good op n) = record { before = before; x = placed at (Name e); stands = w; told = rw (good, op, n) refl }
is_told s kind i entries _ (e4 before at e w good op n) = record { before = before; x = placed at (Name e); stands = w; told = rw (good, op, n) refl }

-- the faults of the entries so far stay
pub fault_stays : (s : Super) (kind : Kind) (i : ℕ) (entries : List Placed) (y : Placed) (f : Fault) → IsEntryFault s kind i entries f → IsEntryFault s kind i (entries ++ y ∷ []) f
fault_stays s kind i entries y f h =
    let t = is_told s kind i entries f h in
    fault_is s kind i (entries ++ y ∷ []) t.before t.x f (stands_more entries y t.before t.x t.stands) t.told

-- a fault with one entry more is one of before, or is told of that entry
pub fault_more : (s : Super) (kind : Kind) (i : ℕ) (entries : List Placed) (y : Placed) (f : Fault) → IsEntryFault s kind i (entries ++ y ∷ []) f
    → IsEntryFault s kind i entries f ⊎ (fault_behind s kind i entries y ≡ Some f)
fault_more s kind i entries y f h =
    let t = is_told s kind i (entries ++ y ∷ []) f h in
    elim (split_last entries y t.before t.x t.stands.0 t.stands.1) [
      | inl w ↦ inr (ap (λ (zs : List Placed). fault_behind s kind i zs y) (sym w.0) ∙ ap (fault_behind s kind i t.before) (sym w.1) ∙ t.told)
      | inr w ↦ inl (fault_is s kind i entries t.before t.x f w t.told)
    ]

nothing_before : {A : Type 0} (before : List A) (x : A) (after : List A) → [] ≡ before ++ x ∷ after → ⊥
nothing_before [] x after h = cc
nothing_before (b ∷ before) x after h = cc

-- the list of what is found, after what is told of one entry more
pub found-more : (s : Super) (kind : Kind) (i : ℕ) (entries : List Placed) (y : Placed) (found : List Fault) (o : Option Fault) → fault_behind s kind i entries y ≡ o
    → Has (IsEntryFault s kind i entries) found → Has (IsEntryFault s kind i (entries ++ y ∷ [])) (found ++ cons_option o [])
found-more s kind i entries y found None told has = rw append-nil record {
  each = λ f c. fault_stays s kind i entries y f (has.each f c);
  all = λ f h. elim (fault_more s kind i entries y f h) [
    | inl w ↦ has.all f w
    | inr w ↦ absurd (none_some f (sym told ∙ w))
  ];
}
  where
    none_some : (f : Fault) → None ≡ Some f → ⊥
    none_some f h = cc
found-more s kind i entries y found (Some t) told has = record {
  each = λ f c. elim (Contains-append_cases found (t ∷ []) f c) [
    | inl w ↦ fault_stays s kind i entries y f (has.each f w)
    | inr w ↦ elim (Contains-cons t [] f w) [
      | inl same ↦ subst (IsEntryFault s kind i (entries ++ y ∷ [])) (sym same) (fault_is s kind i (entries ++ y ∷ []) entries y t ([], refl) told)
      | inr v ↦ absurd (omega (arith, v.1))
    ]
  ];
  all = λ f h. elim (fault_more s kind i entries y f h) [
    | inl w ↦ Contains-append_left found (t ∷ []) f (has.all f w)
    | inr w ↦ Contains-append_right found (t ∷ []) f (subst (Contains (t ∷ [])) (some_is t f (fault_behind s kind i entries y) told w) (Contains-head t []))
  ];
}

-- nothing is wrong where nothing was read
pub found-none : (s : Super) (kind : Kind) (i : ℕ) → Has (IsEntryFault s kind i []) []
found-none s kind i = record {
  each = λ f c. absurd (omega (arith, c.1));
  all = λ f h. (let t = is_told s kind i [] f h in absurd (nothing_before t.before t.x t.stands.0 t.stands.1));
}
