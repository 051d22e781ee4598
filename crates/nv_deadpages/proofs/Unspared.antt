-- Why a log can't do without a page.
use Rattle.std.proofs.Common.{◌≡◌, ◌/◌, ◌==◌, ◌⊎◌, inl, inr, ℕ, Bool, true, false, not, cond, List, ap, sym, ◌∙◌, subst, eq-eqb, eqb-true, Option, Some, None}
use Rattle.std.specs.List.{Contains, list_any}
use Rattle.std.proofs.lemmas.Map.Views.{Contains-from_any}
use Rattle.std.proofs.Math.Dec.{eqb}
use Rattle.std.specs.Cmp.Lexicographic.{pointwise}
use Rattle.std.specs.Prelude.{nat_eq}
use Rattle.nv_region.specs.Region.{Region}
use Rattle.nv_super.specs.declared.superblock.Super.{Super}
use Rattle.nv_super.proofs.Filters.{from_filter}
use Rattle.nv_entry.specs.declared.entry.Operation.{Operation}
use Rattle.nv_entry.specs.declared.entry.Operation.TheVariants.{Add, Remove}
use Rattle.nv_entry.specs.declared.entry.Entry.{Entry}
use Rattle.nv_entry.specs.declared.entry.Entry.TheVariants.{NextPage, Write, Attr, Name, Links}
use Rattle.nv_entry.specs.Content.{is_good}
use Rattle.nv_logpage.specs.declared.found.Placed.{Placed}
use Rattle.nv_logpage.specs.Good.{good_entries}
use Rattle.nv_logpage.specs.Unlinked.{without_page}
use Rattle.nv_names.specs.Names.{name_at}
use Rattle.nv_scan.specs.State.{named, named_by, name_in, says_name}
use Rattle.nv_deadpages.specs.Needed.{IsNeeded, AreNeeded}
use Rattle.nv_scan.specs.declared.piece.Row.{Row}
use Rattle.nv_scan.proofs.Blocks.{last_word-all}

-- ---- a name stands in the page

added_at : (at i : ℕ) (o : Operation) (v : ℕ × ℕ) → named_by at i o ≡ Some v → v.1 ≡ at
added_at at i Add v h = (let same : (i, at) ≡ v = cc in sym (ap (λ (z : ℕ × ℕ). z.1) same))
added_at at i Remove v h = absurd (cc)

-- an entry that gives a name gives it its own place
said_at : (q : List ℕ) (at : ℕ) (e : Entry) (v : ℕ × ℕ) → name_in q at e ≡ Some (Some v) → v.1 ≡ at
said_at q at (Name e) v h = by_test (pointwise nat_eq q e.name) h where
  by_test : (t : Bool) → cond t (Some (named_by at e.inode e.operation)) None ≡ Some (Some v) → v.1 ≡ at
  by_test true h = added_at at e.inode e.operation v (let same : named_by at e.inode e.operation ≡ Some v = cc in same)
  by_test false h = absurd (cc)
said_at q at NextPage v h = absurd (cc)
said_at q at (Write e) v h = absurd (cc)
said_at q at (Attr e) v h = absurd (cc)
said_at q at (Links e) v h = absurd (cc)

-- so one of the entries stands at the place of a name
named_stands : (xs : List Placed) (q : List ℕ) (v : ℕ × ℕ) → named xs q ≡ Some v → (x : Placed) × Contains xs x × (v.1 ≡ x.at)
named_stands xs q v h = last_word-all (says_name q) Stands None xs (λ w e. absurd (cc)) (λ x o c says w e. (x, c, said_at q x.at x.entry w (says ∙ ap Some e))) v h where
  Stands : Option (ℕ × ℕ) → Type 0
  Stands o = (w : ℕ × ℕ) → o ≡ Some w → (x : Placed) × Contains xs x × (w.1 ≡ x.at)

other_page : (t : Bool) → not t ≡ true → t ≡ true → ⊥
other_page true h e = absurd (cc)
other_page false h e = absurd (cc)

-- A log can't do without the page where the add of a name stands that the directory has: no other entry gives the name its place.
pub named_needed : (R : Region) (s : Super) (created : ℕ) (row : Row) (q : List ℕ) (i place : ℕ) → name_at row.names q ≡ Some (i, place) → IsNeeded R s created row (place / 4096)
named_needed R s created row q i place here es is go =
    let w = named_stands (good_entries s row.kind (without_page (place / 4096) es)) q (i, place) (go.same.names q ∙ sym (is.names q) ∙ here) in
    let kept = from_filter (λ (x : Placed). is_good s row.kind x.entry) (without_page (place / 4096) es) w.0 w.1 in
    let outside = from_filter (λ (x : Placed). not (x.at / 4096 == place / 4096)) es w.0 kept.0 in
    other_page (w.0.at / 4096 == place / 4096) outside.1 (eq-eqb (w.0.at / 4096) (place / 4096) (ap (λ (a : ℕ). a / 4096) (sym w.2)))

-- one page more
pub needed_more : (R : Region) (s : Super) (created : ℕ) (row : Row) (old new : List ℕ) (page : ℕ) → ((b : ℕ) → Contains new b → (b ≡ page) ⊎ Contains old b) → IsNeeded R s created row page → AreNeeded R s created row old → AreNeeded R s created row new
needed_more R s created row old new page only one all b c = elim (only b c) [ inl same ↦ subst (IsNeeded R s created row) (sym same) one | inr w ↦ all b w ]

-- a number that a list has
pub listed_in : (page : ℕ) (pages : List ℕ) → list_any (eqb page) pages ≡ true → Contains pages page
listed_in page pages h = Contains-from_any (λ x y e. eqb-true x y e) page pages h
