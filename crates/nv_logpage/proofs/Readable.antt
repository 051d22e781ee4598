-- Each log that begins at a data block is read in some way.
use Rattle.std.proofs.Common.{◌≡◌, ◌⊎◌, inl, inr, ℕ, zero, suc, ◌+◌, ◌-◌, ◌*◌, ◌/◌, ◌%◌, ◌≤◌, IsTrue, List, [], ◌∷◌, ◌++◌, length, refl, subst, arith, Option, Some, None}
use Rattle.std.proofs.lemmas.Bool.{cases_lt, ne_eqb}
use Rattle.std.proofs.lemmas.Bool.Decides.{eqb_tells}
use Rattle.std.proofs.lemmas.List.{length-append}
use Rattle.nv_region.specs.Region.{Region}
use Rattle.nv_super.specs.declared.superblock.Super.{Super}
use Rattle.nv_super.specs.Layout.{is_page_start}
use Rattle.nv_entry.specs.declared.entry.Entry.{Entry}
use Rattle.nv_entry.specs.Spelling.{Stands, entry_length}
use Rattle.nv_entry.proofs.Decided.{entry_or_none}
use Rattle.nv_entry.proofs.Same.{Stands-only, entry_length_words, entry_length_positive}
use Rattle.nv_logpage.specs.declared.found.LogEnd.{LogEnd}
use Rattle.nv_logpage.specs.declared.found.Placed.{Placed}
use Rattle.nv_logpage.specs.declared.found.Finding.{Finding}
use Rattle.nv_logpage.specs.declared.found.Finding.TheVariants as finds
use Rattle.nv_logpage.specs.DataBlocks.{AreDataBlocks}
use Rattle.nv_logpage.specs.Reads.{EntryAt, room_at, Finds, followed, found_with, link_of, Reads, ReadsOn, ends, reads, turns}
use Rattle.nv_logpage.proofs.DataBlocks.{one_page, one_more, few_data_blocks}
use Rattle.nv_logpage.proofs.Steps.{start_whole, Finds-entry, Finds-onward}

-- at each place an entry is spelled within its page, or none is
pub entry_at : (R : Region) (p : ℕ) → (here : Option Entry) × EntryAt R p here
entry_at R p = within (entry_or_none R p)
  where
    within : ((e : Entry) × Stands R p e) ⊎ ((e : Entry) → Stands R p e → ⊥) → (here : Option Entry) × EntryAt R p here
    within (inr none) = (None, λ e stands fits. none e stands)
    within (inl found) = elim (cases_lt (room_at p) (entry_length found.0)) [
      | inr fits ↦ (Some found.0, (found.1, fits))
      | inl long ↦ (None, λ e stands fits. absurd (let room : entry_length found.0 ≤ room_at p = subst (λ (f : Entry). entry_length f ≤ room_at p) (Stands-only R p e found.0 stands found.1) fits in omega (arith, long, room)))
    ]

-- it is read from here on in some way
abbrev pub IsReadFrom : Region → Super → ℕ → List ℕ → ℕ → Type 0
IsReadFrom R s tail pages p = (es : List Placed) × (all : List ℕ) × (fault : Option LogEnd) × ReadsOn R s tail pages p es all fault

module _ (R : Region) (s : Super) (tail : ℕ) where
  -- no more than n is left to be read
  abbrev Left : List ℕ → ℕ → ℕ → Type 0
  Left pages p n = 4096 * (s.blocks - length pages) + (4096 - p % 4096) ≤ n

  -- where no more than n is left, it is read
  abbrev IsReadWith : ℕ → Type 0
  IsReadWith n = (pages : List ℕ) (p : ℕ) → Left pages p n → AreDataBlocks s pages → p % 8 ≡ 0 → p % 4096 ≤ 4064 → IsReadFrom R s tail pages p

  -- at each place something is found
  found_at : (pages : List ℕ) (p : ℕ) → (found : Finding) × Finds R s tail pages p found
  found_at pages p = elim (eqb_tells p tail) [
    | inl at_tail ↦ (finds.End None, rw at_tail.0 refl)
    | inr before ↦ elim (eqb_tells (p % 4096) 4064) [
      | inl at_link ↦ (followed R s pages (link_of p), rw (ne_eqb p tail before.1, at_link.0) refl)
      | inr entry ↦ (let here = entry_at R p in (found_with R s tail pages p here.0, Finds-entry R s tail pages p _ before.1 entry.1 (here.0, here.1, refl)))
    ]
  ]

  read_entry : (pages : List ℕ) (p : ℕ) (x : Placed) → Finds R s tail pages p (finds.Entry x) → IsReadFrom R s tail pages (x.at + entry_length x.entry) → IsReadFrom R s tail pages p
  read_entry pages p x f r = (x ∷ r.0, r.1, r.2, reads f r.3)

  turn_page : (pages : List ℕ) (p next : ℕ) → Finds R s tail pages p (finds.Page next) → IsReadFrom R s tail (pages ++ next / 4096 ∷ []) next → IsReadFrom R s tail pages p
  turn_page pages p next f r = (r.0, r.1, r.2, turns f r.3)

  module _ (n : ℕ) (rest : IsReadWith n) (pages : List ℕ) (p : ℕ) (bound : Left pages p (suc n)) (are : AreDataBlocks s pages) (whole : p % 8 ≡ 0) (low : p % 4096 ≤ 4064) where
    -- so is one with more, by what is found at its place
    read_with : (found : Finding) → Finds R s tail pages p found → IsReadFrom R s tail pages p
    read_with (finds.End fault) f = ([], pages, fault, ends f)
    read_with (finds.Entry x) f =
        let goes = Finds-onward R s tail pages p (finds.Entry x) f in
        let here : x.at ≡ p = goes.0 in
        let fits : entry_length x.entry ≤ room_at p = goes.1 in
        let words : entry_length x.entry % 8 ≡ 0 = entry_length_words x.entry in
        let some : 8 ≤ entry_length x.entry = entry_length_positive x.entry in
        let offset : (x.at + entry_length x.entry) % 4096 ≡ p % 4096 + entry_length x.entry = omega (arith, here, fits, low) in
        read_entry pages p x f (rest pages (x.at + entry_length x.entry) (omega (arith, offset, bound, some, fits)) are (omega (arith, here, words, whole)) (omega (arith, offset, fits, low)))
    read_with (finds.Page next) f =
        let goes = Finds-onward R s tail pages p (finds.Page next) f in
        let start : next % 4096 ≡ 0 = start_whole s next goes.0 in
        let more = one_more s pages next are goes.0 goes.1 in
        let few = few_data_blocks s (pages ++ next / 4096 ∷ []) more in
        let longer : length (pages ++ next / 4096 ∷ []) ≡ length pages + 1 = length-append pages (next / 4096 ∷ []) in
        turn_page pages p next f (rest (pages ++ next / 4096 ∷ []) next (omega (arith, longer, few, bound, start, low)) more (omega (arith, start)) (omega (arith, start)))

  is_read : (n : ℕ) → IsReadWith n
  is_read zero pages p bound are whole low = absurd (omega (arith, bound, low))
  is_read (suc n) pages p bound are whole low = let found = found_at pages p in read_with n (is_read n) pages p bound are whole low found.0 found.1

-- a log that begins at a data block is read in some way
pub has_reading : (R : Region) (s : Super) (head tail : ℕ) → IsTrue (is_page_start s head) → (es : List Placed) × (pages : List ℕ) × (fault : Option LogEnd) × Reads R s head tail es pages fault
has_reading R s head tail start =
    let whole : head % 4096 ≡ 0 = start_whole s head start in
    is_read R s tail (4096 * s.blocks + 4096) (head / 4096 ∷ []) head (omega (arith, whole)) (one_page s head start) (omega (arith, whole)) (omega (arith, whole))
