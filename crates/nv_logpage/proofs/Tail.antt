-- A log that ends at its tail ends in one of its pages.
use Rattle.std.proofs.Common.{◌≡◌, ℕ, ◌+◌, ◌/◌, ◌%◌, ◌≤◌, IsTrue, List, refl, subst, arith, Option, None}
use Rattle.std.specs.List.{Contains}
use Rattle.nv_region.specs.Region.{Region}
use Rattle.nv_super.specs.declared.superblock.Super.{Super}
use Rattle.nv_super.specs.Layout.{is_page_start}
use Rattle.nv_entry.specs.Spelling.{entry_length}
use Rattle.nv_entry.proofs.Same.{entry_length_words, entry_length_positive}
use Rattle.nv_logpage.specs.declared.found.LogEnd.{LogEnd}
use Rattle.nv_logpage.specs.declared.found.Placed.{Placed}
use Rattle.nv_logpage.specs.declared.found.Finding.TheVariants as finds
use Rattle.nv_logpage.specs.Reads.{Finds, ReadsOn, Reads, room_at, ends, reads, turns}
use Rattle.nv_logpage.proofs.Local.{Contains-last}
use Rattle.nv_logpage.proofs.Longer.{at_the_tail}
use Rattle.nv_logpage.proofs.Steps.{start_whole, Finds-onward}

-- the tail's page is one of all pages, where the place's page is one of those that were read
pub tail_in : {R : Region} {s : Super} {tail : ℕ} {pages : List ℕ} {p : ℕ} {es : List Placed} {all : List ℕ} {fault : Option LogEnd} → fault ≡ None
    → Contains pages (p / 4096) → p % 8 ≡ 0 → p % 4096 ≤ 4064 → ReadsOn R s tail pages p es all fault → Contains all (tail / 4096)
tail_in {R} {s} {tail} {pages} {p} none in_pages whole offset (ends f) =
    let e : p ≡ tail = at_the_tail R s tail pages p (subst (λ (x : Option LogEnd). Finds R s tail pages p (finds.End x)) none f) in
    subst (λ (q : ℕ). Contains pages (q / 4096)) e in_pages
tail_in {R} {s} {tail} {pages} {p} none in_pages whole offset (reads {x = x} f r) =
    let goes = Finds-onward R s tail pages p (finds.Entry x) f in
    let here : x.at ≡ p = goes.0 in
    let fits : entry_length x.entry ≤ room_at p = goes.1 in
    let words : entry_length x.entry % 8 ≡ 0 = entry_length_words x.entry in
    let some : 8 ≤ entry_length x.entry = entry_length_positive x.entry in
    let page : p / 4096 ≡ (x.at + entry_length x.entry) / 4096 = omega arith in
    tail_in none (subst (λ (b : ℕ). Contains pages b) page in_pages) (omega arith) (omega arith) r
tail_in {R} {s} {tail} {pages} {p} none in_pages whole offset (turns {next = next} f r) =
    let goes = Finds-onward R s tail pages p (finds.Page next) f in
    let start : next % 4096 ≡ 0 = start_whole s next goes.0 in
    tail_in none (Contains-last pages (next / 4096)) (omega arith) (omega arith) r

-- the tail's page is one of the log's
pub tail_page : {R : Region} {s : Super} {head tail : ℕ} {es : List Placed} {pages : List ℕ} → IsTrue (is_page_start s head) → Reads R s head tail es pages None → Contains pages (tail / 4096)
tail_page {R} {s} {head} {tail} starts r =
    let start : head % 4096 ≡ 0 = start_whole s head starts in
    tail_in refl (0, omega arith, refl) (omega (arith, start)) (omega (arith, start)) r
