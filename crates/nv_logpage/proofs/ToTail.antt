-- A log is read from its own pages alone, and from that of its tail up to where an entry can end that begins before the tail.
use Rattle.std.proofs.Common.{◌≡◌, ℕ, ◌+◌, ◌/◌, ◌%◌, ◌<◌, ◌≤◌, ◌==◌, ◌&&◌, ◌||◌, Bool, true, false, List, ◌∷◌, [], refl, sym, ◌∙◌, subst, arith, cond, Option, Some, None, MatchBool, eqb, nat_lt, eqb-true}
use Rattle.std.specs.List.{Contains}
use Rattle.std.proofs.lemmas.Bool.Decides.{nat_tests}
use Rattle.std.proofs.lemmas.List.Elements.{Contains-append_left}
use Rattle.nv_region.specs.Region.{Region, word}
use Rattle.nv_super.specs.declared.superblock.Super.{Super}
use Rattle.nv_entry.specs.declared.entry.Entry.{Entry}
use Rattle.nv_entry.specs.declared.entry.Entry.TheVariants.{NextPage, Write, Attr, Name, Links}
use Rattle.nv_entry.specs.Spelling.{Stands, entry_length}
use Rattle.nv_entry.proofs.Same.{Stands-same, SameWords, entry_length_words, entry_length_positive}
use Rattle.nv_logpage.specs.declared.found.Finding.{Finding}
use Rattle.nv_logpage.specs.declared.found.Finding.TheVariants as finds
use Rattle.nv_logpage.specs.declared.found.LogEnd.{LogEnd}
use Rattle.nv_logpage.specs.declared.found.LogFault.TheVariants as logs
use Rattle.nv_logpage.specs.declared.found.Placed.{Placed}
use Rattle.nv_logpage.specs.Reads.{EntryAt, Finds, ReadsOn, ended, ends, followed, found_with, is_next_page, link_of, placed, reads, room_at, turns}
use Rattle.nv_logpage.specs.ToTail.{SameToTail}
use Rattle.nv_logpage.proofs.Local.{Contains-last, pages_stay}
use Rattle.nv_logpage.proofs.Steps.{Finds-onward, start_whole}
use Rattle.nv_logpage.proofs.Turned.{IsBefore, entry_before}

-- a name has at most 255 bytes
entry_short : (R : Region) (p : ℕ) (e : Entry) → Stands R p e → entry_length e ≤ 280
entry_short R p NextPage s = omega arith
entry_short R p (Write e) s = omega arith
entry_short R p (Attr e) s = omega arith
entry_short R p (Name e) s = (let few = s.is_name.fits in omega (arith, few))
entry_short R p (Links e) s = omega arith

module _ (R R' : Region) (tail p : ℕ) (same : SameToTail tail R R' (p / 4096)) (whole : p % 8 ≡ 0) (offset : p % 4096 ≤ 4064) where
  -- the words of an entry that begins before the tail
  entry_words : (n : ℕ) → (p / 4096 ≡ tail / 4096 → p < tail) → n ≤ room_at p → n ≤ 280 → SameWords R p R' p n
  entry_words n before fits short d d_whole below = same (p + d) (omega (arith, whole, d_whole)) (omega (arith, offset, fits, below)) (λ here. (let low = before here in omega (arith, low, below, short)))

  entry_words_back : (n : ℕ) → (p / 4096 ≡ tail / 4096 → p < tail) → n ≤ room_at p → n ≤ 280 → SameWords R' p R p n
  entry_words_back n before fits short d d_whole below = sym (entry_words n before fits short d d_whole below)

  here_too : (here : Option Entry) → (p / 4096 ≡ tail / 4096 → p < tail) → EntryAt R p here → EntryAt R' p here
  here_too (Some e) before h = (Stands-same R R' p p e (entry_words (entry_length e) before h.1 (entry_short R p e h.0)) h.0, h.1)
  here_too None before h = λ e s fits. h e (Stands-same R' R p p e (entry_words_back (entry_length e) before fits (entry_short R' p e s)) s) fits

  -- the link of a page, where it isn't the tail's, or where the place stands at the link
  link_too : (s : Super) (pages : List ℕ) → (p / 4096 ≡ tail / 4096 → link_of p ≤ tail) → followed R s pages (link_of p) ≡ followed R' s pages (link_of p)
  link_too s pages before =
      let e : word R' (link_of p) ≡ word R (link_of p) = same (link_of p) (omega arith) (omega arith) (λ here. (let low = before here in omega (arith, low))) in
      rw e refl

  -- in the tail's page an entry that leads to another page passes the tail
  with_link : (in_tail leads over : Bool) (stops follow follow' entry : Finding) → (in_tail ≡ false → follow ≡ follow')
      → cond (in_tail && (leads || over)) stops (cond leads follow entry) ≡ cond (in_tail && (leads || over)) stops (cond leads follow' entry)
  with_link true true over stops follow follow' entry h = refl
  with_link true false over stops follow follow' entry h = refl
  with_link false true over stops follow follow' entry h = h refl
  with_link false false over stops follow follow' entry h = refl

  found_too : (s : Super) (pages : List ℕ) (here : Option Entry) → found_with R s tail pages p here ≡ found_with R' s tail pages p here
  found_too s pages None = refl
  found_too s pages (Some e) = with_link (p / 4096 == tail / 4096) (is_next_page e) (nat_lt tail (p + entry_length e)) (ended logs.L4 p) (followed R s pages (link_of p)) (followed R' s pages (link_of p)) (finds.Entry (placed p e))
      (λ apart. link_too s pages (λ is. absurd (grind (apart, is, nat_tests, arith))))

  bools : (b : Bool) (A B A' B' : Type 0) → (b ≡ true → A → A') → (b ≡ false → B → B') → MatchBool b A B → MatchBool b A' B'
  bools true A B A' B' f g h = f refl h
  bools false A B A' B' f g h = g refl h

  before_tail : IsBefore tail p → eqb p tail ≡ false → p / 4096 ≡ tail / 4096 → p < tail
  before_tail before apart here = (let low = before here in grind (apart, low, nat_tests, arith))

  at_link : eqb (p % 4096) 4064 ≡ true → IsBefore tail p → p / 4096 ≡ tail / 4096 → link_of p ≤ tail
  at_link is before here = (let e : p % 4096 ≡ 4064 = eqb-true (p % 4096) 4064 is in let low = before here in omega (arith, e, low))

  -- the same is found there
  finds_too : (s : Super) (pages : List ℕ) (found : Finding) → IsBefore tail p → Finds R s tail pages p found → Finds R' s tail pages p found
  finds_too s pages found before =
      bools (eqb p tail) _ _ _ _ (λ _ h. h)
      (λ apart. bools (eqb (p % 4096) 4064) _ _ _ _ (λ is h. h ∙ link_too s pages (at_link is before))
      (λ _ h. (h.0, here_too h.0 (before_tail before apart) h.1, h.2 ∙ found_too s pages h.0)))

-- regions with the same words in all the log's pages, in that of the tail up to it, have the same log
pub ReadsOn-to_tail : {R : Region} {s : Super} {tail : ℕ} {pages : List ℕ} {p : ℕ} {es : List Placed} {all : List ℕ} {fault : Option LogEnd} (R' : Region)
    → ((b : ℕ) → Contains all b → SameToTail tail R R' b) → Contains pages (p / 4096) → IsBefore tail p → p % 8 ≡ 0 → p % 4096 ≤ 4064 → ReadsOn R s tail pages p es all fault → ReadsOn R' s tail pages p es all fault
ReadsOn-to_tail {R} {s} {tail} {pages} {p} R' same in_pages before whole offset (ends f) = ends (finds_too R R' tail p (same (p / 4096) in_pages) whole offset s pages _ before f)
ReadsOn-to_tail {R} {s} {tail} {pages} {p} R' same in_pages before whole offset (reads {x = x} f r) =
    let goes = Finds-onward R s tail pages p (finds.Entry x) f in
    let here : x.at ≡ p = goes.0 in
    let fits : entry_length x.entry ≤ room_at p = goes.1 in
    let words : entry_length x.entry % 8 ≡ 0 = entry_length_words x.entry in
    let some : 8 ≤ entry_length x.entry = entry_length_positive x.entry in
    let page : p / 4096 ≡ (x.at + entry_length x.entry) / 4096 = omega arith in
    let whole' : (x.at + entry_length x.entry) % 8 ≡ 0 = omega arith in
    let offset' : (x.at + entry_length x.entry) % 4096 ≤ 4064 = omega arith in
    reads (finds_too R R' tail p (same (p / 4096) (pages_stay r (p / 4096) in_pages)) whole offset s pages _ before f)
    (ReadsOn-to_tail R' same (subst (λ (b : ℕ). Contains pages b) page in_pages) (λ is. (let low = entry_before R s tail pages p x before f (page ∙ is) in omega (arith, low, here))) whole' offset' r)
ReadsOn-to_tail {R} {s} {tail} {pages} {p} R' same in_pages before whole offset (turns {next = next} f r) =
    let goes = Finds-onward R s tail pages p (finds.Page next) f in
    let start : next % 4096 ≡ 0 = start_whole s next goes.0 in
    turns (finds_too R R' tail p (same (p / 4096) (pages_stay r (p / 4096) (Contains-append_left pages (next / 4096 ∷ []) (p / 4096) in_pages))) whole offset s pages _ before f)
    (ReadsOn-to_tail R' same (Contains-last pages (next / 4096)) (λ is. omega (arith, start, is)) (omega (arith, start)) (omega (arith, start)) r)
