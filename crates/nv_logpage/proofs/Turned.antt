-- Where a log goes on from a page, and that it doesn't from its tail's page.
use Rattle.std.proofs.Common.{◌≡◌, ◌≢◌, ℕ, ◌+◌, ◌/◌, ◌%◌, ◌≤◌, Bool, true, false, ◌&&◌, ◌||◌, ◌==◌, List, refl, arith, cond, MatchBool, Option, Some, None, eqb, nat_lt, eqb-true}
use Rattle.std.specs.List.{list_any}
use Rattle.std.proofs.lemmas.Bool.Decides.{nat_tests}
use Rattle.nv_region.specs.Region.{Region, word}
use Rattle.nv_super.specs.declared.superblock.Super.{Super}
use Rattle.nv_super.specs.Layout.{is_page_start}
use Rattle.nv_entry.specs.declared.entry.Entry.{Entry}
use Rattle.nv_entry.specs.Spelling.{entry_length}
use Rattle.nv_logpage.specs.declared.found.Finding.TheVariants as finds
use Rattle.nv_logpage.specs.declared.found.LogFault.TheVariants as logs
use Rattle.nv_logpage.specs.declared.found.Placed.{Placed}
use Rattle.nv_logpage.specs.Reads.{Finds, ended, followed, found_with, is_next_page, link_of, passes_tail, placed}

-- a link leads where its word says, to the start of a data block
followed_word : (s : Super) (w at next : ℕ) (b c : Bool) → is_page_start s w ≡ b → cond b (cond c (ended logs.L2 at) (finds.Page w)) (ended logs.L1 at) ≡ finds.Page next → (w ≡ next) × (is_page_start s w ≡ true)
followed_word s w at next true true e h = absurd (cc)
followed_word s w at next true false e h = (let same : w ≡ next = cc in same, e)
followed_word s w at next false c e h = absurd (cc)

-- a place isn't at the tail, nor behind it in its page
abbrev pub IsBefore : ℕ → ℕ → Type 0
IsBefore tail p = p / 4096 ≡ tail / 4096 → p ≤ tail

module _ (R : Region) (s : Super) (tail : ℕ) (pages : List ℕ) (p : ℕ) where
  -- what a page that is turned to says of the link that leads to it
  pub record Turns (next : ℕ) : Type 0 where
    pub word_is : word R (link_of p) ≡ next
    pub start : is_page_start s (word R (link_of p)) ≡ true

  link_turns : (next : ℕ) → followed R s pages (link_of p) ≡ finds.Page next → Turns next
  link_turns next h = (let w = followed_word s (word R (link_of p)) (link_of p) next (is_page_start s (word R (link_of p))) (list_any (eqb (word R (link_of p) / 4096)) pages) refl h in record { word_is = w.0; start = w.1 })

  entry_turns : (e : Entry) (next : ℕ) (b c : Bool) → passes_tail tail p e ≡ b → is_next_page e ≡ c
      → cond b (ended logs.L4 p) (cond c (followed R s pages (link_of p)) (finds.Entry (placed p e))) ≡ finds.Page next → Turns next × (p / 4096 ≢ tail / 4096)
  entry_turns e next true c passes leads h = absurd (cc)
  entry_turns e next false true passes leads h = (link_turns next h, λ same. elsewhere (p / 4096) (tail / 4096) (is_next_page e) (nat_lt tail (p + entry_length e)) leads passes same)
    where
      elsewhere : (a b : ℕ) (leads over : Bool) → leads ≡ true → ((a == b) && (leads || over)) ≡ false → a ≡ b → ⊥
      elsewhere a b leads over e h same = grind (arith, nat_tests)
  entry_turns e next false false passes leads h = absurd (cc)

  found_turns : (here : Option Entry) (next : ℕ) → found_with R s tail pages p here ≡ finds.Page next → Turns next × (p / 4096 ≢ tail / 4096)
  found_turns None next h = absurd (cc)
  found_turns (Some e) next h = entry_turns e next (passes_tail tail p e) (is_next_page e) refl refl h

  entry_stays : (e : Entry) (x : Placed) (b c : Bool) → passes_tail tail p e ≡ b → followed R s pages (link_of p) ≢ finds.Entry x
      → cond b (ended logs.L4 p) (cond c (followed R s pages (link_of p)) (finds.Entry (placed p e))) ≡ finds.Entry x → (placed p e ≡ x) × (passes_tail tail p e ≡ false)
  entry_stays e x true c passes not_link h = absurd (cc)
  entry_stays e x false true passes not_link h = absurd (not_link h)
  entry_stays e x false false passes not_link h = (let same : placed p e ≡ x = cc in same, passes)

  link_is_no_entry : (x : Placed) → followed R s pages (link_of p) ≢ finds.Entry x
  link_is_no_entry x h = by (is_page_start s (word R (link_of p))) (list_any (eqb (word R (link_of p) / 4096)) pages) h where
    by : (b c : Bool) → cond b (cond c (ended logs.L2 (link_of p)) (finds.Page (word R (link_of p)))) (ended logs.L1 (link_of p)) ≡ finds.Entry x → ⊥
    by true true h = cc
    by true false h = cc
    by false c h = cc

  found_stays : (here : Option Entry) (x : Placed) → found_with R s tail pages p here ≡ finds.Entry x → (e : Entry) × (placed p e ≡ x) × (passes_tail tail p e ≡ false)
  found_stays None x h = absurd (cc)
  found_stays (Some e) x h = (let r = entry_stays e x (passes_tail tail p e) (is_next_page e) refl (link_is_no_entry x) h in (e, r.0, r.1))

  choose : (b : Bool) (A B C : Type 0) → MatchBool b A B → (b ≡ true → A → C) → (b ≡ false → B → C) → C
  choose true A B C h f g = f refl h
  choose false A B C h f g = g refl h

  -- a page is turned by the link, and not from the tail's page
  pub page_turns : (next : ℕ) → tail % 4096 ≤ 4064 → IsBefore tail p → Finds R s tail pages p (finds.Page next) → Turns next × (p / 4096 ≢ tail / 4096)
  page_turns next offset before f =
      choose (eqb p tail) _ _ (Turns next × (p / 4096 ≢ tail / 4096)) f (λ _ e. absurd (cc))
      (λ apart k. choose (eqb (p % 4096) 4064) _ _ (Turns next × (p / 4096 ≢ tail / 4096)) k (λ at_link e. (link_turns next (let h : followed R s pages (link_of p) ≡ finds.Page next = cc in h), λ same. no_room apart at_link (before same) same))
      (λ _ m. found_turns m.0 next (let h : found_with R s tail pages p m.0 ≡ finds.Page next = (let e = m.2 in cc) in h)))
    where
      no_room : eqb p tail ≡ false → eqb (p % 4096) 4064 ≡ true → p ≤ tail → p / 4096 ≡ tail / 4096 → ⊥
      no_room apart at_link low same = (let e : p % 4096 ≡ 4064 = eqb-true (p % 4096) 4064 at_link in let here : p ≡ tail = omega (arith, e, low, same, offset) in grind (arith, nat_tests))

  -- an entry of the tail's page ends at the tail or before it
  pub entry_before : (x : Placed) → IsBefore tail p → Finds R s tail pages p (finds.Entry x) → p / 4096 ≡ tail / 4096 → p + entry_length x.entry ≤ tail
  entry_before x before f same =
      choose (eqb p tail) _ _ (p + entry_length x.entry ≤ tail) f (λ _ e. absurd (cc))
      (λ _ k. choose (eqb (p % 4096) 4064) _ _ (p + entry_length x.entry ≤ tail) k (λ _ e. absurd (link_is_no_entry x (let h : followed R s pages (link_of p) ≡ finds.Entry x = cc in h)))
      (λ _ m. (let found = found_stays m.0 x (let h : found_with R s tail pages p m.0 ≡ finds.Entry x = (let e = m.2 in cc) in h) in ends found.0 found.1 found.2)))
    where
      low : (a b t n : ℕ) (leads : Bool) → ((a == b) && (leads || nat_lt t n)) ≡ false → a ≡ b → n ≤ t
      low a b t n leads h same = grind (arith, nat_tests)

      ends : (e : Entry) → placed p e ≡ x → passes_tail tail p e ≡ false → p + entry_length x.entry ≤ tail
      ends e is not = (let here = low (p / 4096) (tail / 4096) tail (p + entry_length e) (is_next_page e) not same in let long : entry_length e ≡ entry_length x.entry = (λ i. entry_length ((is i).entry)) in omega (arith, here, long))
