-- Each page of a log is a block that the links lead to from its head.
use Rattle.std.proofs.Common.{◌≡◌, ◌≢◌, inl, inr, ℕ, ◌+◌, ◌-◌, ◌*◌, ◌/◌, ◌%◌, ◌≤◌, true, List, [], ap, sym, ◌∙◌, subst, arith, Option}
use Rattle.std.specs.List.{Contains}
use Rattle.nv_region.specs.Region.{Region, word}
use Rattle.nv_super.specs.declared.superblock.Super.{Super}
use Rattle.nv_super.specs.Layout.{is_page_start}
use Rattle.nv_super.proofs.Members.{none_in}
use Rattle.nv_entry.specs.Spelling.{entry_length}
use Rattle.nv_logpage.specs.declared.found.LogEnd.{LogEnd}
use Rattle.nv_logpage.specs.declared.found.Placed.{Placed}
use Rattle.nv_logpage.specs.declared.found.Finding.TheVariants as finds
use Rattle.nv_logpage.specs.Reads.{ReadsOn, Reads, ends, reads, turns, link_of, room_at}
use Rattle.nv_logpage.proofs.DataBlocks.{contains_snoc}
use Rattle.nv_logpage.proofs.Steps.{start_whole, Finds-onward}
use Rattle.nv_metadata.specs.Linked.{IsLinked, first, next, link_in}
use Rattle.nv_logpage.proofs.Turned.{IsBefore, page_turns, entry_before}

module _ (R : Region) (s : Super) (head tail : ℕ) (offset : tail % 4096 ≤ 4064) where
  turned : (p a : ℕ) → IsLinked R s head tail (p / 4096) → p / 4096 ≢ tail / 4096 → word R (link_of p) ≡ a → is_page_start s (word R (link_of p)) ≡ true → IsLinked R s head tail (a / 4096)
  turned p a linked apart is start =
      let at : link_of p ≡ 4096 * (p / 4096) + 4064 = omega arith in
      let here : word R (link_of p) ≡ link_in R (p / 4096) = ap (word R) at in
      subst (λ (w : ℕ). IsLinked R s head tail (w / 4096)) (sym here ∙ is) (next linked apart (ap (is_page_start s) (sym here) ∙ start))

  linked_on : {pages : List ℕ} {p : ℕ} {es : List Placed} {all : List ℕ} {fault : Option LogEnd} → IsLinked R s head tail (p / 4096) → IsBefore tail p
      → ((b : ℕ) → Contains pages b → IsLinked R s head tail b) → ReadsOn R s tail pages p es all fault → (b : ℕ) → Contains all b → IsLinked R s head tail b
  linked_on linked before known (ends f) = known
  linked_on {pages} {p} linked before known (reads {x = x} f r) =
      let goes = Finds-onward R s tail pages p (finds.Entry x) f in
      let here : x.at ≡ p = goes.0 in
      let fits : entry_length x.entry ≤ room_at p = goes.1 in
      let page : p / 4096 ≡ (x.at + entry_length x.entry) / 4096 = page_stays x.at p (entry_length x.entry) here fits in
      linked_on (subst (λ (b : ℕ). IsLinked R s head tail b) page linked)
      (λ same. (let low = entry_before R s tail pages p x before f (page ∙ same) in omega (arith, low, here))) known r
    where
      page_stays : (at p n : ℕ) → at ≡ p → n ≤ 4064 - p % 4096 → p / 4096 ≡ (at + n) / 4096
      page_stays at p n here fits = omega arith
  linked_on {pages} {p} linked before known (turns {next = a} f r) =
      let t = page_turns R s tail pages p a offset before f in
      let goes = Finds-onward R s tail pages p (finds.Page a) f in
      let whole : a % 4096 ≡ 0 = start_whole s a goes.0 in
      let there : IsLinked R s head tail (a / 4096) = turned p a linked t.1 t.0.word_is t.0.start in
      linked_on there (λ same. omega (arith, whole, same))
      (λ b c. elim (contains_snoc pages (a / 4096) b c) [ inl old ↦ known b old | inr new ↦ subst (λ (x : ℕ). IsLinked R s head tail x) (sym new) there ]) r

  -- all pages of a log
  pub log_pages_linked : {es : List Placed} {pages : List ℕ} {fault : Option LogEnd} → head % 4096 ≡ 0 → Reads R s head tail es pages fault → (b : ℕ) → Contains pages b → IsLinked R s head tail b
  log_pages_linked start r = linked_on first (λ same. omega (arith, start, same)) (λ b c. elim (contains_snoc [] (head / 4096) b c) [ inl none ↦ absurd (none_in b none) | inr new ↦ subst (λ (x : ℕ). IsLinked R s head tail x) (sym new) first ]) r
