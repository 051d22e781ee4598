-- What was laid is read.
use Rattle.std.proofs.Common.{◌≡◌, ◌≢◌, ℕ, zero, suc, ◌+◌, ◌*◌, ◌/◌, ◌%◌, ◌<◌, ◌≤◌, Bool, true, false, ◌⊎◌, inl, inr, List, [], ◌∷◌, ◌++◌, length, get_or, take, refl, ap, sym, ◌∙◌, subst, arith, cond, None, append_assoc}
use Rattle.std.specs.List.{list_any}
use Rattle.std.proofs.lemmas.Bool.Decides.{eqb_tells, nat_tests}
use Rattle.std.proofs.lemmas.Bool.{cases_eq}
use Rattle.std.proofs.Math.Dec.{eqb}
use Rattle.nv_region.specs.Region.{Region, word}
use Rattle.nv_super.specs.declared.superblock.Super.{Super}
use Rattle.nv_super.specs.Layout.{is_page_start}
use Rattle.nv_entry.specs.declared.entry.Entry.{Entry}
use Rattle.nv_entry.specs.declared.entry.Entry.TheVariants.{NextPage}
use Rattle.nv_entry.specs.Spelling.{Stands, entry_length}
use Rattle.nv_entry.proofs.Same.{entry_length_words, entry_length_positive}
use Rattle.nv_logpage.specs.declared.found.Finding.TheVariants as finds
use Rattle.nv_logpage.specs.Reads.{is_next_page, placed, room_at, Finds, followed, link_of, ReadsOn, ends, reads, turns}
use Rattle.nv_logpage.specs.Append.{AllDiffer, Laid, Linked, appended, end_of, fits_at, needed}
use Rattle.nv_logpage.specs.Writing.{FitPages}
use Rattle.nv_logpage.proofs.Longer.{eqb_yes, entry_found, page_found, before_tail, other_page}

-- Where the last entry ends: in the last page that is used, and behind the place.
abbrev pub EndsWhere : List ℕ → ℕ → List Entry → ℕ → ℕ → Type 0
EndsWhere fresh first es k p = (end_of fresh k p es / 4096 ≡ get_or (first ∷ fresh) (k + needed (p % 4096) es) 0) × (needed (p % 4096) es ≡ 0 → p ≤ end_of fresh k p es)

ends_by : (fresh : List ℕ) (first k p : ℕ) (e : Entry) (es : List Entry) → p / 4096 ≡ get_or (first ∷ fresh) k 0 → entry_length e ≤ 4064
    → ((k p : ℕ) → p / 4096 ≡ get_or (first ∷ fresh) k 0 → p % 4096 ≤ 4064 → EndsWhere fresh first es k p) → (t : Bool) → fits_at p e ≡ t
    → (end_of fresh (cond t k (suc k)) (cond t p (4096 * get_or fresh k 0) + entry_length e) es / 4096 ≡ get_or (first ∷ fresh) (k + cond t (needed (p % 4096 + entry_length e) es) (suc (needed (entry_length e) es))) 0)
    × (cond t (needed (p % 4096 + entry_length e) es) (suc (needed (entry_length e) es)) ≡ 0 → p ≤ end_of fresh (cond t k (suc k)) (cond t p (4096 * get_or fresh k 0) + entry_length e) es)
ends_by fresh first k p e es page short ih true test =
    let fits : p % 4096 + entry_length e ≤ 4064 = grind (arith, nat_tests) in
    let same : (p + entry_length e) % 4096 ≡ p % 4096 + entry_length e = omega arith in
    let page' : (p + entry_length e) / 4096 ≡ p / 4096 = omega arith in
    let r = ih k (p + entry_length e) (page' ∙ page) (omega arith) in (
      r.0 ∙ ap (λ (o : ℕ). get_or (first ∷ fresh) (k + needed o es) 0) same,
      λ none. (let l : p + entry_length e ≤ end_of fresh k (p + entry_length e) es = r.1 (ap (λ (o : ℕ). needed o es) same ∙ none) in omega arith),
    )
ends_by fresh first k p e es page short ih false test =
    let same : (4096 * get_or fresh k 0 + entry_length e) % 4096 ≡ entry_length e = omega arith in
    let page' : (4096 * get_or fresh k 0 + entry_length e) / 4096 ≡ get_or fresh k 0 = omega arith in
    let r = ih (suc k) (4096 * get_or fresh k 0 + entry_length e) page' (omega arith) in (
      r.0 ∙ ap (λ (o : ℕ). get_or (first ∷ fresh) (suc k + needed o es) 0) same ∙ ap (λ (n : ℕ). get_or (first ∷ fresh) n 0) (let z : suc k + needed (entry_length e) es ≡ k + suc (needed (entry_length e) es) = omega arith in z),
      λ none. absurd (let z : suc (needed (entry_length e) es) ≡ 0 = none in cc),
    )

-- the end is in the page that was used last, and behind the place where none was used
pub ends_where : (fresh : List ℕ) (first : ℕ) (es : List Entry) → FitPages es → (k p : ℕ) → p / 4096 ≡ get_or (first ∷ fresh) k 0 → p % 4096 ≤ 4064 → EndsWhere fresh first es k p
ends_where fresh first [] given k p page offset = (page ∙ ap (λ (n : ℕ). get_or (first ∷ fresh) n 0) (let e : k ≡ k + 0 = omega arith in e), λ none. omega arith)
ends_where fresh first (e ∷ es) given k p page offset = ends_by fresh first k p e es page given.1 (λ k p. ends_where fresh first es given.2 k p) (fits_at p e) refl

-- A whole address where an entry or the link of a page can stand.
abbrev pub IsPlace : ℕ → Type 0
IsPlace p = (p % 8 ≡ 0) × (p % 4096 ≤ 4064)

end_by : (fresh : List ℕ) (k p : ℕ) (e : Entry) (es : List Entry) → IsPlace p → entry_length e ≤ 4064
    → ((k p : ℕ) → IsPlace p → (8 ≤ p % 4096) ⊎ (0 < length es) → IsPlace (end_of fresh k p es) × (8 ≤ end_of fresh k p es % 4096)) → (t : Bool) → fits_at p e ≡ t
    → IsPlace (end_of fresh (cond t k (suc k)) (cond t p (4096 * get_or fresh k 0) + entry_length e) es) × (8 ≤ end_of fresh (cond t k (suc k)) (cond t p (4096 * get_or fresh k 0) + entry_length e) es % 4096)
end_by fresh k p e es is short ih true test =
    let fits : p % 4096 + entry_length e ≤ 4064 = grind (arith, nat_tests) in
    let words : entry_length e % 8 ≡ 0 = entry_length_words e in
    let some : 8 ≤ entry_length e = entry_length_positive e in
    ih k (p + entry_length e) (omega (arith, is.0), omega (arith, is.1)) (inl (omega (arith, is.1)))
end_by fresh k p e es is short ih false test =
    let words : entry_length e % 8 ≡ 0 = entry_length_words e in
    let some : 8 ≤ entry_length e = entry_length_positive e in
    ih (suc k) (4096 * get_or fresh k 0 + entry_length e) (omega arith, omega arith) (inl (omega arith))

-- the end is such an address, and not at the start of its page, unless nothing was written there
pub ends_right : (fresh : List ℕ) (es : List Entry) → FitPages es → (k p : ℕ) → IsPlace p → (8 ≤ p % 4096) ⊎ (0 < length es) → IsPlace (end_of fresh k p es) × (8 ≤ end_of fresh k p es % 4096)
ends_right fresh [] given k p is (inl behind) = (is, behind)
ends_right fresh [] given k p is (inr some) = absurd (omega (arith, some))
ends_right fresh (e ∷ es) given k p is either = end_by fresh k p e es is given.1 (λ k p. ends_right fresh es given.2 k p) (fits_at p e) refl

-- a page that is in neither list is not in both together
any_of_both : (q : ℕ) (xs ys : List ℕ) → list_any (eqb q) xs ≡ false → list_any (eqb q) ys ≡ false → list_any (eqb q) (xs ++ ys) ≡ false
any_of_both q [] ys h k = k
any_of_both q (x ∷ xs) ys h k = elim (eqb_tells q x) [ inl w ↦ absurd (let z = rw w.0 at h in (let z' : true ≡ false = z in cc)) | inr w ↦ (let z = rw w.0 at h in rw w.0 (any_of_both q xs ys z k)) ]

-- a page that comes later is none of the first ones
not_taken : (q : ℕ) (xs : List ℕ) (k : ℕ) → ((j : ℕ) → j < k → q ≢ get_or xs j 0) → k ≤ length xs → list_any (eqb q) (take k xs) ≡ false
not_taken q xs zero h n = refl
not_taken q [] (suc k) h n = refl
not_taken q (x ∷ xs) (suc k) h n = elim (eqb_tells q x) [ inl w ↦ absurd (h 0 (omega arith) w.1) | inr w ↦ rw w.0 (not_taken q xs k (λ j l. h (suc j) (omega arith)) (omega arith)) ]

-- one page more is taken
take_one_more : (xs : List ℕ) (k : ℕ) → k < length xs → take (suc k) xs ≡ take k xs ++ get_or xs k 0 ∷ []
take_one_more [] k h = absurd (omega arith)
take_one_more (x ∷ xs) zero h = refl
take_one_more (x ∷ xs) (suc k) h = ap (λ (ys : List ℕ). x ∷ ys) (take_one_more xs k (omega arith))

module _ (R : Region) (s : Super) (fresh : List ℕ) (first : ℕ) (all : List ℕ) (m : ℕ) (differ : AllDiffer (first ∷ fresh)) (few : m ≤ length fresh)
    (starts : (j : ℕ) → j < length fresh → is_page_start s (4096 * get_or fresh j 0) ≡ true) (apart : (j : ℕ) → j < length fresh → list_any (eqb (get_or fresh j 0)) all ≡ false) (linked : Linked R (first ∷ fresh) m) where
  -- an entry that stands in page k is found there
  here_found : (new k q : ℕ) (e : Entry) (pages : List ℕ) → q / 4096 ≡ get_or (first ∷ fresh) k 0 → k ≤ m → new / 4096 ≡ get_or (first ∷ fresh) m 0 → (k ≡ m → q + entry_length e ≤ new) → q % 4096 + entry_length e ≤ 4064 → is_next_page e ≡ false → Stands R q e
      → Finds R s new pages q (finds.Entry (placed q e))
  here_found new k q e pages page before end_page behind fits inner stands = elim (cases_eq k m) [
    | inl is ↦
        let l : q + entry_length e ≤ new = behind is in
        let some : 8 ≤ entry_length e = entry_length_positive e in
        entry_found R s new pages q (placed q e) (record { place = refl; not_tail = omega arith; not_link = omega arith; here = (stands, omega arith); stays = before_tail new q e inner l; inner = inner })
    | inr differs ↦
        let away : q / 4096 ≢ new / 4096 = (λ same. differ k m (omega arith) (omega arith) (sym page ∙ same ∙ end_page)) in
        let some : 8 ≤ entry_length e = entry_length_positive e in
        entry_found R s new pages q (placed q e) (record { place = refl; not_tail = λ same. away (ap (λ (z : ℕ). z / 4096) same); not_link = omega arith; here = (stands, omega arith); stays = other_page new q e away; inner = inner })
  ]

  -- the link of page k
  link_found : (k p : ℕ) → p / 4096 ≡ get_or (first ∷ fresh) k 0 → k < m → finds.Page (4096 * get_or fresh k 0) ≡ followed R s (all ++ take k fresh) (link_of p)
  link_found k p page more =
      let at : link_of p ≡ 4096 * get_or (first ∷ fresh) k 0 + 4064 = omega arith in
      let leads : word R (link_of p) ≡ 4096 * get_or fresh k 0 = ap (word R) at ∙ linked k more in
      let start : is_page_start s (4096 * get_or fresh k 0) ≡ true = starts k (omega arith) in
      let block : 4096 * get_or fresh k 0 / 4096 ≡ get_or fresh k 0 = omega arith in
      let new : list_any (eqb (get_or fresh k 0)) (all ++ take k fresh) ≡ false =
      any_of_both (get_or fresh k 0) all (take k fresh) (apart k (omega arith)) (not_taken (get_or fresh k 0) fresh k (λ j l same. differ (suc j) (suc k) (omega arith) (omega arith) (sym same)) (omega arith)) in
      rw (leads, start, block, new) refl

  -- all is read from page k on, at a place of it
  abbrev Read : List Entry → ℕ → ℕ → Type 0
  Read es k p = ReadsOn R s (end_of fresh k p es) (all ++ take k fresh) p (appended fresh k p es) (all ++ take m fresh) None

  read_end : (k p : ℕ) → k ≡ m → Read [] k p
  read_end k p is = subst (λ (n : ℕ). ReadsOn R s p (all ++ take k fresh) p [] (all ++ take n fresh) None) is (ends (rw (eqb_yes p p refl) refl))

  read_by : (k p : ℕ) (e : Entry) (es : List Entry) → p / 4096 ≡ get_or (first ∷ fresh) k 0 → p % 4096 ≤ 4064 → p % 8 ≡ 0 → is_next_page e ≡ false → entry_length e ≤ 4064 → FitPages es
      → ((k p : ℕ) → p / 4096 ≡ get_or (first ∷ fresh) k 0 → p % 4096 ≤ 4064 → p % 8 ≡ 0 → m ≡ k + needed (p % 4096) es → Laid R fresh k p es → Read es k p) → (t : Bool) → fits_at p e ≡ t
      → m ≡ k + cond t (needed (p % 4096 + entry_length e) es) (suc (needed (entry_length e) es))
      → Stands R (cond t p (4096 * get_or fresh k 0)) e → (t ≡ false → p % 4096 < 4064 → Stands R p NextPage) → Laid R fresh (cond t k (suc k)) (cond t p (4096 * get_or fresh k 0) + entry_length e) es
      → ReadsOn R s (end_of fresh (cond t k (suc k)) (cond t p (4096 * get_or fresh k 0) + entry_length e) es) (all ++ take k fresh) p
      (placed (cond t p (4096 * get_or fresh k 0)) e ∷ appended fresh (cond t k (suc k)) (cond t p (4096 * get_or fresh k 0) + entry_length e) es) (all ++ take m fresh) None
  read_by k p e es page offset whole inner short given ih true test count stands marker laid =
      let fits : p % 4096 + entry_length e ≤ 4064 = grind (arith, nat_tests) in
      let words : entry_length e % 8 ≡ 0 = entry_length_words e in
      let same : (p + entry_length e) % 4096 ≡ p % 4096 + entry_length e = omega arith in
      let page' : (p + entry_length e) / 4096 ≡ p / 4096 = omega arith in
      let offset' : (p + entry_length e) % 4096 ≤ 4064 = omega arith in
      let whole' : (p + entry_length e) % 8 ≡ 0 = omega arith in
      let count' : m ≡ k + needed ((p + entry_length e) % 4096) es = count ∙ ap (λ (o : ℕ). k + needed o es) (sym same) in
      let w = ends_where fresh first es given k (p + entry_length e) (page' ∙ page) offset' in
      let new = end_of fresh k (p + entry_length e) es in
      let end_page : new / 4096 ≡ get_or (first ∷ fresh) m 0 = w.0 ∙ ap (λ (n : ℕ). get_or (first ∷ fresh) n 0) (sym count') in
      reads (here_found new k p e (all ++ take k fresh) page (omega arith) end_page (λ is. w.1 (omega arith)) fits inner stands)
      (ih k (p + entry_length e) (page' ∙ page) offset' whole' count' laid)
  read_by k p e es page offset whole inner short given ih false test count stands marker laid =
      let words : entry_length e % 8 ≡ 0 = entry_length_words e in
      let b = get_or fresh k 0 in
      let same : (4096 * b + entry_length e) % 4096 ≡ entry_length e = omega arith in
      let page' : (4096 * b + entry_length e) / 4096 ≡ b = omega arith in
      let offset' : (4096 * b + entry_length e) % 4096 ≤ 4064 = omega arith in
      let whole' : (4096 * b + entry_length e) % 8 ≡ 0 = omega arith in
      let count' : m ≡ suc k + needed ((4096 * b + entry_length e) % 4096) es = count ∙ (let z : k + suc (needed (entry_length e) es) ≡ suc k + needed (entry_length e) es = omega arith in z) ∙ ap (λ (o : ℕ). suc k + needed o es) (sym same) in
      let w = ends_where fresh first es given (suc k) (4096 * b + entry_length e) page' offset' in
      let new = end_of fresh (suc k) (4096 * b + entry_length e) es in
      let end_page : new / 4096 ≡ get_or (first ∷ fresh) m 0 = w.0 ∙ ap (λ (n : ℕ). get_or (first ∷ fresh) n 0) (sym count') in
      let more : k < m = omega arith in
      let start_page : 4096 * b / 4096 ≡ b = omega arith in
      let away : p / 4096 ≢ new / 4096 = (λ z. differ k m more (omega arith) (sym page ∙ z ∙ end_page)) in
      let pages : (all ++ take k fresh) ++ 4096 * b / 4096 ∷ [] ≡ all ++ take (suc k) fresh =
      append_assoc all (take k fresh) (4096 * b / 4096 ∷ []) ∙ ap (λ (x : ℕ). all ++ (take k fresh ++ x ∷ [])) start_page ∙ ap (λ (ys : List ℕ). all ++ ys) (sym (take_one_more fresh k (omega arith))) in
      let there : 4096 * b % 4096 + entry_length e ≤ 4064 = omega arith in
      turns (page_found R s new (all ++ take k fresh) p (4096 * b) away (link_found k p page more) (why (cases_eq (p % 4096) 4064)))
      (subst (λ (ps : List ℕ). ReadsOn R s new ps (4096 * b) (placed (4096 * b) e ∷ appended fresh (suc k) (4096 * b + entry_length e) es) (all ++ take m fresh) None) (sym pages)
      (reads (here_found new (suc k) (4096 * b) e (all ++ take (suc k) fresh) start_page more end_page (λ is. w.1 (omega arith)) there inner stands)
      (ih (suc k) (4096 * b + entry_length e) page' offset' whole' count' laid)))
    where
      why : ((p % 4096 ≡ 4064) ⊎ (p % 4096 ≢ 4064)) → (p % 4096 ≡ 4064) ⊎ ((e : Entry) × (p % 4096 ≢ 4064) × ((Stands R p e) × (entry_length e ≤ room_at p)) × (is_next_page e ≡ true))
      why (inl at_link) = inl at_link
      why (inr n) = inr (NextPage, n, (marker refl (omega arith), omega arith), refl)

  -- what was laid and linked is read
  pub laid_reads : (es : List Entry) → FitPages es → (k p : ℕ) → p / 4096 ≡ get_or (first ∷ fresh) k 0 → p % 4096 ≤ 4064 → p % 8 ≡ 0 → m ≡ k + needed (p % 4096) es → Laid R fresh k p es → Read es k p
  laid_reads [] given k p page offset whole count laid = read_end k p (omega arith)
  laid_reads (e ∷ es) given k p page offset whole count laid =
      read_by k p e es page offset whole given.0 given.1 given.2 (λ k p. laid_reads es given.2 k p) (fits_at p e) refl count laid.0.0 laid.0.1 laid.1
