-- Where entries go, and the links of their pages.
use Rattle.std.proofs.Common.{◌≡◌, ◌≢◌, ℕ, suc, ◌+◌, ◌*◌, ◌/◌, ◌<◌, ◌≤◌, true, false, nat_le, List, [], ◌∷◌, length, get_or, drop, refl, ap, sym, ◌∙◌, arith, add-one, drop-cons, below_more}
use Rattle.std.proofs.lemmas.Bool.Decides.{nat_tests}
use Rattle.nv_region.specs.Region.{Region, word}
use Rattle.nv_region.specs.Stored.{Stored}
use Rattle.nv_entry.specs.declared.entry.Entry.{Entry}
use Rattle.nv_entry.specs.Spelling.{entry_length}
use Rattle.nv_logpage.specs.Append.{AllDiffer, EndBy, Linked, needed}

-- the entries from a number on begin with the one of that number
pub entries_from : (es : List Entry) (i : ℕ) (e : Entry) → i < length es → e ≡ get_or es i e → drop i es ≡ e ∷ drop (i + 1) es
entries_from es i e h is = drop-cons es i e h ∙ ap (λ (x : Entry). x ∷ drop (suc i) es) (sym is) ∙ ap (λ (n : ℕ). e ∷ drop n es) (sym (add-one i))

-- where an entry fits, the pages that the rest takes are those that were left to take
pub needed_fits : (o i p total : ℕ) (es : List Entry) (e : Entry) → i < length es → e ≡ get_or es i e → o + entry_length e ≤ 4064 → p + needed o (drop i es) ≡ total → p + needed (o + entry_length e) (drop (i + 1) es) ≡ total
needed_fits o i p total es e h is fits counted =
    let test : nat_le (o + entry_length e) 4064 ≡ true = grind (arith, nat_tests) in
    let k = rw (entries_from es i e h is, test) at counted in k

-- where it doesn't, a page more is used
pub needed_turns : (o i p total : ℕ) (es : List Entry) (e : Entry) → i < length es → e ≡ get_or es i e → 4064 < o + entry_length e → p + needed o (drop i es) ≡ total → (p + 1) + needed (entry_length e) (drop (i + 1) es) ≡ total
needed_turns o i p total es e h is turns counted =
    let test : nat_le (o + entry_length e) 4064 ≡ false = grind (arith, nat_tests) in
    let k = rw (entries_from es i e h is, test) at counted in omega arith

-- nothing takes no page
pub none_needed : (o : ℕ) (es : List Entry) → length es ≡ 0 → needed o es ≡ 0
none_needed o [] h = refl
none_needed o (e ∷ es) h = absurd (omega (arith, h))

-- the page behind page k of the chain is fresh page k
pub next_page : (first : ℕ) (fresh : List ℕ) (k : ℕ) → get_or (first ∷ fresh) (k + 1) 0 ≡ get_or fresh k 0
next_page first fresh k = ap (λ (n : ℕ). get_or (first ∷ fresh) n 0) (add-one k)

-- a page of the chain ends by where they all do
pub page_end : (pages : List ℕ) (k place limit : ℕ) → EndBy pages limit → k < length pages → place / 4096 ≡ get_or pages k 0 → place / 4096 * 4096 + 4096 ≤ limit
page_end pages k place limit end inside page = omega (arith, page, end k inside)

-- one link more
pub link_more : (R R' : Region) (first : ℕ) (fresh : List ℕ) (k at value : ℕ) → k < length fresh → AllDiffer (first ∷ fresh) → at ≡ 4096 * get_or (first ∷ fresh) k 0 + 4064 → value ≡ 4096 * get_or fresh k 0
    → Stored R at value R' → Linked R (first ∷ fresh) k → Linked R' (first ∷ fresh) (k + 1)
link_more R R' first fresh k at value inside differ is_at is_value stored linked = below_more _ _ before here
  where
    before : (j : ℕ) → j < k → word R' (4096 * get_or (first ∷ fresh) j 0 + 4064) ≡ 4096 * get_or (first ∷ fresh) (suc j) 0
    before j h =
        let apart : get_or (first ∷ fresh) j 0 ≢ get_or (first ∷ fresh) k 0 = differ j k h (omega arith) in
        stored.others (4096 * get_or (first ∷ fresh) j 0 + 4064) (omega arith) (λ e. apart (omega arith)) ∙ linked j h

    here : word R' (4096 * get_or (first ∷ fresh) k 0 + 4064) ≡ 4096 * get_or (first ∷ fresh) (suc k) 0
    here = ap (word R') (sym is_at) ∙ stored.here ∙ is_value
