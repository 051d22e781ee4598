-- What was written stays while more is written behind it.
use Rattle.std.proofs.Common.{◌≡◌, ◌≢◌, ℕ, zero, suc, ◌+◌, ◌*◌, ◌/◌, ◌%◌, ◌<◌, ◌≤◌, Bool, true, false, nat_le, inl, inr, List, [], ◌∷◌, ◌++◌, length, get_or, drop, refl, ap, sym, ◌∙◌, subst, arith, add-one, cond}
use Rattle.std.proofs.lemmas.Bool.{cases_lt}
use Rattle.std.proofs.lemmas.Bool.Decides.{nat_tests}
use Rattle.nv_region.specs.Region.{Region, word}
use Rattle.nv_region.specs.Stops.{Choices, IsMixed}
use Rattle.nv_region.specs.Stored.{SameOutside, StoresOnly}
use Rattle.nv_region.proofs.Wordwise.{mixed_word, stores_more, stores_within}
use Rattle.nv_entry.specs.declared.entry.Entry.{Entry}
use Rattle.nv_entry.specs.declared.entry.Entry.TheVariants.{NextPage}
use Rattle.nv_entry.specs.Spelling.{Stands, entry_length}
use Rattle.nv_entry.proofs.Same.{Stands-same}
use Rattle.nv_logpage.specs.Append.{AllDiffer, AppendWords, AreGiven, EntryWords, Laid, end_of, fits_at, needed}
use Rattle.nv_logpage.specs.Writing.{FitPages, FromOrIn, LinkWords, Settled}
use Rattle.nv_logpage.specs.Reads.{is_next_page}
use Rattle.nv_logpage.proofs.Placing.{entries_from}

module _ (R Q S : Region) (pages : List ℕ) (k p : ℕ) (e : Entry) (differ : AllDiffer pages) (inside : k < length pages) (page : p / 4096 ≡ get_or pages k 0) (whole_p : p % 8 ≡ 0) where
  -- an entry in the page
  pub settled_fits : p % 4096 + entry_length e ≤ 4064 → SameOutside R p (entry_length e) Q → Settled Q S pages k (p + entry_length e) → Settled R S pages k p
  settled_fits fits out settled a whole offset (inl w) = settled a whole offset (inl (omega (arith, w.0, fits), omega (arith, w.1))) ∙ out.before a whole w.1
  settled_fits fits out settled a whole offset (inr w) = settled a whole offset (inr w) ∙ other
    where
      apart : a / 4096 ≢ p / 4096
      apart same = differ w.0 k w.1 inside (sym w.2 ∙ same ∙ page)

      other : word Q a ≡ word R a
      other = elim (cases_lt a p) [ inl low ↦ out.before a whole low | inr high ↦ out.behind a whole (let n = apart in omega (arith, fits)) ]

  -- and it stands in each later region
  pub stands_fits : p % 4096 + entry_length e ≤ 4064 → Stands Q p e → Settled Q S pages k (p + entry_length e) → Stands S p e
  stands_fits fits stands settled =
      Stands-same Q S p p e (λ d whole below. settled (p + d) (omega arith) (omega arith) (inl (omega arith, omega arith))) stands

  -- an entry in the next page
  module _ (b : ℕ) (next : b ≡ get_or pages (suc k) 0) (more : suc k < length pages) (fits : entry_length e ≤ 4064) where
    not_next : b ≢ p / 4096
    not_next same = differ k (suc k) (omega arith) more (sym page ∙ sym same ∙ next)

    -- the page that was left is settled, and those before it
    pub settled_turns : IsMixed R (FromOrIn p b) Q → Settled Q S pages (suc k) (4096 * b + entry_length e) → Settled R S pages k p
    settled_turns mixed settled a whole offset (inl w) =
        settled a whole offset (inr (k, omega arith, w.0 ∙ page)) ∙ mixed_word R Q (FromOrIn p b) a whole mixed away
      where
        away : (x : ℕ) → FromOrIn p b (a / 8) x → ⊥
        away x (inl v) = omega (arith, v.1, w.1)
        away x (inr v) = let n = not_next in omega (arith, v.0, w.0)
    settled_turns mixed settled a whole offset (inr w) =
        settled a whole offset (inr (w.0, omega (arith, w.1), w.2)) ∙ mixed_word R Q (FromOrIn p b) a whole mixed away
      where
        apart : a / 4096 ≢ p / 4096
        apart same = differ w.0 k w.1 inside (sym w.2 ∙ same ∙ page)

        apart_next : a / 4096 ≢ b
        apart_next same = differ w.0 (suc k) (omega (arith, w.1)) more (sym w.2 ∙ same ∙ next)

        away : (x : ℕ) → FromOrIn p b (a / 8) x → ⊥
        away x (inl v) = let n = apart in omega (arith, v.0)
        away x (inr v) = let n = apart_next in omega (arith, v.0)

    -- the entry stands in each later region
    pub stands_turns : Stands Q (4096 * b) e → Settled Q S pages (suc k) (4096 * b + entry_length e) → Stands S (4096 * b) e
    stands_turns stands settled =
        Stands-same Q S (4096 * b) (4096 * b) e (λ d whole below. settled (4096 * b + d) (omega arith) (omega arith) (inl (omega arith, omega arith))) stands

    -- so does the next-page entry that was written in its stead
    pub marker_turns : p % 4096 < 4064 → Stands Q p NextPage → Settled Q S pages (suc k) (4096 * b + entry_length e) → Stands S p NextPage
    marker_turns low stands settled =
        Stands-same Q S p p NextPage (λ d whole below. settled (p + d) (omega arith) (omega arith) (inr (k, omega arith, (let same : (p + d) / 4096 ≡ p / 4096 = omega arith in same) ∙ page))) stands

-- links stand behind the entries
pub settled_links : (R S : Region) (pages : List ℕ) (count k p : ℕ) → IsMixed R (LinkWords pages count) S → Settled R S pages k p
settled_links R S pages count k p mixed a whole offset h = mixed_word R S (LinkWords pages count) a whole mixed (λ x w. omega (arith, w.2))

-- the facts of the loop, one entry further
pub goes_fits : (R Q : Region) (first : ℕ) (fresh : List ℕ) (k p tail i : ℕ) (e : Entry) (es : List Entry) → AllDiffer (first ∷ fresh) → k < suc (length fresh) → p / 4096 ≡ get_or (first ∷ fresh) k 0 → p % 8 ≡ 0
    → p % 4096 + entry_length e ≤ 4064 → SameOutside R p (entry_length e) Q → Stands Q p e → i < length es → e ≡ get_or es i e
    → ((S : Region) → Settled R S (first ∷ fresh) k p → Laid S fresh k p (drop i es) → Laid S fresh 0 tail es)
    → (S : Region) → Settled Q S (first ∷ fresh) k (p + entry_length e) → Laid S fresh k (p + entry_length e) (drop (i + 1) es) → Laid S fresh 0 tail es
goes_fits R Q first fresh k p tail i e es differ inside page whole fits out stands in_es is goes S settled laid =
    let test : nat_le (p % 4096 + entry_length e) 4064 ≡ true = grind (arith, nat_tests) in
    goes S (settled_fits R Q S (first ∷ fresh) k p e differ inside page whole fits out settled)
    (rw (entries_from es i e in_es is, test) ((stands_fits R Q S (first ∷ fresh) k p e differ inside page whole fits stands settled, λ no. absurd (let z : true ≡ false = no in cc)), laid))

-- the same where the entry went to the next page
pub goes_turns : (R Q : Region) (first : ℕ) (fresh : List ℕ) (k p tail i b : ℕ) (e : Entry) (es : List Entry) → AllDiffer (first ∷ fresh) → k < length fresh → p / 4096 ≡ get_or (first ∷ fresh) k 0 → p % 8 ≡ 0 → b ≡ get_or fresh k 0 → entry_length e ≤ 4064
    → 4064 < p % 4096 + entry_length e → IsMixed R (FromOrIn p b) Q → Stands Q (4096 * b) e → (p % 4096 < 4064 → Stands Q p NextPage) → i < length es → e ≡ get_or es i e
    → ((S : Region) → Settled R S (first ∷ fresh) k p → Laid S fresh k p (drop i es) → Laid S fresh 0 tail es)
    → (S : Region) → Settled Q S (first ∷ fresh) (k + 1) (4096 * b + entry_length e) → Laid S fresh (k + 1) (4096 * b + entry_length e) (drop (i + 1) es) → Laid S fresh 0 tail es
goes_turns R Q first fresh k p tail i b e es differ inside page whole next short turns mixed stands marker in_es is goes S settled' laid =
    let test : nat_le (p % 4096 + entry_length e) 4064 ≡ false = grind (arith, nat_tests) in
    let settled : Settled Q S (first ∷ fresh) (suc k) (4096 * b + entry_length e) = (λ a w o h. settled' a w o (elim h [ inl v ↦ inl v | inr v ↦ inr (v.0, omega (arith, v.1), v.2) ])) in
    let more : suc k < length (first ∷ fresh) = omega arith in
    let in_pages : k < length (first ∷ fresh) = omega arith in
    let here = stands_turns R Q S (first ∷ fresh) k p e differ in_pages page whole b next more short stands settled in
    let mark = (λ (low : p % 4096 < 4064). marker_turns R Q S (first ∷ fresh) k p e differ in_pages page whole b next more short low (marker low) settled) in
    goes S (settled_turns R Q S (first ∷ fresh) k p e differ in_pages page whole b next more short mixed settled)
    (rw (entries_from es i e in_es is, test, sym next) ((here, λ no low. mark low), subst (λ (n : ℕ). Laid S fresh n (4096 * b + entry_length e) (drop (i + 1) es)) (add-one k) laid))

-- what a step stores is what append may store
pub from_page : (tail p k : ℕ) (fresh : List ℕ) (i x : ℕ) → p / 4096 ≡ get_or (tail / 4096 ∷ fresh) k 0 → k < suc (length fresh) → (k ≡ 0 → tail ≤ p) → 8 * i / 4096 ≡ p / 4096 → p ≤ 8 * i → AppendWords tail fresh i x
from_page tail p zero fresh i x page inside low same h = let le : tail ≤ p = low refl in inl (same ∙ page, omega arith)
from_page tail p (suc k) fresh i x page inside low same h = inr (k, omega arith, same ∙ page)

-- the entry may be given, and so may the rest
pub given_rest : (i : ℕ) (es : List Entry) (e : Entry) → i < length es → e ≡ get_or es i e → AreGiven (drop i es) → (is_next_page e ≡ false) × AreGiven (drop (i + 1) es)
given_rest i es e h is given = rw (entries_from es i e h is) at given

-- and so may entries to which another is added
pub given_push : (es : List Entry) (e : Entry) → AreGiven es → is_next_page e ≡ false → AreGiven (es ++ e ∷ [])
given_push [] e given one = (one, tt)
given_push (x ∷ es) e given one = (given.0, given_push es e given.1 one)

-- where the entry fits in a page, and so does the rest, so do those from it on
pub fit_more : (i : ℕ) (es : List Entry) (e : Entry) → i < length es → e ≡ get_or es i e → is_next_page e ≡ false → entry_length e ≤ 4064 → FitPages (drop (i + 1) es) → FitPages (drop i es)
fit_more i es e h is inner short rest = rw (entries_from es i e h is) ((inner, short, rest))

-- an entry that doesn't fit takes a page
pub room_left : (i o : ℕ) (es : List Entry) (e : Entry) → i < length es → e ≡ get_or es i e → 4064 < o + entry_length e → 0 < needed o (drop i es)
room_left i o es e h is turns =
    let test : nat_le (o + entry_length e) 4064 ≡ false = grind (arith, nat_tests) in
    rw (entries_from es i e h is, test) (omega arith)

-- the end, one entry further
ends_step : (fresh : List ℕ) (k p : ℕ) (es : List Entry) (e : Entry) (b : Bool) → fits_at p e ≡ b → end_of fresh k p (e ∷ es) ≡ end_of fresh (cond b k (suc k)) (cond b p (4096 * get_or fresh k 0) + entry_length e) es
ends_step fresh k p es e b test = ap (λ (c : Bool). end_of fresh (cond c k (suc k)) (cond c p (4096 * get_or fresh k 0) + entry_length e) es) test

-- where it fits
pub ends_fits : (fresh : List ℕ) (i k p total : ℕ) (es : List Entry) (e : Entry) → i < length es → e ≡ get_or es i e → p % 4096 + entry_length e ≤ 4064 → end_of fresh k p (drop i es) ≡ total → end_of fresh k (p + entry_length e) (drop (i + 1) es) ≡ total
ends_fits fresh i k p total es e h is fits ends =
    let test : nat_le (p % 4096 + entry_length e) 4064 ≡ true = grind (arith, nat_tests) in
    sym (ends_step fresh k p (drop (i + 1) es) e true test) ∙ sym (ap (end_of fresh k p) (entries_from es i e h is)) ∙ ends

-- where it doesn't
pub ends_turns : (fresh : List ℕ) (i k p b total : ℕ) (es : List Entry) (e : Entry) → i < length es → e ≡ get_or es i e → 4064 < p % 4096 + entry_length e → b ≡ get_or fresh k 0 → end_of fresh k p (drop i es) ≡ total → end_of fresh (k + 1) (4096 * b + entry_length e) (drop (i + 1) es) ≡ total
ends_turns fresh i k p b total es e h is turns next ends =
    let test : nat_le (p % 4096 + entry_length e) 4064 ≡ false = grind (arith, nat_tests) in
    ap (λ (n : ℕ). end_of fresh n (4096 * b + entry_length e) (drop (i + 1) es)) (add-one k)
    ∙ ap (λ (n : ℕ). end_of fresh (suc k) (4096 * n + entry_length e) (drop (i + 1) es)) next
    ∙ sym (ends_step fresh k p (drop (i + 1) es) e false test) ∙ sym (ap (end_of fresh k p) (entries_from es i e h is)) ∙ ends

-- the words of the links are words that append may store
pub links_within : (tail count : ℕ) (fresh : List ℕ) → tail % 4096 ≤ 4064 → count ≤ length fresh → (i x : ℕ) → LinkWords (tail / 4096 ∷ fresh) count i x → AppendWords tail fresh i x
links_within tail count fresh offset few i x w = by w.0 w.1 w.2
  where
    by : (j : ℕ) → j < count → 8 * i ≡ 4096 * get_or (tail / 4096 ∷ fresh) j 0 + 4064 → AppendWords tail fresh i x
    by zero h e = inl (omega arith, omega arith)
    by (suc j) h e = inr (j, omega arith, omega arith)

-- and so are the words of the entries
pub entries_within : (tail : ℕ) (fresh : List ℕ) (R S : Region) (old new : Choices) → StoresOnly (EntryWords tail fresh) R S old new → StoresOnly (AppendWords tail fresh) R S old new
entries_within tail fresh R S old new wrote = stores_within (AppendWords tail fresh) (EntryWords tail fresh) R S old new (λ i x w. w.0) wrote

-- so what both passes store is what append may store
pub links_too : (tail count : ℕ) (fresh : List ℕ) (R Q S : Region) (old mid new : Choices) → tail % 4096 ≤ 4064 → count ≤ length fresh → StoresOnly (EntryWords tail fresh) R Q old mid
    → StoresOnly (LinkWords (tail / 4096 ∷ fresh) count) Q S mid new → StoresOnly (AppendWords tail fresh) R S old new
links_too tail count fresh R Q S old mid new offset few first then =
    stores_more (AppendWords tail fresh) (LinkWords (tail / 4096 ∷ fresh) count) R Q S old mid new (links_within tail count fresh offset few) (entries_within tail fresh R Q old mid first) then
