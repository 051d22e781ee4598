-- The loop that writes entries, one entry further.
use Rattle.std.proofs.Common.{◌≡◌, ℕ, ◌+◌, ◌*◌, ◌/◌, ◌%◌, ◌<◌, ◌≤◌, inl, inr, List, [], ◌∷◌, suc, length, get_or, drop, sym, ◌∙◌, subst, arith}
use Rattle.std.proofs.lemmas.List.{drop_all}
use Rattle.nv_region.specs.Region.{Region, size}
use Rattle.nv_region.specs.Stops.{Choices}
use Rattle.nv_region.specs.Stored.{SameOutside, StoresOnly, Within}
use Rattle.nv_region.proofs.Wordwise.{stores_more}
use Rattle.nv_entry.specs.declared.entry.Entry.{Entry}
use Rattle.nv_entry.specs.declared.entry.Entry.TheVariants.{NextPage}
use Rattle.nv_entry.specs.Spelling.{Stands, entry_length}
use Rattle.nv_entry.proofs.Same.{entry_length_words, entry_length_positive}
use Rattle.nv_logpage.specs.Append.{AreGiven, EndBy, EntryWords, CanAppend, Laid, end_of, needed}
use Rattle.nv_logpage.specs.Writing.{FitPages, FromOrIn, Settled}
use Rattle.nv_logpage.proofs.Placing.{needed_fits, needed_turns, next_page, page_end}
use Rattle.nv_logpage.proofs.Written.{from_page, given_rest, fit_more, room_left, ends_fits, ends_turns, goes_fits, goes_turns}

-- What holds before entry number i, when so many fresh pages are used and the place was reached. Whatever region comes to
-- be, if what was written up to here is the same in it and the rest is laid in it, all is laid in it (goes). Where each
-- of the rest fits in a page, so do all (fit).
pub record Writing (start R : Region) (old now : Choices) (tail : ℕ) (entries : List Entry) (fresh : List ℕ) (i used place : ℕ) : Type 0 where
  pub whole : place % 8 ≡ 0
  pub offset : place % 4096 ≤ 4064
  pub page : place / 4096 ≡ get_or (tail / 4096 ∷ fresh) used 0
  pub low : used ≡ 0 → tail ≤ place
  pub given : AreGiven (drop i entries)
  pub fit : FitPages (drop i entries) → FitPages entries
  pub count : used + needed (place % 4096) (drop i entries) ≡ needed (tail % 4096) entries
  pub ends : end_of fresh used place (drop i entries) ≡ end_of fresh 0 tail entries
  pub goes : (S : Region) → Settled R S (tail / 4096 ∷ fresh) used place → Laid S fresh used place (drop i entries) → Laid S fresh 0 tail entries
  pub wrote : StoresOnly (EntryWords tail fresh) start R old now
  pub len : size R ≡ size start

module _ (start R Q : Region) (old now new : Choices) (tail : ℕ) (entries : List Entry) (fresh : List ℕ) (i used place : ℕ) (e : Entry)
    (can : CanAppend start tail entries fresh) (w : Writing start R old now tail entries fresh i used place) (inside : i < length entries) (is : e ≡ get_or entries i e) where
  few : used ≤ length fresh
  few = omega (arith, w.count, can.enough)

  -- what its store may write is what entries may
  fitted_within : place % 4096 + entry_length e ≤ 4064 → (j x : ℕ) → Within place (entry_length e) j x → EntryWords tail fresh j x
  fitted_within fits j x v =
      let whole : place % 8 ≡ 0 = w.whole in
      let words : entry_length e % 8 ≡ 0 = entry_length_words e in
      let fewer : used ≤ length fresh = few in
      (from_page tail place used fresh j x w.page (omega arith) w.low (let a = v.0 in let b = v.1 in omega arith) v.0, (let a = v.0 in let b = v.1 in omega arith))

  -- an entry further in the same page
  pub writing_fits : place % 4096 + entry_length e ≤ 4064 → Stands Q place e → SameOutside R place (entry_length e) Q → StoresOnly (Within place (entry_length e)) R Q now new → Writing start Q old new tail entries fresh (i + 1) used (place + entry_length e)
  writing_fits fits stands out stores =
      let words : entry_length e % 8 ≡ 0 = entry_length_words e in
      let some : 8 ≤ entry_length e = entry_length_positive e in
      let whole : place % 8 ≡ 0 = w.whole in
      let offset : (place + entry_length e) % 4096 ≡ place % 4096 + entry_length e = omega arith in
      let rest = given_rest i entries e inside is w.given in
      let fewer : used ≤ length fresh = few in
      record {
        whole = omega arith;
        offset = omega arith;
        page = (let same : (place + entry_length e) / 4096 ≡ place / 4096 = omega arith in same) ∙ w.page;
        low = λ none. (let l : tail ≤ place = w.low none in omega arith);
        given = rest.1;
        fit = λ more. w.fit (fit_more i entries e inside is rest.0 (omega (arith, fits)) more);
        count = subst (λ (o : ℕ). used + needed o (drop (i + 1) entries) ≡ needed (tail % 4096) entries) (sym offset) (needed_fits (place % 4096) i used (needed (tail % 4096) entries) entries e inside is fits w.count);
        ends = ends_fits fresh i used place (end_of fresh 0 tail entries) entries e inside is fits w.ends;
        goes = goes_fits R Q (tail / 4096) fresh used place tail i e entries can.differ (omega arith) w.page w.whole fits out stands inside is w.goes;
        wrote = stores_more (EntryWords tail fresh) (Within place (entry_length e)) start R Q old now new
            (fitted_within fits) w.wrote stores;
        len = out.len ∙ w.len;
      }

  -- also where its store was refused half-way
  pub fitted_words : place % 4096 + entry_length e ≤ 4064 → StoresOnly (Within place (entry_length e)) R Q now new → StoresOnly (EntryWords tail fresh) start Q old new
  fitted_words fits stores = stores_more (EntryWords tail fresh) (Within place (entry_length e)) start R Q old now new (fitted_within fits) w.wrote stores

  -- also where a store was refused half-way to the next page
  pub turned_words : (b : ℕ) → b ≡ get_or fresh used 0 → used < length fresh → StoresOnly (FromOrIn place b) R Q now new → StoresOnly (EntryWords tail fresh) start Q old new
  turned_words b next more stores = stores_more (EntryWords tail fresh) (FromOrIn place b) start R Q old now new within w.wrote stores
    where
      within : (j x : ℕ) → FromOrIn place b j x → EntryWords tail fresh j x
      within j x (inl v) = (from_page tail place used fresh j x w.page (omega arith) w.low v.0 v.1, v.2)
      within j x (inr v) = (inr (used, more, v.0 ∙ next), v.1)

  -- an entry that doesn't fit has a fresh page left
  pub more_pages : 4064 < place % 4096 + entry_length e → used < length fresh
  more_pages turns = omega (arith, room_left i (place % 4096) entries e inside is turns, w.count, can.enough)

  -- an entry further in the next page
  pub writing_turns : (b : ℕ) → b ≡ get_or fresh used 0 → entry_length e ≤ 4064 → 4064 < place % 4096 + entry_length e → Stands Q (4096 * b) e → (place % 4096 < 4064 → Stands Q place NextPage) → StoresOnly (FromOrIn place b) R Q now new → size Q ≡ size R
      → Writing start Q old new tail entries fresh (i + 1) (used + 1) (4096 * b + entry_length e)
  writing_turns b next short turns stands marker stores len =
      let more : used < length fresh = more_pages turns in
      let words : entry_length e % 8 ≡ 0 = entry_length_words e in
      let rest = given_rest i entries e inside is w.given in
      let offset : (4096 * b + entry_length e) % 4096 ≡ entry_length e = omega arith in
      record {
        whole = omega arith;
        offset = omega arith;
        page = (let same : (4096 * b + entry_length e) / 4096 ≡ b = omega arith in same) ∙ next ∙ sym (next_page (tail / 4096) fresh used);
        low = λ none. absurd (omega arith);
        given = rest.1;
        fit = λ more. w.fit (fit_more i entries e inside is rest.0 short more);
        count = subst (λ (o : ℕ). (used + 1) + needed o (drop (i + 1) entries) ≡ needed (tail % 4096) entries) (sym offset) (needed_turns (place % 4096) i used (needed (tail % 4096) entries) entries e inside is turns w.count);
        ends = ends_turns fresh i used place b (end_of fresh 0 tail entries) entries e inside is turns next w.ends;
        goes = goes_turns R Q (tail / 4096) fresh used place tail i b e entries can.differ more w.page w.whole next short turns stores.mixed stands marker inside is w.goes;
        wrote = turned_words b next more stores;
        len = len ∙ w.len;
      }

-- where the place may lie, and the page that comes next
module _ {start R : Region} {old now : Choices} {tail : ℕ} {entries : List Entry} {fresh : List ℕ} {i used place : ℕ}
    (can : CanAppend start tail entries fresh) (w : Writing start R old now tail entries fresh i used place) where
  -- the place's page ends by where all pages do
  pub page_by : (limit : ℕ) → EndBy (tail / 4096 ∷ fresh) limit → place / 4096 * 4096 + 4096 ≤ limit
  page_by limit end = page_end (tail / 4096 ∷ fresh) used place limit end (omega (arith, w.count, can.enough)) w.page

  pub page_inside : place / 4096 * 4096 + 4096 ≤ size R
  page_inside = subst (λ (n : ℕ). place / 4096 * 4096 + 4096 ≤ n) (sym w.len) (page_by (size start) can.inside)

  -- and so does what ends within its entries
  pub fits_by : (n length limit : ℕ) → n ≡ length → place % 4096 + n ≤ 4064 → EndBy (tail / 4096 ∷ fresh) limit → place + length ≤ limit
  fits_by n length limit is fits end = let page : place / 4096 * 4096 + 4096 ≤ limit = page_by limit end in ends_by place n length limit is fits page
    where
      ends_by : (place n length limit : ℕ) → n ≡ length → place % 4096 + n ≤ 4064 → place / 4096 * 4096 + 4096 ≤ limit → place + length ≤ limit
      ends_by place n length limit is fits page = omega arith

  pub fits_inside : (n length : ℕ) → n ≡ length → place % 4096 + n ≤ 4064 → place + length ≤ size R
  fits_inside n length is fits = subst (λ (m : ℕ). place + length ≤ m) (sym w.len) (fits_by n length (size start) is fits can.inside)

  -- an entry that doesn't fit has a fresh page left
  pub page_left : (e : Entry) (n : ℕ) → i < length entries → e ≡ get_or entries i e → n ≡ entry_length e → 4064 < place % 4096 + n → used < length fresh
  page_left e n inside is length turns = more_pages _ _ R _ _ now tail entries fresh i used place e can w inside is (subst (λ (m : ℕ). 4064 < place % 4096 + m) length turns)

  -- where nothing is left, all is done
  pub none_left : length entries ≤ i → drop i entries ≡ []
  none_left past = drop_all i entries past

  pub ends_at : length entries ≤ i → place ≡ end_of fresh 0 tail entries
  ends_at past = subst (λ (es : List Entry). end_of fresh used place es ≡ end_of fresh 0 tail entries) (none_left past) w.ends

  pub counts_all : length entries ≤ i → used ≡ needed (tail % 4096) entries
  counts_all past = add_none used (subst (λ (es : List Entry). used + needed (place % 4096) es ≡ needed (tail % 4096) entries) (none_left past) w.count)
    where
      add_none : (n : ℕ) {m : ℕ} → n + 0 ≡ m → n ≡ m
      add_none n e = omega (arith, e)

  pub all_fit : length entries ≤ i → FitPages entries
  all_fit past = w.fit (subst FitPages (sym (none_left past)) tt)

  pub all_laid : length entries ≤ i → (S : Region) → Settled R S (tail / 4096 ∷ fresh) used place → Laid S fresh 0 tail entries
  all_laid past S settled = w.goes S settled (subst (Laid S fresh used place) (sym (none_left past)) tt)

-- the next page lies within the region
pub next_by : (fresh : List ℕ) (tail used limit : ℕ) → used < length fresh → EndBy (tail / 4096 ∷ fresh) limit → 4096 * get_or fresh used 0 + 4096 ≤ limit
next_by fresh tail used limit more end = end (suc used) (omega arith)
