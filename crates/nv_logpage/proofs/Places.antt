-- The entries of a log stand at different places.
use Rattle.std.proofs.Common.{◌≡◌, ◌≢◌, ◌⊎◌, inl, inr, ℕ, ◌+◌, ◌/◌, ◌%◌, ◌≤◌, false, IsTrue, eqb, List, [], ◌∷◌, ◌++◌, refl, sym, ◌∙◌, subst, arith, Option}
use Rattle.std.specs.List.{Contains, IsDistinct, AllByRecursion, list_any}
use Rattle.std.proofs.lemmas.Bool.{ne_eqb}
use Rattle.std.proofs.lemmas.List.Elements.{Contains-append_left}
use Rattle.std.proofs.lemmas.Map.Keys.{IsDistinct-cons}
use Rattle.nv_region.specs.Region.{Region}
use Rattle.nv_super.specs.declared.superblock.Super.{Super}
use Rattle.nv_super.specs.Layout.{is_page_start}
use Rattle.nv_super.proofs.Members.{no_member}
use Rattle.nv_super.proofs.Rising.{Contains-cons, Contains-head, Contains-tail}
use Rattle.nv_entry.specs.Spelling.{entry_length}
use Rattle.nv_entry.proofs.Same.{entry_length_words, entry_length_positive}
use Rattle.nv_logpage.specs.declared.found.LogEnd.{LogEnd}
use Rattle.nv_logpage.specs.declared.found.Placed.{Placed}
use Rattle.nv_logpage.specs.declared.found.Finding.TheVariants as finds
use Rattle.nv_logpage.specs.Reads.{ReadsOn, Reads, places_of, room_at, ends, reads, turns}
use Rattle.nv_logpage.proofs.Local.{Contains-last}
use Rattle.nv_logpage.proofs.Steps.{start_whole, Finds-onward}

-- at a place or behind it in its page, or in a page that wasn't read
abbrev IsBehind : List ℕ → ℕ → ℕ → Type 0
IsBehind pages p at = ((at / 4096 ≡ p / 4096) × (p ≤ at)) ⊎ (Contains pages (at / 4096) → ⊥)

further : (pages : List ℕ) (p q at : ℕ) → q / 4096 ≡ p / 4096 → p ≤ q → IsBehind pages q at → IsBehind pages p at
further pages p q at same less (inl w) = inl (w.0 ∙ same, omega (arith, w.1))
further pages p q at same less (inr w) = inr w

turned : (pages : List ℕ) (p next at : ℕ) → list_any (eqb (next / 4096)) pages ≡ false → IsBehind (pages ++ next / 4096 ∷ []) next at → IsBehind pages p at
turned pages p next at unread (inl w) = inr (λ c. no_member pages (next / 4096) unread (subst (Contains pages) w.0 c))
turned pages p next at unread (inr w) = inr (λ c. w (Contains-append_left pages (next / 4096 ∷ []) (at / 4096) c))

-- the entry at a place is behind by its length, and the log goes on in its page
record GoesBehind (p : ℕ) (x : Placed) : Type 0 where
  at : x.at ≡ p
  page : (x.at + entry_length x.entry) / 4096 ≡ p / 4096
  past : p + 8 ≤ x.at + entry_length x.entry
  whole : (x.at + entry_length x.entry) % 8 ≡ 0
  low : (x.at + entry_length x.entry) % 4096 ≤ 4064

goes_behind : (p : ℕ) (x : Placed) → x.at ≡ p → entry_length x.entry ≤ room_at p → p % 8 ≡ 0 → p % 4096 ≤ 4064 → GoesBehind p x
goes_behind p x here fits whole low =
    let words : entry_length x.entry % 8 ≡ 0 = entry_length_words x.entry in
    let some : 8 ≤ entry_length x.entry = entry_length_positive x.entry in
    record { at = here; page = omega arith; past = omega arith; whole = omega arith; low = omega arith }

-- what is read from a place on stands there or behind it
pub places_behind : {R : Region} {s : Super} {tail : ℕ} {pages : List ℕ} {p : ℕ} {es : List Placed} {all : List ℕ} {fault : Option LogEnd} → Contains pages (p / 4096) → p % 8 ≡ 0 → p % 4096 ≤ 4064
    → ReadsOn R s tail pages p es all fault → (y : Placed) → Contains es y → IsBehind pages p y.at
places_behind in_pages whole low (ends f) y c = absurd (omega (arith, c.1))
places_behind {R} {s} {tail} {pages} {p} in_pages whole low (reads {x = x} {es = es} f r) y c =
    let goes = Finds-onward R s tail pages p (finds.Entry x) f in
    let b = goes_behind p x goes.0 goes.1 whole low in
    elim (Contains-cons x es y c) [
      | inl is ↦ rw (is, b.at) (inl (refl, omega arith))
      | inr later ↦ further pages p (x.at + entry_length x.entry) y.at b.page (omega (arith, b.past)) (places_behind (subst (Contains pages) (sym b.page) in_pages) b.whole b.low r y later)
    ]
places_behind {R} {s} {tail} {pages} {p} in_pages whole low (turns {next = next} f r) y c =
    let goes = Finds-onward R s tail pages p (finds.Page next) f in
    let start : next % 4096 ≡ 0 = start_whole s next goes.0 in
    turned pages p next y.at goes.1 (places_behind (Contains-last pages (next / 4096)) (omega arith) (omega arith) r y c)

none_at : (a : ℕ) (es : List Placed) → ((y : Placed) → Contains es y → a ≢ y.at) → AllByRecursion (λ (b : ℕ). eqb a b ≡ false) (places_of es)
none_at a [] differ = tt
none_at a (y ∷ es) differ = (ne_eqb a y.at (differ y (Contains-head y es)), none_at a es (λ z c. differ z (Contains-tail y es z c)))

-- a place behind an entry isn't that entry's
differs : (pages : List ℕ) (p at : ℕ) (x : Placed) → Contains pages (p / 4096) → GoesBehind p x → IsBehind pages (x.at + entry_length x.entry) at → x.at ≢ at
differs pages p at x in_pages b (inl w) same = absurd (omega (arith, same, w.1, b.past, b.at))
differs pages p at x in_pages b (inr w) same = w (subst (λ (q : ℕ). Contains pages (q / 4096)) (sym b.at ∙ same) in_pages)

-- no two entries that are read from a place on stand at one place
pub apart_from : {R : Region} {s : Super} {tail : ℕ} {pages : List ℕ} {p : ℕ} {es : List Placed} {all : List ℕ} {fault : Option LogEnd} → Contains pages (p / 4096) → p % 8 ≡ 0 → p % 4096 ≤ 4064
    → ReadsOn R s tail pages p es all fault → IsDistinct eqb (places_of es)
unfolding IsDistinct
apart_from in_pages whole low (ends f) = tt
apart_from {R} {s} {tail} {pages} {p} in_pages whole low (reads {x = x} {es = es} f r) =
    let goes = Finds-onward R s tail pages p (finds.Entry x) f in
    let b = goes_behind p x goes.0 goes.1 whole low in
    let still = subst (Contains pages) (sym b.page) in_pages in
    IsDistinct-cons eqb x.at (places_of es) (none_at x.at es (λ y c. differs pages p y.at x in_pages b (places_behind still b.whole b.low r y c))) (apart_from still b.whole b.low r)
apart_from {R} {s} {tail} {pages} {p} in_pages whole low (turns {next = next} f r) =
    let goes = Finds-onward R s tail pages p (finds.Page next) f in
    let start : next % 4096 ≡ 0 = start_whole s next goes.0 in
    apart_from (Contains-last pages (next / 4096)) (omega arith) (omega arith) r

-- no two entries of a log stand at one place
pub entries_apart : {R : Region} {s : Super} {head tail : ℕ} {es : List Placed} {pages : List ℕ} {fault : Option LogEnd} → IsTrue (is_page_start s head) → Reads R s head tail es pages fault → IsDistinct eqb (places_of es)
entries_apart {R} {s} {head} {tail} starts r =
    let start : head % 4096 ≡ 0 = start_whole s head starts in
    apart_from (0, omega arith, refl) (omega (arith, start)) (omega (arith, start)) r
