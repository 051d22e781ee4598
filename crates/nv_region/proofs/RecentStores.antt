-- The recent stores, taken back and done again.
use Rattle.std.proofs.Common.{◌≡◌, ◌≢◌, inl, inr, ◌+◌, ◌/◌, ◌<◌, ◌≤◌, ℕ, suc, List, [], ◌∷◌, ◌++◌, length, get_or, set, take, drop, refl, sym, ap, ◌∙◌, arith, length-append, length-set}
use Rattle.std.proofs.lemmas.Bool.{cases_eq}
use Rattle.std.proofs.lemmas.List.{get_or-set_other, get_or_append_left, get_or_push, set-set, set-get_or, take_more, at_drop_more, drop_all}
use Rattle.nv_region.specs.Recent.{AreHeld, IsElsewhere, done_again, no_store, taken_back}
use Rattle.nv_region.specs.StoredLines.{word_before, words_before}
use Rattle.nv_region.specs.declared.recent.StoredWord.{StoredWord}
use Rattle.nv_region.specs.declared.stored.StoredRow.{StoredRow}
use Rattle.nv_region.proofs.Before.{kept_before, same_before}

pub length-taken_back : (stores : List StoredWord) (words : List ℕ) → length (taken_back stores words) ≡ length words
length-taken_back [] words = refl
length-taken_back (store ∷ stores) words = length-set (taken_back stores words) store.number store.before ∙ length-taken_back stores words

-- the last of them is taken back first
last_taken_back : (stores : List StoredWord) (store : StoredWord) (words : List ℕ) → taken_back (stores ++ store ∷ []) words ≡ taken_back stores (set words store.number store.before)
last_taken_back [] store words = refl
last_taken_back (first ∷ stores) store words = ap (λ (l : List ℕ). set l first.number first.before) (last_taken_back stores store words)

-- and done last
last_done : (stores : List StoredWord) (store : StoredWord) (words : List ℕ) → done_again (stores ++ store ∷ []) words ≡ set (done_again stores words) store.number store.after
last_done [] store words = refl
last_done (first ∷ stores) store words = last_done stores store (set words first.number first.after)

pub none_held : (words : List ℕ) → AreHeld [] words
none_held words = record { within = λ k low. absurd (omega (arith, low)); again = refl }

-- A store that comes next.
module _ (stores : List StoredWord) (words : List ℕ) (number value : ℕ) where
  abbrev pub next_store : StoredWord
  next_store = record { number = number; before = get_or words number 0; after = value }

  pub next_taken_back : taken_back (stores ++ next_store ∷ []) (set words number value) ≡ taken_back stores words
  next_taken_back = last_taken_back stores next_store (set words number value) ∙ ap (taken_back stores) (set-set words number value (get_or words number 0) ∙ set-get_or words number 0)

  pub next_held : number < length words → AreHeld stores words → AreHeld (stores ++ next_store ∷ []) (set words number value)
  next_held within held = record {
    within = λ k low. let long = length-set words number value in elim (cases_eq k (length stores)) [
      | inl last ↦ (let is : (get_or (stores ++ next_store ∷ []) k no_store).number ≡ number = ap (λ (s : StoredWord). s.number) (get_or_push stores next_store no_store k (sym last)) in omega (arith, is, within, long))
      | inr other ↦ (
          let less : k < length stores = omega (arith, low, other, length-append stores (next_store ∷ [])) in
          let is : (get_or (stores ++ next_store ∷ []) k no_store).number ≡ (get_or stores k no_store).number = ap (λ (s : StoredWord). s.number) (get_or_append_left stores (next_store ∷ []) no_store k less) in
          omega (arith, is, held.within k less, long))
    ];
    again = ap (done_again (stores ++ next_store ∷ [])) next_taken_back ∙ last_done stores next_store (taken_back stores words) ∙ ap (λ (l : List ℕ). set l number value) held.again;
  }

-- a word that none of them is to is as it was
pub elsewhere_same : (stores : List StoredWord) (words : List ℕ) (i : ℕ) → IsElsewhere stores (length stores) i → get_or (taken_back stores words) i 0 ≡ get_or words i 0
elsewhere_same [] words i away = refl
elsewhere_same (store ∷ stores) words i away =
    get_or-set_other (taken_back stores words) store.number i store.before 0 (λ is. away 0 (omega arith) (ap (λ (n : ℕ). n / 8) (sym is)))
    ∙ elsewhere_same stores words i (λ k low. away (suc k) (omega (arith, low)))

-- one of the last stores more is taken back
pub more_taken_back : (stores : List StoredWord) (words made : List ℕ) (k next : ℕ) → k < length stores → next ≡ k + 1 → made ≡ taken_back (drop next stores) words
    → set made (get_or stores k no_store).number (get_or stores k no_store).before ≡ taken_back (drop k stores) words
more_taken_back stores words made k next low one is =
    ap (λ (l : List ℕ). set l (get_or stores k no_store).number (get_or stores k no_store).before) (is ∙ ap (λ (n : ℕ). taken_back (drop n stores) words) one) ∙ sym (at_drop_more (λ (l : List StoredWord). taken_back l words) stores k no_store low)

pub none_taken_back : (stores : List StoredWord) (words : List ℕ) (k : ℕ) → length stores ≤ k → words ≡ taken_back (drop k stores) words
none_taken_back stores words k end = ap (λ (l : List StoredWord). taken_back l words) (sym (drop_all k stores end))

-- one of the first stores more is done again
pub more_done : (stores : List StoredWord) (words made : List ℕ) (k : ℕ) → k < length stores → made ≡ done_again (take k stores) words
    → set made (get_or stores k no_store).number (get_or stores k no_store).after ≡ done_again (take (k + 1) stores) words
more_done stores words made k low is =
    ap (λ (l : List ℕ). set l (get_or stores k no_store).number (get_or stores k no_store).after) is
    ∙ sym (ap (λ (l : List StoredWord). done_again l words) (take_more stores k no_store low) ∙ last_done (take k stores) (get_or stores k no_store) words)

-- From one moment to another the lines of the first so many stores were noted: the words before are as they were, whatever becomes of these lines.
abbrev pub AreNotedEach : List StoredWord → List StoredRow → List ℕ → List StoredRow → List ℕ → List ℕ → ℕ → Type 0
AreNotedEach stores rows kept noted more words count =
    (after : List ℕ) (i : ℕ) → i < length words → (IsElsewhere stores count i → get_or after i 0 ≡ get_or words i 0) → word_before noted more after i ≡ word_before rows kept words i

pub none_noted : (stores : List StoredWord) (rows : List StoredRow) (kept words : List ℕ) → AreNotedEach stores rows kept rows kept words 0
none_noted stores rows kept words after i within same = kept_before rows kept words after i (λ none. same (λ k low. absurd (omega (arith, low))))

pub one_noted : (stores : List StoredWord) (rows : List StoredRow) (kept : List ℕ) (now : List StoredRow) (has : List ℕ) (noted : List StoredRow) (more words : List ℕ) (k : ℕ)
    → ((after : List ℕ) (i : ℕ) → i < length words → i / 8 ≡ (get_or stores k no_store).number / 8 → word_before noted more after i ≡ word_before now has words i)
    → ((after : List ℕ) (i : ℕ) → i < length words → i / 8 ≢ (get_or stores k no_store).number / 8 → word_before noted more after i ≡ word_before now has after i)
    → AreNotedEach stores rows kept now has words k → AreNotedEach stores rows kept noted more words (k + 1)
one_noted stores rows kept now has noted more words k here others was after i within same = elim (cases_eq (i / 8) ((get_or stores k no_store).number / 8)) [
  | inl is ↦ here after i within is ∙ was words i within (λ away. refl)
  | inr not ↦ others after i within not ∙ was after i within (λ away. same (λ j low. elim (cases_eq j k) [
    | inl last ↦ (λ e. not (sym e ∙ ap (λ (m : ℕ). (get_or stores m no_store).number / 8) last))
    | inr other ↦ away j (omega (arith, low, other))
  ]))
]

-- once all are noted on the words without these stores, the words before are those of the words with them
pub all_noted : (stores : List StoredWord) (rows noted : List StoredRow) (kept more words : List ℕ) → AreNotedEach stores rows kept noted more (taken_back stores words) (length stores) → words_before noted more words ≡ words_before rows kept (taken_back stores words)
all_noted stores rows noted kept more words each =
    let long = length-taken_back stores words in
    same_before rows noted kept more (taken_back stores words) words (sym long) (λ i within. each words i within (λ away. sym (elsewhere_same stores words i away)))
