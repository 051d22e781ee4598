-- The stores since the last fence, while they are few.
use Rattle.std.specs.Prelude.{◌≡◌, ◌≢◌, ◌<◌, ◌/◌, ℕ, List, [], ◌∷◌, length, get_or, set}
use Rattle.nv_region.specs.declared.recent.StoredWord.{StoredWord}

-- the words with these stores taken back, the last first
abbrev pub taken_back : List StoredWord → List ℕ → List ℕ
taken_back [] words = words
taken_back (store ∷ stores) words = set (taken_back stores words) store.number store.before

-- the words with these stores done, the first first
abbrev pub done_again : List StoredWord → List ℕ → List ℕ
done_again [] words = words
done_again (store ∷ stores) words = done_again stores (set words store.number store.after)

-- what is read past the end of a list of stores
abbrev pub no_store : StoredWord
no_store = record { number = 0; before = 0; after = 0 }

-- each store is to one of so many words
abbrev pub AreWithin : List StoredWord → ℕ → Type 0
AreWithin stores count = (k : ℕ) → k < length stores → (get_or stores k no_store).number < count

-- These stores led to these words, so what is taken back of them can be done again.
pub record AreHeld (stores : List StoredWord) (words : List ℕ) : Type 0 where
  pub within : AreWithin stores (length words)
  pub again : done_again stores (taken_back stores words) ≡ words

-- none of the first so many stores is to the line of this word
abbrev pub IsElsewhere : List StoredWord → ℕ → ℕ → Type 0
IsElsewhere stores count i = (k : ℕ) → k < count → (get_or stores k no_store).number / 8 ≢ i / 8
