-- The links of the tables stay where a journal holds two words that change together.
use Rattle.std.proofs.Common.{◌≡◌, ◌≢◌, ◌⊎◌, inl, inr, ◌≤◌, ◌<◌, ◌+◌, ◌/◌, ◌%◌, ℕ, arith}
use Rattle.nv_region.specs.Region.{Region, word}
use Rattle.nv_region.specs.Stops.{IsMixed}
use Rattle.nv_region.proofs.Wordwise.{mixed_word}
use Rattle.nv_inode.specs.Chains.{first_link}
use Rattle.nv_journal.specs.Undo.{journal}
use Rattle.nv_journal.specs.Recorded.{CommitWords}

-- no journal holds the link of another one's CPU
apart : (c cpu : ℕ) → (first_link c < journal cpu) ⊎ ((journal cpu + 16 ≤ first_link c) × ((first_link c + 8 ≤ journal cpu + 64) ⊎ (journal cpu + 4096 ≤ first_link c)))
apart c cpu = grind arith

-- a word that isn't one of the two, and is no number and no record
pub word_stays : (R S : Region) (cpu first v second w at : ℕ) → IsMixed R (CommitWords cpu first v second w) S → at % 8 ≡ 0 → at / 8 ≢ first / 8 → at / 8 ≢ second / 8
    → (at < journal cpu) ⊎ ((journal cpu + 16 ≤ at) × ((at + 8 ≤ journal cpu + 64) ⊎ (journal cpu + 4096 ≤ at))) → word S at ≡ word R at
word_stays R S cpu first v second w at mixed whole not_first not_second outside = mixed_word R S (CommitWords cpu first v second w) at whole mixed (λ x here. elim here [
  | inl in_journal ↦ elim in_journal [
    | inl numbers ↦ elim outside [ inl low ↦ omega (arith, low, numbers.0, whole) | inr high ↦ omega (arith, high.0, numbers.1, whole) ]
    | inr records ↦ elim outside [
      | inl low ↦ omega (arith, low, records.0, whole)
      | inr high ↦ elim high.1 [ inl before ↦ omega (arith, before, records.0, whole) | inr behind ↦ omega (arith, behind, records.1, whole) ]
    ]
  ]
  | inr two ↦ elim two [ inl one ↦ not_first one.0 | inr one ↦ not_second one.0 ]
])

pub first_links_stay : (R S : Region) (cpu first v second w c : ℕ) → IsMixed R (CommitWords cpu first v second w) S → first_link c / 8 ≢ first / 8 → first_link c / 8 ≢ second / 8 → word S (first_link c) ≡ word R (first_link c)
first_links_stay R S cpu first v second w c mixed not_first not_second = word_stays R S cpu first v second w (first_link c) mixed (omega arith) not_first not_second (apart c cpu)
