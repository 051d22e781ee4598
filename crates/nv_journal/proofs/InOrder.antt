-- In which order words that change together are stored.
use Rattle.std.proofs.Common.{◌≡◌, ◌≢◌, ◌⊎◌, ℕ, ◌+◌, ◌%◌, ◌≤◌, ◌<◌, inl, inr, length, ap, sym, ◌∙◌, arith}
use Rattle.nv_region.specs.Region.{Region, put, size, word}
use Rattle.nv_region.proofs.Puts.{put_here, put_long, put_other}
use Rattle.nv_journal.specs.Undo.{journal}
use Rattle.nv_journal.specs.InOrder.{FirstIsFirst, ThreeInOrder}

-- nothing was stored
pub none_first : (R S : Region) (first v second : ℕ) → S ≡ R → FirstIsFirst R first v second S
none_first R S first v second same = inl (ap (λ (X : Region). word X second) same)

-- the first word was
pub one_first : (R S Q : Region) (first v second : ℕ) → first % 8 ≡ 0 → second % 8 ≡ 0 → first ≢ second → S ≡ put R first v → Q ≡ S → FirstIsFirst R first v second Q
one_first R S Q first v second whole also differ done same = inl (ap (λ (X : Region). word X second) (same ∙ done) ∙ put_other R first v second (λ e. differ (omega (arith, e, whole, also))))

-- both were
pub both_first : (R S T Q : Region) (first v second w : ℕ) → first % 8 ≡ 0 → second % 8 ≡ 0 → first + 8 ≤ size R → length R.rest < 8 → first ≢ second → S ≡ put R first v → T ≡ put S second w → Q ≡ T → FirstIsFirst R first v second Q
both_first R S T Q first v second w whole also inside short differ done then same =
    inr (ap (λ (X : Region). word X first) (same ∙ then) ∙ put_other S second w first (λ e. differ (omega (arith, e, whole, also))) ∙ ap (λ (X : Region). word X first) done ∙ put_here R first v (omega (arith, inside, short)))

-- Told of the region before, from which the second word hasn't changed.
pub first_since : (R B S : Region) (first v second : ℕ) → word B second ≡ word R second → FirstIsFirst B first v second S → FirstIsFirst R first v second S
first_since R B S first v second same (inl still) = inl (still ∙ same)
first_since R B S first v second same (inr stored) = inr stored

-- Told of a region in which the words are the same.
pub first_later : (R S X : Region) (first v second : ℕ) → word X first ≡ word S first → word X second ≡ word S second → FirstIsFirst R first v second S → FirstIsFirst R first v second X
first_later R S X first v second one two (inl still) = inl (two ∙ still)
first_later R S X first v second one two (inr stored) = inr (one ∙ stored)

-- a word behind a journal, when a word in that journal's block was stored or not
pub behind_journal : (S X : Region) (cpu v a : ℕ) → (X ≡ S) ⊎ (X ≡ put S (journal cpu) v) → journal cpu + 4096 ≤ a → word X a ≡ word S a
behind_journal S X cpu v a (inl same) high = ap (λ (Y : Region). word Y a) same
behind_journal S X cpu v a (inr done) high = ap (λ (Y : Region). word Y a) done ∙ put_other S (journal cpu) v a (λ e. omega (arith, e, high))

-- ---- three words

-- in the order of their records: whole, within the region, and apart
module _ (R : Region) (f s t : ℕ × ℕ) (first : (f.0 % 8 ≡ 0) × (f.0 + 8 ≤ size R)) (second : (s.0 % 8 ≡ 0) × (s.0 + 8 ≤ size R)) (third : t.0 % 8 ≡ 0)
    (one : f.0 ≢ s.0) (two : f.0 ≢ t.0) (three : s.0 ≢ t.0) where
  off : (Q : Region) (c d : ℕ × ℕ) → c.0 % 8 ≡ 0 → d.0 % 8 ≡ 0 → c.0 ≢ d.0 → word (put Q c.0 c.1) d.0 ≡ word Q d.0
  off Q c d whole also differ = put_other Q c.0 c.1 d.0 (λ e. differ (omega (arith, e, whole, also)))

  pub three_none : (Q : Region) → Q ≡ R → ThreeInOrder R f s t Q
  three_none Q same = (none_first R Q f.0 f.1 s.0 same, none_first R Q s.0 s.1 t.0 same)

  pub three_one : (S Q : Region) → S ≡ put R f.0 f.1 → Q ≡ S → ThreeInOrder R f s t Q
  three_one S Q done same = (one_first R S Q f.0 f.1 s.0 first.0 second.0 one done same, inl (ap (λ (X : Region). word X t.0) (same ∙ done) ∙ off R f t first.0 third two))

  module _ (short : length R.rest < 8) where
    pub three_two : (S T Q : Region) → S ≡ put R f.0 f.1 → T ≡ put S s.0 s.1 → Q ≡ T → ThreeInOrder R f s t Q
    three_two S T Q done then same = (
      both_first R S T Q f.0 f.1 s.0 s.1 first.0 second.0 first.1 short one done then same,
      inl (ap (λ (X : Region). word X t.0) (same ∙ then) ∙ off S s t second.0 third three ∙ ap (λ (X : Region). word X t.0) done ∙ off R f t first.0 third two),
    )

    pub three_all : (S T U Q : Region) → S ≡ put R f.0 f.1 → T ≡ put S s.0 s.1 → U ≡ put T t.0 t.1 → Q ≡ U → ThreeInOrder R f s t Q
    three_all S T U Q done then last same = (
      inr (ap (λ (X : Region). word X f.0) (same ∙ last) ∙ off T t f third first.0 (λ e. two (sym e)) ∙ ap (λ (X : Region). word X f.0) then ∙ off S s f second.0 first.0 (λ e. one (sym e))
          ∙ ap (λ (X : Region). word X f.0) done ∙ put_here R f.0 f.1 (let inside = first.1 in omega (arith, inside, short))),
      inr (ap (λ (X : Region). word X s.0) (same ∙ last) ∙ off T t s third second.0 (λ e. three (sym e)) ∙ ap (λ (X : Region). word X s.0) then
          ∙ put_here S s.0 s.1 (let inside = second.1 in omega (arith, inside, short, ap (λ (X : Region). length X.words) done, put_long R f.0 f.1))),
    )

-- told of the region before, from which the words haven't changed
pub three_since : (R B S : Region) (f s t : ℕ × ℕ) → word B s.0 ≡ word R s.0 → word B t.0 ≡ word R t.0 → ThreeInOrder B f s t S → ThreeInOrder R f s t S
three_since R B S f s t second third order = (first_since R B S f.0 f.1 s.0 second order.0, first_since R B S s.0 s.1 t.0 third order.1)

-- told of a region in which the words are the same
pub three_later : (R S X : Region) (f s t : ℕ × ℕ) → word X f.0 ≡ word S f.0 → word X s.0 ≡ word S s.0 → word X t.0 ≡ word S t.0 → ThreeInOrder R f s t S → ThreeInOrder R f s t X
three_later R S X f s t one two three order = (first_later R S X f.0 f.1 s.0 one two order.0, first_later R S X s.0 s.1 t.0 two three order.1)
