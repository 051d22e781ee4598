-- What stays where only some words were stored.
use Rattle.std.proofs.Common.{◌≡◌, ◌≢◌, inl, inr, ℕ, ◌+◌, ◌*◌, ◌/◌, ◌%◌, ◌<◌, ◌≤◌, length, get_or, refl, ◌∙◌, subst, arith, length-set, lit<, lit≤}
use Rattle.std.proofs.lemmas.List.{get_or_past}
use Rattle.std.proofs.lemmas.Bool.{cases_lt}
use Rattle.nv_region.specs.Region.{Region, HasBlocks, word, put}
use Rattle.nv_region.specs.Stops.{Choices, IsMixed, One}
use Rattle.nv_region.specs.Stored.{Within}
use Rattle.nv_region.proofs.Wordwise.{mixed_word}
use Rattle.nv_super.specs.declared.superblock.Super.{Super}
use Rattle.nv_format.specs.Format.{AnyAt, HasEmptyJournals, HasNumbers}

pub put_blocks : (R : Region) (at value n : ℕ) → HasBlocks R n → HasBlocks (put R at value) n
put_blocks R at value n blocks = (length-set R.words (at / 8) value ∙ blocks.0, blocks.1)

-- a word that is 0 stays so where only zeros were stored
pub zero_stays : (R S : Region) (these : Choices) (a : ℕ) → ((i x : ℕ) → these i x → x ≡ 0) → IsMixed R these S → word R a ≡ 0 → word S a ≡ 0
zero_stays R S these a zeros mixed before = elim (cases_lt (a / 8) (length R.words)) [
  | inl inside ↦ elim (mixed.each_word (a / 8) inside) [ inl same ↦ same ∙ before | inr here ↦ zeros (a / 8) (get_or S.words (a / 8) 0) here ]
  | inr outside ↦ get_or_past S.words (a / 8) 0 (omega (arith, outside, mixed.as_long))
]

-- a word at none of the places stays
pub kept_at : (R S : Region) (places : ℕ → Type 0) (a : ℕ) → a % 8 ≡ 0 → (places a → ⊥) → IsMixed R (AnyAt places) S → word S a ≡ word R a
kept_at R S places a whole away mixed = mixed_word R S (AnyAt places) a whole mixed (λ x here. away (subst places (back a whole) here))
  where
    back : (a : ℕ) → a % 8 ≡ 0 → 8 * (a / 8) ≡ a
    back a whole = omega arith

pub kept_behind : (R S : Region) (at n a : ℕ) → a % 8 ≡ 0 → at + n ≤ a → IsMixed R (Within at n) S → word S a ≡ word R a
kept_behind R S at n a whole behind mixed = mixed_word R S (Within at n) a whole mixed (λ x here. clash (here.1))
  where
    clash : 8 * (a / 8) < at + n → ⊥
    clash to = omega arith

pub kept_other : (R S : Region) (at value a : ℕ) → at % 8 ≡ 0 → a % 8 ≡ 0 → a ≢ at → IsMixed R (One at value) S → word S a ≡ word R a
kept_other R S at value a whole_at whole differ mixed = mixed_word R S (One at value) a whole mixed (λ x here. differ (same (here.0)))
  where
    same : a / 8 ≡ at / 8 → a ≡ at
    same e = omega arith

-- the superblock's numbers and the journals stay where the words in front of the tables do, all but the magic
module _ (s : Super) (R S : Region) where
  pub numbers_kept : ((a : ℕ) → a % 8 ≡ 0 → 8 ≤ a → a < 4096 → word S a ≡ word R a) → HasNumbers R s → HasNumbers S s
  numbers_kept same numbers = record {
    version = same 8 refl (lit≤ tt) (lit< tt) ∙ numbers.version;
    cpus = same 16 refl (lit≤ tt) (lit< tt) ∙ numbers.cpus;
    blocks = same 24 refl (lit≤ tt) (lit< tt) ∙ numbers.blocks;
    table_blocks = same 32 refl (lit≤ tt) (lit< tt) ∙ numbers.table_blocks;
    state = same 40 refl (lit≤ tt) (lit< tt) ∙ numbers.state;
  }

  pub journals_kept : ((a : ℕ) → a % 8 ≡ 0 → 8 ≤ a → a < (1 + s.cpus) * 4096 → word S a ≡ word R a) → HasEmptyJournals R s → HasEmptyJournals S s
  journals_kept same empty = λ cpu below. (
    same (4096 * (1 + cpu)) (omega arith) (omega arith) (omega arith) ∙ (empty cpu below).0,
    same (4096 * (1 + cpu) + 8) (omega arith) (omega arith) (omega arith) ∙ (empty cpu below).1,
  )
