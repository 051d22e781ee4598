-- A block of slots that is cleared and linked.
use Rattle.std.proofs.Common.{◌≡◌, ◌≢◌, ◌⊎◌, inl, inr, ◌≤◌, ◌<◌, ◌+◌, ◌*◌, ◌/◌, ◌%◌, ℕ, length, sym, ap, ◌∙◌, subst, arith}
use Rattle.std.proofs.lemmas.List.{get_or_past, get_or-set_same, get_or-set_other}
use Rattle.std.proofs.lemmas.Bool.{cases_lt}
use Rattle.nv_region.specs.Region.{Region, put, size, word}
use Rattle.nv_region.specs.Stops.{Choices, IsMixed, One}
use Rattle.nv_region.specs.Stored.{Within}
use Rattle.nv_region.proofs.Wordwise.{mixed_word}
use Rattle.nv_inode.specs.Growing.{IsBlank, IsLinked, LinksOrNot}

-- a word that is 0 stays so where only zeros were stored
pub zero_stays : (R S : Region) (at a : ℕ) → IsMixed R (One at 0) S → word R a ≡ 0 → word S a ≡ 0
zero_stays R S at a mixed before = elim (cases_lt (a / 8) (length R.words)) [
  | inl inside ↦ elim (mixed.each_word (a / 8) inside) [ inl same ↦ same ∙ before | inr here ↦ here.1 ]
  | inr outside ↦ get_or_past S.words (a / 8) 0 (omega (arith, outside, mixed.as_long))
]

pub same_size : (R S : Region) (these : Choices) → IsMixed R these S → size S ≡ size R
same_size R S these mixed = (λ i. 8 * mixed.as_long i + length (mixed.same_rest i))

pub put_here : (R : Region) (at value : ℕ) → at % 8 ≡ 0 → at + 8 ≤ size R → length R.rest < 8 → word (put R at value) at ≡ value
put_here R at value whole inside short = get_or-set_same R.words (at / 8) value 0 (omega (arith, whole, inside, short))

-- what lies outside of a block stays where its words alone changed
pub away_stays : (old Q : Region) (block : ℕ) → IsMixed old (Within (4096 * block) 4096) Q → (a : ℕ) → a % 8 ≡ 0 → (a < 4096 * block) ⊎ (4096 * block + 4096 ≤ a) → word Q a ≡ word old a
away_stays old Q block mixed a even away = mixed_word old Q (Within (4096 * block) 4096) a even mixed (λ x here. clash away here.0 here.1)
  where
    clash : (a < 4096 * block) ⊎ (4096 * block + 4096 ≤ a) → 4096 * block ≤ 8 * (a / 8) → 8 * (a / 8) < 4096 * block + 4096 → ⊥
    clash (inl low) from to = omega (arith, low, from, even)
    clash (inr high) from to = omega (arith, high, to, even)

-- ---- the link behind them

module _ (old Q : Region) (link block : ℕ) (whole : link % 8 ≡ 0) (inside : link + 8 ≤ size old) (short : length old.rest < 8) (apart : (link < 4096 * block) ⊎ (4096 * block + 4096 ≤ link)) (mixed : IsMixed old (Within (4096 * block) 4096) Q) where
  other_word : (a : ℕ) → a % 8 ≡ 0 → a ≢ link → word (put Q link (4096 * block)) a ≡ word Q a
  other_word a even differs = get_or-set_other Q.words (link / 8) (a / 8) (4096 * block) 0 (λ same. differs (omega (arith, same, even, whole)))

  start_differs : (k : ℕ) → k < 32 → 4096 * block + 128 * k ≢ link
  start_differs k less same = by apart
    where
      by : (link < 4096 * block) ⊎ (4096 * block + 4096 ≤ link) → ⊥
      by (inl low) = omega (arith, low, same)
      by (inr high) = omega (arith, high, same, less)

  pub linked : IsBlank Q block → IsLinked old link block (put Q link (4096 * block))
  linked blank = record {
    blank = λ k less. other_word (4096 * block + 128 * k) (omega arith) (start_differs k less) ∙ blank k less;
    leads = put_here Q link (4096 * block) whole (let same = same_size old Q (Within (4096 * block) 4096) mixed in omega (arith, same, inside)) (subst (λ (n : ℕ). n < 8) (ap length (sym mixed.same_rest)) short);
    others = λ a even differs away. other_word a even differs ∙ away_stays old Q block mixed a even away;
  }

pub linking_leaves : (R Q S left : Region) (link block : ℕ) → IsMixed R (Within (4096 * block) 4096) Q → S ≡ Q → IsLinked R link block (put Q link (4096 * block)) → (left ≡ S) ⊎ (left ≡ put S link (4096 * block)) → LinksOrNot R link block left
linking_leaves R Q S left link block mixed same is (inl before) = inl (subst (λ (r : Region). IsMixed R (Within (4096 * block) 4096) r) (sym (before ∙ same)) mixed)
linking_leaves R Q S left link block mixed same is (inr after) = inr (subst (λ (r : Region). IsLinked R link block r) (sym (after ∙ ap (λ (r : Region). put r link (4096 * block)) same)) is)
