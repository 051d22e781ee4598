-- Blocks in a list, each once, and as a set.
use Rattle.std.proofs.Common.{◌≡◌, ◌≢◌, ◌*◌, ◌/◌, ◌<◌, ◌≤◌, ◌||◌, ◌⊎◌, inl, inr, ℕ, Bool, true, false, List, [], ◌∷◌, ◌++◌, length, get_or, eqb, vec_capacity, refl, sym, ap, ◌∙◌, subst, arith, replicate}
use Rattle.std.specs.List.{list_any, IsDistinct}
use Rattle.std.proofs.Math.Bool.{or-false}
use Rattle.std.proofs.lemmas.Bool.{cases_eq, ne_eqb, eq-eqb}
use Rattle.std.proofs.lemmas.List.Folds.{list_any-append, list_any_at, list_any-from_Any}
use Rattle.std.proofs.lemmas.List.Quantifiers.{Any-push}
use Rattle.std.proofs.lemmas.Map.Keys.{IsDistinct-push}
use Rattle.std.proofs.lemmas.Map.Steps.{length-le_from_distinct_below}
use Rattle.std.proofs.lemmas.Cmp.{nat_eq_equiv}
use Rattle.nv_blockset.specs.BlockSet.{is_set, with_block}
use Rattle.nv_blockset.specs.Listed.{AreListed}
use Rattle.nv_blockset.specs.declared.listed.BlockList.TheInside.{Inside}
use Rattle.nv_blockset.proofs.Sets.{has_same, has_other, has_none, with_block_long}

-- words of 0 are an empty set
pub none_set : (words : List ℕ) (n : ℕ) → words ≡ replicate n 0 → (b : ℕ) → is_set words b ≡ false
none_set words n blank b = ap (λ (ws : List ℕ). is_set ws b) blank ∙ ap (λ (x : ℕ). eqb x 1) (has_none n b)

-- the last block is in the list
last_in : (blocks : List ℕ) (last b : ℕ) → b ≡ last → list_any (eqb b) (blocks ++ last ∷ []) ≡ true
last_in blocks last b is = list_any-from_Any (eqb b) (blocks ++ last ∷ []) (Any-push (λ (x : ℕ). eqb b x ≡ true) blocks last (eq-eqb b last is))

-- another is in it, where it is before the last
other_in : (blocks : List ℕ) (last b : ℕ) → b ≢ last → list_any (eqb b) (blocks ++ last ∷ []) ≡ list_any (eqb b) blocks
other_in blocks last b differs = list_any-append (eqb b) blocks (last ∷ []) ∙ ap (λ (t : Bool). list_any (eqb b) blocks || (t || false)) (ne_eqb b last differs) ∙ or-false (list_any (eqb b) blocks)

-- no block is listed
pub none_listed : (s : Inside) → s.blocks.items ≡ [] → ((b : ℕ) → is_set s.words.items b ≡ false) → s.bound ≤ 64 * length s.words.items → 0 < vec_capacity s.blocks → AreListed s
unfolding IsDistinct
none_listed s none off room wide = record {
  first = wide;
  room = room;
  once = subst (λ (xs : List ℕ). IsDistinct eqb xs) (sym none) tt;
  below = λ b h. (let e : list_any (eqb b) s.blocks.items ≡ false = ap (λ (xs : List ℕ). list_any (eqb b) xs) none in cc);
  listed = λ b. off b ∙ sym (ap (λ (xs : List ℕ). list_any (eqb b) xs) none);
}

-- there are no more blocks than the bound
pub few_blocks : (s : Inside) → AreListed s → length s.blocks.items ≤ s.bound
few_blocks s listed = length-le_from_distinct_below s.blocks.items s.bound listed.once listed.below

-- the block joins the list and the set
pub block_listed : (s t : Inside) (block : ℕ) → AreListed s → block < s.bound → list_any (eqb block) s.blocks.items ≡ false
    → t.bound ≡ s.bound → t.blocks.items ≡ s.blocks.items ++ block ∷ [] → t.words.items ≡ with_block s.words.items block → vec_capacity s.blocks ≤ vec_capacity t.blocks → AreListed t
block_listed s t block listed below fresh bound blocks words wide = record {
  first = omega (arith, wide, listed.first);
  room = omega (arith, bound, listed.room, ap length words, with_block_long s.words.items block);
  once = rw blocks (IsDistinct-push nat_eq_equiv s.blocks.items block listed.once fresh);
  below = λ b h. below_still b (rw blocks at h) (cases_eq b block);
  listed = λ b. ap (λ (ws : List ℕ). is_set ws b) words ∙ is_listed b (cases_eq b block) ∙ sym (ap (λ (xs : List ℕ). list_any (eqb b) xs) blocks);
}
  where
    within : block / 64 < length s.words.items
    within = omega (arith, below, listed.room)

    below_still : (b : ℕ) → list_any (eqb b) (s.blocks.items ++ block ∷ []) ≡ true → (b ≡ block) ⊎ (b ≢ block) → b < t.bound
    below_still b h (inl is) = omega (arith, is, below, bound)
    below_still b h (inr differs) = omega (arith, listed.below b (sym (other_in s.blocks.items block b differs) ∙ h), bound)

    is_listed : (b : ℕ) → (b ≡ block) ⊎ (b ≢ block) → is_set (with_block s.words.items block) b ≡ list_any (eqb b) (s.blocks.items ++ block ∷ [])
    is_listed b (inl is) = ap (λ (x : ℕ). is_set (with_block s.words.items block) x) is ∙ ap (λ (x : ℕ). eqb x 1) (has_same s.words.items block within) ∙ sym (last_in s.blocks.items block b is)
    is_listed b (inr differs) = ap (λ (x : ℕ). eqb x 1) (has_other s.words.items block b within differs) ∙ listed.listed b ∙ sym (other_in s.blocks.items block b differs)

-- each block has its bit among the words
pub block_in : (s : Inside) → AreListed s → (k : ℕ) → k < length s.blocks.items → get_or s.blocks.items k 0 < 64 * length s.words.items
block_in s listed k h = omega (arith, listed.room, listed.below (get_or s.blocks.items k 0) (list_any_at (eqb (get_or s.blocks.items k 0)) s.blocks.items k 0 h (eq-eqb (get_or s.blocks.items k 0) (get_or s.blocks.items k 0) refl)))
