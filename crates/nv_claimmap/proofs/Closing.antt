-- What the last state of a table says, where one seat has all seats.
use Rattle.std.proofs.Common.{◌≡◌, ℕ, zero, suc, ◌+◌, ◌-◌, List, [], ◌∷◌, ◌++◌, map, length, take, drop, sym, ap, ◌∙◌, subst, arith, min}
use Rattle.std.specs.List.{All}
use mathlib.Core.Option.{some, some-injective, some-ne-none}
use lib.ListN.{get_elem?}
use Rattle.atomic_table.specs.Table.{Final, Seen}
use Rattle.nv_blockset.specs.BlockSet.{has, words_for}
use Rattle.nv_super.specs.Owners.{claims_of}
use Rattle.nv_claimcore.specs.declared.view.Sizes.{Sizes}
use Rattle.nv_claimcore.specs.declared.view.View.{View}
use Rattle.nv_claimcore.specs.Claims.{times, won, below, Settled}
use Rattle.nv_claimcore.specs.Finished.{pair_of}
use Rattle.nv_claimcore.proofs.Whole.{whole_numbers, whole_once, whole_first, whole_second}
use Rattle.std.proofs.Math.Seq.{take-append_seam, drop-append_seam}
use Rattle.nv_claimmap.specs.Rule.{Kept, idle, table_of}
use Rattle.nv_claimmap.proofs.TableWords.{before_second, before_long, second_last}

-- ---- copies of words

-- one element more is taken
take_elem : (xs : List ℕ) (i x : ℕ) → get_elem? xs i ≡ some x → take (suc i) xs ≡ take i xs ++ x ∷ []
take_elem [] i x e = absurd (some-ne-none x (sym e))
take_elem (y ∷ ys) zero x e = ap (λ z. z ∷ []) (some-injective y x e)
take_elem (y ∷ ys) (suc i) x e = ap (λ zs. y ∷ zs) (take_elem ys i x e)

-- an element behind those that are dropped
drop_elem : (n : ℕ) (xs : List ℕ) (i x : ℕ) → get_elem? xs (n + i) ≡ some x → get_elem? (drop n xs) i ≡ some x
drop_elem zero xs i x e = ap (get_elem? xs) (let d : i ≡ 0 + i = omega arith in d) ∙ e
drop_elem (suc n) [] i x e = absurd (some-ne-none x (sym e))
drop_elem (suc n) (y ∷ ys) i x e = drop_elem n ys i x (ap (get_elem? (y ∷ ys)) (let d : suc (n + i) ≡ suc n + i = omega arith in d) ∙ e)

-- a copy of a stretch of words grows by one
pub copy_one : (xs to : List ℕ) (n i x : ℕ) → to ≡ take i (drop n xs) → get_elem? xs (n + i) ≡ some x → to ++ x ∷ [] ≡ take (i + 1) (drop n xs)
copy_one xs to n i x are e = ap (λ zs. zs ++ x ∷ []) are ∙ (sym (take_elem (drop n xs) i x (drop_elem n xs i x e)) ∙ ap (λ k. take k (drop n xs)) (let d : suc i ≡ i + 1 = omega arith in d))

-- ---- the last state

-- what `close` tells of the view of its seat and of the two sets
pub record Ends (blocks : ℕ) (v : View) (first second : List ℕ) : Type 0 where
  pub numbers : (n : ℕ) × ((x : ℕ) → times x v.numbers ≡ below x n)
  pub once : (b : ℕ) → won b v ≡ min 1 (claims_of b (map pair_of v.records))
  pub first_words : length first ≡ words_for blocks
  pub first_has : (b : ℕ) → has first b ≡ min 1 (claims_of b (map pair_of v.records))
  pub second_words : length second ≡ words_for blocks
  pub second_has : (b : ℕ) → has second b ≡ min 1 (claims_of b (map pair_of v.records) - 1)

-- where the seat has all seats, the last words are two sets of which the view tells
pub ending : (z : Sizes) (id : ℕ) (v : View) (ws : List ℕ) (xs : List ℕ) → Final (Seen (Kept z) id v) ws xs → v.seats ≡ z.workers → All Settled v.records
    → Ends z.blocks v (take (words_for z.blocks) (drop 16 ws)) (take (words_for z.blocks) (drop (words_for z.blocks + 31) ws))
ending z id v ws xs final all settled =
    let s = final.0 in let kept = final.1.0 in let at = final.1.1 in
    let are : ws ≡ table_of kept.cursor kept.first kept.second = sym final.2 ∙ kept.words in
    let one : take (words_for z.blocks) (drop 16 ws) ≡ kept.first = ap (λ us. take (words_for z.blocks) (drop 16 us)) are
    ∙ (ap (λ k. take k (kept.first ++ (idle ++ kept.second))) (sym kept.legal.first_words) ∙ take-append_seam kept.first (idle ++ kept.second)) in
    let front : words_for z.blocks + 31 ≡ length (before_second kept.cursor kept.first) = ap (λ k. k + 31) (sym kept.legal.first_words) ∙ sym (before_long kept.cursor kept.first) in
    let two : take (words_for z.blocks) (drop (words_for z.blocks + 31) ws) ≡ kept.second = ap (λ us. take (words_for z.blocks) (drop (words_for z.blocks + 31) us)) (are ∙ second_last kept.cursor kept.first kept.second)
    ∙ (ap (λ k. take (words_for z.blocks) (drop k (before_second kept.cursor kept.first ++ (kept.second ++ [])))) front
    ∙ (ap (take (words_for z.blocks)) (drop-append_seam (before_second kept.cursor kept.first) (kept.second ++ []))
    ∙ (ap (λ k. take k (kept.second ++ [])) (sym kept.legal.second_words) ∙ take-append_seam kept.second []))) in
    subst (λ (x : List ℕ × List ℕ). Ends z.blocks v x.0 x.1) (λ i. (sym one i, sym two i)) record {
      numbers = (kept.cursor, whole_numbers z _ kept.legal id v at all settled);
      once = whole_once z _ kept.legal id v at all settled;
      first_words = kept.legal.first_words;
      first_has = whole_first z _ kept.legal id v at all settled;
      second_words = kept.legal.second_words;
      second_has = whole_second z _ kept.legal id v at all settled;
    }
