-- Each step on the table keeps its rule.
use Rattle.std.proofs.Common.{◌≡◌, ℕ, suc, ◌+◌, ◌*◌, ◌/◌, ◌%◌, ◌^◌, ◌<◌, ◌≤◌, List, [], ◌∷◌, ◌++◌, length, get_or, set, sym, refl, ap, ◌∙◌, subst, arith, replicate}
use mathlib.Core.Option.{some, none}
use lib.ListN.{get_elem?}
use Rattle.atomic_table.specs.Table.{Me, keeps, step, Allows, Splits, Joins, opening}
use Rattle.nv_blockset.specs.BlockSet.{words_for}
use Rattle.nv_claimcore.specs.declared.view.Sizes.{Sizes}
use Rattle.nv_claimcore.specs.declared.view.View.{View}
use Rattle.nv_claimcore.specs.Claims as C
use Rattle.nv_claimcore.specs.Claims.{Legal, past, times, above, won, with_number, nothing, both_views}
use Rattle.nv_claimcore.specs.Spans.{mask_all, claim_all, mark_all, Rises, AreUnmarked}
use Rattle.nv_claimmap.specs.Rule.{Kept, table_of, drawn, claimed, marked, looked, one_less}
use Rattle.nv_claimmap.proofs.TableWords.{first_get, first_set, second_get, second_set, zeros}
use Rattle.nv_claimcore.proofs.Keeps.{draw_new, draw_above, draw_small, draw_keeps, split_keeps, join_keeps, opening_legal}
use Rattle.nv_claimcore.proofs.Spans.{claims_keep, marks_keep, set_again}
use Rattle.nv_claimcore.proofs.Counting.{sum_part}
use Rattle.std.proofs.lemmas.List.{set-get_or}
use Rattle.std.proofs.lemmas.Nat.Bits.{bit_at-lt}
use Rattle.std.specs.Prelude.{bit_or}
use Rattle.nv_super.specs.declared.owners.Owner.{Owner}

-- a number that fits a word is not cut
small_mod : (a : ℕ) → a < 2 ^ 64 → a % 2 ^ 64 ≡ a
small_mod a l = omega arith

module _ (z : Sizes) (fits : z.tickets + z.workers < 2 ^ 64) (slots id : ℕ) (me : Me ℕ View) where
  -- a seat that has drawn fewer numbers past the end than it has seats may draw
  pub draw_allowed : past z.tickets me.0.numbers < me.0.seats → Allows (Kept z) slots id me 0 (λ n. (n + 1) % 2 ^ 64) (drawn (step slots 0 1 0 none) me)
  draw_allowed room s kept sized at bound =
      let core : C.State = record { first = kept.first; second = kept.second; cursor = kept.cursor; views = s.views } in
      let small : kept.cursor < z.tickets + z.workers = draw_small z core kept.legal id me.0 at room in
      let found : get_or s.words 0 0 ≡ kept.cursor = ap (λ ws. get_or ws 0 0) kept.words in
      let next : (get_or s.words 0 0 + 1) % 2 ^ 64 ≡ kept.cursor + 1 = small_mod (get_or s.words 0 0 + 1) (omega arith) ∙ ap (λ n. n + 1) found in (
        with_number me.0 kept.cursor,
        keeps,
        tt,
        record {
          first = kept.first;
          second = kept.second;
          cursor = kept.cursor + 1;
          words = ap (λ ws. set ws 0 ((get_or s.words 0 0 + 1) % 2 ^ 64)) kept.words ∙ ap (λ n. table_of n kept.first kept.second) next;
          legal = draw_keeps z core kept.legal id me.0 at room;
        },
        (ap (λ n. (with_number me.0 n, me.1)) (sym found), ap (λ n. times n me.0.numbers) found ∙ draw_new z core kept.legal id me.0 at, subst (λ n. above me.0.numbers ≤ n) (sym found) (draw_above z core kept.legal id me.0 at)),
      )

-- a seat is cut off the view that holds the seats left
pub cut_allowed : (z : Sizes) (id n : ℕ) (v : View) → v ≡ nothing (suc n) → Splits (Kept z) id v (one_less v) (nothing 1)
cut_allowed z id n v is s kept at = let at' : get_elem? s.views id ≡ some (nothing (suc n)) = at ∙ ap some is in record {
  first = kept.first;
  second = kept.second;
  cursor = kept.cursor;
  words = kept.words;
  legal = subst (λ (u : View). Legal z record { first = kept.first; second = kept.second; cursor = kept.cursor; views = set s.views id u ++ nothing 1 ∷ [] })
      (ap (λ (k : ℕ). nothing k) (omega arith) ∙ ap one_less (sym is))
      (split_keeps z record { first = kept.first; second = kept.second; cursor = kept.cursor; views = s.views } kept.legal id n at');
}

-- the table at the start: no ticket is drawn and no block claimed
pub opens : (z : Sizes) (words : List ℕ) → words ≡ replicate (2 * words_for z.blocks + 31) 0 → Kept z (opening words [] (nothing z.workers))
opens z words is = record {
  first = replicate (words_for z.blocks) 0;
  second = replicate (words_for z.blocks) 0;
  cursor = 0;
  words = is ∙ zeros (words_for z.blocks);
  legal = opening_legal z;
}

module _ (z : Sizes) (slots id : ℕ) (me : Me ℕ View) (word k mask lo hi : ℕ) (ps : List (ℕ × Owner)) (is_mask : mask ≡ mask_all ps) (inside : k < words_for z.blocks)
    (low : k * 64 ≤ lo) (high : hi ≤ k * 64 + 64) (below : hi ≤ z.blocks) (rises : Rises lo hi ps) where
  -- a seat may claim rising blocks of one word of the first set in one step
  pub claims_allowed : word ≡ 16 + k → 0 < me.0.seats → Allows (Kept z) slots id me word (λ n. bit_or n mask) (claimed ps (step slots word mask 0 none) me)
  claims_allowed here some_seat s kept sized at bound =
      let long : k < length kept.first = rw kept.legal.first_words inside in
      let found : get_or s.words word 0 ≡ get_or kept.first k 0 = first_get s.words kept.first kept.second kept.cursor kept.words word k here long in
      let now : set s.words word (bit_or (get_or s.words word 0) mask) ≡ table_of kept.cursor (set kept.first k (bit_or (get_or kept.first k 0) (mask_all ps))) kept.second =
      first_set s.words kept.first kept.second kept.cursor kept.words word k (bit_or (get_or s.words word 0) mask) here long
      ∙ ap (λ x. table_of kept.cursor (set kept.first k x) kept.second) (ap (λ x. bit_or x mask) found ∙ ap (bit_or (get_or kept.first k 0)) is_mask) in (
        claim_all (get_or kept.first k 0) ps me.0,
        keeps,
        tt,
        record {
          first = set kept.first k (bit_or (get_or kept.first k 0) (mask_all ps));
          second = kept.second;
          cursor = kept.cursor;
          words = now;
          legal = claims_keep z record { first = kept.first; second = kept.second; cursor = kept.cursor; views = s.views } kept.legal id k lo hi me.0 ps at some_seat low high below rises;
        },
        ap (λ n. (claim_all n ps me.0, me.1)) (sym found),
      )

  -- a seat may mark its unmarked claims of rising blocks of one word of the second set in one step
  pub marks_allowed : word ≡ (words_for z.blocks + 31) + k → AreUnmarked ps me.0 → Allows (Kept z) slots id me word (λ n. bit_or n mask) (marked ps (step slots word mask 0 none) me)
  marks_allowed here unmarked s kept sized at bound =
      let here' : word ≡ (length kept.first + 31) + k = rw kept.legal.first_words here in
      let long : k < length kept.second = rw kept.legal.second_words inside in
      let found : get_or s.words word 0 ≡ get_or kept.second k 0 = second_get s.words kept.first kept.second kept.cursor kept.words word k here' long in
      let now : set s.words word (bit_or (get_or s.words word 0) mask) ≡ table_of kept.cursor kept.first (set kept.second k (bit_or (get_or kept.second k 0) (mask_all ps))) =
      second_set s.words kept.first kept.second kept.cursor kept.words word k (bit_or (get_or s.words word 0) mask) here' long
      ∙ ap (λ x. table_of kept.cursor kept.first (set kept.second k x)) (ap (λ x. bit_or x mask) found ∙ ap (bit_or (get_or kept.second k 0)) is_mask) in (
        mark_all ps me.0,
        keeps,
        tt,
        record {
          first = kept.first;
          second = set kept.second k (bit_or (get_or kept.second k 0) (mask_all ps));
          cursor = kept.cursor;
          words = now;
          legal = marks_keep z record { first = kept.first; second = kept.second; cursor = kept.cursor; views = s.views } kept.legal id k lo hi me.0 ps at low high below rises unmarked;
        },
        refl,
      )

-- two seats are made one
pub both_allowed : (z : Sizes) (id other : ℕ) (v u : View) → Joins (Kept z) id v other u (both_views v u) (nothing 0)
both_allowed z id other v u s kept at apart at' = record {
  first = kept.first;
  second = kept.second;
  cursor = kept.cursor;
  words = kept.words;
  legal = join_keeps z record { first = kept.first; second = kept.second; cursor = kept.cursor; views = s.views } kept.legal id v at other u apart at';
}

-- a look changes nothing
pub look_allowed : (z : Sizes) (slots id word : ℕ) (me : Me ℕ View) → Allows (Kept z) slots id me word (λ n. n) (looked (step slots word 0 0 none) me)
look_allowed z slots id word me s kept sized at bound = (
  me.0,
  keeps,
  tt,
  record {
    first = kept.first;
    second = kept.second;
    cursor = kept.cursor;
    words = set-get_or s.words word 0 ∙ kept.words;
    legal = subst (λ (vs : List View). Legal z record { first = kept.first; second = kept.second; cursor = kept.cursor; views = vs }) (sym (set_again s.views id me.0 at)) kept.legal;
  },
  (refl, λ b. let part = sum_part (won b) s.views id me.0 at in let all = kept.legal.first b in let bit = bit_at-lt (get_or kept.first (b / 64) 0) (b % 64) in omega arith),
)
