use Rattle.std.proofs.Common.{◌≡◌, ◌<◌, ◌*◌, ◌/◌, ◌%◌, ℕ, List, [], length, get_or, EachIndex, inl, inr, arith, sym, subst, ◌∙◌, ap, eqb-true, eq-eqb}
use Rattle.std.specs.Int.{bit_at}
use Rattle.std.proofs.lemmas.Bool.{cases_lt}
use Rattle.std.proofs.lemmas.List.{take_all, get_or_past}
use Rattle.std.proofs.lemmas.Nat.Bits.{bit_at-zero}
use Rattle.nv_blockset.specs.BlockSet.{is_set, has}
use Rattle.nv_super.specs.declared.owners.Owner.{Owner}
use Rattle.nv_super.specs.Order.{claim_key, SortedOf}
use Rattle.nv_super.proofs.Filters.{lists_filter}
use Rattle.nv_claimmap.specs.declared.claimed_runs.OwnedRun.{OwnedRun}
use Rattle.nv_claimmap.specs.ClaimedRuns.{all_pairs, list_pairs, lists_pairs}
use Rattle.nv_cross_check.specs.Doubled.{AreDoubled, AreCovered, claims_in_set}
use Rattle.nv_cross_check.proofs.FoundInRuns.{flat_each}
use Rattle.nv_cross_check.proofs.owners.doubled.Goals as goal

-- words of zeros have no block
none_set : (words : List ℕ) → EachIndex words (λ k. get_or words k 0 ≡ 0) → (b : ℕ) → has words b ≡ 0
none_set words zeros b =
    let zero : get_or words (b / 64) 0 ≡ 0 = elim (cases_lt (b / 64) (length words)) [ inl within ↦ zeros (b / 64) within | inr past ↦ get_or_past words (b / 64) 0 past ] in
    ap (λ (word : ℕ). bit_at word (b % 64)) zero ∙ bit_at-zero (b % 64)

-- no claim is of a block in a set that has none
none_doubled : (claims : List (ℕ × Owner)) (second : List ℕ) (found : List (ℕ × Owner)) → found ≡ [] → ((b : ℕ) → has second b ≡ 0) → AreDoubled claims second found
none_doubled claims second found is none = subst (AreDoubled claims second) (sym is) record {
  rising = tt;
  each = λ x c. absurd (omega (arith, c.1));
  all = λ x h. absurd (let clear = none x.0 in let two = h.1 in omega (arith, clear, two));
}

pub returns-then-is_empty : goal.returns-then-is_empty
returns-then-is_empty c = none_doubled c.args.claims.now.items c.args.second.now _ c.new-found.ensures.items (none_set c.args.second.now (c.is_empty.ensures c.if-is_empty.true))

pub find_in_runs-requires-clause-covers : goal.find_in_runs-requires-clause-covers
find_in_runs-requires-clause-covers c =
    let lists = c.lists-runs-items.result.now in let words = c.args.second.now in
    let all = subst (AreCovered words) c.lists-runs-items.ensures.items c.requires.covers in
    let own = flat_each (λ (x : ℕ × Owner). x.0 < 64 * length words) list_pairs lists c.loop-runs.runs-index c.runs-item.result c.loop-runs-test.true all in
    subst (λ (runs : List OwnedRun). AreCovered words (all_pairs runs)) (sym (c.deref.ensures.value ∙ ap (λ v. v.items) c.runs-item.is)) own

pub returns : goal.returns
returns c =
    let lists = c.lists-runs-items.result.now in let words = c.args.second.now in
    let all = take_all c.loop-runs.runs-index lists c.loop-runs-test.false in
    let is : c.loop-runs.found.items ≡ claims_in_set words c.args.claims.now.items =
    c.loop-runs.invariant ∙ ap (λ each. claims_in_set words (lists_pairs each)) all ∙ ap (claims_in_set words) (sym c.lists-runs-items.ensures.items) in
    let P : List (ℕ × Owner) → Type 0 = λ xs. SortedOf claim_key xs c.sort_claims.new.claims.items in
    lists_filter claim_key (λ (x : ℕ × Owner). is_set words x.0) (λ x. has words x.0 ≡ 1) _ _ (λ x h. eqb-true _ _ h) (λ x h. eq-eqb _ _ h) (subst P is c.sort_claims.ensures)
