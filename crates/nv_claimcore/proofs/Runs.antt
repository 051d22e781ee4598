-- What a claim of a run adds, block by block.
use Rattle.std.proofs.Common.{◌≡◌, ℕ, suc, ◌+◌, ◌<◌, ◌≤◌, List, [], ◌∷◌, ◌++◌, map, sym, refl, ap, ◌∙◌, arith}
use Rattle.std.proofs.lemmas.List.Elements.{All-nil, All-push}
use mathlib.Core.List.{map-append}
use Rattle.std.proofs.lemmas.List.{append-nil, append_assoc}
use Rattle.nv_super.specs.declared.owners.Owner.{Owner}
use Rattle.nv_super.specs.Owners.{raised, pairs}
use Rattle.nv_claimcore.specs.declared.view.Record.{Record}
use Rattle.nv_claimcore.specs.declared.view.View.{View}
use Rattle.nv_claimcore.specs.Claims.{Settled, with_record, past, above, times, below}
use Rattle.nv_claimcore.specs.Finished.{pair_of}
use Rattle.nv_claimcore.specs.Spans.{Adds}
use Rattle.std.proofs.Common.{⊎_elim}
use Rattle.std.proofs.lemmas.Bool.{cases_lt}
use Rattle.nv_claimcore.proofs.Keeps.{above_le}
use Rattle.std.proofs.Common.{cond, leb}
use Rattle.std.proofs.lemmas.List.Sums.{sum_by-append, sum_by-cons}

pub adds_none : (v : View) → Adds [] v v
adds_none v = (refl, refl, ([], sym (append-nil v.records), refl, All-nil Settled))

-- a settled record more
pub adds_one : (start : ℕ) (o : Owner) (j : ℕ) (v u : View) (r : Record) → Adds (pairs start o j) v u → pair_of r ≡ (start + j, raised o j) → Settled r → Adds (pairs start o (j + 1)) v (with_record u r)
adds_one start o j v u r adds is settled = let added = adds.2 in (
  adds.0,
  adds.1,
  (
    added.0 ++ r ∷ [],
    ap (λ xs. xs ++ r ∷ []) added.1 ∙ append_assoc v.records added.0 (r ∷ []),
    map-append pair_of added.0 (r ∷ []) ∙ (ap (λ xs. xs ++ pair_of r ∷ []) added.2 ∙ (ap (λ p. pairs start o j ++ p ∷ []) is ∙ ap (pairs start o) (let e : suc j ≡ j + 1 = omega arith in e))),
    All-push Settled added.0 r added.3 settled,
  ),
)

pub past_both : (t : ℕ) (xs ys : List ℕ) → past t (xs ++ ys) ≡ past t xs + past t ys
past_both t xs ys = sum_by-append (λ y. cond (leb t y) 1 0) xs ys

pub pairs_both : (xs ys : List Record) → map pair_of (xs ++ ys) ≡ map pair_of xs ++ map pair_of ys
pairs_both xs ys = map-append pair_of xs ys

pub past_none : (t : ℕ) (xs : List ℕ) → above xs ≤ t → past t xs ≡ 0
past_none t [] l = refl
past_none t (x ∷ xs) l = let rest = past_none t xs (omega arith) in let sum = sum_by-cons (λ y. cond (leb t y) 1 0) x xs in let here : x < t = omega arith in
    let none : ◌≡◌ {A = ℕ} (cond (leb t x) 1 0) 0 = grind (arith, here) in omega arith

-- where the numbers are those below n and some is past the end, all tickets are among them
pub all_drawn : (t n : ℕ) (xs : List ℕ) → ((x : ℕ) → times x xs ≡ below x n) → 0 < past t xs → t < n
all_drawn t n xs are some = ⊎_elim (λ l. l) (λ l. let none = past_none t xs (above_le t xs (λ x m. let here = are x in omega arith)) in absurd (omega arith)) (cases_lt t n)
