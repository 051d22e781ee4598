-- A run in parts, each within one word.
use Rattle.std.proofs.Common.{◌≡◌, ℕ, zero, suc, ◌+◌, List, [], ◌∷◌, ◌++◌, map, sym, refl, ap, ◌∙◌, arith}
use Rattle.std.specs.List.{All}
use Rattle.std.proofs.lemmas.List.Elements.{All-nil, All-cons, All-append}
use Rattle.std.proofs.lemmas.List.{append-nil, append_assoc}
use mathlib.Core.List.{map-append}
use Rattle.nv_super.specs.declared.owners.Owner.{Owner}
use Rattle.nv_super.specs.declared.owners.Owner.TheVariants.{Table, Log, Data}
use Rattle.nv_super.specs.Owners.{raised, pairs}
use Rattle.nv_claimcore.specs.declared.view.Record.{Record}
use Rattle.nv_claimcore.specs.declared.view.View.{View}
use Rattle.nv_claimcore.specs.Claims.{Settled}
use Rattle.nv_claimcore.specs.Finished.{pair_of}
use Rattle.nv_claimcore.specs.Spans.{Adds, settle}

settle_pairs : (n : ℕ) (ps : List (ℕ × Owner)) → map pair_of (settle n ps) ≡ ps
settle_pairs n [] = refl
settle_pairs n (p ∷ ps) = ap (λ qs. p ∷ qs) (settle_pairs n ps)

settle_settled : (n : ℕ) (ps : List (ℕ × Owner)) → All Settled (settle n ps)
settle_settled n [] = All-nil Settled
settle_settled n (p ∷ ps) = All-cons Settled _ (settle n ps) refl (settle_settled n ps)

raised_twice : (o : Owner) (j k : ℕ) → raised (raised o j) k ≡ raised o (j + k)
raised_twice (Table c p) j k = refl
raised_twice (Log i p) j k = refl
raised_twice (Data i p) j k = ap (Data i) (omega arith)

pub pairs_add : (start : ℕ) (o : Owner) (j k : ℕ) → pairs start o (j + k) ≡ pairs start o j ++ pairs (start + j) (raised o j) k
pairs_add start o j zero = ap (pairs start o) (let e : j + 0 ≡ j = omega arith in e) ∙ sym (append-nil (pairs start o j))
pairs_add start o j (suc k) = ap (pairs start o) (let e : j + suc k ≡ suc (j + k) = omega arith in e)
    ∙ ((λ i. pairs_add start o j k i ++ ((let e : start + (j + k) ≡ (start + j) + k = omega arith in e) i, sym (raised_twice o j k) i) ∷ [])
    ∙ append_assoc (pairs start o j) (pairs (start + j) (raised o j) k) (((start + j) + k, raised (raised o j) k) ∷ []))

pub adds_part : (start : ℕ) (o : Owner) (j k n : ℕ) (v u w : View) → Adds (pairs start o j) v u
    → w ≡ record { seats = u.seats; numbers = u.numbers; records = u.records ++ settle n (pairs (start + j) (raised o j) k) } → Adds (pairs start o (j + k)) v w
adds_part start o j k n v u w adds is = let added = adds.2 in let more = settle n (pairs (start + j) (raised o j) k) in (
  ap (λ (x : View). x.seats) is ∙ adds.0,
  ap (λ (x : View). x.numbers) is ∙ adds.1,
  (
    added.0 ++ settle n (pairs (start + j) (raised o j) k),
    ap (λ (x : View). x.records) is ∙ (ap (λ xs. xs ++ settle n (pairs (start + j) (raised o j) k)) added.1 ∙ append_assoc v.records added.0 (settle n (pairs (start + j) (raised o j) k))),
    map-append pair_of added.0 (settle n (pairs (start + j) (raised o j) k)) ∙ ((λ i. added.2 i ++ settle_pairs n (pairs (start + j) (raised o j) k) i) ∙ sym (pairs_add start o j k)),
    All-append Settled added.0 (settle n (pairs (start + j) (raised o j) k)) added.3 (settle_settled n (pairs (start + j) (raised o j) k)),
  ),
)

pub settled_part : (n : ℕ) (ps : List (ℕ × Owner)) (rs : List Record) → All Settled rs → All Settled (rs ++ settle n ps)
settled_part n ps rs all = All-append Settled rs (settle n ps) all (settle_settled n ps)
