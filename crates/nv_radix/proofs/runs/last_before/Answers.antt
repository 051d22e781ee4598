use Rattle.std.proofs.Common.{rules, ◌≡◌, ℕ, ◌<◌, ◌++◌, List, [], ◌∷◌, Option, Some, None, false, ap, sym, ◌∙◌, inl, inr, refl}
use Rattle.std.specs.declared.ops.Bound.TheVariants.{Excluded, Unbounded}
use Rattle.std.specs.Ordering.{nat_cmp, is_lt}
use Rattle.std.specs.declared.cmp.Ordering.TheVariants.{Less, Equal, Greater}
use Rattle.std.specs.Cmp.{nat_cmp_is}
use Rattle.std.specs.BTreeMap.{BTreeMap}
use Rattle.std.specs.BTreeMap.Range.{IsRangeOf}
use Rattle.std.proofs.lemmas.Bool.{cases_order, false≢true}
use Rattle.nv_radix.specs.declared.runs.Blocks.{Blocks}
use Rattle.nv_radix.specs.Runs.{run_at, IsLastBefore}
use Rattle.nv_radix.proofs.runs.last_before.Goals as goal

less_is : (x y : ℕ) → nat_cmp x y ≡ Less → x < y
less_is x y h = elim (cases_order x y) [
  | inl e ↦ absurd (let no : Equal ≡ nat_cmp x y = nat_cmp_is x y Equal e in cc)
  | inr w ↦ elim w [ inl l ↦ l | inr g ↦ absurd (let no : Greater ≡ nat_cmp x y = nat_cmp_is x y Greater g in cc) ]
]

last_is : (runs : BTreeMap ℕ Blocks) (page : ℕ) (r t : List (ℕ × Blocks)) (e : ℕ × Blocks) → IsRangeOf nat_cmp Unbounded (Excluded page) runs r → r ≡ t ++ e ∷ [] → IsLastBefore runs.entries page e
last_is runs page r t e range is = record {
  before = less_is e.0 page (range.3 e t is).0.1;
  is = (range.3 e t is).1;
  last = λ q more less. elim (run_at runs.entries q) as (λ (o : Option Blocks). run_at runs.entries q ≡ o → o ≡ None) [
    | None ↦ λ h. refl
    | Some b ↦ λ h. absurd (
        let past : is_lt (nat_cmp e.0 q) ≡ false = range.4 e t is q (tt, sym (nat_cmp_is q page Less less)) (rw h refl) in
        let over : Less ≡ nat_cmp e.0 q = nat_cmp_is e.0 q Less more in
        false≢true (sym past ∙ ap is_lt (sym over)))
  ] refl;
}

pub returns-clause-some : goal.returns-clause-some
returns-clause-some c =
    let range : IsRangeOf nat_cmp Unbounded (Excluded c.args.page) c.args.runs.now c.range.result = c.range.ensures.in_range (search rules) in
    last_is c.args.runs.now c.args.page c.range.result c.next_back.new.self (c.in_ok-first.first.now, c.in_ok-first.blocks.now) range c.in_ok-first.ensures.steps
