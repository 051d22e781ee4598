-- The blocks that the pages of a write had: each is the block of a page, and none stands twice.
use Rattle.std.proofs.Common.{◌≡◌, ℕ, zero, suc, ◌+◌, ◌<◌, ◌≤◌, inl, inr, List, ◌++◌, refl, ap, sym, ◌∙◌, subst, arith, Option, Some, None}
use Rattle.std.specs.List.{cons_option}
use Rattle.std.specs.Option.{option_map}
use Rattle.std.proofs.lemmas.Bool.{cases_eq}
use Rattle.std.proofs.lemmas.Option.{same_Some}
use Rattle.nv_super.specs.declared.owners.Run.{Run}
use Rattle.nv_super.proofs.Members.{none_in}
use Rattle.nv_alloc.specs.Taking.{Disjoint, HasBlock, block_run}
use Rattle.nv_alloc.proofs.Leaving.{block_cases, block_left, block_right, block_sides, disjoint_append, first_block, later_block}
use Rattle.nv_alloc.proofs.Singly.{block_is}
use Rattle.nv_radix.specs.Pages.{Pages, block_at}
use Rattle.nv_steps.specs.Writes.{ended_blocks, page_blocks, replaced_blocks}
use Rattle.nv_steps.specs.declared.planning.Plan.{Plan}
use Rattle.nv_steps.proofs.DataEntries.{IsWritten}

-- a page from one on, of so many, with this block
pub record IsPageBlock (m : Pages) (first count b : ℕ) : Type 0 where
  pub page : ℕ
  pub from : first ≤ page
  pub below : page < first + count
  pub at : block_at m page ≡ Some b

-- each of the blocks is a page's
pub page_of : (m : Pages) (first count b : ℕ) → HasBlock (page_blocks m first count) b → IsPageBlock m first count b
page_of m first zero b w = absurd (none_in w.0 w.1)
page_of m first (suc count) b w = by (block_at m first) refl w (λ v. page_of m (first + 1) count b v) where
  later : IsPageBlock m (first + 1) count b → IsPageBlock m first (suc count) b
  later v = record { page = v.page; from = (let low = v.from in omega (arith, low)); below = (let high = v.below in omega (arith, high)); at = v.at }

  by : (o : Option ℕ) → block_at m first ≡ o → HasBlock (cons_option (option_map block_run o) (page_blocks m (first + 1) count)) b → (HasBlock (page_blocks m (first + 1) count) b → IsPageBlock m (first + 1) count b) → IsPageBlock m first (suc count) b
  by None at w rest = later (rest w)
  by (Some a) at w rest = elim (block_cases (block_run a) (page_blocks m (first + 1) count) b w) [
    | inl here ↦ record { page = first; from = omega arith; below = omega arith; at = at ∙ ap (λ (n : ℕ). Some n) (sym (block_is a b here)) }
    | inr v ↦ later (rest v)
  ]

-- and each page's block is one of them
pub block_of_page : (m : Pages) (first count p b : ℕ) → first ≤ p → p < first + count → block_at m p ≡ Some b → HasBlock (page_blocks m first count) b
block_of_page m first zero p b low high at = absurd (omega (arith, low, high))
block_of_page m first (suc count) p b low high at = elim (cases_eq p first) [
  | inl same ↦ by (block_at m first) (ap (block_at m) (sym same) ∙ at)
  | inr differs ↦ over (block_at m first) (block_of_page m (first + 1) count p b (omega (arith, low, differs)) (omega (arith, high)) at)
] where
  by : (o : Option ℕ) → o ≡ Some b → HasBlock (cons_option (option_map block_run o) (page_blocks m (first + 1) count)) b
  by o is = subst (λ (x : Option ℕ). HasBlock (cons_option (option_map block_run x) (page_blocks m (first + 1) count)) b) (sym is) (first_block (block_run b) (page_blocks m (first + 1) count) b (omega arith, omega arith))

  over : (o : Option ℕ) → HasBlock (page_blocks m (first + 1) count) b → HasBlock (cons_option (option_map block_run o) (page_blocks m (first + 1) count)) b
  over None w = w
  over (Some a) w = later_block (block_run a) (page_blocks m (first + 1) count) b w

-- no two pages have one block
abbrev pub IsOnce : Pages → Type 0
IsOnce m = (p q b : ℕ) → block_at m p ≡ Some b → block_at m q ≡ Some b → p ≡ q

pub page_blocks_once : (m : Pages) (first count : ℕ) → IsOnce m → Disjoint (page_blocks m first count)
page_blocks_once m first zero once = tt
page_blocks_once m first (suc count) once = by (block_at m first) refl (page_blocks_once m (first + 1) count once) where
  by : (o : Option ℕ) → block_at m first ≡ o → Disjoint (page_blocks m (first + 1) count) → Disjoint (cons_option (option_map block_run o) (page_blocks m (first + 1) count))
  by None at rest = rest
  by (Some a) at rest = (
    (λ b here w. (
        let v = page_of m (first + 1) count b w in
        let same : first ≡ v.page = once first v.page b (at ∙ ap (λ (n : ℕ). Some n) (sym (block_is a b here))) v.at in
        let low = v.from in
        omega (arith, same, low))),
    rest,
  )

-- ---- those of a write

-- What they are.
pub record AreReplaced (m : Pages) (plan : Plan) (runs : List Run) : Type 0 where
  pub each : (b : ℕ) → HasBlock runs b → (p : ℕ) × (block_at m p ≡ Some b) × IsWritten plan p
  pub all : (p b : ℕ) → block_at m p ≡ Some b → IsWritten plan p → HasBlock runs b
  pub once : IsOnce m → ((q : ℕ) → plan.ending ≡ Some q → q < plan.first) → Disjoint runs

by_ending : (m : Pages) (plan : Plan) (o : Option ℕ) → plan.ending ≡ o → AreReplaced m plan (ended_blocks m o ++ page_blocks m plan.first plan.pages)
by_ending m plan None none = record {
  each = λ b w. (let v = page_of m plan.first plan.pages b w in (v.page, v.at, inr (v.from, v.below)));
  all = λ p b at w. elim w [ inl ends ↦ absurd (let clash : None ≡ Some p = sym none ∙ ends in cc) | inr v ↦ block_of_page m plan.first plan.pages p b v.0 v.1 at ];
  once = λ once before. page_blocks_once m plan.first plan.pages once;
}
by_ending m plan (Some q) ends = record {
  each = λ b w. elim (block_sides (page_blocks m q 1) (page_blocks m plan.first plan.pages) b w) [
    | inl first ↦ (let v = page_of m q 1 b first in (v.page, v.at, inl (ends ∙ ap (λ (n : ℕ). Some n) (let low = v.from in let high = v.below in let same : q ≡ v.page = omega (arith, low, high) in same))))
    | inr rest ↦ (let v = page_of m plan.first plan.pages b rest in (v.page, v.at, inr (v.from, v.below)))
  ];
  all = λ p b at w. elim w [
    | inl is ↦ (let same : q ≡ p = same_Some _ _ (sym ends ∙ is) in block_left (page_blocks m q 1) (page_blocks m plan.first plan.pages) b (block_of_page m q 1 p b (omega (arith, same)) (omega (arith, same)) at))
    | inr v ↦ block_right (page_blocks m q 1) (page_blocks m plan.first plan.pages) b (block_of_page m plan.first plan.pages p b v.0 v.1 at)
  ];
  once = λ once before. disjoint_append (page_blocks m q 1) (page_blocks m plan.first plan.pages) (page_blocks_once m q 1 once) (page_blocks_once m plan.first plan.pages once)
      (λ b first rest. (
      let v = page_of m q 1 b first in
      let w = page_of m plan.first plan.pages b rest in
      let same : v.page ≡ w.page = once v.page w.page b v.at w.at in
      let low = before q ends in
      let high = v.below in
      let from = w.from in
      omega (arith, same, low, high, from)));
}

pub are_replaced : (m : Pages) (plan : Plan) → AreReplaced m plan (replaced_blocks m plan)
are_replaced m plan = by_ending m plan plan.ending refl
