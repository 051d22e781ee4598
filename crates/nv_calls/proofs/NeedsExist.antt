-- There is a number of blocks that a write needs.
use Rattle.std.proofs.Common.{◌≡◌, ℕ, ◌+◌, ◌%◌, ◌<◌, inl, inr, List, refl, sym, ◌∙◌, subst, arith, Option, Some, None}
use Rattle.std.specs.Option.{option_and_then}
use Rattle.std.proofs.lemmas.Bool.{cases_lt}
use Rattle.nv_region.specs.Region.{Region}
use Rattle.nv_super.specs.declared.owners.Run.{Run}
use Rattle.nv_alloc.specs.Taking.{all_blocks}
use Rattle.nv_alloc.proofs.TakeExists.{take_exists}
use Rattle.nv_logpage.specs.Append.{needed}
use Rattle.nv_radix.specs.Pages.{block_at}
use Rattle.nv_scan.specs.declared.piece.Row.{Row}
use Rattle.nv_graph.specs.Read.{row_of}
use Rattle.nv_tree.specs.Refusals.{Path, target}
use Rattle.nv_calls.specs.Mount.{Mount}
use Rattle.nv_paths.specs.Seen.{tree_of}
use Rattle.nv_calls.specs.WriteCall.{WriteNeeds}
use Rattle.nv_steps.specs.Writes.{NeedsBlocks, data_blocks, data_entries, plan_of}
use Rattle.nv_steps.specs.declared.planning.Plan.{Plan}

-- behind a tail
blocks_needed : (pools : List (List Run)) (cpu tail : ℕ) (plan : Plan) → (count : ℕ) × NeedsBlocks pools cpu tail plan count
blocks_needed pools cpu tail plan = elim (cases_lt (all_blocks pools) (data_blocks plan)) [
  | inl few ↦ (data_blocks plan, inl (few, refl))
  | inr enough ↦ (let t = take_exists pools cpu (data_blocks plan) enough in (data_blocks plan + needed (tail % 4096) (data_entries plan t.0), inr (t.0, t.1, t.2, refl)))
]

module _ {P : Type 0} (R : Region) (m : Mount P) (cpu : ℕ) (p : Path) (offset bytes time : ℕ) where
  abbrev plan : Row → Plan
  plan row = plan_of (block_at row.index) row.numbers.size offset bytes time

  -- where the path leads to this row, or to none
  by_row : 0 < bytes → (o : Option Row) → option_and_then (row_of m.rows) (target (tree_of R m.rows) p) ≡ o → (count : ℕ) × WriteNeeds R m cpu p offset bytes time count
  by_row some None e = (0, record { none = λ zero. refl; some = λ there row is. absurd (nothing row (sym e ∙ is)) }) where
    nothing : (row : Row) → None ≡ Some row → ⊥
    nothing row same = cc
  by_row some (Some r) e =
      let w = blocks_needed m.free.pools cpu r.tail (plan r) in
      (w.0, record { none = λ zero. absurd (omega (arith, zero, some)); some = λ there row is. subst (λ (x : Row). NeedsBlocks m.free.pools cpu x.tail (plan x) w.0) (one row (sym e ∙ is)) w.1 }) where
        one : (row : Row) → Some r ≡ Some row → r ≡ row
        one row same = cc

  pub write_needs : (count : ℕ) × WriteNeeds R m cpu p offset bytes time count
  write_needs = elim (cases_lt 0 bytes) [
    | inl some ↦ by_row some (option_and_then (row_of m.rows) (target (tree_of R m.rows) p)) refl
    | inr none ↦ (0, record { none = λ zero. refl; some = λ there. absurd (omega (arith, none, there)) })
  ]
