-- The lowest unused number of a table that grew.
use Rattle.std.proofs.Common.{◌≡◌, ℕ, zero, suc, ◌+◌, ◌*◌, ◌<◌, ◌≤◌, inl, inr, Bool, true, false, is_none, cond, List, map, refl, ap, ◌∙◌, arith, Option, Some, None}
use Rattle.std.specs.List.{find, range_with_len}
use Rattle.std.proofs.Math.Nat.{mul-le-mul_right}
use Rattle.std.proofs.lemmas.Bool.{cases_eq}
use Rattle.nv_super.specs.Layout.{Layout}
use Rattle.nv_inode.specs.Chains.{IsLaid}
use Rattle.nv_inode.specs.Growing.{with_block}
use Rattle.nv_inode.specs.Numbers.{next_number, table_size}
use Rattle.nv_inode.proofs.GrownTables.{own_size}
use Rattle.nv_scan.specs.declared.piece.Row.{Row}
use Rattle.nv_rows.specs.Rows.{row_of}
use Rattle.nv_rows.specs.Unused.{is_unused, lowest_of, unused_number}
use Rattle.nv_rows.proofs.Numbers.{found_here, free_number, from_behind}

-- where none is found, none passes
none_passes : (p : ℕ → Bool) (f : ℕ → ℕ) (a n : ℕ) → find p (map f (range_with_len a n)) ≡ None → (j : ℕ) → a ≤ j → j < a + n → p (f j) ≡ false
none_passes p f a zero none j low high = absurd (omega (arith, low, high))
none_passes p f a (suc n) none j low high = by (p (f a)) refl none (λ rest. none_passes p f (a + 1) n rest j)
  where
    by : (t : Bool) → p (f a) ≡ t → cond t (Some (f a)) (find p (map f (range_with_len (a + 1) n))) ≡ None → (find p (map f (range_with_len (a + 1) n)) ≡ None → a + 1 ≤ j → j < a + 1 + n → p (f j) ≡ false) → p (f j) ≡ false
    by true on found further = absurd (cc)
    by false off rest further = elim (cases_eq j a) [
      | inl same ↦ ap (λ (k : ℕ). p (f k)) same ∙ off
      | inr differs ↦ further rest (omega (arith, low, differs)) (omega (arith, high))
    ]

none_is : (o : Option Row) → o ≡ None → is_none o ≡ true
none_is o none = ap is_none none

pub next_unused : (l : Layout) (rows : List Row) (cpu block : ℕ) → IsLaid l → cpu < l.sup.cpus → unused_number l rows cpu ≡ None → row_of rows (next_number l cpu) ≡ None → unused_number (with_block l cpu block) rows cpu ≡ Some (next_number l cpu)
next_unused l rows cpu block laid below full vacant =
    let some : 0 < next_number l cpu = (let tables = laid.layout.tables_from in let wide : 1 * l.sup.cpus ≤ table_size l cpu * l.sup.cpus = mul-le-mul_right l.sup.cpus (omega (arith, tables)) in omega (arith, wide, below)) in
    ap (λ (n : ℕ). lowest_of l.sup.cpus n rows cpu) (own_size l cpu laid below block)
    ∙ from_behind (is_unused rows) (λ k. k * l.sup.cpus + cpu) (table_size l cpu + 31) (table_size l cpu) (λ j less. none_passes (is_unused rows) (λ k. k * l.sup.cpus + cpu) 0 (table_size l cpu) full j (omega arith) (omega (arith, less)))
    ∙ found_here (is_unused rows) (λ k. k * l.sup.cpus + cpu) (table_size l cpu + 31) (table_size l cpu) (omega arith) (free_number rows (next_number l cpu) some (none_is (row_of rows (next_number l cpu)) vacant))
