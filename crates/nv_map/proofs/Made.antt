-- The marked cells are a map of the outcome.
use Rattle.std.proofs.Common.{◌⊎◌, inl, inr, ℕ, ◌*◌, ◌≤◌, max, get_or, refl, ap, sym, ◌∙◌, subst, arith}
use Rattle.std.proofs.lemmas.Grind.{div_ceil_times}
use Rattle.std.specs.Int.{div_ceil}
use Rattle.nv_super.specs.Layout.{system_blocks}
use Rattle.nv_outcome.specs.Outcome.{Outcome}
use Rattle.nv_map.specs.declared.uses.BlockUse.{BlockUse}
use Rattle.nv_map.specs.declared.uses.BlockUse.TheVariants.{Free, System}
use Rattle.nv_map.specs.declared.marks.Marks.{Marks}
use Rattle.nv_map.specs.Map.{IsUsedBy, IsUsedForTables, IsUsedTwice, IsUsed, system, chained, owned, doubled, AreCells}
use Rattle.nv_map.specs.Marks.{AreFree, HasRoom, AreUsed, IsRaised, Raises, SaysOne}
use Rattle.nv_map.proofs.Raising.{raises_both}
use Rattle.nv_map.proofs.Runs.{few_cells}

-- what a block is used for was told
told : (o : Outcome) (n : ℕ) (kind : BlockUse) → IsUsed o n kind → ((AreUsed 0 (system_blocks o.sup) System n kind ⊎ IsUsedForTables o.tables n kind) ⊎ SaysOne IsUsedBy o.rows n kind) ⊎ IsUsedTwice o.doubled n kind
told o n _ (system below) = inl (inl (inl ((omega arith, omega (arith, below)), refl)))
told o n _ (chained chain) = inl (inl (inr chain))
told o n _ (owned by) = inl (inr by)
told o n _ (doubled twice) = inr twice

-- all that is told is what blocks are used for
pub raises_all : (o : Outcome) (a b c d e : Marks) → Raises (AreUsed 0 (system_blocks o.sup) System) a b → Raises (IsUsedForTables o.tables) b c → Raises (SaysOne IsUsedBy o.rows) c d → Raises (IsUsedTwice o.doubled) d e
    → Raises (IsUsed o) a e
raises_all o a b c d e p q r t =
    let First : ℕ → BlockUse → Type 0 = AreUsed 0 (system_blocks o.sup) System in
    let Second : ℕ → BlockUse → Type 0 = IsUsedForTables o.tables in
    let Third : ℕ → BlockUse → Type 0 = SaysOne IsUsedBy o.rows in
    let Both : ℕ → BlockUse → Type 0 = λ n kind. First n kind ⊎ Second n kind in
    let Three : ℕ → BlockUse → Type 0 = λ n kind. Both n kind ⊎ Third n kind in
    let both : Raises Both a c = raises_both First Second Both (λ n kind h. inl h) (λ n kind h. inr h) (λ n kind h. h) a b c p q in
    let three : Raises Three a d = raises_both Both Third Three (λ n kind h. inl h) (λ n kind h. inr h) (λ n kind h. h) a c d both r in
    raises_both Three (IsUsedTwice o.doubled) (IsUsed o)
    (λ n kind h. elim h [
      | inl before ↦ elim before [
        | inl first ↦ subst (λ (k : BlockUse). IsUsed o n k) (sym first.1) (system (omega (arith, first.0.1)))
        | inr second ↦ chained second
      ]
      | inr third ↦ owned third
    ])
    (λ n kind h. doubled h) (told o) a d e three t

-- cells that were free and are told of all blocks are those of the outcome
pub are_cells : (o : Outcome) (most : ℕ) (a b : Marks) → AreFree o.sup.blocks most a → HasRoom a → Raises (IsUsed o) a b → AreCells o most b.each b.uses.items
are_cells o most a b free room r = record {
  each = r.each ∙ free.each;
  count = r.count ∙ free.count ∙ ap (λ (n : ℕ). div_ceil o.sup.blocks n) (sym r.each);
  most =
      let held : o.sup.blocks ≤ a.each * max most 1 = subst (λ (n : ℕ). o.sup.blocks ≤ n * max most 1) (sym free.each) (div_ceil_times o.sup.blocks (max most 1) (omega arith)).0 in
      subst (λ (n : ℕ). n ≤ max most 1) (sym (r.count ∙ free.count)) (few_cells o.sup.blocks (max most 1) a.each room.some held);
  tells = λ place inside.
      let at = r.cells place (omega (arith, inside, r.count)) in
      let same : IsRaised (IsUsed o) o.sup.blocks b.each place (get_or a.uses.items place Free) (get_or b.uses.items place Free) =
      rw (r.each) (subst (λ (n : ℕ). IsRaised (IsUsed o) n a.each place (get_or a.uses.items place Free) (get_or b.uses.items place Free)) free.blocks at) in
      record {
        had = λ used. elim same.had [
          | inl as_before ↦ absurd (used (as_before ∙ free.free place))
          | inr has ↦ has
        ];
        last = same.last;
      };
}
