-- The sets tell which numbers have a row, as rows come and go.
use Rattle.std.proofs.Common.{◌≡◌, ◌≢◌, ℕ, ◌%◌, ◌<◌, cond, is_some, List, length, get_or, set, slice_get, Option, Some, None, true, refl, sym, ap, ◌∙◌, subst, inl, inr, arith, length-set}
use Rattle.std.specs.Prelude.{IsTrue}
use Rattle.std.proofs.lemmas.Bool.{cases_eq}
use Rattle.std.proofs.lemmas.List.{get_or-set_other}
use Rattle.std.proofs.lemmas.Grind.{get_or-set_at}
use Rattle.std.proofs.Math.Nat.{div-le_self}
use Rattle.std.proofs.lemmas.Nat.{mod_below}
use Rattle.std.proofs.lemmas.Option.{slice_get_cases, slice_get_within}
use Rattle.nv_super.specs.Layout.{Layout}
use Rattle.nv_inode.specs.Chains.{IsLaid}
use Rattle.nv_inode.specs.Numbers.{has_slot, number_end, sizes_of}
use Rattle.nv_inode.proofs.NumberEnds.{below_end, has_slot_below, slot_there}
use Rattle.nv_numbered.specs.Values.{AreNumbersBelow}
use Rattle.nv_scan.specs.declared.piece.Row.{Row}
use Rattle.nv_rows.specs.InUse.{has_number, used_at, HasUsed, TellsUsed}
use Rattle.nv_rows.specs.Unused.{HaveSlots, IsTableNumber}
use Rattle.nv_rows.specs.Rows.{inodes_of}
use Rattle.nv_rows.proofs.GivenRows.{SlotsOf}
use Rattle.nv_rows.proofs.NewSets.{size_of}

none_some : (o : Option Row) → o ≡ None → is_some o ≡ true → ⊥
none_some o none some = absurd (let no = ap is_some none in cc)

-- ---- as rows are given

module _ (l : Layout) (laid : IsLaid l) where
  some_cpu : 0 < l.sup.cpus
  some_cpu = let from = laid.layout.cpus_from in omega (arith, from)

  -- a number of the tables is one by the layout's sizes
  pub number_by : (i : ℕ) → IsTrue (has_slot l i) → IsTableNumber l.sup.cpus (sizes_of l) i
  number_by i has = let low = has_slot_below l i has in let is = size_of l (i % l.sup.cpus) (mod_below i l.sup.cpus some_cpu) in omega (arith, low, is)

  -- 0 is below the end, since 1 is, which has a slot
  end_some : 0 < number_end l
  end_some =
      let tables = laid.layout.tables_from in
      let place = div-le_self 1 l.sup.cpus in
      let at = slot_there l 1 (λ no. absurd (omega (arith, no))) (omega (arith, tables, place)) in
      let one = below_end l 1 at.0 laid at.1 in
      omega (arith, one)

  pub number_before_end : (i : ℕ) → IsTableNumber l.sup.cpus (sizes_of l) i → i < number_end l
  number_before_end i number = elim (cases_eq i 0) [
    | inl none ↦ let some = end_some in omega (arith, none, some)
    | inr some ↦
        let at = slot_there l i some (let low = number in let is = size_of l (i % l.sup.cpus) (mod_below i l.sup.cpus some_cpu) in omega (arith, low, is)) in
        below_end l i at.0 laid at.1
  ]

  -- numbers that have slots are below the end
  pub slots_below : {numbers : List ℕ} → HaveSlots l numbers → AreNumbersBelow (number_end l) numbers
  slots_below {numbers} slotted = record { below = λ k inside. number_before_end (get_or numbers k 0) (number_by (get_or numbers k 0) (slotted.each k inside)); once = slotted.once }

  -- the sets of the given rows' numbers tell which slots have one
  pub TellsUsed-given : (rows : List Row) (slots : List (Option Row)) (sets : List (List ℕ)) → length slots ≡ number_end l → length (inodes_of rows) ≡ length rows → SlotsOf rows slots
      → HaveSlots l (inodes_of rows) → HasUsed (inodes_of rows) sets → TellsUsed l.sup.cpus (sizes_of l) slots sets
  TellsUsed-given rows slots sets long many each slotted had =
      record {
        reach = λ i number. (let below = number_before_end i number in omega (arith, below, long));
        within = λ i some. inside i (get_or slots i None) refl some;
        told = λ i. by i (get_or slots i None) refl;
      }
    where
      within_rows : (k : ℕ) (row : Row) → slice_get rows k ≡ Some row → k < length (inodes_of rows)
      within_rows k row at = omega (arith, many, slice_get_within rows k row at)

      inside : (i : ℕ) (slot : Option Row) → get_or slots i None ≡ slot → is_some (get_or slots i None) ≡ true → IsTableNumber l.sup.cpus (sizes_of l) i
      inside i None at some = absurd (none_some (get_or slots i None) at some)
      inside i (Some row) at some =
          let place = (each i row).0 at in
          subst (IsTableNumber l.sup.cpus (sizes_of l)) place.1 (number_by (get_or (inodes_of rows) place.0 0) (slotted.each place.0 (within_rows place.0 row place.2)))

      by : (i : ℕ) (slot : Option Row) → get_or slots i None ≡ slot → has_number sets i ≡ used_at slots i
      by i None at =
          had.others i (λ k inside e. elim (slice_get_cases rows k).1 [
            | inl there ↦ let some = (each i there.0).1 (k, e, there.2) in absurd (cc)
            | inr past ↦ absurd (omega (arith, past.0, inside, many))
          ])
          ∙ sym (ap (λ (o : Option Row). cond (is_some o) 1 0) at)
      by i (Some row) at =
          let place = (each i row).0 at in
          ap (has_number sets) (sym place.1) ∙ had.each place.0 (within_rows place.0 row place.2) ∙ sym (ap (λ (o : Option Row). cond (is_some o) 1 0) at)

-- ---- as a row comes or goes

module _ (cpus : ℕ) (sizes : List ℕ) (slots : List (Option Row)) (sets : List (List ℕ)) (n : ℕ) (tells : TellsUsed cpus sizes slots sets) where
  -- what a slot says after another one was set
  set_here : (slot : Option Row) (i : ℕ) → i ≡ n → n < length slots → used_at (set slots n slot) i ≡ cond (is_some slot) 1 0
  set_here slot i same inside = ap (λ (o : Option Row). cond (is_some o) 1 0) (get_or-set_at slots n i slot None same inside)

  set_there : (slot : Option Row) (i : ℕ) → i ≢ n → used_at (set slots n slot) i ≡ used_at slots i
  set_there slot i differs = ap (λ (o : Option Row). cond (is_some o) 1 0) (get_or-set_other slots n i slot None differs)

  reach_set : (slot : Option Row) (i : ℕ) → IsTableNumber cpus sizes i → i < length (set slots n slot)
  reach_set slot i number = let long = length-set slots n slot in let inside = tells.reach i number in omega (arith, long, inside)

  within_set : (slot : Option Row) → IsTableNumber cpus sizes n → (i : ℕ) → is_some (get_or (set slots n slot) i None) ≡ true → IsTableNumber cpus sizes i
  within_set slot number i some = elim (cases_eq i n) [
    | inl same ↦ subst (IsTableNumber cpus sizes) (sym same) number
    | inr differs ↦ tells.within i (sym (ap is_some (get_or-set_other slots n i slot None differs)) ∙ some)
  ]

  -- the slot of a number gets another row
  pub TellsUsed-exchanged : (was row : Row) → get_or slots n None ≡ Some was → n < length slots → TellsUsed cpus sizes (set slots n (Some row)) sets
  TellsUsed-exchanged was row at inside = record {
    reach = reach_set (Some row);
    within = within_set (Some row) (tells.within n (ap is_some at));
    told = λ i. tells.told i ∙ elim (cases_eq i n) [
      | inl same ↦ ap (used_at slots) same ∙ ap (λ (o : Option Row). cond (is_some o) 1 0) at ∙ sym (set_here (Some row) i same inside)
      | inr differs ↦ sym (set_there (Some row) i differs)
    ];
  }

  module _ (new : List (List ℕ)) (number : IsTableNumber cpus sizes n) (others : (j : ℕ) → j ≢ n → has_number new j ≡ has_number sets j) where
    pub TellsUsed-filled : (row : Row) → has_number new n ≡ 1 → TellsUsed cpus sizes (set slots n (Some row)) new
    TellsUsed-filled row there = record {
      reach = reach_set (Some row);
      within = within_set (Some row) number;
      told = λ i. elim (cases_eq i n) [
        | inl same ↦ ap (has_number new) same ∙ there ∙ sym (set_here (Some row) i same (tells.reach n number))
        | inr differs ↦ others i differs ∙ tells.told i ∙ sym (set_there (Some row) i differs)
      ];
    }

    pub TellsUsed-emptied : has_number new n ≡ 0 → TellsUsed cpus sizes (set slots n None) new
    TellsUsed-emptied gone = record {
      reach = reach_set None;
      within = within_set None number;
      told = λ i. elim (cases_eq i n) [
        | inl same ↦ ap (has_number new) same ∙ gone ∙ sym (set_here None i same (tells.reach n number))
        | inr differs ↦ others i differs ∙ tells.told i ∙ sym (set_there None i differs)
      ];
    }
