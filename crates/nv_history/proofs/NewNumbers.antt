-- The number that a new inode gets, by the tree and the superblock: it doesn't depend on which blocks the chains have.
use Rattle.std.proofs.Common.{◌≡◌, ◌≢◌, ◌⊎◌, inl, inr, ℕ, zero, suc, ◌+◌, ◌-◌, ◌*◌, ◌/◌, ◌<◌, ◌≤◌, ◌==◌, nat_eq, nat_lt, not, ◌&&◌, ◌||◌, Bool, true, false, true≢false, cond, eqb, eqb-true, eq-eqb, ne_eqb, IsTrue, is_none, List, [], ◌∷◌, ◌++◌, length, map, refl, ap, sym, ◌∙◌, subst, arith, Option, Some, None}
use Rattle.std.specs.Prelude.{is_some}
use Rattle.std.specs.List.{Contains, find, list_any, range_with_len, IsDistinct}
use Rattle.std.specs.Option.{option_map}
use Rattle.std.proofs.Math.Logic.{∥∥₁_elim}
use Rattle.std.proofs.Math.Nat.{ℕ_set, mul-le-mul}
use Rattle.std.proofs.Props.{props}
use Rattle.std.proofs.lemmas.Bool.{cases_eq, ltb-true}
use Rattle.std.proofs.lemmas.Bool.Decides.{nat_tests}
use Rattle.std.proofs.lemmas.Cmp.{nat_eq_equiv}
use Rattle.std.proofs.lemmas.List.{length-append}
use Rattle.std.proofs.lemmas.List.Folds.{list_any-append}
use Rattle.std.proofs.lemmas.List.FromFn.{length-range_with_len}
use Rattle.std.proofs.lemmas.Map.Keys.{IsDistinct-push}
use Rattle.std.proofs.lemmas.Map.Made.{length-le_from_is_member}
use Rattle.nv_region.specs.Region.{Region}
use Rattle.nv_super.specs.declared.superblock.Super.{Super}
use Rattle.nv_super.specs.declared.faults.Fault.{Fault}
use Rattle.nv_super.specs.declared.owners.Owner.TheVariants as owners
use Rattle.nv_super.specs.declared.owners.Run.{Run}
use Rattle.nv_super.specs.Layout.{Layout, chain_of, slot_of, system_blocks}
use Rattle.nv_inode.specs.Chains.{IsLaid}
use Rattle.nv_inode.specs.Numbers.{has_slot, next_number, table_size}
use Rattle.nv_inode.proofs.GrownTables.{next_has_none}
use Rattle.nv_inode.proofs.LayoutWords.{found_at}
use Rattle.nv_alloc.specs.FreeValue.{FreeLists}
use Rattle.nv_scan.specs.declared.piece.Row.{Row}
use Rattle.nv_scan.proofs.Owned.{owned_block}
use Rattle.nv_rows.specs.Rows.{row_of}
use Rattle.nv_rows.specs.Unused.{is_unused, lowest_of, unused_number}
use Rattle.nv_rows.proofs.Places.{numbered}
use Rattle.nv_mounted.specs.Blocks.{OwnsIn, by_table}
use Rattle.nv_mounted.specs.Graph.{node_in}
use Rattle.nv_mounted.specs.Held.{Held, Store}
use Rattle.nv_mounted.specs.Mounted.{IsMounted}
use Rattle.nv_mounted.proofs.Fronts.{tables_laid}
use Rattle.nv_mounted.proofs.Kept.{page_owner, tail_there}
use Rattle.nv_mounted.proofs.Shown.{owns_there, stands_at}
use Rattle.nv_graph.specs.Graph.{Node}
use Rattle.nv_paths.specs.Seen.{node_of, tree_of}
use Rattle.nv_paths.specs.Spots.{new_number, or_next}
use Rattle.nv_calls.specs.Mount.{IsKept}
use Rattle.nv_calls.proofs.Mounts.{mounted_of_kept}
use Rattle.nv_calls.proofs.NewNumbers.{new_unused}
use Rattle.nv_calls.proofs.RowChange.{row_there}
use Rattle.nv_history.specs.Making.{is_unused_in, lowest_unused, most_numbers, most_slots}
use Rattle.nv_history.proofs.MadeTrees.{same_find}

-- ---- lists

-- what is found among some numbers is found among more
find_more : (p : ℕ → Bool) (f : ℕ → ℕ) (n m k j : ℕ) → n ≤ m → find p (map f (range_with_len k n)) ≡ Some j → find p (map f (range_with_len k m)) ≡ Some j
find_more p f zero m k j few e = absurd (cc)
find_more p f (suc n) zero k j few e = absurd (omega (arith, few))
find_more p f (suc n) (suc m) k j few e = by (p (f k)) (find_more p f n m (k + 1) j (omega (arith, few))) e where
  by : (b : Bool) → (find p (map f (range_with_len (k + 1) n)) ≡ Some j → find p (map f (range_with_len (k + 1) m)) ≡ Some j) → cond b (Some (f k)) (find p (map f (range_with_len (k + 1) n))) ≡ Some j
      → cond b (Some (f k)) (find p (map f (range_with_len (k + 1) m))) ≡ Some j
  by true rest e = e
  by false rest e = rest e

-- and where none of them is found, the next one is, if it passes
find_next : (p : ℕ → Bool) (f : ℕ → ℕ) (n m k j : ℕ) → n < m → k + n ≡ j → find p (map f (range_with_len k n)) ≡ None → p (f j) ≡ true → find p (map f (range_with_len k m)) ≡ Some (f j)
find_next p f n zero k j less is none passes = absurd (omega (arith, less))
find_next p f zero (suc m) k j less is none passes =
    let same : k ≡ j = omega (arith, is) in
    ap (λ (b : Bool). cond b (Some (f k)) (find p (map f (range_with_len (k + 1) m)))) (ap (λ (i : ℕ). p (f i)) same ∙ passes) ∙ ap (λ (i : ℕ). Some (f i)) same
find_next p f (suc n) (suc m) k j less is none passes = by (p (f k)) (λ e. find_next p f n m (k + 1) j (omega (arith, less)) (omega (arith, is)) e passes) none where
  by : (b : Bool) → (find p (map f (range_with_len (k + 1) n)) ≡ None → find p (map f (range_with_len (k + 1) m)) ≡ Some (f j)) → cond b (Some (f k)) (find p (map f (range_with_len (k + 1) n))) ≡ None
      → cond b (Some (f k)) (find p (map f (range_with_len (k + 1) m))) ≡ Some (f j)
  by true rest e = absurd (cc)
  by false rest e = rest e

or_there : (a b : Bool) → b ≡ true → (a || b) ≡ true
or_there true b on = refl
or_there false b on = on

in_range : (n low q : ℕ) → low ≤ q → q < low + n → list_any (eqb q) (range_with_len low n) ≡ true
in_range zero low q from to = absurd (omega (arith, from, to))
in_range (suc n) low q from to = elim (cases_eq q low) [
  | inl same ↦ ap (λ (t : Bool). t || list_any (eqb q) (range_with_len (low + 1) n)) (eq-eqb q low same)
  | inr differs ↦ or_there (eqb q low) (list_any (eqb q) (range_with_len (low + 1) n)) (in_range n (low + 1) q (omega (arith, from, differs)) (omega (arith, to)))
]

-- numbers of a range, none twice, are fewer than it has, where one of it is missing
few_beside : (xs : List ℕ) (x low n : ℕ) → IsDistinct eqb xs → ((q : ℕ) → list_any (eqb q) xs ≡ true → (low ≤ q) × (q < low + n)) → low ≤ x → x < low + n → list_any (eqb x) xs ≡ false → length xs < n
few_beside xs x low n once inside from to missing =
    let few = length-le_from_is_member nat_eq_equiv (xs ++ x ∷ []) (range_with_len low n) (IsDistinct-push nat_eq_equiv xs x once missing) each in
    let long = length-append xs (x ∷ []) in
    let range = length-range_with_len low n in
    omega (arith, few, long, range)
  where
    by : (q : ℕ) (a b : Bool) → list_any (eqb q) xs ≡ a → eqb q x ≡ b → (a || (b || false)) ≡ true → list_any (eqb q) (range_with_len low n) ≡ true
    by q true b there here any = let in_xs = inside q there in in_range n low q in_xs.0 in_xs.1
    by q false true there here any = let same = eqb-true q x here in in_range n low q (omega (arith, same, from)) (omega (arith, same, to))
    by q false false there here any = absurd (cc)

    each : (q : ℕ) → list_any (eqb q) (xs ++ x ∷ []) ≡ true → list_any (eqb q) (range_with_len low n) ≡ true
    each q any = by q (list_any (eqb q) xs) (eqb q x) refl refl (sym (list_any-append (eqb q) xs (x ∷ [])) ∙ any)

-- ---- the table of a CPU

most_chained : (s : Super) → s.version ≡ 2 → most_slots s ≡ 32 * s.table_blocks + 31 * (s.blocks - system_blocks s)
most_chained s two = ap (λ (v : ℕ). 32 * s.table_blocks + cond (v == 2) (31 * (s.blocks - system_blocks s)) 0) two

pub most_fixed : (s : Super) → s.version ≢ 2 → most_slots s ≡ 32 * s.table_blocks
most_fixed s other =
    let is : most_slots s ≡ 32 * s.table_blocks + 0 = ap (λ (v : Bool). 32 * s.table_blocks + cond v (31 * (s.blocks - system_blocks s)) 0) (ne_eqb s.version 2 other) in
    omega (arith, is)

-- A table is one that a CPU can have: in version 2 it has fewer slots than it can have, and else as many. The number behind it isn't 0.
pub record IsWithin (l : Layout) (cpu : ℕ) : Type 0 where
  pub room : l.sup.version ≡ 2 → table_size l cpu < most_slots l.sup
  pub whole : l.sup.version ≢ 2 → table_size l cpu ≡ most_slots l.sup
  pub some : 0 < next_number l cpu

module _ (l : Layout) (laid : IsLaid l) (cpu : ℕ) where
  whole_laid : l.sup.version ≢ 2 → table_size l cpu ≡ most_slots l.sup
  whole_laid other =
      let from = laid.layout.version_from in
      let to = laid.layout.version_to in
      let one : l.sup.version ≡ 1 = omega (arith, from, to, other) in
      let size = ap (λ (chain : List ℕ). 32 * l.sup.table_blocks + 31 * length chain) (laid.fixed one cpu) in
      let most = most_fixed l.sup other in
      omega (arith, size, most)

  some_laid : 0 < next_number l cpu
  some_laid =
      let tables = laid.layout.tables_from in
      let cpus = laid.layout.cpus_from in
      let size : 1 ≤ table_size l cpu = omega (arith, tables) in
      let product : 1 * 1 ≤ table_size l cpu * l.sup.cpus = mul-le-mul size cpus in
      omega (arith, product)

  -- a data block that isn't in its chain
  room_beside : (b : ℕ) → system_blocks l.sup ≤ b → b < l.sup.blocks → list_any (eqb b) (chain_of l cpu) ≡ false → l.sup.version ≡ 2 → table_size l cpu < most_slots l.sup
  room_beside b from to missing two =
      let few = few_beside (chain_of l cpu) b (system_blocks l.sup) (l.sup.blocks - system_blocks l.sup) (laid.once cpu) inside from (omega (arith, from, to)) missing in
      let most = most_chained l.sup two in
      omega (arith, few, most)
    where
      inside : (q : ℕ) → list_any (eqb q) (chain_of l cpu) ≡ true → (system_blocks l.sup ≤ q) × (q < system_blocks l.sup + (l.sup.blocks - system_blocks l.sup))
      inside q on =
          let at = found_at (chain_of l cpu) q on in
          let lies = laid.inside cpu at.0 q at.1 in
          let below = lies.1 in
          (lies.0, omega (arith, below))

  pub within_laid : (l.sup.version ≡ 2 → table_size l cpu < most_slots l.sup) → IsWithin l cpu
  within_laid room = record { room = room; whole = whole_laid; some = some_laid }

-- ---- by the rows

mapped_none : (R : Region) (o : Option Row) → is_none (option_map (node_of R) o) ≡ is_none o
mapped_none R None = refl
mapped_none R (Some r) = refl

unused_passes : (rows : List Row) (i : ℕ) → 0 < i → row_of rows i ≡ None → is_unused rows i ≡ true
unused_passes rows i some none =
    let differs : nat_eq i 0 ≡ false = ne_eqb i 0 (λ zero_is. omega (arith, some, zero_is)) in
    ap (λ (b : Bool). not b && is_none (row_of rows i)) differs ∙ ap (λ (o : Option Row). is_none o) none

-- where a new number comes from, and of which CPUs one behind the table does
abbrev ComesOf : Layout → List Row → ℕ → ℕ → Type 0
ComesOf l rows cpu j = (unused_number l rows cpu ≡ Some j) ⊎ ((l.sup.version ≡ 2) × (cpu < l.sup.cpus) × (unused_number l rows cpu ≡ None) × (j ≡ next_number l cpu))

module _ (l : Layout) (R : Region) (rows : List Row) (cpu : ℕ) where
  two_there : (two inside : Bool) → (l.sup.version == 2) ≡ two → nat_lt cpu l.sup.cpus ≡ inside → (j : ℕ) → cond (two && inside) (Some (next_number l cpu)) None ≡ Some j → (l.sup.version ≡ 2) × (cpu < l.sup.cpus) × (j ≡ next_number l cpu)
  two_there true true is below j e = (eqb-true l.sup.version 2 is, ltb-true cpu l.sup.cpus below, (let same : next_number l cpu ≡ j = cc in sym same))
  two_there true false is below j e = absurd (cc)
  two_there false inside is below j e = absurd (cc)

  none_two : (two : Bool) → (l.sup.version == 2) ≡ two → nat_lt cpu l.sup.cpus ≡ true → cond (two && nat_lt cpu l.sup.cpus) (Some (next_number l cpu)) None ≡ None → l.sup.version ≢ 2
  none_two true is below e = absurd (let clash : Some (next_number l cpu) ≡ None = sym (ap (λ (b : Bool). cond b (Some (next_number l cpu)) None) below) ∙ e in cc)
  none_two false is below e = λ two. true≢false (sym (eq-eqb l.sup.version 2 two) ∙ is)

  comes_of : (j : ℕ) → new_number l rows cpu ≡ Some j → ComesOf l rows cpu j
  comes_of j e = by (unused_number l rows cpu) refl e where
    by : (o : Option ℕ) → unused_number l rows cpu ≡ o → or_next l cpu o ≡ Some j → ComesOf l rows cpu j
    by (Some i) is e = inl (is ∙ e)
    by None none e = (let two = two_there (l.sup.version == 2) (nat_lt cpu l.sup.cpus) refl refl j e in inr (two.0, two.1, none, two.2))

  -- the numbers that are unused by the rows are so by the tree
  by_rows : lowest_unused l.sup (tree_of R rows) cpu ≡ lowest_of l.sup.cpus (most_slots l.sup) rows cpu
  by_rows = same_find (is_unused_in (tree_of R rows)) (is_unused rows) (λ i. ap (λ (b : Bool). not (nat_eq i 0) && b) (mapped_none R (row_of rows i))) (most_numbers l.sup cpu)

  module _ (within : IsWithin l cpu) where
    fits : table_size l cpu ≤ most_slots l.sup
    fits = elim (cases_eq l.sup.version 2) [
      | inl two ↦ (let less = within.room two in omega (arith, less))
      | inr other ↦ (let same = within.whole other in omega (arith, same))
    ]

    -- a number that a new inode gets, of which no row is
    given : (j : ℕ) → new_number l rows cpu ≡ Some j → (cpu < l.sup.cpus → row_of rows j ≡ None) → lowest_unused l.sup (tree_of R rows) cpu ≡ Some j
    given j e none = by (comes_of j e) where
      by : ComesOf l rows cpu j → lowest_unused l.sup (tree_of R rows) cpu ≡ Some j
      by (inl lowest) = by_rows ∙ find_more (is_unused rows) (λ k. k * l.sup.cpus + cpu) (table_size l cpu) (most_slots l.sup) 0 j fits lowest
      by (inr (two, below, no_lowest, is)) =
          let passes : is_unused rows (next_number l cpu) ≡ true = unused_passes rows (next_number l cpu) within.some (ap (row_of rows) (sym is) ∙ none below) in
          by_rows ∙ find_next (is_unused rows) (λ k. k * l.sup.cpus + cpu) (table_size l cpu) (most_slots l.sup) 0 (table_size l cpu) (within.room two) (omega arith) no_lowest passes ∙ ap (λ (i : ℕ). Some i) (sym is)

    -- of a CPU that there is
    given_same : cpu < l.sup.cpus → ((j : ℕ) → new_number l rows cpu ≡ Some j → row_of rows j ≡ None) → lowest_unused l.sup (tree_of R rows) cpu ≡ new_number l rows cpu
    given_same below none = by (new_number l rows cpu) refl where
      nothing : (o : Option ℕ) → unused_number l rows cpu ≡ o → or_next l cpu o ≡ None → lowest_unused l.sup (tree_of R rows) cpu ≡ None
      nothing (Some i) is e = absurd (cc)
      nothing None is e =
          let inside : nat_lt cpu l.sup.cpus ≡ true = grind (arith, nat_tests) in
          let other = none_two (l.sup.version == 2) refl inside e in
          by_rows ∙ ap (λ (n : ℕ). lowest_of l.sup.cpus n rows cpu) (sym (within.whole other)) ∙ is

      by : (o : Option ℕ) → new_number l rows cpu ≡ o → lowest_unused l.sup (tree_of R rows) cpu ≡ o
      by (Some j) e = given j e (λ below. none j e)
      by None e = nothing (unused_number l rows cpu) refl e

-- ---- by a layout

-- Where each row's number has a slot, the number of a new inode has no row.
module _ (l : Layout) (rows : List Row) (laid : IsLaid l) (cpu : ℕ) (below : cpu < l.sup.cpus) (slots : (row : Row) → Contains rows row → IsTrue (has_slot l row.inode)) where
  next_vacant : (o : Option Row) → row_of rows (next_number l cpu) ≡ o → o ≡ None
  next_vacant None e = refl
  next_vacant (Some row) e = absurd (
      let has = slots row (row_there rows (next_number l cpu) row e) in
      let none : slot_of l row.inode ≡ None = ap (slot_of l) (numbered rows (next_number l cpu) row e) ∙ next_has_none l cpu laid below (slot_of l (next_number l cpu)) refl in
      let clash : false ≡ true = sym (ap (λ (o : Option ℕ). is_some o) none) ∙ has in
      cc)

  lowest_vacant : (j : ℕ) → unused_number l rows cpu ≡ Some j → row_of rows j ≡ None
  lowest_vacant j e = found_vacant (table_size l cpu) 0 e where
    not_some : (b : Bool) (o : Option Row) → (not b && is_none o) ≡ true → o ≡ None
    not_some true o e = absurd (cc)
    not_some false None e = refl
    not_some false (Some r) e = absurd (cc)

    found_vacant : (n k : ℕ) → find (is_unused rows) (map (λ k. k * l.sup.cpus + cpu) (range_with_len k n)) ≡ Some j → row_of rows j ≡ None
    found_vacant zero k e = absurd (cc)
    found_vacant (suc n) k e = by (is_unused rows (k * l.sup.cpus + cpu)) refl (found_vacant n (k + 1)) e where
      by : (b : Bool) → is_unused rows (k * l.sup.cpus + cpu) ≡ b → (find (is_unused rows) (map (λ k. k * l.sup.cpus + cpu) (range_with_len (k + 1) n)) ≡ Some j → row_of rows j ≡ None)
          → cond b (Some (k * l.sup.cpus + cpu)) (find (is_unused rows) (map (λ k. k * l.sup.cpus + cpu) (range_with_len (k + 1) n))) ≡ Some j → row_of rows j ≡ None
      by true passes rest e =
          let same : k * l.sup.cpus + cpu ≡ j = cc in
          not_some (nat_eq j 0) (row_of rows j) (subst (λ (i : ℕ). is_unused rows i ≡ true) same passes)
      by false passes rest e = rest e

  new_vacant : (R : Region) (j : ℕ) → new_number l rows cpu ≡ Some j → row_of rows j ≡ None
  new_vacant R j e = by (comes_of l R rows cpu j e) where
    by : ComesOf l rows cpu j → row_of rows j ≡ None
    by (inl lowest) = lowest_vacant j lowest
    by (inr (two, inside, none, is)) = ap (row_of rows) is ∙ next_vacant (row_of rows (next_number l cpu)) refl

  pub same_by_layout : (R : Region) → (l.sup.version ≡ 2 → table_size l cpu < most_slots l.sup) → lowest_unused l.sup (tree_of R rows) cpu ≡ new_number l rows cpu
  same_by_layout R room = given_same l R rows cpu (within_laid l laid cpu room) below (new_vacant R)

-- ---- by what a mount keeps

-- A page of the root's log is in no chain.
module _ {R : Region} {l : Layout} {held : Store} {rows : List Row} {pools : List (List Run)} (m : IsMounted R l held rows pools) (cpu : ℕ) where
  beside_root : l.sup.version ≡ 2 → table_size l cpu < most_slots l.sup
  beside_root two =
      let sound = m.sound in
      let root = sound.faultless.named.root in
      by (held 1) refl root.0 root.1
    where
      no_other : (c k j : ℕ) → owners.Table c k ≡ owners.Log 1 j → ⊥
      no_other c k j e = cc

      by : (o : Option Held) → held 1 ≡ o → (n : Node) → option_map (node_in l) o ≡ Some n → table_size l cpu < most_slots l.sup
      by None is n e = absurd (cc)
      by (Some h) is n e =
          let sound = m.sound in
          let v = stands_at sound.shows 1 h is in
          let page = h.tail / 4096 in
          let mine = page_owner l held 1 (h.tail / 4096) h is (tail_there v.is.right v.is.reads) in
          let lies = owned_block R l (h.tail / 4096) (owners.Log 1 mine.0) (tables_laid sound.tables) (owns_there sound.shows (h.tail / 4096) (owners.Log 1 mine.0) mine.1) in
          room_beside l (tables_laid sound.tables) cpu (h.tail / 4096) lies.0 lies.1 (missing (h.tail / 4096) mine.0 mine.1 (list_any (eqb (h.tail / 4096)) (chain_of l cpu)) refl) two
        where
          missing : (b j : ℕ) → OwnsIn l held b (owners.Log 1 j) → (t : Bool) → list_any (eqb b) (chain_of l cpu) ≡ t → t ≡ false
          missing b j mine false is = refl
          missing b j mine true is = absurd (
              let sound = m.sound in
              let at = found_at (chain_of l cpu) b is in
              no_other cpu at.0 j (sound.faultless.undoubled b (owners.Table cpu at.0) (owners.Log 1 j) (by_table at.1) mine))

module _ {R : Region} {s : Super} {l : Layout} {rows : List Row} {free : FreeLists} {faults : List Fault} {read_only stopped : Bool} (kept : IsKept R s l rows free faults read_only stopped) (runs : stopped ≡ false) (writes : read_only ≡ false) where
  within_kept : (cpu : ℕ) → IsWithin l cpu
  within_kept cpu = record {
    room = λ two. ∥∥₁_elim (mounted_of_kept kept runs writes) (hlevel (props, ℕ_set)) (λ w. beside_root w.1 cpu two);
    whole = λ other. ∥∥₁_elim (mounted_of_kept kept runs writes) (hlevel (props, ℕ_set)) (λ w. (let sound = w.1.sound in whole_laid l (tables_laid sound.tables) cpu other));
    some = ∥∥₁_elim (mounted_of_kept kept runs writes) (hlevel (props, ℕ_set)) (λ w. (let sound = w.1.sound in some_laid l (tables_laid sound.tables) cpu));
  }

  -- what the number of a new inode is by the rows, it is by the tree
  pub number_given : (cpu j : ℕ) → new_number l rows cpu ≡ Some j → lowest_unused s (tree_of R rows) cpu ≡ Some j
  number_given cpu j e = subst (λ (x : Super). lowest_unused x (tree_of R rows) cpu ≡ Some j) kept.tables (given l R rows cpu (within_kept cpu) j e (λ below. new_unused kept runs writes cpu j below e))

  -- and of a CPU that there is, both are the same
  pub numbers_same : (cpu : ℕ) → cpu < s.cpus → lowest_unused s (tree_of R rows) cpu ≡ new_number l rows cpu
  numbers_same cpu below =
      let inside : cpu < l.sup.cpus = subst (λ (x : Super). cpu < x.cpus) (sym kept.tables) below in
      subst (λ (x : Super). lowest_unused x (tree_of R rows) cpu ≡ new_number l rows cpu) kept.tables (given_same l R rows cpu (within_kept cpu) inside (λ j e. new_unused kept runs writes cpu j inside e))
