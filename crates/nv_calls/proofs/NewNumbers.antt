-- What is known of the number that a new inode gets, and of the directory that gets its name, where it can be written.
use Rattle.std.proofs.Common.{◌≡◌, ◌≢◌, ◌⊎◌, inl, inr, ℕ, zero, suc, ◌+◌, ◌*◌, ◌/◌, ◌%◌, ◌<◌, ◌≤◌, ◌==◌, nat_eq, nat_lt, not, ◌&&◌, Bool, true, false, cond, IsTrue, is_none, is_some, List, map, refl, ap, sym, ◌∙◌, subst, arith, Option, Some, None}
use Rattle.std.specs.List.{Contains, find, range_with_len}
use Rattle.std.proofs.Math.Logic.{∥∥₁_elim}
use Rattle.std.proofs.Math.Nat.{ℕ_set}
use Rattle.std.proofs.lemmas.Nat.{div-mul-add, mod-mul-add}
use Rattle.std.proofs.Props.{props}
use Rattle.std.proofs.lemmas.Bool.Decides.{nat_tests}
use Rattle.nv_region.specs.Region.{Region}
use Rattle.nv_super.specs.declared.superblock.Super.{Super}
use Rattle.nv_super.specs.declared.faults.Fault.{Fault}
use Rattle.nv_super.specs.declared.owners.Run.{Run}
use Rattle.nv_super.specs.Layout.{Layout, is_name_number, slot_of, system_blocks}
use Rattle.nv_inode.specs.Numbers.{has_slot, next_number, table_size}
use Rattle.nv_inode.proofs.GrownTables.{next_has_none}
use Rattle.nv_inode.proofs.NameNumbers.{slot_named}
use Rattle.nv_inode.proofs.NumberEnds.{below_has_slot}
use Rattle.nv_journal.specs.Undo.{enqueue, is_sound}
use Rattle.nv_journal.specs.Pending.{IsEmpty}
use Rattle.nv_alloc.specs.FreeValue.{FreeLists}
use Rattle.nv_scan.specs.declared.piece.Row.{Row}
use Rattle.nv_graph.specs.Read.{row_of}
use Rattle.nv_mounted.specs.Held.{Store}
use Rattle.nv_mounted.specs.Mounted.{IsMounted}
use Rattle.nv_mounted.proofs.Fronts.{tables_laid}
use Rattle.nv_mounted.proofs.Kept.{pages_data, tail_there}
use Rattle.nv_mounted.proofs.Shown.{stands_at}
use Rattle.nv_calls.specs.Mount.{IsKept}
use Rattle.nv_steps.specs.GrownTables.{CanGrow}
use Rattle.nv_steps.specs.NewNames.{CanName}
use Rattle.nv_steps.proofs.GrownTable.{shown_can}
use Rattle.nv_tree.specs.Path.{IsPathName}
use Rattle.nv_paths.specs.Spots.{new_number, or_next}
use Rattle.nv_calls.specs.Growing.{CanCreate, CanGetSlot, CanNameIn, grown_blocks}
use Rattle.nv_calls.specs.NameCalls.{table_growth}
use Rattle.nv_steps.specs.Slots.{slot_in}
use Rattle.nv_steps.proofs.SlotPlaces.{slot_there_is}
use Rattle.nv_rows.specs.RowList.{HasNumbersOf, RowList}
use Rattle.nv_rows.specs.Rows.{IsInUse}
use Rattle.nv_rows.specs.Unused.{is_unused, unused_number}
use Rattle.nv_calls.proofs.Mounts.{mounted_of_kept}
use Rattle.nv_calls.proofs.OneRow.{shows_row, stands_right}
use Rattle.nv_calls.proofs.RowChange.{row_there}
use Rattle.nv_rows.proofs.Places.{numbered}

-- ---- the number

-- what is found in numbers of a row
pub record Found (p : ℕ → Bool) (f : ℕ → ℕ) (k n j : ℕ) : Type 0 where
  pub m : ℕ
  pub below : m < k + n
  pub is : f m ≡ j
  pub passes : p j ≡ true

find_in : (p : ℕ → Bool) (f : ℕ → ℕ) (n k j : ℕ) → find p (map f (range_with_len k n)) ≡ Some j → Found p f k n j
find_in p f zero k j e = absurd (cc)
find_in p f (suc n) k j e = by (p (f k)) refl (find_in p f n (k + 1) j) e where
  by : (b : Bool) → p (f k) ≡ b → (find p (map f (range_with_len (k + 1) n)) ≡ Some j → Found p f (k + 1) n j) → cond b (Some (f k)) (find p (map f (range_with_len (k + 1) n))) ≡ Some j → Found p f k (suc n) j
  by true test rest e =
      let same : f k ≡ j = cc in
      record { m = k; below = omega arith; is = same; passes = subst (λ (i : ℕ). p i ≡ true) same test }
  by false test rest e =
      let w = rest e in
      let under = w.below in
      record { m = w.m; below = omega (arith, under); is = w.is; passes = w.passes }

some_number : (j : ℕ) → nat_eq j 0 ≡ false → j ≢ 0
some_number j test zero_is = grind (arith, nat_tests)

not_some : (b : Bool) (o : Option Row) → (not b && is_none o) ≡ true → (b ≡ false) × (o ≡ None)
not_some true o e = absurd (cc)
not_some false None e = (refl, refl)
not_some false (Some r) e = absurd (cc)

-- No row has it, and it has a slot.
pub unused_is : (l : Layout) (rows : List Row) (cpu j : ℕ) → cpu < l.sup.cpus → unused_number l rows cpu ≡ Some j → (row_of rows j ≡ None) × IsTrue (has_slot l j)
unused_is l rows cpu j low e =
    let w = find_in (is_unused rows) (λ k. k * l.sup.cpus + cpu) (table_size l cpu) 0 j e in
    let tests = not_some (nat_eq j 0) (row_of rows j) w.passes in
    let under = w.below in
    let is = w.is in
    let place : j / l.sup.cpus ≡ w.m = ap (λ (n : ℕ). n / l.sup.cpus) (sym is) ∙ div-mul-add w.m l.sup.cpus cpu low in
    let table : j % l.sup.cpus ≡ cpu = ap (λ (n : ℕ). n % l.sup.cpus) (sym is) ∙ mod-mul-add w.m l.sup.cpus cpu low in
    let below : j / l.sup.cpus < table_size l cpu = omega (arith, place, under) in
    (tests.1, below_has_slot l j (some_number j tests.0) (subst (λ (c : ℕ). j / l.sup.cpus < table_size l c) (sym table) below))

is_two : (version : ℕ) → (version == 2) ≡ true → version ≡ 2
is_two version test = grind (arith, nat_tests)

-- It is the lowest unused one of the CPU's table, or there is none and the next one, in version 2.
abbrev pub ComesFrom : Layout → List Row → ℕ → ℕ → Type 0
ComesFrom l rows cpu j = (unused_number l rows cpu ≡ Some j) ⊎ ((l.sup.version ≡ 2) × (unused_number l rows cpu ≡ None) × (j ≡ next_number l cpu))

pub new_from : (l : Layout) (rows : List Row) (cpu j : ℕ) → new_number l rows cpu ≡ Some j → ComesFrom l rows cpu j
new_from l rows cpu j e = by (unused_number l rows cpu) refl e where
  grows : (two inside : Bool) → (l.sup.version == 2) ≡ two → unused_number l rows cpu ≡ None → cond (two && inside) (Some (next_number l cpu)) None ≡ Some j → ComesFrom l rows cpu j
  grows true true test none e = inr (is_two l.sup.version test, none, (let same : next_number l cpu ≡ j = cc in sym same))
  grows true false test none e = absurd (cc)
  grows false inside test none e = absurd (cc)

  by : (o : Option ℕ) → unused_number l rows cpu ≡ o → or_next l cpu o ≡ Some j → ComesFrom l rows cpu j
  by (Some i) is e = inl (is ∙ e)
  by None none e = grows (l.sup.version == 2) (nat_lt cpu l.sup.cpus) refl none e

-- Where it has none, the table grows.
pub grows_for : (l : Layout) (rows : List Row) (cpu j : ℕ) → cpu < l.sup.cpus → new_number l rows cpu ≡ Some j → slot_of l j ≡ None → (l.sup.version ≡ 2) × (unused_number l rows cpu ≡ None)
grows_for l rows cpu j low e none = elim (new_from l rows cpu j e) [
  | inl lowest ↦ absurd (let has = (unused_is l rows cpu j low lowest).1 in let clash : false ≡ true = sym (ap (λ (o : Option ℕ). is_some o) none) ∙ has in cc)
  | inr w ↦ (w.0, w.1)
]

-- A name can stand for a number that has a slot.
pub can_be_named : {R : Region} {l : Layout} {held : Store} {rows : List Row} {pools : List (List Run)} → IsMounted R l held rows pools → (j : ℕ) → IsTrue (has_slot l j) → IsTrue (is_name_number l.sup j)
can_be_named {l = l} m j has = let sound = m.sound in slot_named l j (slot_in l j) (tables_laid sound.tables) (slot_there_is l j has)

-- ---- the journal and the directory

last_number : (R : Region) (cpu : ℕ) → is_sound R cpu ≡ true → enqueue R cpu < 252
last_number R cpu sound = grind (arith, nat_tests)

module _ {R : Region} {s : Super} {l : Layout} {rows : List Row} {free : FreeLists} {faults : List Fault} {read_only stopped : Bool} (kept : IsKept R s l rows free faults read_only stopped) (runs : stopped ≡ false) (writes : read_only ≡ false) where
  nothing_waits : (cpu : ℕ) → cpu < l.sup.cpus → IsEmpty R cpu
  nothing_waits cpu low = ∥∥₁_elim (mounted_of_kept kept runs writes) (hlevel (props, ℕ_set)) (λ w. (let m = w.1 in let sound = m.sound in let idle = sound.idle cpu low in (idle.1, last_number R cpu idle.0)))

  in_data : (row : Row) → Contains rows row → system_blocks l.sup ≤ row.tail / 4096
  in_data row c = ∥∥₁_elim (mounted_of_kept kept runs writes) (hlevel (props, ℕ_set)) (λ w. by w.0 w.1) where
    by : (held : Store) → IsMounted R l held rows free.pools → system_blocks l.sup ≤ row.tail / 4096
    by held m =
        let w = shows_row {free = free} m kept.lists row c in
        let shown = w.1 in
        let sound = m.sound in
        let v = stands_at sound.shows row.inode w.0 shown.holds in
        let from = pages_data v.is.right v.is.reads (w.0.tail / 4096) (tail_there v.is.right v.is.reads) in
        let told = shown.told in
        let tail = told.tail in
        omega (arith, from, tail)

  pub named_number : (j : ℕ) → IsTrue (has_slot l j) → IsTrue (is_name_number l.sup j)
  named_number j has = ∥∥₁_elim (mounted_of_kept kept runs writes) (hlevel (props, ℕ_set)) (λ w. can_be_named w.1 j has)

  -- What is known where an inode gets a name.
  pub can_name : (cpu j : ℕ) → cpu < l.sup.cpus → IsTrue (has_slot l j) → (row : Row) → Contains rows row → CanName R l cpu j row
  can_name cpu j low number row c = record { cpu_below = low; journal_empty = nothing_waits cpu low; number = number; in_data = in_data row c }

  -- What is known where a new inode gets a name.
  pub can_name_in : (cpu : ℕ) → cpu < l.sup.cpus → (row : Row) → Contains rows row → CanNameIn R l cpu row
  can_name_in cpu low row c = record { cpu_below = low; journal_empty = nothing_waits cpu low; in_data = in_data row c }

  by_mounted : ((held : Store) → IsMounted R l held rows free.pools → ⊥) → ⊥
  by_mounted clash = ∥∥₁_elim (mounted_of_kept kept runs writes) (λ x y. absurd x) (λ w. clash w.0 w.1)

  -- What is known where a table grows.
  pub can_grow : (cpu : ℕ) → cpu < l.sup.cpus → l.sup.version ≡ 2 → CanGrow R l free cpu
  can_grow cpu low two = record {
    version = two;
    cpu_below = low;
    lists = kept.lists;
    blocks = ∥∥₁_elim (mounted_of_kept kept runs writes) (hlevel (props, ℕ_set)) (λ w. (let can = by w.0 w.1 in can.blocks));
    used = λ c k b there is_free. by_mounted (λ held m. (let can = by held m in can.used c k b there is_free));
  } where
    by : (held : Store) → IsMounted R l held rows free.pools → CanGrow R l free cpu
    by held m = let keeps = m.keeps in shown_can R l held free cpu (record { sound = m.sound; lists = keeps.in_lists }) kept.lists two low

  -- So the number has a slot, or the table can grow for it.
  pub can_get : (cpu j : ℕ) → cpu < l.sup.cpus → new_number l rows cpu ≡ Some j → CanGetSlot R l free cpu j
  can_get cpu j low e = elim (new_from l rows cpu j e) [
    | inl lowest ↦ inl (unused_is l rows cpu j low lowest).1
    | inr w ↦ inr (w.2, can_grow cpu low w.0)
  ]

  -- The next number has no slot, and so no row.
  pub next_none : (cpu : ℕ) → cpu < l.sup.cpus → slot_of l (next_number l cpu) ≡ None
  next_none cpu low = by (slot_of l (next_number l cpu)) refl where
    by : (o : Option ℕ) → slot_of l (next_number l cpu) ≡ o → slot_of l (next_number l cpu) ≡ None
    by None none = none
    by (Some a) is = absurd (by_mounted (λ held m. (
        let sound = m.sound in
        let none : Some a ≡ None = sym is ∙ next_has_none l cpu (tables_laid sound.tables) low (slot_of l (next_number l cpu)) refl in
        cc)))

  pub new_unused : (cpu j : ℕ) → cpu < l.sup.cpus → new_number l rows cpu ≡ Some j → row_of rows j ≡ None
  new_unused cpu j low e = elim (new_from l rows cpu j e) [
    | inl lowest ↦ (unused_is l rows cpu j low lowest).0
    | inr w ↦ vacant (row_of rows j) refl (ap (slot_of l) w.2 ∙ next_none cpu low)
  ] where
    vacant : (o : Option Row) → row_of rows j ≡ o → slot_of l j ≡ None → row_of rows j ≡ None
    vacant None is none = is
    vacant (Some r) is none = absurd (by_mounted (λ held m. (
        let keeps = m.keeps in
        let in_rows = keeps.in_rows in
        let k = in_rows.each r (row_there rows j r is) in
        let sound = m.sound in
        let shown = sound.shows in
        let clash : Some k.0 ≡ None = sym k.1 ∙ ap held (numbered rows j r is) ∙ shown.only j none in
        cc)))

  -- how many blocks the table takes for it
  pub growth_is : (cpu j : ℕ) → cpu < l.sup.cpus → new_number l rows cpu ≡ Some j → table_growth l rows cpu ≡ grown_blocks l j
  growth_is cpu j low e = elim (new_from l rows cpu j e) [
    | inl lowest ↦ (
        let has = (unused_is l rows cpu j low lowest).1 in
        ap (λ (o : Option ℕ). cond ((l.sup.version == 2) && is_none o) 1 0) lowest ∙ neither (l.sup.version == 2) ∙ sym (ap (λ (b : Bool). cond b 0 1) has))
    | inr w ↦ (
        let none : slot_of l j ≡ None = ap (slot_of l) w.2 ∙ next_none cpu low in
        ap (λ (o : Option ℕ). cond ((l.sup.version == 2) && is_none o) 1 0) w.1 ∙ ap (λ (v : ℕ). cond ((v == 2) && true) 1 0) w.0 ∙ sym (ap (λ (o : Option ℕ). cond (is_some o) 0 1) none))
  ] where
    neither : (b : Bool) → ◌≡◌ {A = ℕ} (cond (b && false) 1 0) 0
    neither true = refl
    neither false = refl

-- What is known where a new inode gets a name that a path says, in a directory that has a row.
pub can_create : {R : Region} {s : Super} {l : Layout} {free : FreeLists} {faults : List Fault} {read_only stopped : Bool} (all : RowList) → IsKept R s l all.items free faults read_only stopped → stopped ≡ false → read_only ≡ false
    → (cpu : ℕ) → cpu < l.sup.cpus → HasNumbersOf l all → (directory : ℕ) → IsInUse all.items directory → (j : ℕ) → new_number l all.items cpu ≡ Some j → (name : List ℕ) → IsPathName name → CanCreate R l free cpu all directory j name
can_create all kept runs writes cpu low numbers directory used j number name spelled = record {
  in_use = used;
  numbers = numbers;
  unused = new_unused kept runs writes cpu j low number;
  stands = λ row at. stands_right kept runs writes row (row_there all.items directory row at);
  can = λ row at. can_name_in kept runs writes cpu low row (row_there all.items directory row at);
  good = (let fits = spelled.fits in record { some = fits.some; short = fits.fits });
}
