-- Room for more numbers of a CPU's table, and the numbers that it has then.
use Rattle.std.proofs.Common.{◌≡◌, ◌≢◌, ℕ, zero, suc, ◌+◌, ◌-◌, ◌*◌, ◌/◌, ◌%◌, ◌<◌, ◌≤◌, ◌^◌, min, cond, is_some, List, [], ◌∷◌, ◌++◌, length, map, get_or, set, replicate, Option, Some, None, refl, sym, ap, ◌∙◌, subst, inl, inr, arith, length-set, length-append}
use Rattle.std.specs.Global.{Vec}
use Rattle.std.proofs.Math.Nat.{div-lt_iff_lt-mul, div-mul-le_self, mul-le-mul}
use Rattle.std.proofs.lemmas.Bool.{cases_eq, cases_lt}
use Rattle.std.proofs.lemmas.List.{get_or-map, get_or-set_other, get_or_past, length-map, length-replicate, map-set}
use Rattle.std.proofs.lemmas.Grind.{get_or-set_at}
use Rattle.std.proofs.lemmas.Nat.{div-mul-add, le-div, mod-mul-add}
use Rattle.nv_blockset.specs.BlockSet.{has}
use Rattle.nv_super.specs.declared.superblock.Super.{Super}
use Rattle.nv_super.specs.Layout.{Layout}
use Rattle.nv_inode.specs.Chains.{IsLaid}
use Rattle.nv_inode.specs.Growing.{with_block}
use Rattle.nv_inode.specs.Numbers.{next_number, sizes_of, table_size}
use Rattle.nv_inode.specs.Tables.{lists_of}
use Rattle.nv_inode.proofs.GrownTables.{grown_sizes, own_size}
use Rattle.nv_inode.proofs.NumberEnds.{size_small}
use Rattle.nv_inode.proofs.TicketBlocks.{lists_long}
use Rattle.nv_numbered.proofs.LongerLemmas.{more_read}
use Rattle.nv_scan.specs.declared.piece.Row.{Row}
use Rattle.nv_rows.specs.InUse.{has_number, set_of, space_in, AreRows, HaveRoom, TellsUsed, UsedSets}
use Rattle.nv_rows.specs.RowList.{HasNumbersOf, RowList}
use Rattle.nv_rows.specs.Slots.{rows_in, StandByNumber}
use Rattle.nv_rows.specs.Unused.{IsTableNumber}
use Rattle.nv_rows.proofs.NewSets.{size_of}
use Rattle.nv_rows.proofs.UsedPlaces.{set_found}

-- ---- a longer set

module _ (sets : List (List ℕ)) (cpu : ℕ) (below : cpu < length sets) (words : List ℕ) where
  abbrev changed : List (List ℕ)
  changed = set sets cpu words

  long : length changed ≡ length sets
  long = length-set sets cpu words

  pub same_numbers : ((b : ℕ) → has words b ≡ has (set_of sets cpu) b) → (i : ℕ) → has_number changed i ≡ has_number sets i
  same_numbers same i = ap (λ (m : ℕ). has (get_or changed (i % m) []) (i / m)) long ∙ elim (cases_eq (i % length sets) cpu) [
    | inl is ↦
        ap (λ (w : List ℕ). has w (i / length sets)) (get_or-set_at sets cpu (i % length sets) words [] is below)
        ∙ same (i / length sets)
        ∙ ap (λ (c : ℕ). has (set_of sets c) (i / length sets)) (sym is)
    | inr apart ↦ ap (λ (w : List ℕ). has w (i / length sets)) (get_or-set_other sets cpu (i % length sets) words [] apart)
  ]

  pub room_longer : (sizes : List ℕ) → HaveRoom sizes sets → length (set_of sets cpu) ≤ length words → HaveRoom sizes changed
  room_longer sizes had longer = record {
    as_many = long ∙ had.as_many;
    cpus = had.cpus;
    some = had.some;
    small = had.small;
    room = λ c inside. elim (cases_eq c cpu) [
      | inl same ↦
          let is = ap (λ (w : List ℕ). length w) (get_or-set_at sets cpu c words [] same below) in
          let was = ap (λ (q : ℕ). length (set_of sets q)) same in
          let room = had.room c inside in
          omega (arith, is, was, room, longer)
      | inr apart ↦ (let is = ap (λ (w : List ℕ). length w) (get_or-set_other sets cpu c words [] apart) in let room = had.room c inside in omega (arith, is, room))
    ];
  }

  pub set_here : length (set_of changed cpu) ≡ length words
  set_here = ap (λ (w : List ℕ). length w) (get_or-set_at sets cpu cpu words [] refl below)

pub sets_inside : (sizes : List ℕ) (sets : List (Vec ℕ)) → HaveRoom sizes (lists_of sets) → (cpu : ℕ) → cpu < length sizes → cpu < length sets
sets_inside sizes sets had cpu below = let long = lists_long sets in let many = had.as_many in omega (arith, long, many, below)

-- the set of a vector in the place of another
module _ (sizes : List ℕ) (sets : List (Vec ℕ)) (had : HaveRoom sizes (lists_of sets)) (cpu : ℕ) (below : cpu < length sizes) (v new : Vec ℕ) (at : v ≡ get_or sets cpu v) where
  put : lists_of (set sets cpu new) ≡ set (lists_of sets) cpu new.items
  put = map-set (λ (w : Vec ℕ). w.items) sets cpu new

  in_lists : cpu < length (lists_of sets)
  in_lists = (let many = had.as_many in omega (arith, many, below))

  in_sets : cpu < length sets
  in_sets = sets_inside sizes sets had cpu below

  here : set_of (lists_of sets) cpu ≡ v.items
  here = set_found sets cpu v at in_sets

  pub longer_room : length v.items ≤ length new.items → HaveRoom sizes (lists_of (set sets cpu new))
  longer_room longer = subst (HaveRoom sizes) (sym put) (room_longer (lists_of sets) cpu in_lists new.items sizes had (subst (λ (w : List ℕ). length w ≤ length new.items) (sym here) longer))

  pub longer_numbers : ((b : ℕ) → has new.items b ≡ has v.items b) → (i : ℕ) → has_number (lists_of (set sets cpu new)) i ≡ has_number (lists_of sets) i
  longer_numbers same i = ap (λ (all : List (List ℕ)). has_number all i) put ∙ same_numbers (lists_of sets) cpu in_lists new.items (λ b. same b ∙ ap (λ (w : List ℕ). has w b) (sym here)) i

  pub longer_long : length (set_of (lists_of (set sets cpu new)) cpu) ≡ length new.items
  longer_long = ap (λ (all : List (List ℕ)). length (set_of all cpu)) put ∙ set_here (lists_of sets) cpu in_lists new.items

-- ---- a table with more numbers

module _ (sizes : List ℕ) (cpu more : ℕ) (below : cpu < length sizes) (from : get_or sizes cpu 0 ≤ more) where
  size_here : (c : ℕ) → c ≡ cpu → get_or (set sizes cpu more) c 0 ≡ more
  size_here c same = get_or-set_at sizes cpu c more 0 same below

  size_there : (c : ℕ) → c ≢ cpu → get_or (set sizes cpu more) c 0 ≡ get_or sizes c 0
  size_there c apart = get_or-set_other sizes cpu c more 0 apart

  as_long : length (set sizes cpu more) ≡ length sizes
  as_long = length-set sizes cpu more

  pub room_grown : (sets : List (List ℕ)) → HaveRoom sizes sets → more < 2 ^ 32 → more ≤ 64 * length (set_of sets cpu) → HaveRoom (set sizes cpu more) sets
  room_grown sets had small fits = record {
    as_many = had.as_many ∙ sym as_long;
    cpus = (let some = had.cpus in let e = as_long in omega (arith, some, e));
    some = λ c inside. (let old = inside_old c inside in let was = had.some c old in elim (cases_eq c cpu) [
      | inl same ↦ (let is = size_here c same in let at = ap (λ (q : ℕ). get_or sizes q 0) same in omega (arith, is, at, was, from))
      | inr apart ↦ (let is = size_there c apart in omega (arith, is, was))
    ]);
    small = λ c inside. (let was = had.small c (inside_old c inside) in elim (cases_eq c cpu) [
      | inl same ↦ (let is = size_here c same in omega (arith, is, small))
      | inr apart ↦ (let is = size_there c apart in omega (arith, is, was))
    ]);
    room = λ c inside. (let was = had.room c (inside_old c inside) in elim (cases_eq c cpu) [
      | inl same ↦ (let is = size_here c same in let at = ap (λ (q : ℕ). length (set_of sets q)) same in omega (arith, is, at, fits))
      | inr apart ↦ (let is = size_there c apart in omega (arith, is, was))
    ]);
  }
    where
      inside_old : (c : ℕ) → c < length (set sizes cpu more) → c < length sizes
      inside_old c inside = let e = as_long in omega (arith, inside, e)

  pub tells_grown : (cpus : ℕ) (slots : List (Option Row)) (sets : List (List ℕ)) → 0 < cpus → more ≤ length slots / cpus → TellsUsed cpus sizes slots sets → TellsUsed cpus (set sizes cpu more) slots sets
  tells_grown cpus slots sets some fits tells = record {
    reach = λ i number. elim (cases_eq (i % cpus) cpu) [
      | inl same ↦ (
          let is = size_here (i % cpus) same in
          let low = number in
          let before : i / cpus < length slots / cpus = omega (arith, is, low, fits) in
          let end : i < length slots / cpus * cpus = (div-lt_iff_lt-mul some).0 before in
          let whole = div-mul-le_self (length slots) cpus in
          omega (arith, end, whole))
      | inr apart ↦ tells.reach i (let is = size_there (i % cpus) apart in let low = number in omega (arith, is, low))
    ];
    within = λ i used. (let was = tells.within i used in elim (cases_eq (i % cpus) cpu) [
      | inl same ↦ (let is = size_here (i % cpus) same in let at = ap (λ (q : ℕ). get_or sizes q 0) same in omega (arith, is, at, was, from))
      | inr apart ↦ (let is = size_there (i % cpus) apart in omega (arith, is, was))
    ]);
    told = tells.told;
  }

-- ---- more slots, in which no row stands

rows_longer_at : (slots : List (Option Row)) (n : ℕ) → rows_in (slots ++ replicate n None) ≡ rows_in slots
rows_longer_at [] zero = refl
rows_longer_at [] (suc n) = rows_longer_at [] n
rows_longer_at (None ∷ rest) n = rows_longer_at rest n
rows_longer_at (Some row ∷ rest) n = ap (λ (rows : List Row). row ∷ rows) (rows_longer_at rest n)

module _ (slots : List (Option Row)) (n : ℕ) where
  pub rows_longer : rows_in (slots ++ replicate n None) ≡ rows_in slots
  rows_longer = rows_longer_at slots n

  pub slots_longer : length (slots ++ replicate n None) ≡ length slots + n
  slots_longer = length-append slots (replicate n None) ∙ ap (λ (m : ℕ). length slots + m) (length-replicate {A = Option Row} n None)

  slot_same : (i : ℕ) → get_or (slots ++ replicate n None) i None ≡ get_or slots i None
  slot_same i = more_read slots n i None

  pub stand_longer : StandByNumber 0 slots → StandByNumber 0 (slots ++ replicate n None)
  stand_longer stand k row is = stand k row (sym (slot_same k) ∙ is)

  pub tells_longer : (cpus : ℕ) (sizes : List ℕ) (sets new : List (List ℕ)) → ((i : ℕ) → has_number new i ≡ has_number sets i) → TellsUsed cpus sizes slots sets → TellsUsed cpus sizes (slots ++ replicate n None) new
  tells_longer cpus sizes sets new same tells = record {
    reach = λ i number. (let low = tells.reach i number in let more = slots_longer in omega (arith, low, more));
    within = λ i some. tells.within i (sym (ap is_some (slot_same i)) ∙ some);
    told = λ i. same i ∙ tells.told i ∙ ap (λ (o : Option Row). cond (is_some o) 1 0) (sym (slot_same i));
  }

-- other sets with the same numbers
pub tells_same : (cpus : ℕ) (sizes : List ℕ) (slots : List (Option Row)) (sets new : List (List ℕ)) → ((i : ℕ) → has_number new i ≡ has_number sets i) → TellsUsed cpus sizes slots sets → TellsUsed cpus sizes slots new
tells_same cpus sizes slots sets new same tells = record { reach = tells.reach; within = tells.within; told = λ i. same i ∙ tells.told i }

-- ---- the space of a CPU's table

space_at : (slots : List (Option Row)) (sets : List (List ℕ)) (cpus cpu : ℕ) → cpu < length sets → get_or (space_in slots sets cpus) cpu 0 ≡ min (64 * length (set_of sets cpu)) (length slots / cpus)
space_at slots sets cpus cpu below = get_or-map (λ (w : List ℕ). min (64 * length w) (length slots / cpus)) sets cpu [] 0 below

-- where there is space, set and slots have it
pub space_bound : (slots : List (Option Row)) (sets : List (List ℕ)) (cpus cpu n : ℕ) → n + 31 ≤ get_or (space_in slots sets cpus) cpu 0 → (n + 31 ≤ 64 * length (set_of sets cpu)) × (n + 31 ≤ length slots / cpus)
space_bound slots sets cpus cpu n fits = elim (cases_lt cpu (length sets)) [
  | inl below ↦ (let is = space_at slots sets cpus cpu below in (omega (arith, is, fits), omega (arith, is, fits)))
  | inr past ↦ absurd (let none = get_or_past (space_in slots sets cpus) cpu 0 (let long = length-map sets (λ (w : List ℕ). min (64 * length w) (length slots / cpus)) in omega (arith, long, past)) in omega (arith, none, fits))
]

-- and where both have it, there is
pub space_ready : (slots : List (Option Row)) (sets : List (List ℕ)) (cpus cpu n : ℕ) → 0 < cpus → n + 31 ≤ 64 * length (set_of sets cpu) → (n + 31) * cpus ≤ length slots → n + 31 ≤ get_or (space_in slots sets cpus) cpu 0
space_ready slots sets cpus cpu n some bits places = elim (cases_lt cpu (length sets)) [
  | inl below ↦ (let is = space_at slots sets cpus cpu below in let most = le-div (n + 31) (length slots) cpus some places in omega (arith, is, bits, most))
  | inr past ↦ absurd (let none = ap (λ (w : List ℕ). length w) (get_or_past sets cpu [] past) in omega (arith, none, bits))
]

pub space_same : (slots more : List (Option Row)) (sets : List (List ℕ)) (cpus : ℕ) → length more ≡ length slots → space_in more sets cpus ≡ space_in slots sets cpus
space_same slots more sets cpus as_many = ap (λ (n : ℕ). map (λ (w : List ℕ). min (64 * length w) (n / cpus)) sets) as_many

split_end : (m c : ℕ) → (m + 32) * c ≡ m * c + 32 * c
split_end m c = omega arith

-- The next block's numbers end no more than 4,096 behind the slots.
pub end_near : (s : Super) (slots : List (Option Row)) (used : UsedSets) → AreRows s slots used → (cpu : ℕ) → cpu < s.cpus → 0 < get_or used.sizes cpu 0 → (get_or used.sizes cpu 0 + 31) * s.cpus ≤ length slots + 4096
end_near s slots used all cpu below some =
    let size = get_or used.sizes cpu 0 in
    let its_cpu = ap (λ (c : ℕ). get_or used.sizes c 0) (mod-mul-add (get_or used.sizes cpu 0 - 1) s.cpus cpu below) in
    let its_place = div-mul-add (get_or used.sizes cpu 0 - 1) s.cpus cpu below in
    let last : (size - 1) * s.cpus + cpu < length slots = all.tells.reach ((size - 1) * s.cpus + cpu) (omega (arith, its_cpu, its_place, some)) in
    let few = all.layout.areas.cpus_to in
    let back : size + 31 ≡ size - 1 + 32 = omega (arith, some) in
    let split : (size + 31) * s.cpus ≡ (size - 1) * s.cpus + 32 * s.cpus = ap (λ (n : ℕ). n * s.cpus) back ∙ split_end (size - 1) s.cpus in
    omega (arith, last, few, split)

-- ---- for callers

-- rows whose table grew have the numbers of the grown layout
pub numbers_grown : {l : Layout} {old new : RowList} (cpu block : ℕ) → IsLaid l → cpu < l.sup.cpus → HasNumbersOf l old → new.sup ≡ old.sup → new.sizes ≡ set old.sizes cpu (get_or old.sizes cpu 0 + 31) → HasNumbersOf (with_block l cpu block) new
numbers_grown {l} {old} {new} cpu block laid below numbers sup sizes = record {
  sup = sup ∙ numbers.sup;
  sizes = sizes ∙ ap (λ (all : List ℕ). set all cpu (get_or all cpu 0 + 31)) numbers.sizes
      ∙ ap (λ (n : ℕ). set (sizes_of l) cpu (n + 31)) (size_of l cpu below) ∙ sym (grown_sizes l cpu laid below block);
}

-- The number of the new block's first slot is one of the table then.
pub next_in_table : {l : Layout} {new : RowList} (cpu block : ℕ) → IsLaid l → cpu < l.sup.cpus → HasNumbersOf (with_block l cpu block) new → IsTableNumber new.sup.cpus new.sizes (next_number l cpu)
next_in_table {l} {new} cpu block laid below numbers =
    let its_cpu : next_number l cpu % l.sup.cpus ≡ cpu = mod-mul-add (table_size l cpu) l.sup.cpus cpu below in
    let its_place : next_number l cpu / l.sup.cpus ≡ table_size l cpu = div-mul-add (table_size l cpu) l.sup.cpus cpu below in
    let size : get_or (sizes_of (with_block l cpu block)) (next_number l cpu % l.sup.cpus) 0 ≡ table_size l cpu + 31 = ap (λ (c : ℕ). get_or (sizes_of (with_block l cpu block)) c 0) its_cpu ∙ size_of (with_block l cpu block) cpu below ∙ own_size l cpu laid below block in
    subst (λ (s : Super). IsTableNumber s.cpus new.sizes (next_number l cpu)) (sym numbers.sup)
    (subst (λ (sizes : List ℕ). IsTableNumber l.sup.cpus sizes (next_number l cpu)) (sym numbers.sizes) (omega (arith, its_place, size)))

-- what a growth asks of the sizes
pub grown_small : {l : Layout} {rows : RowList} (cpu : ℕ) → IsLaid l → cpu < l.sup.cpus → HasNumbersOf l rows → (get_or rows.sizes cpu 0 + 31) * rows.sup.cpus < 2 ^ 32
grown_small {l} {rows} cpu laid below numbers =
    let size : get_or rows.sizes cpu 0 ≡ table_size l cpu = ap (λ (all : List ℕ). get_or all cpu 0) numbers.sizes ∙ size_of l cpu below in
    let most = size_small l cpu laid in
    let cpus : rows.sup.cpus ≡ l.sup.cpus = ap (λ (s : Super). s.cpus) numbers.sup in
    let few = laid.layout.areas.cpus_to in
    let one : get_or rows.sizes cpu 0 + 31 ≤ 8128543 = omega (arith, size, most) in
    let two : rows.sup.cpus ≤ 64 = omega (arith, cpus, few) in
    let product : (get_or rows.sizes cpu 0 + 31) * rows.sup.cpus ≤ 8128543 * 64 = mul-le-mul one two in
    omega (arith, product)
