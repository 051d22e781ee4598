-- Tables to whose chain of a CPU one block more was put, at their fields.
use Rattle.std.proofs.Common.{◌≡◌, ◌≢◌, ◌⊎◌, inl, inr, ◌<◌, ◌≤◌, ◌+◌, ◌-◌, ◌*◌, ◌/◌, ◌%◌, ◌^◌, ◌||◌, nat_le, ℕ, zero, suc, Bool, true, false, true≢false, cond, eqb, eq-eqb, List, [], ◌∷◌, ◌++◌, length, map, set, get_or, replicate, Option, Some, None, refl, sym, ap, ◌∙◌, subst, arith, length-set}
use Rattle.std.specs.Prelude.{slice_get, unwrap_or, vec_len, vec_capacity}
use Rattle.std.specs.Global.{Vec}
use Rattle.std.specs.List.{list_any, IsDistinct}
use Rattle.std.proofs.Math.Nat.{mul-le-mul}
use Rattle.std.proofs.lemmas.Nat.{div-mul-add, mod-mul-add}
use Rattle.std.proofs.lemmas.Bool.{cases_eq, cases_lt}
use Rattle.std.proofs.lemmas.Bool.Decides.{nat_tests}
use Rattle.std.proofs.lemmas.Cmp.{nat_eq_equiv}
use Rattle.std.proofs.lemmas.List.{map-set, get_or-set_same, length_push}
use Rattle.std.proofs.lemmas.List.Folds.{list_any-append}
use Rattle.std.proofs.lemmas.Map.Keys.{IsDistinct-push}
use Rattle.nv_blockset.specs.BlockSet.{is_set, with_block as with_mark}
use Rattle.nv_super.specs.declared.superblock.Super.{Super}
use Rattle.nv_super.specs.Layout.{Layout, chain_of, slot_of, system_blocks}
use Rattle.nv_inode.specs.Chains.{IsLaid, first_link, in_chains, link_behind}
use Rattle.nv_inode.specs.Numbers.{next_number, sizes_of, table_size}
use Rattle.nv_inode.specs.Growing.{with_block}
use Rattle.nv_inode.specs.Tables.{AreTables, laid, lists_of, rooms_of, spare}
use Rattle.nv_inode.proofs.GrownSlots.{found_grown}
use Rattle.nv_inode.proofs.LayoutWords.{block_slot}
use Rattle.nv_inode.proofs.LinkedChains.{one_set}
use Rattle.nv_inode.proofs.NumberEnds.{size_small, slot_below}
use Rattle.nv_inode.proofs.TicketBlocks.{found_chain, lists_long}
use Rattle.nv_inode.proofs.Marks.{set_more}

-- ---- chains of which one has a block more

set_other : (chains : List (List ℕ)) (c q : ℕ) (x : List ℕ) → q ≢ c → slice_get (set chains c x) q ≡ slice_get chains q
set_other [] c q x differs = refl
set_other (y ∷ ys) zero zero x differs = absurd (differs refl)
set_other (y ∷ ys) zero (suc q) x differs = refl
set_other (y ∷ ys) (suc c) zero x differs = refl
set_other (y ∷ ys) (suc c) (suc q) x differs = set_other ys c q x (λ e. differs (ap suc e))

set_here : (chains : List (List ℕ)) (c : ℕ) (x : List ℕ) → c < length chains → slice_get (set chains c x) c ≡ Some x
set_here [] c x below = absurd (omega (arith, below))
set_here (y ∷ ys) zero x below = refl
set_here (y ∷ ys) (suc c) x below = set_here ys c x (omega (arith, below))

module _ (l : Layout) (cpu block : ℕ) (below : cpu < length l.chains) where
  pub own_chain : chain_of (with_block l cpu block) cpu ≡ chain_of l cpu ++ block ∷ []
  own_chain = ap (λ (o : Option (List ℕ)). unwrap_or o []) (set_here l.chains cpu (chain_of l cpu ++ block ∷ []) below)

  pub other_chain : (c : ℕ) → c ≢ cpu → chain_of (with_block l cpu block) c ≡ chain_of l c
  other_chain c differs = ap (λ (o : Option (List ℕ)). unwrap_or o []) (set_other l.chains cpu c (chain_of l cpu ++ block ∷ []) differs)

  module _ (is_laid : IsLaid l) (two : l.sup.version ≡ 2) (from : system_blocks l.sup ≤ block) (to : block < l.sup.blocks) (fresh : list_any (eqb block) (chain_of l cpu) ≡ false) where
    inside_grown : (c k b : ℕ) → slice_get (chain_of (with_block l cpu block) c) k ≡ Some b → (system_blocks l.sup ≤ b) × (b < l.sup.blocks)
    inside_grown c k b has = elim (found_grown l.chains cpu c k block below) [
      | inl same ↦ is_laid.inside c k b (sym same ∙ has)
      | inr (none, some) ↦ (let here : Some block ≡ Some b = sym some ∙ has in let is : block ≡ b = cc in (omega (arith, is, from), omega (arith, is, to)))
    ]

    once_grown : (c : ℕ) → IsDistinct eqb (chain_of (with_block l cpu block) c)
    once_grown c = elim (cases_eq c cpu) [
      | inl same ↦ subst (λ (q : ℕ). IsDistinct eqb (chain_of (with_block l cpu block) q)) (sym same)
          (subst (λ (blocks : List ℕ). IsDistinct eqb blocks) (sym own_chain) (IsDistinct-push nat_eq_equiv (chain_of l cpu) block (is_laid.once cpu) fresh))
      | inr differs ↦ subst (λ (blocks : List ℕ). IsDistinct eqb blocks) (sym (other_chain c differs)) (is_laid.once c)
    ]

    pub grown_laid : IsLaid (with_block l cpu block)
    grown_laid = record {
      layout = is_laid.layout;
      each = length-set l.chains cpu (chain_of l cpu ++ block ∷ []) ∙ is_laid.each;
      fixed = λ one c. absurd (omega (arith, one, two));
      inside = inside_grown;
      once = once_grown;
    }

-- the blocks of the chains are those of before and the new one
in_grown : (chains : List (List ℕ)) (cpu block b : ℕ) → cpu < length chains → in_chains (set chains cpu (unwrap_or (slice_get chains cpu) [] ++ block ∷ [])) b ≡ (in_chains chains b || eqb b block)
in_grown [] cpu block b below = absurd (omega (arith, below))
in_grown (x ∷ xs) zero block b below = ap (λ (t : Bool). t || in_chains xs b) (list_any-append (eqb b) x (block ∷ [])) ∙ swap (list_any (eqb b) x) (eqb b block) (in_chains xs b)
  where
    swap : (x e r : Bool) → ((x || (e || false)) || r) ≡ ((x || r) || e)
    swap true e r = refl
    swap false true true = refl
    swap false true false = refl
    swap false false true = refl
    swap false false false = refl
in_grown (x ∷ xs) (suc cpu) block b below = ap (λ (t : Bool). list_any (eqb b) x || t) (in_grown xs cpu block b (omega (arith, below))) ∙ or_more (list_any (eqb b) x) (in_chains xs b) (eqb b block)
  where
    or_more : (x y z : Bool) → (x || (y || z)) ≡ ((x || y) || z)
    or_more true y z = refl
    or_more false y z = refl

-- ---- the fields

-- a vector in the place of one with the same items
pub lists_same : (chains : List (Vec ℕ)) (cpu : ℕ) (v new : Vec ℕ) → v ≡ get_or chains cpu v → new.items ≡ v.items → lists_of (set chains cpu new) ≡ lists_of chains
lists_same [] cpu v new is same = refl
lists_same (x ∷ xs) zero v new is same = ap (λ (items : List ℕ). items ∷ lists_of xs) (same ∙ ap (λ (w : Vec ℕ). w.items) is)
lists_same (x ∷ xs) (suc cpu) v new is same = ap (λ (rest : List (List ℕ)). x.items ∷ rest) (lists_same xs cpu v new is same)

-- and in the place of one with an item less
pub lists_grown : (s : Super) (chains : List (Vec ℕ)) (cpu block : ℕ) (v new : Vec ℕ) → cpu < length chains → v ≡ get_or chains cpu v → new.items ≡ v.items ++ block ∷ [] → laid s (set chains cpu new) ≡ with_block (laid s chains) cpu block
lists_grown s chains cpu block v new below is more =
    ap (λ (rest : List (List ℕ)). record { sup = s; chains = rest })
    (map-set (λ (w : Vec ℕ). w.items) chains cpu new
    ∙ ap (λ (items : List ℕ). set (lists_of chains) cpu items) (more ∙ ap (λ (items : List ℕ). items ++ block ∷ []) (sym (found_chain chains cpu v is below))))

-- a set of which no block is another
pub same_tables : (l : Layout) (old new : List ℕ) → ((b : ℕ) → is_set new b ≡ is_set old b) → AreTables l old → AreTables l new
same_tables l old new same are = record { laid = are.laid; marked = λ b. same b ∙ are.marked b }

pub grown_tables : (l : Layout) (marks : List ℕ) (cpu block : ℕ) → AreTables l marks → l.sup.version ≡ 2 → cpu < l.sup.cpus → system_blocks l.sup ≤ block → block < l.sup.blocks → list_any (eqb block) (chain_of l cpu) ≡ false
    → block / 64 < length marks → AreTables (with_block l cpu block) (with_mark marks block)
grown_tables l marks cpu block are two below from to fresh inside =
    let within : cpu < length l.chains = (let each = are.laid.each in omega (arith, each, below)) in
    record {
      laid = grown_laid l cpu block within are.laid two from to fresh;
      marked = λ b. set_more marks block b inside ∙ ap (λ (t : Bool). t || eqb b block) (are.marked b) ∙ sym (in_grown l.chains cpu block b within);
    }

-- a set with words of zeros behind it
pub longer_same : (words : List ℕ) (n i : ℕ) → get_or (words ++ replicate n 0) i 0 ≡ get_or words i 0
longer_same [] zero i = refl
longer_same [] (suc n) zero = refl
longer_same [] (suc n) (suc i) = longer_same [] n i
longer_same (w ∷ words) n zero = refl
longer_same (w ∷ words) n (suc i) = longer_same words n i

-- ---- room

-- the rooms are those of the chains, where the set has room
rooms_are : (s : Super) (chains : List (Vec ℕ)) (marks : List ℕ) → s.blocks ≤ 64 * length marks → rooms_of s chains marks ≡ map spare chains
rooms_are s chains marks long = (let on : nat_le s.blocks (64 * length marks) ≡ true = grind (arith, nat_tests) in ap (λ (t : Bool). cond t (map spare chains) []) on)

pub has_room : (s : Super) (chains : List (Vec ℕ)) (marks : List ℕ) (cpu : ℕ) (v : Vec ℕ) → cpu < length chains → s.blocks ≤ 64 * length marks → vec_len v + 1 ≤ vec_capacity v → 0 < get_or (rooms_of s (set chains cpu v) marks) cpu 0
has_room s chains marks cpu v below long space =
    let is : get_or (rooms_of s (set chains cpu v) marks) cpu 0 ≡ spare v = ap (λ (rooms : List ℕ). get_or rooms cpu 0) (rooms_are s (set chains cpu v) marks long ∙ map-set spare chains cpu v)
    ∙ get_or-set_same (map spare chains) cpu (spare v) 0 (let as_many = spares_long chains in omega (arith, as_many, below)) in
    omega (arith, is, space)
  where
    spares_long : (chains : List (Vec ℕ)) → length (map spare chains) ≡ length chains
    spares_long [] = refl
    spares_long (x ∷ xs) = ap suc (spares_long xs)

pub room_marks : (s : Super) (chains : List (Vec ℕ)) (marks : List ℕ) (cpu : ℕ) → 0 < get_or (rooms_of s chains marks) cpu 0 → s.blocks ≤ 64 * length marks
room_marks s chains marks cpu room = by (nat_le s.blocks (64 * length marks)) refl
  where
    none : (t : Bool) → t ≡ false → 0 < get_or (cond t (map spare chains) []) cpu 0 → ⊥
    none true off some = cc
    none false off some = omega (arith, some)

    by : (t : Bool) → nat_le s.blocks (64 * length marks) ≡ t → s.blocks ≤ 64 * length marks
    by true on = grind (arith, nat_tests)
    by false off = absurd (none (nat_le s.blocks (64 * length marks)) off room)

pub room_there : (s : Super) (chains : List (Vec ℕ)) (marks : List ℕ) (cpu : ℕ) (v : Vec ℕ) → 0 < get_or (rooms_of s chains marks) cpu 0 → cpu < length chains → v ≡ get_or chains cpu v → vec_len v < vec_capacity v
room_there s chains marks cpu v room below is =
    let rooms : get_or (rooms_of s chains marks) cpu 0 ≡ spare v = ap (λ (rooms : List ℕ). get_or rooms cpu 0) (rooms_are s chains marks (room_marks s chains marks cpu room)) ∙ spare_at chains cpu below is in
    omega (arith, rooms, room)
  where
    spare_at : (chains : List (Vec ℕ)) (cpu : ℕ) → cpu < length chains → v ≡ get_or chains cpu v → get_or (map spare chains) cpu 0 ≡ spare v
    spare_at [] cpu below is = absurd (omega (arith, below))
    spare_at (x ∷ xs) zero below is = ap spare (sym is)
    spare_at (x ∷ xs) (suc cpu) below is = spare_at xs cpu (omega (arith, below)) is

-- ---- as the calls leave them

module _ (s : Super) (chains : List (Vec ℕ)) (marks : List ℕ) (l : Layout) (same : laid s chains ≡ l) (are : AreTables (laid s chains) marks) (cpu : ℕ) (below : cpu < l.sup.cpus) where
  pub within : cpu < length chains
  within = let each = are.laid.each in let all = lists_long chains in let cpus : s.cpus ≡ l.sup.cpus = ap (λ (x : Layout). x.sup.cpus) same in omega (arith, each, all, cpus, below)

  -- room was made
  module _ (v new : Vec ℕ) (at : v ≡ get_or chains cpu v) (items : new.items ≡ v.items) where
    pub layout_reserved : laid s (set chains cpu new) ≡ l
    layout_reserved = ap (λ (xs : List (List ℕ)). record { sup = s; chains = xs }) (lists_same chains cpu v new at items) ∙ same

    pub tables_reserved : (words : List ℕ) → ((b : ℕ) → is_set words b ≡ is_set marks b) → AreTables (laid s (set chains cpu new)) words
    tables_reserved words equal = subst (λ (xs : List (List ℕ)). AreTables (record { sup = s; chains = xs }) words) (sym (lists_same chains cpu v new at items)) (same_tables (laid s chains) marks words equal are)

  -- a block was put there
  module _ (block : ℕ) (v new : Vec ℕ) (at : v ≡ get_or chains cpu v) (more : new.items ≡ v.items ++ block ∷ []) where
    pub layout_pushed : laid s (set chains cpu new) ≡ with_block l cpu block
    layout_pushed = lists_grown s chains cpu block v new within at more ∙ ap (λ (x : Layout). with_block x cpu block) same

    pub tables_pushed : l.sup.version ≡ 2 → system_blocks l.sup ≤ block → block < l.sup.blocks → list_any (eqb block) (chain_of l cpu) ≡ false → 0 < get_or (rooms_of s chains marks) cpu 0
        → (words : List ℕ) → words ≡ with_mark marks block → AreTables (laid s (set chains cpu new)) words
    tables_pushed two from to fresh room words are_words =
        let blocks : s.blocks ≡ l.sup.blocks = ap (λ (x : Layout). x.sup.blocks) same in
        let inside : block / 64 < length marks = (let long = room_marks s chains marks cpu room in omega (arith, long, blocks, to)) in
        subst (λ (ws : List ℕ). AreTables (laid s (set chains cpu new)) ws) (sym are_words)
        (subst (λ (x : Layout). AreTables x (with_mark marks block)) (sym layout_pushed)
        (grown_tables l marks cpu block (subst (λ (x : Layout). AreTables x marks) same are) two below from to fresh inside))

-- ---- the last link

last_at : (at : ℕ) (chain : List ℕ) (n b : ℕ) → length chain ≡ n + 1 → slice_get chain n ≡ Some b → 4096 * b ≡ link_behind at chain
last_at at [] n b long is = absurd (omega (arith, long))
last_at at (x ∷ []) zero b long is = (let same : b ≡ x = cc in ap (λ (n : ℕ). 4096 * n) same)
last_at at (x ∷ []) (suc n) b long is = absurd (omega (arith, long))
last_at at (x ∷ y ∷ chain) zero b long is = absurd (omega (arith, long))
last_at at (x ∷ y ∷ chain) (suc n) b long is = last_at (4096 * x) (y ∷ chain) n b (omega (arith, long)) is

pub last_is : (at : ℕ) (chain : List ℕ) (b : ℕ) → slice_get chain (length chain - 1) ≡ Some b → 4096 * b ≡ link_behind at chain
last_is at [] b is = absurd (cc)
last_is at (x ∷ chain) b is = last_at at (x ∷ chain) (length (x ∷ chain) - 1) b (omega arith) is

-- where it stands: where the first link does, or first in one of the blocks
pub end_at : (at : ℕ) (blocks : List ℕ) → (link_behind at blocks ≡ at) ⊎ ((k : ℕ) × (c : ℕ) × (slice_get blocks k ≡ Some c) × (link_behind at blocks ≡ 4096 * c))
end_at at [] = inl refl
end_at at (b ∷ blocks) = inr (behind at b blocks) where
  behind : (at b : ℕ) (blocks : List ℕ) → (k : ℕ) × (c : ℕ) × (slice_get (b ∷ blocks) k ≡ Some c) × (link_behind at (b ∷ blocks) ≡ 4096 * c)
  behind at b [] = (0, b, refl, refl)
  behind at b (d ∷ blocks) = let more = behind (4096 * b) d blocks in (suc more.0, more.1, more.2, more.3)

is_among : (xs : List ℕ) (k b : ℕ) → slice_get xs k ≡ Some b → list_any (eqb b) xs ≡ true
is_among [] k b is = absurd (cc)
is_among (x ∷ xs) zero b is = ap (λ (t : Bool). t || list_any (eqb b) xs) (let same : b ≡ x = cc in eq-eqb b x same)
is_among (x ∷ xs) (suc k) b is = or_true (eqb b x) (list_any (eqb b) xs) (is_among xs k b is)
  where
    or_true : (x y : Bool) → y ≡ true → (x || y) ≡ true
    or_true true y on = refl
    or_true false y on = on

-- it isn't in a data block that the chain hasn't
pub link_apart : (l : Layout) (cpu block : ℕ) → cpu < l.sup.cpus → system_blocks l.sup ≤ block → list_any (eqb block) (chain_of l cpu) ≡ false
    → (link_behind (first_link cpu) (chain_of l cpu) < 4096 * block) ⊎ (4096 * block + 4096 ≤ link_behind (first_link cpu) (chain_of l cpu))
link_apart l cpu block below from fresh = elim (end_at (first_link cpu) (chain_of l cpu)) [
  | inl first ↦ inl (omega (arith, first, from, below))
  | inr w ↦ (let there = w.3 in elim (cases_lt w.1 block) [
    | inl low ↦ inl (omega (arith, low, there))
    | inr high ↦ inr (let differs : w.1 ≢ block = (λ same. true≢false (sym (is_among (chain_of l cpu) w.0 block (w.2 ∙ ap Some same)) ∙ fresh)) in omega (arith, high, differs, there))
  ])
]

pub link_lies : (l : Layout) (cpu : ℕ) → IsLaid l → cpu < l.sup.cpus → (link_behind (first_link cpu) (chain_of l cpu) % 8 ≡ 0) × (link_behind (first_link cpu) (chain_of l cpu) + 8 ≤ 4096 * l.sup.blocks)
link_lies l cpu is_laid below =
    let room = is_laid.layout.areas.room in
    elim (end_at (first_link cpu) (chain_of l cpu)) [
      | inl first ↦ (omega (arith, first), omega (arith, first, room, below))
      | inr w ↦ (let there = w.3 in let to = (is_laid.inside cpu w.0 w.1 w.2).1 in (omega (arith, there), omega (arith, there, to)))
    ]

-- ---- the numbers

module _ (l : Layout) (cpu : ℕ) (is_laid : IsLaid l) (below : cpu < l.sup.cpus) where
  place : next_number l cpu / l.sup.cpus ≡ table_size l cpu
  place = div-mul-add (table_size l cpu) l.sup.cpus cpu below

  of_cpu : next_number l cpu % l.sup.cpus ≡ cpu
  of_cpu = mod-mul-add (table_size l cpu) l.sup.cpus cpu below

  pub next_has_none : (found : Option ℕ) → slot_of l (next_number l cpu) ≡ found → found ≡ None
  next_has_none None is = refl
  next_has_none (Some a) is = absurd (let less = slot_below l (next_number l cpu) a is in let size : table_size l (next_number l cpu % l.sup.cpus) ≡ table_size l cpu = ap (table_size l) of_cpu in omega (arith, less, place, size))

  inside_chains : cpu < length l.chains
  inside_chains = let each = is_laid.each in omega (arith, each, below)

  pushed_last : (xs : List ℕ) (b : ℕ) → slice_get (xs ++ b ∷ []) (length xs) ≡ Some b
  pushed_last [] b = refl
  pushed_last (x ∷ xs) b = pushed_last xs b

  pub next_has : (block : ℕ) → slot_of (with_block l cpu block) (next_number l cpu) ≡ Some (4096 * block + 128)
  next_has block =
      let has : slice_get (chain_of (with_block l cpu block) cpu) (length (chain_of l cpu)) ≡ Some block = ap (λ (blocks : List ℕ). slice_get blocks (length (chain_of l cpu))) (own_chain l cpu block inside_chains) ∙ pushed_last (chain_of l cpu) block in
      let tables : 0 < 32 * l.sup.table_blocks = (let from = is_laid.layout.tables_from in omega (arith, from)) in
      let plus : 32 * l.sup.table_blocks + 31 * length (chain_of l cpu) ≡ 32 * l.sup.table_blocks + 31 * length (chain_of l cpu) + 0 = omega arith in
      let at : block * 4096 + 128 + 128 * 0 ≡ 4096 * block + 128 = omega arith in
      ap (λ (n : ℕ). slot_of (with_block l cpu block) (n * l.sup.cpus + cpu)) plus ∙ block_slot (with_block l cpu block) cpu (length (chain_of l cpu)) 0 block below tables (omega arith) has ∙ ap Some at

  pub own_size : (block : ℕ) → table_size (with_block l cpu block) cpu ≡ table_size l cpu + 31
  own_size block = (let long = ap length (own_chain l cpu block inside_chains) ∙ length_push (chain_of l cpu) block in omega (arith, long))

  other_size : (block c : ℕ) → c ≢ cpu → table_size (with_block l cpu block) c ≡ table_size l c
  other_size block c differs = ap (λ (blocks : List ℕ). 32 * l.sup.table_blocks + 31 * length blocks) (other_chain l cpu block inside_chains c differs)

  pub grown_sizes : (block : ℕ) → sizes_of (with_block l cpu block) ≡ set (sizes_of l) cpu (table_size l cpu + 31)
  grown_sizes block =
      one_set (table_size l) (table_size (with_block l cpu block)) 0 l.sup.cpus cpu below (λ c low high differs. other_size block c (λ same. differs (omega (arith, same))))
      ∙ ap (λ (n : ℕ). set (sizes_of l) cpu n) (ap (table_size (with_block l cpu block)) (let e : 0 + cpu ≡ cpu = omega arith in e) ∙ own_size block)

  -- it is a small number
  pub next_small : next_number l cpu < 2 ^ 32
  next_small =
      let size = size_small l cpu is_laid in
      let few = is_laid.layout.areas.cpus_to in
      let product : table_size l cpu * l.sup.cpus ≤ 8128512 * 64 = mul-le-mul size few in
      omega (arith, product, few, below)
