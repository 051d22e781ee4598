-- Which numbers have a slot, by how many each CPU's table has, and that all of them are below the end of the numbers.
use Rattle.std.proofs.Common.{◌≡◌, ◌≢◌, inl, inr, ◌≤◌, ◌<◌, ◌+◌, ◌-◌, ◌*◌, ◌/◌, ◌%◌, ◌∷◌, ℕ, zero, suc, max, IsTrue, List, [], length, Option, Some, None, refl, sym, ap, subst, ◌∙◌, arith}
use Rattle.std.specs.Prelude.{is_some, replicate, slice_get, unwrap_or}
use Rattle.std.proofs.Math.Nat.{le-max_left, le-max_right, sub-add-eq-max, zero-max}
use Rattle.std.proofs.lemmas.Nat.{div-add-mod', mod_below, mul-add-lt}
use Rattle.std.proofs.lemmas.Bool.{cases_lt}
use Rattle.std.proofs.lemmas.Option.{slice_get_within}
use Rattle.std.proofs.lemmas.List.FromFn.{length-map-range_with_len}
use Rattle.nv_super.specs.declared.superblock.Super.{Super}
use Rattle.nv_super.specs.Layout.{Layout, chain_of, fixed_layout, inode_limit, slot_address, slot_of}
use Rattle.nv_super.proofs.Slots.{no_chain}
use Rattle.nv_inode.specs.Chains.{IsLaid}
use Rattle.nv_inode.specs.Numbers.{has_slot, longest, number_end, sizes_of, table_size}
use Rattle.nv_inode.proofs.LayoutWords.{IsSlot, in_table, in_block, behind_slot, fixed_slot, slot_is}
use Rattle.nv_inode.proofs.TicketBlocks.{chain_small, range_at}

-- ---- which numbers have a slot

some_is : {A : Type 0} (o : Option A) → IsTrue (is_some o) → (a : A) × (o ≡ Some a)
some_is (Some a) some = (a, refl)
some_is None some = absurd (cc)

is_of : {A : Type 0} (o : Option A) (a : A) → o ≡ Some a → IsTrue (is_some o)
is_of {A} o a is = subst (λ (x : Option A). IsTrue (is_some x)) (sym is) refl

found_within : (xs : List ℕ) (k : ℕ) → k < length xs → (b : ℕ) × (slice_get xs k ≡ Some b)
found_within [] k below = absurd (omega (arith, below))
found_within (x ∷ xs) zero below = (x, refl)
found_within (x ∷ xs) (suc k) below = found_within xs k (omega (arith, below))

pub slot_below : (l : Layout) (i a : ℕ) → slot_of l i ≡ Some a → i / l.sup.cpus < table_size l (i % l.sup.cpus)
slot_below l i a at = by (slot_is l i a at)
  where
    by : IsSlot l i a → i / l.sup.cpus < table_size l (i % l.sup.cpus)
    by (in_table positive low is) = omega (arith, low)
    by (in_block b j k few place has is) = let within = slice_get_within (chain_of l (i % l.sup.cpus)) k b has in omega (arith, few, place, within)

pub slot_there : (l : Layout) (i : ℕ) → i ≢ 0 → i / l.sup.cpus < table_size l (i % l.sup.cpus) → (a : ℕ) × (slot_of l i ≡ Some a)
slot_there l i some below = elim (cases_lt (i / l.sup.cpus) (32 * l.sup.table_blocks)) [
  | inl low ↦ (slot_address l.sup i, fixed_slot l i some low)
  | inr past ↦ (
      let n : ℕ = i / l.sup.cpus - 32 * l.sup.table_blocks in
      let found = found_within (chain_of l (i % l.sup.cpus)) ((i / l.sup.cpus - 32 * l.sup.table_blocks) / 31) (omega (arith, past, below)) in (
        found.0 * 4096 + 128 + 128 * ((i / l.sup.cpus - 32 * l.sup.table_blocks) % 31),
        behind_slot l i (i % l.sup.cpus) ((i / l.sup.cpus - 32 * l.sup.table_blocks) / 31) ((i / l.sup.cpus - 32 * l.sup.table_blocks) % 31) found.0 (omega (arith, past)) refl some (omega arith) found.1,
      ))
]

pub has_slot_below : (l : Layout) (i : ℕ) → IsTrue (has_slot l i) → i / l.sup.cpus < table_size l (i % l.sup.cpus)
has_slot_below l i has = let at = some_is (slot_of l i) has in slot_below l i at.0 at.1

pub below_has_slot : (l : Layout) (i : ℕ) → i ≢ 0 → i / l.sup.cpus < table_size l (i % l.sup.cpus) → IsTrue (has_slot l i)
below_has_slot l i some below = let at = slot_there l i some below in is_of (slot_of l i) at.0 at.1

pub fixed_size : (s : Super) (cpu : ℕ) → table_size (fixed_layout s) cpu ≡ 32 * s.table_blocks
fixed_size s cpu = ap (λ (chain : List ℕ). 32 * s.table_blocks + 31 * length chain) (no_chain s cpu) ∙ (let none : 32 * s.table_blocks + 31 * 0 ≡ 32 * s.table_blocks = omega arith in none)

-- ---- the longest chain

max_assoc : (a b c : ℕ) → max (max a b) c ≡ max a (max b c)
max_assoc a b c =
    let first = sub-add-eq-max a b in
    let all = sub-add-eq-max (max a b) c in
    let last = sub-add-eq-max b c in
    let same = sub-add-eq-max a (max b c) in
    omega (arith, first, all, last, same)

pub max_least : (a b most : ℕ) → a ≤ most → b ≤ most → max a b ≤ most
max_least a b most f g = let is = sub-add-eq-max a b in omega (arith, is, f, g)

longest_most : (chains : List (List ℕ)) (c : ℕ) → length (unwrap_or (slice_get chains c) []) ≤ longest chains
longest_most [] c = omega arith
longest_most (chain ∷ chains) zero = le-max_left (length chain) (longest chains)
longest_most (chain ∷ chains) (suc c) = let first = longest_most chains c in let more = le-max_right (length chain) (longest chains) in omega (arith, first, more)

longest_none : (n : ℕ) → longest (replicate n []) ≡ 0
longest_none zero = refl
longest_none (suc n) = zero-max (longest (replicate n [])) ∙ longest_none n

-- the longest of those that were looked at, and of those that are left
pub longer : (most : ℕ) (chain : List ℕ) (rest : List (List ℕ)) → max most (longest (chain ∷ rest)) ≡ max (max most (length chain)) (longest rest)
longer most chain rest = sym (max_assoc most (length chain) (longest rest))

-- ---- the end of the numbers

pub below_end : (l : Layout) (i a : ℕ) → IsLaid l → slot_of l i ≡ Some a → i < number_end l
below_end l i a laid at =
    let some : 0 < l.sup.cpus = (let from = laid.layout.cpus_from in omega (arith, from)) in
    let place = slot_below l i a at in
    let most = longest_most l.chains (i % l.sup.cpus) in
    let whole = div-add-mod' i l.sup.cpus in
    let row = mul-add-lt (i / l.sup.cpus) l.sup.cpus (i % l.sup.cpus) (32 * l.sup.table_blocks + 31 * longest l.chains) (omega (arith, place, most)) (mod_below i l.sup.cpus some) in
    let turned : (32 * l.sup.table_blocks + 31 * longest l.chains) * l.sup.cpus ≡ l.sup.cpus * (32 * l.sup.table_blocks + 31 * longest l.chains) = grind arith in
    omega (arith, whole, row, turned)

pub fixed_end : (s : Super) → number_end (fixed_layout s) ≡ inode_limit s
fixed_end s = ap (λ (n : ℕ). s.cpus * (32 * s.table_blocks + 31 * n)) (longest_none s.cpus) ∙ turned
  where
    turned : s.cpus * (32 * s.table_blocks + 31 * 0) ≡ 32 * s.cpus * s.table_blocks
    turned = grind arith

-- ---- the sizes of all tables

pub sizes_long : (l : Layout) → length (sizes_of l) ≡ l.sup.cpus
sizes_long l = length-map-range_with_len (table_size l) 0 l.sup.cpus

pub size_at : (l : Layout) (cpu : ℕ) → cpu < l.sup.cpus → slice_get (sizes_of l) cpu ≡ Some (table_size l cpu)
size_at l cpu below = range_at (table_size l) 0 l.sup.cpus cpu below ∙ (let same : 0 + cpu ≡ cpu = omega arith in ap (λ (c : ℕ). Some (table_size l c)) same)

pub size_small : (l : Layout) (cpu : ℕ) → IsLaid l → table_size l cpu ≤ 8128512
size_small l cpu laid = let few = chain_small l laid cpu in let most = laid.layout.areas.blocks_to in let tables = laid.layout.areas.tables_to in omega (arith, few, most, tables)
