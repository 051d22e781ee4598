-- The blocks of slots have the slots of all numbers.
use Rattle.std.proofs.Common.{◌≡◌, ◌≢◌, inl, inr, ◌<◌, ◌+◌, ◌*◌, ◌/◌, ◌%◌, ℕ, zero, suc, List, [], ◌∷◌, ◌++◌, length, map, Some, refl, sym, ap, ◌∙◌, subst, arith}
use Rattle.std.specs.Prelude.{slice_get, unwrap_or}
use Rattle.std.specs.List.{Contains, range_with_len}
use Rattle.std.proofs.lemmas.List.Elements.{Contains-append_left, Contains-append_right, Contains-append_cases}
use Rattle.std.proofs.lemmas.List.FromFn.{get_or-map-range_with_len, length-map-range_with_len}
use Rattle.std.proofs.lemmas.Nat.{div_below, mod_below, div-add-mod', div-mul-add, mod-mul-add, mul-add-lt}
use Rattle.nv_super.specs.declared.superblock.Super.{Super}
use Rattle.nv_super.specs.Layout.{Layout, slot_of, slot_address, chain_of}
use Rattle.nv_inode.specs.declared.blocks.SlotBlock.{SlotBlock}
use Rattle.nv_inode.specs.Chains.{IsLaid}
use Rattle.nv_inode.specs.SlotBlocks.{fixed_block, extra_block, chain_blocks, extra_blocks, slot_blocks, IsIn}
use Rattle.nv_inode.proofs.LayoutWords.{IsSlot, in_table, in_block, slot_is, fixed_slot, block_slot}

-- ---- the slots of a block

-- a row of a table, by its block and its place there
row_number : (C T t j i : ℕ) → i ≡ 32 * (t % T) * C + t / T + j * C → i ≡ (32 * (t % T) + j) * C + t / T
row_number C T t j i is = omega (arith, is)

row_below : (T r j : ℕ) → r < T → j < 32 → 32 * r + j < 32 * T
row_below T r j below few = omega arith

in_fixed_block : (l : Layout) (t j i : ℕ) → IsLaid l → t < l.sup.cpus * l.sup.table_blocks → IsIn l (fixed_block l.sup t) j i → i ≢ 0 → slot_of l i ≡ Some (4096 * (1 + l.sup.cpus + t) + 128 * j)
in_fixed_block l t j i laid below is some = by l.sup.cpus l.sup.table_blocks (let c = laid.layout.cpus_from in omega (arith, c)) (let c = laid.layout.tables_from in omega (arith, c)) refl refl
  where
    by : (C T : ℕ) → 0 < C → 0 < T → C ≡ l.sup.cpus → T ≡ l.sup.table_blocks → slot_of l i ≡ Some (4096 * (1 + l.sup.cpus + t) + 128 * j)
    by C T more tables is_C is_T =
        let number : i ≡ (32 * (t % l.sup.table_blocks) + j) * l.sup.cpus + t / l.sup.table_blocks = row_number l.sup.cpus l.sup.table_blocks t j i is.number in
        let cpu : t / l.sup.table_blocks < l.sup.cpus = div_below t l.sup.table_blocks l.sup.cpus (omega (arith, tables, is_T)) below in
        let row : t % l.sup.table_blocks < l.sup.table_blocks = mod_below t l.sup.table_blocks (omega (arith, tables, is_T)) in
        let place : i / l.sup.cpus ≡ 32 * (t % l.sup.table_blocks) + j = ap (λ (n : ℕ). n / l.sup.cpus) number ∙ div-mul-add (32 * (t % l.sup.table_blocks) + j) l.sup.cpus (t / l.sup.table_blocks) cpu in
        let table : i % l.sup.cpus ≡ t / l.sup.table_blocks = ap (λ (n : ℕ). n % l.sup.cpus) number ∙ mod-mul-add (32 * (t % l.sup.table_blocks) + j) l.sup.cpus (t / l.sup.table_blocks) cpu in
        let low : i / l.sup.cpus < 32 * l.sup.table_blocks = subst (λ (n : ℕ). n < 32 * l.sup.table_blocks) (sym place) (row_below l.sup.table_blocks (t % l.sup.table_blocks) j row is.within) in
        let rows : i % l.sup.cpus * l.sup.table_blocks ≡ t / l.sup.table_blocks * l.sup.table_blocks = ap (λ (n : ℕ). n * l.sup.table_blocks) table in
        let whole : t / l.sup.table_blocks * l.sup.table_blocks + t % l.sup.table_blocks ≡ t = div-add-mod' t l.sup.table_blocks in
        let address : slot_address l.sup i ≡ 4096 * (1 + l.sup.cpus + t) + 128 * j = omega (arith, rows, whole, place) in
        fixed_slot l i some low ∙ ap Some address

in_extra_block : (l : Layout) (c k b j i : ℕ) → IsLaid l → c < l.sup.cpus → slice_get (chain_of l c) k ≡ Some b → IsIn l (extra_block l.sup c k b) j i → slot_of l i ≡ Some (b * 4096 + 128 + 128 * j)
in_extra_block l c k b j i laid below has is =
    let number : i ≡ (32 * l.sup.table_blocks + 31 * k + j) * l.sup.cpus + c = (let n = is.number in omega (arith, n)) in
    ap (slot_of l) number ∙ block_slot l c k j b below (let t = laid.layout.tables_from in omega (arith, t)) is.within has

-- ---- which blocks there are

pub fixed_case : (s : Super) (n : ℕ) (x : SlotBlock) → Contains (map (fixed_block s) (range_with_len 0 n)) x → (t : ℕ) × (t < n) × (x ≡ fixed_block s t)
fixed_case s n x has =
    let below : has.0 < n = (let long = length-map-range_with_len (fixed_block s) 0 n in let less = has.1 in omega (arith, long, less)) in
    (has.0, below, sym (sym (get_or-map-range_with_len (fixed_block s) 0 n has.0 has.0 x below (omega arith)) ∙ has.2))

chain_case : (s : Super) (c from : ℕ) (blocks : List ℕ) (x : SlotBlock) → Contains (chain_blocks s c from blocks) x → (k : ℕ) × (b : ℕ) × (slice_get blocks k ≡ Some b) × (x ≡ extra_block s c (from + k) b)
chain_case s c from [] x (n, less, is) = absurd (omega (arith, less))
chain_case s c from (b ∷ blocks) x (zero, less, is) = (0, b, refl, sym is ∙ ap (λ (k : ℕ). extra_block s c k b) (omega arith))
chain_case s c from (b ∷ blocks) x (suc n, less, is) =
    let rest = chain_case s c (from + 1) blocks x (n, omega (arith, less), is) in
    (suc rest.0, rest.1, rest.2, rest.3 ∙ ap (λ (k : ℕ). extra_block s c k rest.1) (omega arith))

pub extra_case : (s : Super) (from : ℕ) (chains : List (List ℕ)) (x : SlotBlock) → Contains (extra_blocks s from chains) x
    → (c : ℕ) × (k : ℕ) × (b : ℕ) × (c < length chains) × (slice_get (unwrap_or (slice_get chains c) []) k ≡ Some b) × (x ≡ extra_block s (from + c) k b)
extra_case s from [] x (n, less, is) = absurd (omega (arith, less))
extra_case s from (chain ∷ chains) x has = elim (Contains-append_cases (chain_blocks s from 0 chain) (extra_blocks s (from + 1) chains) x has) [
  | inl here ↦ (let at = chain_case s from 0 chain x here in (0, at.0, at.1, omega arith, at.2, at.3 ∙ (λ i. extra_block s (no_more from i) (no_less at.0 i) at.1)))
  | inr there ↦ (let rest = extra_case s (from + 1) chains x there in (suc rest.0, rest.1, rest.2, omega (arith, rest.3), rest.4, rest.5 ∙ ap (λ (c : ℕ). extra_block s c rest.1 rest.2) (omega arith)))
]
  where
    no_more : (n : ℕ) → n ≡ n + 0
    no_more n = omega arith

    no_less : (n : ℕ) → 0 + n ≡ n
    no_less n = omega arith

pub slots_are : (l : Layout) (x : SlotBlock) (j i : ℕ) → IsLaid l → Contains (slot_blocks l) x → IsIn l x j i → i ≢ 0 → slot_of l i ≡ Some (x.start + 128 * j)
slots_are l x j i laid has is some = elim (Contains-append_cases (map (fixed_block l.sup) (range_with_len 0 (l.sup.cpus * l.sup.table_blocks))) (extra_blocks l.sup 0 l.chains) x has) [
  | inl fixed ↦ (let at = fixed_case l.sup (l.sup.cpus * l.sup.table_blocks) x fixed in
      in_fixed_block l at.0 j i laid at.1 (subst (λ (y : SlotBlock). IsIn l y j i) at.2 is) some ∙ sym (ap (λ (y : SlotBlock). Some (y.start + 128 * j)) at.2))
  | inr extra ↦ (let at = extra_case l.sup 0 l.chains x extra in
      let cpu : 0 + at.0 ≡ at.0 = omega arith in
      let same : x ≡ extra_block l.sup at.0 at.1 at.2 = at.5 ∙ ap (λ (c : ℕ). extra_block l.sup c at.1 at.2) cpu in
      in_extra_block l at.0 at.1 at.2 j i laid (let each = laid.each in omega (arith, at.3, each)) at.4 (subst (λ (y : SlotBlock). IsIn l y j i) same is) ∙ sym (ap (λ (y : SlotBlock). Some (y.start + 128 * j)) same))
]

-- ---- each slot is in one

has_fixed : (s : Super) (n t : ℕ) → t < n → Contains (map (fixed_block s) (range_with_len 0 n)) (fixed_block s t)
has_fixed s n t below = (t, (let long = length-map-range_with_len (fixed_block s) 0 n in omega (arith, long, below)), get_or-map-range_with_len (fixed_block s) 0 n t t (fixed_block s t) below (omega arith))

has_chain : (s : Super) (c from : ℕ) (blocks : List ℕ) (k b : ℕ) → slice_get blocks k ≡ Some b → Contains (chain_blocks s c from blocks) (extra_block s c (from + k) b)
has_chain s c from [] k b e = absurd (cc)
has_chain s c from (d ∷ blocks) zero b e = let same : d ≡ b = cc in (0, omega arith, (λ i. extra_block s c (no_more from i) (same i)))
  where
    no_more : (n : ℕ) → n ≡ n + 0
    no_more n = omega arith
has_chain s c from (d ∷ blocks) (suc k) b e =
    let rest = has_chain s c (from + 1) blocks k b e in
    let place : from + 1 + k ≡ from + suc k = omega arith in
    subst (λ (n : ℕ). Contains (extra_block s c from d ∷ chain_blocks s c (from + 1) blocks) (extra_block s c n b)) place (suc rest.0, omega (arith, rest.1), rest.2)

has_extra : (s : Super) (from : ℕ) (chains : List (List ℕ)) (c k b : ℕ) → slice_get (unwrap_or (slice_get chains c) []) k ≡ Some b → Contains (extra_blocks s from chains) (extra_block s (from + c) k b)
has_extra s from [] c k b e = absurd (cc)
has_extra s from (chain ∷ chains) zero k b e =
    subst (λ (n : ℕ). Contains (chain_blocks s from 0 chain ++ extra_blocks s (from + 1) chains) (extra_block s n k b)) (no_more from)
    (subst (λ (n : ℕ). Contains (chain_blocks s from 0 chain ++ extra_blocks s (from + 1) chains) (extra_block s from n b)) (no_less k) (Contains-append_left (chain_blocks s from 0 chain) (extra_blocks s (from + 1) chains) (extra_block s from (0 + k) b) (has_chain s from 0 chain k b e)))
  where
    no_more : (n : ℕ) → n ≡ n + 0
    no_more n = omega arith

    no_less : (n : ℕ) → 0 + n ≡ n
    no_less n = omega arith
has_extra s from (chain ∷ chains) (suc c) k b e =
    let place : from + 1 + c ≡ from + suc c = omega arith in
    subst (λ (n : ℕ). Contains (chain_blocks s from 0 chain ++ extra_blocks s (from + 1) chains) (extra_block s n k b)) place (Contains-append_right (chain_blocks s from 0 chain) (extra_blocks s (from + 1) chains) (extra_block s (from + 1 + c) k b) (has_extra s (from + 1) chains c k b e))

abbrev Found : Layout → ℕ → ℕ → Type 0
Found l i a = (x : SlotBlock) × (j : ℕ) × Contains (slot_blocks l) x × IsIn l x j i × (a ≡ x.start + 128 * j)

table_found : (l : Layout) (i a : ℕ) → IsLaid l → i / l.sup.cpus < 32 * l.sup.table_blocks → a ≡ slot_address l.sup i → Found l i a
table_found l i a laid low is =
    let more : 0 < l.sup.cpus = (let c = laid.layout.cpus_from in omega (arith, c)) in
    let row : i / l.sup.cpus / 32 < l.sup.table_blocks = omega (arith, low) in
    let cpu : i % l.sup.cpus < l.sup.cpus = mod_below i l.sup.cpus more in
    let below : i % l.sup.cpus * l.sup.table_blocks + i / l.sup.cpus / 32 < l.sup.cpus * l.sup.table_blocks = (let less = mul-add-lt (i % l.sup.cpus) l.sup.table_blocks (i / l.sup.cpus / 32) l.sup.cpus cpu row in omega (arith, less)) in
    let table : (i % l.sup.cpus * l.sup.table_blocks + i / l.sup.cpus / 32) / l.sup.table_blocks ≡ i % l.sup.cpus = div-mul-add (i % l.sup.cpus) l.sup.table_blocks (i / l.sup.cpus / 32) row in
    let place : (i % l.sup.cpus * l.sup.table_blocks + i / l.sup.cpus / 32) % l.sup.table_blocks ≡ i / l.sup.cpus / 32 = mod-mul-add (i % l.sup.cpus) l.sup.table_blocks (i / l.sup.cpus / 32) row in
    let parts : 32 * (i / l.sup.cpus / 32) + i / l.sup.cpus % 32 ≡ i / l.sup.cpus = omega arith in
    let rows : (32 * (i / l.sup.cpus / 32) + i / l.sup.cpus % 32) * l.sup.cpus ≡ i / l.sup.cpus * l.sup.cpus = ap (λ (n : ℕ). n * l.sup.cpus) parts in
    let first : 32 * ((i % l.sup.cpus * l.sup.table_blocks + i / l.sup.cpus / 32) % l.sup.table_blocks) * l.sup.cpus ≡ 32 * (i / l.sup.cpus / 32) * l.sup.cpus = ap (λ (n : ℕ). 32 * n * l.sup.cpus) place in
    let whole : i / l.sup.cpus * l.sup.cpus + i % l.sup.cpus ≡ i = div-add-mod' i l.sup.cpus in (
      fixed_block l.sup (i % l.sup.cpus * l.sup.table_blocks + i / l.sup.cpus / 32),
      i / l.sup.cpus % 32,
      Contains-append_left (map (fixed_block l.sup) (range_with_len 0 (l.sup.cpus * l.sup.table_blocks))) (extra_blocks l.sup 0 l.chains) (fixed_block l.sup (i % l.sup.cpus * l.sup.table_blocks + i / l.sup.cpus / 32)) (has_fixed l.sup (l.sup.cpus * l.sup.table_blocks) (i % l.sup.cpus * l.sup.table_blocks + i / l.sup.cpus / 32) below),
      record { within = mod_below (i / l.sup.cpus) 32 (omega arith); number = omega (arith, first, table, rows, whole) },
      omega (arith, is, parts),
    )

pub block_found : (l : Layout) (i a : ℕ) → IsLaid l → slot_of l i ≡ Some a → Found l i a
block_found l i a laid e = by (slot_is l i a e)
  where
    by : IsSlot l i a → Found l i a
    by (in_table some low is) = table_found l i a laid low is
    by (in_block b j k few place has is) = (
      extra_block l.sup (i % l.sup.cpus) k b,
      j,
      Contains-append_right (map (fixed_block l.sup) (range_with_len 0 (l.sup.cpus * l.sup.table_blocks))) (extra_blocks l.sup 0 l.chains) (extra_block l.sup (i % l.sup.cpus) k b) (subst (λ (c : ℕ). Contains (extra_blocks l.sup 0 l.chains) (extra_block l.sup c k b)) (omega arith) (has_extra l.sup 0 l.chains (i % l.sup.cpus) k b has)),
      record {
        within = few;
        number = (let whole : i / l.sup.cpus * l.sup.cpus + i % l.sup.cpus ≡ i = div-add-mod' i l.sup.cpus in let rows : i / l.sup.cpus * l.sup.cpus ≡ (32 * l.sup.table_blocks + 31 * k + j) * l.sup.cpus = ap (λ (n : ℕ). n * l.sup.cpus) place in omega (arith, whole, rows));
      },
      omega (arith, is),
    )
