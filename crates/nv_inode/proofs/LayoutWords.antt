-- Where the slots of a layout lie, and that an address is permitted by it just where it is that of a slot's valid, head or
-- tail word.
use Rattle.std.proofs.Common.{◌≡◌, ◌≢◌, ◌⊎◌, ◌↔◌, ℕ, zero, suc, Bool, true, false, cond, inl, inr, ◌+◌, ◌-◌, ◌*◌, ◌/◌, ◌%◌, ◌<◌, ◌≤◌, ◌^◌, ◌||◌, ◌&&◌, ◌==◌, nat_lt, eqb, eqb-true, eq-eqb, IsTrue, List, [], ◌∷◌, length, Option, Some, None, refl, sym, ap, ◌∙◌, subst, arith}
use Rattle.std.specs.Prelude.{slice_get, unwrap_or, IfSome}
use Rattle.std.specs.List.{list_any}
use Rattle.std.proofs.Math.Nat.{mul-le-mul_right}
use Rattle.std.proofs.lemmas.Nat.{div_below, mod_below, div-add-mod', div-mul-add, mod-mul-add, mul-add-lt}
use Rattle.std.proofs.lemmas.Bool.Decides.{nat_tests}
use Rattle.std.proofs.lemmas.Bool.{cases_eq, ltb-true, ltb-false, lt-ltb}
use Rattle.nv_super.specs.declared.superblock.Super.{Super}
use Rattle.nv_super.specs.Layout.{Layout, IsLayout, is_page_start, system_blocks, slot_address, slot_of, chain_of, extra_slot}
use Rattle.nv_inode.specs.Chains.{IsLaid, IsLink, first, next, in_chains}
use Rattle.nv_inode.specs.Permitted.{is_key_offset, in_fixed, in_extra, is_permitted_by, slots_end, IsKeyWord, NamesSlotBy, IsSlotWord, LiesBehind}
use Rattle.nv_inode.proofs.KeyWords.{inode, inode_above, inode_below, inode_slot, number_holds, place_of}
use Rattle.nv_inode.proofs.Slots.{slot_inside, slot_behind, slot_whole}

-- ---- the parts of the test

abbrev IsKeyOffset : ℕ → Type 0
IsKeyOffset at = (at % 128 ≡ 0) ⊎ ((at % 128 ≡ 16) ⊎ (at % 128 ≡ 24))

key_offset : (at : ℕ) → IsTrue (is_key_offset at) → IsKeyOffset at
key_offset at on = grind (arith, nat_tests)

is_key : (at : ℕ) → IsKeyOffset at → is_key_offset at ≡ true
is_key at offset = grind (arith, nat_tests)

fixed_parts : (s : Super) (at : ℕ) → in_fixed s at ≡ true → ((1 + s.cpus) * 4096 + 128 ≤ at) × (at < system_blocks s * 4096)
fixed_parts s at on = grind (arith, nat_tests)

fixed_holds : (s : Super) (at : ℕ) → (1 + s.cpus) * 4096 + 128 ≤ at → at < system_blocks s * 4096 → in_fixed s at ≡ true
fixed_holds s at behind before = grind (arith, nat_tests)

extra_parts : (l : Layout) (at : ℕ) → in_extra l at ≡ true → (in_chains l.chains (at / 4096) ≡ true) × (128 ≤ at % 4096)
extra_parts l at on = grind (arith, nat_tests)

extra_holds : (l : Layout) (at : ℕ) → in_chains l.chains (at / 4096) ≡ true → 128 ≤ at % 4096 → in_extra l at ≡ true
extra_holds l at marked behind = grind (arith, nat_tests)

either_true : (a b : Bool) → (a || b) ≡ true → (a ≡ true) ⊎ (b ≡ true)
either_true true b h = inl refl
either_true false b h = inr h

both_true : (a b : Bool) → (a && b) ≡ true → (a ≡ true) × (b ≡ true)
both_true true b h = (refl, h)
both_true false b h = cc

-- the three parts of the test
pub test_parts : (l : Layout) (at : ℕ) → IsTrue (is_permitted_by l at) → IsKeyOffset at × ((in_fixed l.sup at ≡ true) ⊎ (in_extra l at ≡ true))
test_parts l at permitted =
    let two = both_true (is_key_offset at) (in_fixed l.sup at || in_extra l at) permitted in
    (key_offset at two.0, either_true (in_fixed l.sup at) (in_extra l at) two.1)

test_holds : (l : Layout) (at : ℕ) → IsKeyOffset at → (in_fixed l.sup at ≡ true) ⊎ (in_extra l at ≡ true) → IsTrue (is_permitted_by l at)
test_holds l at offset (inl fixed) = (λ i. is_key at offset i && (fixed i || in_extra l at))
test_holds l at offset (inr extra) = (λ i. is_key at offset i && (in_fixed l.sup at || extra i)) ∙ or_true (in_fixed l.sup at)
  where
    or_true : (b : Bool) → (true && (b || true)) ≡ true
    or_true true = refl
    or_true false = refl

-- ---- blocks of chains

-- where a block stands in a chain
pub found_at : (chain : List ℕ) (b : ℕ) → list_any (eqb b) chain ≡ true → (k : ℕ) × (slice_get chain k ≡ Some b)
found_at [] b h = absurd (cc)
found_at (x ∷ chain) b h = elim (either_true (eqb b x) (list_any (eqb b) chain) h) [
  | inl here ↦ (0, ap Some (sym (eqb-true b x here)))
  | inr there ↦ (let rest = found_at chain b there in (suc rest.0, rest.1))
]

-- and in which chain
found_in : (chains : List (List ℕ)) (b : ℕ) → in_chains chains b ≡ true → (c : ℕ) × (k : ℕ) × (c < length chains) × (slice_get (unwrap_or (slice_get chains c) []) k ≡ Some b)
found_in [] b h = absurd (cc)
found_in (chain ∷ chains) b h = elim (either_true (list_any (eqb b) chain) (in_chains chains b) h) [
  | inl here ↦ (let at = found_at chain b here in (0, at.0, omega arith, at.1))
  | inr there ↦ (let rest = found_in chains b there in (suc rest.0, rest.1, omega (arith, rest.2), rest.3))
]

or_there : (a b : Bool) → b ≡ true → (a || b) ≡ true
or_there true b h = refl
or_there false b h = h

listed_at : (chain : List ℕ) (k b : ℕ) → slice_get chain k ≡ Some b → list_any (eqb b) chain ≡ true
listed_at [] k b h = absurd (cc)
listed_at (x ∷ chain) zero b h = let same : x ≡ b = cc in ap (λ (t : Bool). t || list_any (eqb b) chain) (eq-eqb b x (sym same))
listed_at (x ∷ chain) (suc k) b h = or_there (eqb b x) (list_any (eqb b) chain) (listed_at chain k b h)

pub listed_in : (chains : List (List ℕ)) (c k b : ℕ) → slice_get (unwrap_or (slice_get chains c) []) k ≡ Some b → in_chains chains b ≡ true
listed_in [] c k b h = absurd (cc)
listed_in (chain ∷ chains) zero k b h = ap (λ (t : Bool). t || in_chains chains b) (listed_at chain k b h)
listed_in (chain ∷ chains) (suc c) k b h = or_there (list_any (eqb b) chain) (in_chains chains b) (listed_in chains c k b h)

-- a block of a chain is a data block
pub chain_block : (l : Layout) (b : ℕ) → IsLaid l → in_chains l.chains b ≡ true → (system_blocks l.sup ≤ b) × (b < l.sup.blocks)
chain_block l b laid marked = let found = found_in l.chains b marked in laid.inside found.0 found.1 b found.3

none_at : (k b : ℕ) → slice_get [] k ≡ Some b → ⊥
none_at k b e = cc

-- in version 1 there is none
chain_version : (l : Layout) (b : ℕ) → IsLaid l → in_chains l.chains b ≡ true → l.sup.version ≡ 2
chain_version l b laid marked = elim (cases_eq l.sup.version 1) [
  | inl one ↦ absurd (let found = found_in l.chains b marked in none_at found.1 b (ap (λ (xs : List ℕ). slice_get xs found.1) (sym (laid.fixed one found.0)) ∙ found.3))
  | inr other ↦ (let from = laid.layout.version_from in let to = laid.layout.version_to in omega (arith, other, from, to))
]

pub chain_version_at : (l : Layout) → IsLaid l → (c k b : ℕ) → slice_get (chain_of l c) k ≡ Some b → l.sup.version ≡ 2
chain_version_at l laid c k b has = elim (cases_eq l.sup.version 1) [
  | inl one ↦ absurd (none_at k b (ap (λ (xs : List ℕ). slice_get xs k) (sym (laid.fixed one c)) ∙ has))
  | inr other ↦ (let from = laid.layout.version_from in let to = laid.layout.version_to in omega (arith, other, from, to))
]

-- ---- where permitted words lie

multiple : (at : ℕ) → IsKeyOffset at → at % 8 ≡ 0
multiple at offset = elim offset [ inl e ↦ omega arith | inr other ↦ elim other [ inl e ↦ omega arith | inr e ↦ omega arith ] ]

end_two : (s : Super) → s.version ≡ 2 → slots_end s ≡ s.blocks
end_two s two = ap (λ (v : ℕ). cond (v == 2) s.blocks (system_blocks s)) two

pub end_least : (s : Super) → IsLayout s → system_blocks s ≤ slots_end s
end_least s layout = by (s.version == 2) refl
  where
    by : (b : Bool) → (s.version == 2) ≡ b → system_blocks s ≤ cond (s.version == 2) s.blocks (system_blocks s)
    by true on = subst (λ (t : Bool). system_blocks s ≤ cond t s.blocks (system_blocks s)) (sym on) (let room = layout.areas.room in omega (arith, room))
    by false off = subst (λ (t : Bool). system_blocks s ≤ cond t s.blocks (system_blocks s)) (sym off) (omega arith)

pub permitted_lies : (l : Layout) (at : ℕ) → IsLaid l → IsTrue (is_permitted_by l at) → IsSlotWord l.sup at
permitted_lies l at laid permitted =
    let parts = test_parts l at permitted in
    let aligned = multiple at parts.0 in
    elim parts.1 [
      | inl fixed ↦ (
          let lies = fixed_parts l.sup at fixed in
          let end = end_least l.sup laid.layout in
          record { aligned = aligned; behind = omega (arith, lies.0); before = omega (arith, lies.1, aligned, end) })
      | inr extra ↦ (
          let lies = extra_parts l at extra in
          let block = chain_block l (at / 4096) laid lies.0 in
          let end = end_two l.sup (chain_version l (at / 4096) laid lies.0) in
          record { aligned = aligned; behind = omega (arith, block.0); before = omega (arith, block.1, aligned, end) })
    ]

pub lies_behind : (l : Layout) → IsLaid l → LiesBehind (is_permitted_by l) ((1 + l.sup.cpus) * 4096)
lies_behind l laid at permitted = let lies = permitted_lies l at laid permitted in (lies.behind, lies.aligned)

-- ---- from a slot to its words

-- a slot is one of a fixed table, or of a chain's block
pub data IsSlot (l : Layout) (i a : ℕ) : Type 0 where
  in_table : i ≢ 0 → i / l.sup.cpus < 32 * l.sup.table_blocks → a ≡ slot_address l.sup i → IsSlot l i a
  in_block : (b j k : ℕ) → j < 31 → i / l.sup.cpus ≡ 32 * l.sup.table_blocks + 31 * k + j → slice_get (chain_of l (i % l.sup.cpus)) k ≡ Some b → a ≡ b * 4096 + 128 + 128 * j → IsSlot l i a

-- the address behind the fixed table
abbrev extra_at : Layout → ℕ → Option ℕ
extra_at l i = extra_slot ((i / l.sup.cpus - 32 * l.sup.table_blocks) % 31) (slice_get (chain_of l (i % l.sup.cpus)) ((i / l.sup.cpus - 32 * l.sup.table_blocks) / 31))

-- the address of a slot of a number above 0
abbrev some_at : Layout → ℕ → Option ℕ
some_at l i = cond (nat_lt (i / l.sup.cpus) (32 * l.sup.table_blocks)) (Some (slot_address l.sup i)) (extra_at l i)

pub slot_is : (l : Layout) (i a : ℕ) → slot_of l i ≡ Some a → IsSlot l i a
slot_is l i a e = at (i == 0) refl e where
  behind : 32 * l.sup.table_blocks ≤ i / l.sup.cpus → (found : Option ℕ) → slice_get (chain_of l (i % l.sup.cpus)) ((i / l.sup.cpus - 32 * l.sup.table_blocks) / 31) ≡ found → extra_slot ((i / l.sup.cpus - 32 * l.sup.table_blocks) % 31) found ≡ Some a → IsSlot l i a
  behind high None none e = absurd (cc)
  behind high (Some b) some e =
      let same : b * 4096 + 128 + 128 * ((i / l.sup.cpus - 32 * l.sup.table_blocks) % 31) ≡ a = cc in
      in_block b ((i / l.sup.cpus - 32 * l.sup.table_blocks) % 31) ((i / l.sup.cpus - 32 * l.sup.table_blocks) / 31) (mod_below (i / l.sup.cpus - 32 * l.sup.table_blocks) 31 (omega arith)) (omega (arith, high)) some (sym same)

  further : (b : Bool) → nat_lt (i / l.sup.cpus) (32 * l.sup.table_blocks) ≡ b → i ≢ 0 → cond b (Some (slot_address l.sup i)) (extra_at l i) ≡ Some a → IsSlot l i a
  further true low some e = in_table some (ltb-true _ _ low) (let same : slot_address l.sup i ≡ a = cc in sym same)
  further false low some e = behind (ltb-false _ _ low) (slice_get (chain_of l (i % l.sup.cpus)) ((i / l.sup.cpus - 32 * l.sup.table_blocks) / 31)) refl e

  not_zero : i ≡ 0 → (i == 0) ≡ false → ⊥
  not_zero z off = cc

  at : (b : Bool) → (i == 0) ≡ b → cond b None (some_at l i) ≡ Some a → IsSlot l i a
  at true none e = absurd (cc)
  at false some e = further (nat_lt (i / l.sup.cpus) (32 * l.sup.table_blocks)) refl (λ z. not_zero z some) e

-- ---- from a word to its slot

-- a number above 0 whose slot is in a fixed table
pub fixed_slot : (l : Layout) (i : ℕ) → i ≢ 0 → i / l.sup.cpus < 32 * l.sup.table_blocks → slot_of l i ≡ Some (slot_address l.sup i)
fixed_slot l i some low = first (i == 0) refl ∙ ap (λ (b : Bool). cond b (Some (slot_address l.sup i)) (extra_at l i)) (lt-ltb (i / l.sup.cpus) (32 * l.sup.table_blocks) low)
  where
    first : (b : Bool) → (i == 0) ≡ b → slot_of l i ≡ some_at l i
    first true none = absurd (some (eqb-true i 0 none))
    first false is = ap (λ (b : Bool). cond b None (some_at l i)) is

-- and one whose slot stands behind it, at a place of the chain
pub behind_slot : (l : Layout) (i c k j b : ℕ) → i / l.sup.cpus ≡ 32 * l.sup.table_blocks + 31 * k + j → i % l.sup.cpus ≡ c → i ≢ 0 → j < 31 → slice_get (chain_of l c) k ≡ Some b → slot_of l i ≡ Some (b * 4096 + 128 + 128 * j)
behind_slot l i c k j b place table some few has = first (i == 0) refl ∙ second (nat_lt (i / l.sup.cpus) (32 * l.sup.table_blocks)) refl ∙ third
  where
    first : (t : Bool) → (i == 0) ≡ t → slot_of l i ≡ some_at l i
    first true none = absurd (some (eqb-true i 0 none))
    first false is = ap (λ (t : Bool). cond t None (some_at l i)) is

    second : (t : Bool) → nat_lt (i / l.sup.cpus) (32 * l.sup.table_blocks) ≡ t → some_at l i ≡ extra_at l i
    second true low = absurd (let less = ltb-true (i / l.sup.cpus) (32 * l.sup.table_blocks) low in omega (arith, less, place))
    second false is = ap (λ (t : Bool). cond t (Some (slot_address l.sup i)) (extra_at l i)) is

    behind : i / l.sup.cpus - 32 * l.sup.table_blocks ≡ 31 * k + j
    behind = omega (arith, place)

    slot : (31 * k + j) % 31 ≡ j
    slot = omega (arith, few)

    block : (31 * k + j) / 31 ≡ k
    block = omega (arith, few)

    third : extra_at l i ≡ Some (b * 4096 + 128 + 128 * j)
    third =
        (λ n. extra_slot (behind n % 31) (slice_get (chain_of l (table n)) (behind n / 31)))
        ∙ (λ n. extra_slot (slot n) (slice_get (chain_of l c) (block n)))
        ∙ ap (extra_slot j) has

pub block_slot : (l : Layout) (c k j b : ℕ) → c < l.sup.cpus → 0 < 32 * l.sup.table_blocks → j < 31 → slice_get (chain_of l c) k ≡ Some b
    → slot_of l ((32 * l.sup.table_blocks + 31 * k + j) * l.sup.cpus + c) ≡ Some (b * 4096 + 128 + 128 * j)
block_slot l c k j b below tables few has = behind_slot l ((32 * l.sup.table_blocks + 31 * k + j) * l.sup.cpus + c) c k j b
    (div-mul-add (32 * l.sup.table_blocks + 31 * k + j) l.sup.cpus c below) (mod-mul-add (32 * l.sup.table_blocks + 31 * k + j) l.sup.cpus c below)
    (λ z. (let wide : 1 * l.sup.cpus ≤ (32 * l.sup.table_blocks + 31 * k + j) * l.sup.cpus = mul-le-mul_right l.sup.cpus (omega (arith, tables)) in omega (arith, z, wide, below))) few has

-- the word of a slot by its offset
key_word : (slot at : ℕ) → at ≡ slot + at % 128 → IsKeyOffset at → IsKeyWord slot at
key_word slot at is offset = elim offset [
  | inl e ↦ inl (omega arith)
  | inr other ↦ inr (elim other [ inl e ↦ inl (omega arith) | inr e ↦ inr (omega arith) ])
]

in_fixed_named : (l : Layout) (at : ℕ) → IsLayout l.sup → IsKeyOffset at → in_fixed l.sup at ≡ true → NamesSlotBy l at
in_fixed_named l at layout offset fixed =
    let s = l.sup in
    let parts = fixed_parts l.sup at fixed in
    let found = place_of l.sup.cpus l.sup.table_blocks at parts.0 parts.1 in
    let some : 0 < l.sup.cpus = omega (arith, layout.cpus_from) in
    let tables : 0 < l.sup.table_blocks = omega (arith, layout.tables_from) in
    let above = inode_above l.sup.cpus l.sup.table_blocks found.0 some tables found.1 found.2 in
    let below = inode_below l.sup.cpus l.sup.table_blocks found.0 some tables found.1 found.2 in
    let low = div_below (inode l.sup.cpus l.sup.table_blocks found.0) l.sup.cpus (32 * l.sup.table_blocks) some (omega (arith, below)) in (
      inode l.sup.cpus l.sup.table_blocks found.0,
      slot_address l.sup (inode l.sup.cpus l.sup.table_blocks found.0),
      fixed_slot l (inode l.sup.cpus l.sup.table_blocks found.0) (λ z. omega (arith, z, above)) low,
      key_word (slot_address l.sup (inode l.sup.cpus l.sup.table_blocks found.0)) at (let e = inode_slot l.sup.cpus l.sup.table_blocks found.0 some tables found.1 found.2 in let f = found.3 in omega (arith, e, f)) offset,
    )

in_extra_named : (l : Layout) (at : ℕ) → IsLaid l → IsKeyOffset at → in_extra l at ≡ true → NamesSlotBy l at
in_extra_named l at laid offset extra =
    let parts = extra_parts l at extra in
    let found = found_in l.chains (at / 4096) parts.0 in
    let j : ℕ = (at % 4096 - 128) / 128 in
    let few : (at % 4096 - 128) / 128 < 31 = omega (arith, parts.1) in
    let below : found.0 < l.sup.cpus = (let f = laid.each in let g = found.2 in omega (arith, f, g)) in (
      (32 * l.sup.table_blocks + 31 * found.1 + (at % 4096 - 128) / 128) * l.sup.cpus + found.0,
      at / 4096 * 4096 + 128 + 128 * ((at % 4096 - 128) / 128),
      block_slot l found.0 found.1 ((at % 4096 - 128) / 128) (at / 4096) below (let t = laid.layout.tables_from in omega (arith, t)) few found.3,
      key_word (at / 4096 * 4096 + 128 + 128 * ((at % 4096 - 128) / 128)) at (omega (arith, parts.1)) offset,
    )

pub permitted_named : (l : Layout) (at : ℕ) → IsLaid l → IsTrue (is_permitted_by l at) → NamesSlotBy l at
permitted_named l at laid permitted =
    let parts = test_parts l at permitted in
    elim parts.1 [
      | inl fixed ↦ in_fixed_named l at laid.layout parts.0 fixed
      | inr extra ↦ in_extra_named l at laid parts.0 extra
    ]

-- ---- and back

offset_of : (slot at : ℕ) → slot % 128 ≡ 0 → IsKeyWord slot at → IsKeyOffset at
offset_of slot at whole word = elim word [
  | inl e ↦ inl (omega arith)
  | inr other ↦ inr (elim other [ inl e ↦ inl (omega arith) | inr e ↦ inr (omega arith) ])
]

word_near : (slot at : ℕ) → IsKeyWord slot at → (slot ≤ at) × (at < slot + 128)
word_near slot at word = elim word [
  | inl e ↦ (omega arith, omega arith)
  | inr other ↦ elim other [ inl e ↦ (omega arith, omega arith) | inr e ↦ (omega arith, omega arith) ]
]

pub number_of : (C T i : ℕ) → 0 < C → i / C < 32 * T → i < 32 * C * T
number_of C T i some low = let whole = div-add-mod' i C in let part = mod_below i C some in let row = mul-add-lt (i / C) C (i % C) (32 * T) low part in omega (arith, whole, row)

slot_permitted : (l : Layout) (i slot at : ℕ) → IsLaid l → IsSlot l i slot → IsKeyWord slot at → IsTrue (is_permitted_by l at)
slot_permitted l i slot at laid (in_table some low is) word =
    let number = number_holds l.sup i (omega (arith, some)) (number_of l.sup.cpus l.sup.table_blocks i (let c = laid.layout.cpus_from in omega (arith, c)) low) in
    let inside = slot_inside l.sup i laid.layout number in
    let behind = slot_behind l.sup i laid.layout number in
    let whole = slot_whole l.sup i in
    let near = word_near slot at word in
    test_holds l at (offset_of slot at (omega (arith, whole, is)) word) (inl (fixed_holds l.sup at (omega (arith, behind, is, near.0)) (omega (arith, inside, is, near.1))))
slot_permitted l i slot at laid (in_block b j k few place_is has is) word =
    let near = word_near slot at word in
    let block : at / 4096 ≡ b = omega (arith, is, near.0, near.1, few) in
    let place : 128 ≤ at % 4096 = omega (arith, is, near.0, near.1, few) in
    let marked = listed_in l.chains (i % l.sup.cpus) k b has in
    test_holds l at (offset_of slot at (omega (arith, is)) word) (inr (extra_holds l at (ap (in_chains l.chains) block ∙ marked) place))

pub named_permitted : (l : Layout) (at : ℕ) → IsLaid l → NamesSlotBy l at → IsTrue (is_permitted_by l at)
named_permitted l at laid named = slot_permitted l named.0 named.1 at laid (slot_is l named.0 named.1 named.2) named.3

-- at any test that says the same
pub permitted_names : (l : Layout) (at : ℕ) (test : Bool) → IsLaid l → test ≡ is_permitted_by l at → IsTrue test ↔ NamesSlotBy l at
permitted_names l at test laid same =
    ((λ holds. permitted_named l at laid (subst (λ (b : Bool). IsTrue b) same holds)), (λ named. subst (λ (b : Bool). IsTrue b) (sym same) (named_permitted l at laid named)))

-- ---- where slots lie

slot_within : (l : Layout) (i a : ℕ) → IsLaid l → IsSlot l i a → (a % 128 ≡ 0) × (a + 128 ≤ 4096 * l.sup.blocks)
slot_within l i a laid (in_table some low is) =
    let number = number_holds l.sup i (omega (arith, some)) (number_of l.sup.cpus l.sup.table_blocks i (let c = laid.layout.cpus_from in omega (arith, c)) low) in
    let inside = slot_inside l.sup i laid.layout number in
    let whole = slot_whole l.sup i in
    let room = laid.layout.areas.room in
    (omega (arith, whole, is), omega (arith, inside, is, room))
slot_within l i a laid (in_block b j k few place has is) = let block = laid.inside (i % l.sup.cpus) k b has in (omega (arith, is), omega (arith, is, few, block.1))

pub slot_stands : (l : Layout) (i : ℕ) (found : Option ℕ) → IsLaid l → found ≡ slot_of l i → IfSome found (λ a. a % 128 ≡ 0)
slot_stands l i None laid is = tt
slot_stands l i (Some a) laid is = (slot_within l i a laid (slot_is l i a (sym is))).0

pub slot_lies : (l : Layout) (i : ℕ) (found : Option ℕ) → IsLaid l → found ≡ slot_of l i → IfSome found (λ a. a + 128 ≤ 4096 * l.sup.blocks)
slot_lies l i None laid is = tt
slot_lies l i (Some a) laid is = (slot_within l i a laid (slot_is l i a (sym is))).1

pub slot_small : (l : Layout) (i : ℕ) (found : Option ℕ) → IsLaid l → found ≡ slot_of l i → IfSome found (λ a. a + 128 ≤ 2 ^ 31)
slot_small l i None laid is = tt
slot_small l i (Some a) laid is = let lies = (slot_within l i a laid (slot_is l i a (sym is))).1 in let few = laid.layout.areas.blocks_to in omega (arith, lies, few)

-- ---- links are not permitted

pub first_unpermitted : (l : Layout) (cpu : ℕ) → cpu < l.sup.cpus → is_permitted_by l (4096 * (1 + cpu) + 16) ≡ false
first_unpermitted l cpu below = by (is_permitted_by l (4096 * (1 + cpu) + 16)) refl
  where
    by : (b : Bool) → is_permitted_by l (4096 * (1 + cpu) + 16) ≡ b → b ≡ false
    by false off = refl
    by true on = absurd (let parts = test_parts l (4096 * (1 + cpu) + 16) on in elim parts.1 [
      | inl fixed ↦ (let lies = fixed_parts l.sup (4096 * (1 + cpu) + 16) fixed in omega (arith, lies.0, below))
      | inr extra ↦ (let lies = extra_parts l (4096 * (1 + cpu) + 16) extra in omega (arith, lies.1))
    ])

pub start_unpermitted : (l : Layout) (at : ℕ) → at % 4096 ≡ 0 → system_blocks l.sup ≤ at / 4096 → is_permitted_by l at ≡ false
start_unpermitted l at whole from = by (is_permitted_by l at) refl
  where
    by : (b : Bool) → is_permitted_by l at ≡ b → b ≡ false
    by false off = refl
    by true on = absurd (let parts = test_parts l at on in elim parts.1 [
      | inl fixed ↦ (let lies = fixed_parts l.sup at fixed in omega (arith, lies.1, from, whole))
      | inr extra ↦ (let lies = extra_parts l at extra in omega (arith, lies.1, whole))
    ])

-- so none of a region's links is
pub link_unpermitted : (l : Layout) (at : ℕ) → IsLink l.sup at → is_permitted_by l at ≡ false
link_unpermitted l _ (first cpu below) = first_unpermitted l cpu below
link_unpermitted l at (next _ start) = let page = page_parts l.sup at start in start_unpermitted l at page.0 page.1
  where
    page_parts : (s : Super) (at : ℕ) → is_page_start s at ≡ true → (at % 4096 ≡ 0) × (system_blocks s ≤ at / 4096)
    page_parts s at start = grind (arith, nat_tests)
