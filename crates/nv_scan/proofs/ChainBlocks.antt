-- With which inode the block of a chain is told: one block at most with each, and none in a layout without chains.
use Rattle.std.proofs.Common.{◌≡◌, ◌≢◌, ℕ, ◌+◌, ◌-◌, ◌*◌, ◌/◌, ◌%◌, ◌<◌, ◌≤◌, ◌⊎◌, inl, inr, List, [], ◌∷◌, length, Option, Some, None, refl, ap, sym, ◌∙◌, subst, arith, IsSome}
use Rattle.std.specs.Prelude.{slice_get, unwrap_or}
use Rattle.std.specs.List.{Contains}
use Rattle.std.proofs.lemmas.Nat.{div_below, div-add-mod', div-mul-add, mod-mul-add}
use Rattle.std.proofs.lemmas.Bool.{cases_eq}
use Rattle.std.proofs.lemmas.Option.{slice_get_within}
use Rattle.nv_super.specs.Layout.{Layout, IsLayout, system_blocks, slot_of, chain_of, fixed_layout}
use Rattle.nv_super.specs.Order.{owner_key}
use Rattle.nv_super.specs.declared.superblock.Super.{Super}
use Rattle.nv_super.specs.declared.owners.Owner.{Owner}
use Rattle.nv_super.specs.declared.owners.Owner.TheVariants as owners
use Rattle.nv_super.proofs.Members.{none_in}
use Rattle.nv_super.proofs.Options.{some_is}
use Rattle.nv_super.proofs.Rising.{Contains-cons, Contains-head, Below, below_first}
use Rattle.nv_super.proofs.Slots.{no_chain}
use Rattle.nv_inode.specs.Chains.{IsLaid}
use Rattle.nv_inode.proofs.KeyWords.{number_holds}
use Rattle.nv_inode.proofs.LayoutWords.{IsSlot, in_table, in_block, slot_is, block_slot, number_of}
use Rattle.nv_inode.proofs.Slots.{slot_inside}
use Rattle.nv_scan.specs.Owners.{IsTable, table, table_number}
use Rattle.nv_scan.specs.ChainBlocks.{IsChainless, TellsTable, table_claims}
use Rattle.nv_scan.specs.Claims.{IsClaim, of_log, of_page}
use Rattle.nv_scan.specs.declared.chain_block.ChainBlock.{ChainBlock}
use Rattle.nv_radix.specs.Pages.{Pages}

-- ---- without chains

-- the layout of fixed tables has no chains
pub fixed_chainless : (s : Super) → IsChainless (fixed_layout s)
fixed_chainless s = no_chain s

none_at : (k b : ℕ) → slice_get [] k ≡ Some b → ⊥
none_at k b e = cc

-- so it has no block of one
pub no_place : (l : Layout) (c k b : ℕ) → IsChainless l → slice_get (chain_of l c) k ≡ Some b → ⊥
no_place l c k b none has = none_at k b (ap (λ (blocks : List ℕ). slice_get blocks k) (sym (none c)) ∙ has)

-- and none is told
pub none_told : (l : Layout) (i : ℕ) (x : ℕ × Owner) → IsChainless l → IsTable l i x → ⊥
none_told l i _ none (table {c = c} {k = k} {b = b} has number) = no_place l c k b none has

-- ---- which block is told with a number

-- a chain is one of the layout's
pub chain_within : (l : Layout) (c k b : ℕ) → slice_get (chain_of l c) k ≡ Some b → c < length l.chains
chain_within l c k b has = by (slice_get l.chains c) refl has where
  by : (o : Option (List ℕ)) → slice_get l.chains c ≡ o → slice_get (unwrap_or o []) k ≡ Some b → c < length l.chains
  by None e none = absurd (none_at k b none)
  by (Some blocks) e some = slice_get_within l.chains c blocks e

-- and that of a CPU
pub chain_cpu : (l : Layout) (c k b : ℕ) → IsLaid l → slice_get (chain_of l c) k ≡ Some b → c < l.sup.cpus
chain_cpu l c k b laid has = let within = chain_within l c k b has in let each = laid.each in omega (arith, within, each)

-- the place of a number by which a block is told
pub record IsPlace (l : Layout) (i c k : ℕ) : Type 0 where
  pub slot : i / l.sup.cpus ≡ 32 * l.sup.table_blocks + 31 * k
  pub cpu : i % l.sup.cpus ≡ c

pub place_of : (l : Layout) (i c k : ℕ) → c < l.sup.cpus → table_number l c k ≡ i → IsPlace l i c k
place_of l i c k below number = record {
  slot = ap (λ (n : ℕ). n / l.sup.cpus) (sym number) ∙ div-mul-add (32 * l.sup.table_blocks + 31 * k) l.sup.cpus c below;
  cpu = ap (λ (n : ℕ). n % l.sup.cpus) (sym number) ∙ mod-mul-add (32 * l.sup.table_blocks + 31 * k) l.sup.cpus c below;
}

-- two blocks that are told with one number are the same
same_block : (l : Layout) (i c k b d n e : ℕ) → IsLaid l → slice_get (chain_of l c) k ≡ Some b → table_number l c k ≡ i → slice_get (chain_of l d) n ≡ Some e → table_number l d n ≡ i → (c ≡ d) × (k ≡ n) × (b ≡ e)
same_block l i c k b d n e laid has number other another =
    let here = place_of l i c k (chain_cpu l c k b laid has) number in
    let there = place_of l i d n (chain_cpu l d n e laid other) another in
    let cpu : c ≡ d = sym here.cpu ∙ there.cpu in
    let slots : 32 * l.sup.table_blocks + 31 * k ≡ 32 * l.sup.table_blocks + 31 * n = sym here.slot ∙ there.slot in
    let place : k ≡ n = omega (arith, slots) in
    (cpu, place, some_is b e (slice_get (chain_of l d) n) ((λ j. slice_get (chain_of l (sym cpu j)) (sym place j)) ∙ has) other)

pub one_told : (l : Layout) (i : ℕ) (x y : ℕ × Owner) → IsLaid l → IsTable l i x → IsTable l i y → x ≡ y
one_told l i _ _ laid (table {c = c} {k = k} {b = b} has number) (table {c = d} {k = n} {b = e} other another) =
    let same = same_block l i c k b d n e laid has number other another in
    λ j. (same.2 j, owners.Table (same.0 j) (same.1 j))

-- a number with which a block is told is behind the fixed tables
pub told_behind : (l : Layout) (i : ℕ) (x : ℕ × Owner) → IsLaid l → IsTable l i x → 32 * l.sup.table_blocks ≤ i / l.sup.cpus
told_behind l i _ laid (table {c = c} {k = k} {b = b} has number) = let at = place_of l i c k (chain_cpu l c k b laid has) number in omega (arith, at.slot)

-- so it isn't 0
pub first_tells_none : (l : Layout) (x : ℕ × Owner) → IsLaid l → IsTable l 0 x → ⊥
first_tells_none l x laid is = let behind = told_behind l 0 x laid is in let tables = laid.layout.tables_from in let cpus = laid.layout.cpus_from in
    let none : 0 / l.sup.cpus < 1 = div_below 0 l.sup.cpus 1 (omega (arith, cpus)) (omega (arith, cpus)) in omega (arith, behind, tables, none)

-- its slot stands first in the block
pub first_slot : (l : Layout) (c k b : ℕ) → IsLaid l → slice_get (chain_of l c) k ≡ Some b → slot_of l (table_number l c k) ≡ Some (b * 4096 + 128)
first_slot l c k b laid has =
    let tables = laid.layout.tables_from in
    let number : table_number l c k ≡ (32 * l.sup.table_blocks + 31 * k + 0) * l.sup.cpus + c = ap (λ (n : ℕ). n * l.sup.cpus + c) (omega arith) in
    let at : b * 4096 + 128 + 128 * 0 ≡ b * 4096 + 128 = omega arith in
    ap (slot_of l) number ∙ block_slot l c k 0 b (chain_cpu l c k b laid has) (omega (arith, tables)) (omega arith) has ∙ ap Some at

-- and that is a data block
told_there : (l : Layout) (i a : ℕ) (x : ℕ × Owner) → IsLaid l → slot_of l i ≡ Some a → IsTable l i x → (a ≡ x.0 * 4096 + 128) × (system_blocks l.sup ≤ x.0)
told_there l i a _ laid slot (table {c = c} {k = k} {b = b} has number) = (
  some_is a (b * 4096 + 128) (slot_of l i) slot (ap (slot_of l) (sym number) ∙ first_slot l c k b laid has),
  (laid.inside c k b has).0,
)

-- the block whose first slot is at an address, with its place
told_by : (l : Layout) (i a : ℕ) → IsLaid l → a % 4096 ≡ 128 → system_blocks l.sup ≤ a / 4096 → IsSlot l i a → IsTable l i (a / 4096, owners.Table (i % l.sup.cpus) ((i / l.sup.cpus - 32 * l.sup.table_blocks) / 31))
told_by l i a laid first behind (in_table some low is) =
    let number = number_holds l.sup i (omega (arith, some)) (number_of l.sup.cpus l.sup.table_blocks i (let c = laid.layout.cpus_from in omega (arith, c)) low) in
    let inside = slot_inside l.sup i laid.layout number in
    absurd (omega (arith, inside, is, behind))
told_by l i a laid first behind (in_block b j k few at has is) =
    let start : j ≡ 0 = omega (arith, is, first, few) in
    let block : b ≡ a / 4096 = omega (arith, is, few) in
    let place : k ≡ (i / l.sup.cpus - 32 * l.sup.table_blocks) / 31 = omega (arith, at, start) in
    let slot : 32 * l.sup.table_blocks + 31 * k ≡ i / l.sup.cpus = omega (arith, at, start) in
    let number : table_number l (i % l.sup.cpus) k ≡ i = ap (λ (n : ℕ). n * l.sup.cpus + i % l.sup.cpus) slot ∙ div-add-mod' i l.sup.cpus in
    let P : ℕ × ℕ → Type 0 = λ p. IsTable l i (p.0, owners.Table (i % l.sup.cpus) p.1) in
    subst P (λ n. (block n, place n)) (table has number)

-- ---- what is told with an inode

pub tells_none : (l : Layout) (i : ℕ) → ((x : ℕ × Owner) → IsTable l i x → ⊥) → TellsTable l i None
tells_none l i none = record { rising = tt; each = λ x c. absurd (none_in x c); all = λ x h. absurd (none x h) }

-- nothing where no block is told
pub tells_nothing : (l : Layout) (i : ℕ) (o : Option ChainBlock) → o ≡ None → TellsTable l i o → (x : ℕ × Owner) → IsTable l i x → ⊥
tells_nothing l i o none tells x h = none_in x (subst (λ (o : Option ChainBlock). Contains (table_claims o) x) none (tells.all x h))

-- no slot at such an address is the first of a block of a chain
pub tells_none_at : (l : Layout) (s : Super) (i a : ℕ) → IsLaid l → l.sup ≡ s → (i ≢ 0 → slot_of l i ≡ Some a) → (a % 4096 ≢ 128) ⊎ (a / 4096 < system_blocks s) → TellsTable l i None
tells_none_at l s i a laid of stands other = tells_none l i (λ x h. elim (cases_eq i 0) [
  | inl none ↦ first_tells_none l x laid (subst (λ (n : ℕ). IsTable l n x) none h)
  | inr some ↦ (let at = told_there l i a x laid (stands some) h in
      let first : a % 4096 ≡ 128 = omega (arith, at.0) in
      let block : a / 4096 ≡ x.0 = omega (arith, at.0) in
      let low : system_blocks s ≤ x.0 = subst (λ (t : Super). system_blocks t ≤ x.0) of at.1 in
      elim other [ inl differs ↦ differs first | inr less ↦ absurd (omega (arith, less, block, low)) ])
])

-- nor is that of a number of the fixed tables
pub tells_none_before : (l : Layout) (s : Super) (i : ℕ) → IsLaid l → l.sup ≡ s → i / s.cpus < 32 * s.table_blocks → TellsTable l i None
tells_none_before l s i laid of low = tells_none l i (λ x h. (
    let behind : 32 * s.table_blocks ≤ i / s.cpus = subst (λ (t : Super). 32 * t.table_blocks ≤ i / t.cpus) of (told_behind l i x laid h) in
    absurd (omega (arith, behind, low))))

-- a number behind the fixed tables isn't 0
pub above_first : (s : Super) (i : ℕ) → IsLayout s → 32 * s.table_blocks ≤ i / s.cpus → i ≢ 0
above_first s i layout behind is =
    let tables = layout.tables_from in let cpus = layout.cpus_from in
    let none : i / s.cpus < 1 = div_below i s.cpus 1 (omega (arith, cpus)) (omega (arith, cpus, is)) in
    absurd (omega (arith, behind, tables, none))

-- all others are
pub tells_block : (l : Layout) (s : Super) (i a : ℕ) (t : ChainBlock) → IsLaid l → l.sup ≡ s → slot_of l i ≡ Some a → a % 4096 ≡ 128 → system_blocks s ≤ a / 4096
    → t.cpu ≡ i % s.cpus → t.place ≡ (i / s.cpus - 32 * s.table_blocks) / 31 → t.block ≡ a / 4096 → TellsTable l i (Some t)
tells_block l s i a t laid of slot first behind cpu place block =
    let is : IsTable l i (a / 4096, owners.Table (i % l.sup.cpus) ((i / l.sup.cpus - 32 * l.sup.table_blocks) / 31)) =
    told_by l i a laid first (subst (λ (u : Super). system_blocks u ≤ a / 4096) (sym of) behind) (slot_is l i a slot) in
    let mine : IsTable l i (t.block, owners.Table t.cpu t.place) = subst (λ (y : ℕ × Owner). IsTable l i y)
    (λ n. (sym block n, owners.Table ((ap (λ (u : Super). i % u.cpus) of ∙ sym cpu) n) ((ap (λ (u : Super). (i / u.cpus - 32 * u.table_blocks) / 31) of ∙ sym place) n))) is in
    record {
      rising = tt;
      each = λ x c. elim (Contains-cons (t.block, owners.Table t.cpu t.place) [] x c) [ inl w ↦ subst (λ (y : ℕ × Owner). IsTable l i y) (sym w) mine | inr w ↦ absurd (none_in x w) ];
      all = λ x h. subst (λ (y : ℕ × Owner). Contains ((t.block, owners.Table t.cpu t.place) ∷ []) y) (one_told l i (t.block, owners.Table t.cpu t.place) x laid mine h) (Contains-head (t.block, owners.Table t.cpu t.place) []);
    }

-- the block that is told, if there is one
pub told_block : (o : Option ChainBlock) → IsSome o → (x : ℕ × Owner) × Contains (table_claims o) x
told_block None some = absurd (cc)
told_block (Some t) some = ((t.block, owners.Table t.cpu t.place), Contains-head (t.block, owners.Table t.cpu t.place) [])

-- It comes before what the inode owns by itself.
pub told_before : (l : Layout) (i : ℕ) (pages : List ℕ) (m : Pages) (x y : ℕ × Owner) → IsTable l i x → IsClaim i pages m y → Below (owner_key x.1) (owner_key y.1)
told_before l i pages m _ _ (table {c = c} {k = k} has number) (of_log n b page) = below_first 0 1 (c ∷ k ∷ 0 ∷ []) (i ∷ 0 ∷ n ∷ []) (omega arith)
told_before l i pages m _ _ (table {c = c} {k = k} has number) (of_page p b maps) = below_first 0 1 (c ∷ k ∷ 0 ∷ []) (i ∷ 1 ∷ p ∷ []) (omega arith)
