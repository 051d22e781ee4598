-- Of the data blocks those of chains alone hold slots, and no two slots overlap.
use Rattle.std.proofs.Common.{◌≡◌, ◌≢◌, ◌⊎◌, inl, inr, ℕ, ◌+◌, ◌*◌, ◌/◌, ◌%◌, ◌<◌, ◌≤◌, true, List, refl, ap, sym, ◌∙◌, arith, Some, None, slice_get}
use Rattle.std.specs.List.{Contains}
use Rattle.std.proofs.lemmas.Bool.{cases_eq, cases_lt}
use Rattle.nv_region.specs.Region.{Region}
use Rattle.nv_super.specs.declared.superblock.Super.{Super}
use Rattle.nv_super.specs.declared.owners.Owner.{Owner}
use Rattle.nv_super.specs.declared.owners.Owner.TheVariants as owners
use Rattle.nv_super.specs.Layout.{IsLayout, Layout, chain_of, fixed_layout, slot_of, system_blocks}
use Rattle.nv_super.proofs.Slots.{slots_apart}
use Rattle.nv_inode.specs.Chains.{IsLaid}
use Rattle.nv_inode.specs.Permitted.{IsSlotWord}
use Rattle.nv_inode.specs.Slot.{is_right_log}
use Rattle.nv_inode.proofs.FixedLayout.{fixed_laid}
use Rattle.nv_inode.proofs.LayoutWords.{IsSlot, in_table, in_block, fixed_slot, named_permitted, permitted_lies, slot_is, slot_stands}
use Rattle.nv_logpage.specs.declared.found.Placed.{Placed}
use Rattle.nv_logpage.specs.Reads.{Reads}
use Rattle.nv_scan.proofs.Blocks.{data_pages}
use Rattle.nv_scan.proofs.ChainBlocks.{fixed_chainless, no_place}
use Rattle.nv_mounted.specs.Held.{Store, Shows}
use Rattle.nv_mounted.specs.Blocks.{NoneDoubled, OwnsIn, by_page, by_table}
use Rattle.nv_mounted.specs.Slots.{HasNoSlot, HaveNoSlots, IsInNoChain, SlotsClear, SlotsStand}
use Rattle.nv_mounted.proofs.Shown.{stands_at}
use Rattle.nv_mounted.proofs.Kept.{page_owner, pages_data}

-- the fixed layout has no chains
pub fixed_none : (s : Super) (b : ℕ) → IsInNoChain (fixed_layout s) b
fixed_none s b c k = no_place (fixed_layout s) c k b (fixed_chainless s)

-- ---- where a slot lies

-- a slot in a fixed table lies in front of the data blocks
table_before : (l : Layout) (i a : ℕ) → IsLaid l → i ≢ 0 → i / l.sup.cpus < 32 * l.sup.table_blocks → slot_of l i ≡ Some a → a + 128 ≤ 4096 * system_blocks l.sup
table_before l i a laid some low at = (slots_apart l.sup laid.layout).before i a (fixed_slot (fixed_layout l.sup) i some low ∙ sym (fixed_slot l i some low) ∙ at)

no_slot_in : (l : Layout) (b i a : ℕ) → IsLaid l → system_blocks l.sup ≤ b → IsInNoChain l b → slot_of l i ≡ Some a → IsSlot l i a → a / 4096 ≢ b
no_slot_in l b i a laid from out at (in_table some low is) same = let before = table_before l i a laid some low at in omega (arith, from, before, same)
no_slot_in l b i a laid from out at (in_block c j k few place has is) same =
    let block : c ≡ b = omega (arith, is, few, same) in
    out (i % l.sup.cpus) k (has ∙ ap Some block)

-- a data block that is none of a chain's holds no slot
pub data_has_none : (l : Layout) (b : ℕ) → IsLaid l → system_blocks l.sup ≤ b → IsInNoChain l b → HasNoSlot l b
data_has_none l b laid from out i a at = no_slot_in l b i a laid from out at (slot_is l i a at)

pub pages_have_none : (R : Region) (l : Layout) (head tail : ℕ) (entries : List Placed) (pages : List ℕ) → IsLaid l → is_right_log l.sup head tail ≡ true → Reads R l.sup head tail entries pages None
    → ((b : ℕ) → Contains pages b → IsInNoChain l b) → HaveNoSlots l pages
pages_have_none R l head tail entries pages laid right read out b c = data_has_none l b laid (pages_data right read b c) (out b c)

-- ---- no two overlap

-- each block of a chain has one owner, its table
abbrev OwnTables : Layout → Store → Type 0
OwnTables l held = (c k b : ℕ) (o : Owner) → slice_get (chain_of l c) k ≡ Some b → OwnsIn l held b o → owners.Table c k ≡ o

undoubled_tables : (l : Layout) (held : Store) → NoneDoubled l held → OwnTables l held
undoubled_tables l held undoubled c k b o has owns = undoubled b (owners.Table c k) o (by_table has) owns

fixed_tables : (s : Super) (held : Store) → OwnTables (fixed_layout s) held
fixed_tables s held c k b o has owns = absurd (fixed_none s b c k has)

same_number : (s : Super) (i j : ℕ) → 0 < s.cpus → i % s.cpus ≡ j % s.cpus → i / s.cpus ≡ j / s.cpus → i ≡ j
same_number s i j some cpus slots = grind arith

table_place : (c k d n : ℕ) → owners.Table c k ≡ owners.Table d n → (c ≡ d) × (k ≡ n)
table_place c k d n e = (cc, cc)

module _ (l : Layout) (laid : IsLaid l) where
  -- a slot of a fixed table and one of a chain's block
  front_and_block : (a b j : ℕ) → a + 128 ≤ 4096 * system_blocks l.sup → system_blocks l.sup ≤ b → a + 128 ≤ b * 4096 + 128 + 128 * j
  front_and_block a b j before from = omega (arith, before, from)

  from_data : (c k b : ℕ) → slice_get (chain_of l c) k ≡ Some b → system_blocks l.sup ≤ b
  from_data c k b has = (laid.inside c k b has).0

  both_in_tables : (i j a b : ℕ) → i ≢ 0 → i / l.sup.cpus < 32 * l.sup.table_blocks → j ≢ 0 → j / l.sup.cpus < 32 * l.sup.table_blocks → slot_of l i ≡ Some a → slot_of l j ≡ Some b → i ≢ j → (a + 128 ≤ b) ⊎ (b + 128 ≤ a)
  both_in_tables i j a b some low other_some other_low at other differ =
      (slots_apart l.sup laid.layout).apart i j a b (fixed_slot (fixed_layout l.sup) i some low ∙ sym (fixed_slot l i some low) ∙ at)
      (fixed_slot (fixed_layout l.sup) j other_some other_low ∙ sym (fixed_slot l j other_some other_low) ∙ other) differ

  module _ (held : Store) (own : OwnTables l held) where
    -- places of one block are one place, where the numbers stand apart by their places in it
    same_block : (i j k b n e m o : ℕ) → slice_get (chain_of l (i % l.sup.cpus)) k ≡ Some b → slice_get (chain_of l (j % l.sup.cpus)) n ≡ Some e → b ≡ e
        → i / l.sup.cpus ≡ 32 * l.sup.table_blocks + 31 * k + m → j / l.sup.cpus ≡ 32 * l.sup.table_blocks + 31 * n + o → i ≢ j → m ≢ o
    same_block i j k b n e m o has other same place other_place differ equal =
        let one = own (i % l.sup.cpus) k b (owners.Table (j % l.sup.cpus) n) has (by_table (other ∙ ap Some (sym same))) in
        let at = table_place (i % l.sup.cpus) k (j % l.sup.cpus) n one in
        let number = at.1 in
        differ (same_number l.sup i j (let cpus = laid.layout.cpus_from in omega (arith, cpus)) at.0 (omega (arith, place, other_place, number, equal)))

    apart_by : (i j a b : ℕ) → slot_of l i ≡ Some a → slot_of l j ≡ Some b → i ≢ j → IsSlot l i a → IsSlot l j b → (a + 128 ≤ b) ⊎ (b + 128 ≤ a)
    apart_by i j a b at other differ (in_table some low is) (in_table other_some other_low other_is) = both_in_tables i j a b some low other_some other_low at other differ
    apart_by i j a b at other differ (in_table some low is) (in_block d m n few place has other_is) =
        let before = table_before l i a laid some low at in let from = from_data (j % l.sup.cpus) n d has in inl (omega (arith, before, from, other_is))
    apart_by i j a b at other differ (in_block d m n few place has is) (in_table some low other_is) =
        let before = table_before l j b laid some low other in let from = from_data (i % l.sup.cpus) n d has in inr (omega (arith, before, from, is))
    apart_by i j a b at other differ (in_block d m k few place has is) (in_block e o n other_few other_place other_has other_is) = elim (cases_eq d e) [
      | inl same ↦ (let differs = same_block i j k d n e m o has other_has same place other_place differ in elim (cases_lt m o) [
        | inl less ↦ inl (omega (arith, is, other_is, same, less))
        | inr more ↦ inr (omega (arith, is, other_is, same, more, differs))
      ])
      | inr differs ↦ elim (cases_lt d e) [ inl less ↦ inl (omega (arith, is, other_is, less, few)) | inr more ↦ inr (omega (arith, is, other_is, more, differs, other_few)) ]
    ]

    linked_by : (i a c k b : ℕ) → slot_of l i ≡ Some a → slice_get (chain_of l c) k ≡ Some b → IsSlot l i a → a ≢ 4096 * b
    linked_by i a c k b at has (in_table some low is) same = let before = table_before l i a laid some low at in let from = from_data c k b has in omega (arith, before, from, same)
    linked_by i a c k b at has (in_block d j n few place there is) same = omega (arith, is, few, same)

    word_at : (i a : ℕ) → slot_of l i ≡ Some a → IsSlotWord l.sup a
    word_at i a at = permitted_lies l a laid (named_permitted l a laid (i, a, at, inl refl))

    pub slots_stand : SlotsStand l
    slots_stand = record {
      whole = λ i a at. slot_stands l i (Some a) laid (sym at);
      behind = λ i a at. (word_at i a at).behind;
      unlinked = λ i a c k b at has. linked_by i a c k b at has (slot_is l i a at);
      apart = λ i j a b at other differ. apart_by i j a b at other differ (slot_is l i a at) (slot_is l j b other);
    }

    -- ---- and none stands in what is held

    module _ (R : Region) (shows : Shows R l held) where
      page_out : (i : ℕ) (b : ℕ) (n : ℕ) → OwnsIn l held b (owners.Log i n) → IsInNoChain l b
      page_out i b n owns c k has = let clash = own c k b (owners.Log i n) has owns in cc

      data_out : (i : ℕ) (b : ℕ) (p : ℕ) → OwnsIn l held b (owners.Data i p) → IsInNoChain l b
      data_out i b p owns c k has = let clash = own c k b (owners.Data i p) has owns in cc

      pub own_clear : SlotsClear l held
      own_clear = record {
        stand = slots_stand;
        unfree = λ b free. data_has_none l b laid free.from (λ c k has. free.unowned (owners.Table c k) (by_table has));
        unpaged = λ i h is. (let v = stands_at shows i h is in
            pages_have_none R l h.head h.tail h.entries h.pages laid v.is.right v.is.reads (λ b c. (let o = page_owner l held i b h is c in page_out i b o.0 o.1)));
        unmapped = λ i p b h is maps. data_has_none l b laid (data_pages l.sup h.kind h.entries p b maps).1 (data_out i b p (by_page is maps));
      }

-- no two numbers have one slot
pub one_number : {l : Layout} {i j a : ℕ} → SlotsStand l → slot_of l i ≡ Some a → slot_of l j ≡ Some a → i ≡ j
one_number {l} {i} {j} {a} stand at other = elim (cases_eq i j) [ inl same ↦ same | inr differs ↦ absurd (elim (stand.apart i j a a at other differs) [ inl before ↦ omega (arith, before) | inr behind ↦ omega (arith, behind) ]) ]

-- Where no block has two owners.
pub slots_clear : (R : Region) (l : Layout) (held : Store) → IsLaid l → NoneDoubled l held → Shows R l held → SlotsClear l held
slots_clear R l held laid undoubled shows = own_clear l laid held (undoubled_tables l held undoubled) R shows

-- In the fixed layout whoever owns what.
pub fixed_clear : (R : Region) (s : Super) (held : Store) → IsLayout s → Shows R (fixed_layout s) held → SlotsClear (fixed_layout s) held
fixed_clear R s held layout shows = own_clear (fixed_layout s) (fixed_laid s layout) held (fixed_tables s held) R shows
