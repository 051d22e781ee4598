-- A new inode in the first slot of a block that its CPU's table grew by: what the growth leaves for it, and both together.
use Rattle.std.proofs.Common.{◌≡◌, ◌≢◌, ◌⊎◌, inl, inr, ℕ, ◌+◌, ◌*◌, ◌/◌, ◌%◌, ◌<◌, ◌≤◌, List, [], ◌∷◌, drop, length, get_or, Option, Some, is_some, Ok, Result, refl, ap, sym, ◌∙◌, subst, arith}
use Rattle.std.specs.Prelude.{IsTrue}
use Rattle.std.specs.List.{Contains}
use Rattle.nv_region.specs.Region.{Region, size, word}
use Rattle.nv_region.specs.Stops.{Choices}
use Rattle.nv_region.specs.Fuses.{FuseState}
use Rattle.nv_region.proofs.Fuses.{keeps_more}
use Rattle.nv_super.specs.declared.superblock.Super.{Super}
use Rattle.nv_super.specs.declared.kind.Kind.{Kind}
use Rattle.nv_super.specs.declared.owners.Run.{Run}
use Rattle.nv_super.specs.Layout.{Layout, chain_of, slot_of, system_blocks}
use Rattle.nv_super.proofs.Members.{none_in}
use Rattle.nv_super.proofs.Rising.{Contains-cons, Contains-head, Contains-tail}
use Rattle.nv_inode.specs.Chains.{IsLaid, first_link}
use Rattle.nv_inode.specs.Growing.{IsLinked, with_block}
use Rattle.nv_inode.specs.Numbers.{has_slot, next_number}
use Rattle.nv_inode.proofs.GrownSlots.{slots_stay}
use Rattle.nv_inode.proofs.GrownTables.{end_at, grown_laid, next_has}
use Rattle.nv_journal.specs.InOrder.{FirstIsFirst}
use Rattle.nv_journal.specs.Pending.{IsEmpty}
use Rattle.nv_journal.specs.Undo.{journal, undone}
use Rattle.nv_alloc.specs.FreeValue.{FreeLists}
use Rattle.nv_alloc.specs.FreeLists.{IsFreeIn}
use Rattle.nv_alloc.specs.Taking.{HasBlock, pool_at}
use Rattle.nv_entry.specs.declared.entry.Operation.TheVariants.{Add}
use Rattle.nv_logpage.specs.Append.{needed}
use Rattle.nv_names.specs.Names.{EachOnce}
use Rattle.nv_scan.specs.declared.piece.Row.{Row}
use Rattle.nv_outcome.specs.Same.{SameRow}
use Rattle.nv_mounted.specs.Bytes.{byte_of}
use Rattle.nv_mounted.specs.Blocks.{IsUnowned}
use Rattle.nv_mounted.specs.Held.{Store}
use Rattle.nv_mounted.specs.Mounted.{ShowsSound}
use Rattle.nv_mounted.proofs.ChainGrows.{grown_free}
use Rattle.nv_mounted.proofs.Fronts.{sound_clear}
use Rattle.nv_commit.specs.Stopped.{CanRecover, LeavesEither}
use Rattle.nv_tree.specs.declared.refusal.Refusal.{Refusal}
use Rattle.nv_steps.specs.Grown.{StandsRight}
use Rattle.nv_steps.specs.GrownTables.{CanGrow, GrowsTable, LeavesGrown, ShowsFree, TableGrown, grown_more, last_link, one_link}
use Rattle.nv_steps.specs.InOrder.{tail_address}
use Rattle.nv_steps.specs.Keeping.{SettlesStep}
use Rattle.nv_steps.specs.NewNames.{CanCommitName, CanName}
use Rattle.nv_steps.specs.NameEntries.{name_entries}
use Rattle.nv_steps.specs.Slots.{slot_in}
use Rattle.nv_steps.specs.Stores.{MayStore, StoresIn, at_commit, behind_tail, in_free, in_journal, in_slot, one_more}
use Rattle.nv_steps.specs.Taken.{TakesEach}
use Rattle.nv_steps.proofs.GrownTable.{fresh, in_data, within}
use Rattle.nv_steps.proofs.OneByOne.{takes_of}
use Rattle.nv_steps.proofs.SlotPlaces.{slot_known, slot_there_is, whole_there}
use Rattle.nv_steps.proofs.TakenBlocks.{are_free, stays_free, taken_sup}

-- ---- blocks

-- the first block, and then the others
pub split_taken : {free after : FreeLists} {cpu : ℕ} (xs : List ℕ) (n b : ℕ) → TakesEach free cpu xs after → length xs ≡ 1 + n → b ≡ get_or xs 0 b → (mid : FreeLists) × TakesEach free cpu (b ∷ []) mid × TakesEach mid cpu (drop 1 xs) after
split_taken [] n b taken count is = absurd (omega (arith, count))
split_taken {free} {after} {cpu} (x ∷ xs) n b taken count is =
    let w = taken.each in
    let next = w.0 in
    let one = w.1 in (
      next,
      subst (λ (c : ℕ). TakesEach free cpu (c ∷ []) next) (sym is) (record { from = taken.from; same = taken.same; sound = taken.sound; each = (next, one, refl) }),
      record { from = next; same = record { sup = refl; pools = refl }; sound = one.after; each = w.2 },
    )

pub rest_count : (xs : List ℕ) (n : ℕ) → length xs ≡ 1 + n → length (drop 1 xs) ≡ n
rest_count [] n count = absurd (omega (arith, count))
rest_count (x ∷ xs) n count = omega (arith, count)

-- ---- what a step keeps behind another one

pub kept_then : {P A B : Type 0} {region : P → Region} {may_hold : P → Choices} {fuse : P → FuseState} {old middle new : P} {before mid after : FreeLists} {a : A} {r : Result B Refusal}
    → SettlesStep {T = A} region may_hold fuse old middle before mid (Ok a) → SettlesStep {T = B} region may_hold fuse middle new mid after r → SettlesStep {T = B} region may_hold fuse old new before after r
kept_then {region = region} {old = old} {middle = middle} first second = record {
  keeps = record {
    stopped = second.stopped;
    lists = second.lists ∙ first.lists;
    length = second.length ∙ first.length;
    keeps_fuse = keeps_more (λ limit past. (let same : size (region middle) ≡ size (region old) = first.length in subst (λ (n : ℕ). n ≤ limit) (sym same) past)) first.keeps_fuse second.keeps_fuse;
  };
  settled = second.settled;
}

-- ---- what a stop leaves of the growth

pub grown_left : {R : Region} {l : Layout} {free : FreeLists} {cpu j : ℕ} {held : Store} (row : Row) (kind : Kind) (mode time : ℕ) (name : List ℕ) → ShowsFree R l held free → j ≡ next_number l cpu → (left : Region)
    → LeavesEither R l held (TableGrown R l free cpu) left → LeavesGrown R l held free cpu row kind mode time j name left
grown_left row kind mode time name shows next left (inl w) = inl w
grown_left {R} {l} {free} {cpu} {j} {held} row kind mode time name shows next left (inr (can, made)) =
    let grows = made.3 in
    let sup : made.1.sup ≡ l.sup = ap (λ (x : Layout). x.sup) grows.layout in
    let there = (grows.shows held shows).shows in
    inr (
      undone l.sup left,
      made.1,
      made.0,
      subst (λ (n : ℕ). GrowsTable R (undone l.sup left) l made.1 free made.0 cpu n) (grows.is_next ∙ sym next) grows,
      inl (record {
        can = subst (λ (s : Super). CanRecover s left) (sym sup) can;
        sound = subst (λ (s : Super). ShowsSound (undone s left) made.1 held) (sym sup) there.sound;
        bytes = λ i h here x. ap (λ (s : Super). byte_of (undone s left) made.1 h x) sup;
      }),
    )

-- ---- what is known once the table has grown

-- where the last link stands: in a journal's block, or first in a data block
link_stands : (l : Layout) (cpu : ℕ) → IsLaid l → (last_link l cpu ≡ first_link cpu) ⊎ ((c : ℕ) × (system_blocks l.sup ≤ c) × (last_link l cpu ≡ 4096 * c))
link_stands l cpu laid = elim (end_at (first_link cpu) (chain_of l cpu)) [
  | inl first ↦ inl first
  | inr w ↦ inr (w.1, (laid.inside cpu w.0 w.1 w.2).0, w.3)
]

-- it is no word of a slot but the first
link_apart : (l : Layout) (cpu a : ℕ) → IsLaid l → a % 128 ≡ 24 → a ≢ last_link l cpu
link_apart l cpu a laid offset same = elim (link_stands l cpu laid) [
  | inl first ↦ omega (arith, same, first, offset)
  | inr w ↦ (let there = w.2 in omega (arith, same, there, offset))
]

-- the first two words of a journal are not the link
journal_apart : (l : Layout) (cpu a : ℕ) → IsLaid l → a < 4096 * (1 + l.sup.cpus) → a % 4096 < 16 → a ≢ last_link l cpu
journal_apart l cpu a laid below offset same = elim (link_stands l cpu laid) [
  | inl first ↦ omega (arith, same, first, offset)
  | inr w ↦ (let there = w.2 in let from = w.1 in omega (arith, same, there, from, below))
]

module _ {R : Region} {l : Layout} {free mid : FreeLists} {cpu block : ℕ} (laid : IsLaid l) (can : CanGrow R l free cpu) (taken : TakesEach free cpu (block ∷ []) mid) where
  abbrev grown : Layout
  grown = with_block l cpu block

  in_chains : cpu < length l.chains
  in_chains = within laid can taken

  slot_kept : (i : ℕ) → IsTrue (has_slot l i) → slot_of grown i ≡ Some (slot_in l i)
  slot_kept i has = slots_stay l cpu block i in_chains (slot_in l i) (slot_there_is l i has)

  -- a slot stands where it did
  pub slot_same : (i : ℕ) → IsTrue (has_slot l i) → slot_in grown i ≡ slot_in l i
  slot_same i has = sym (slot_known grown i (slot_in l i) (slot_kept i has))

  -- and the new one first in the block
  pub slot_new : (j : ℕ) → j ≡ next_number l cpu → slot_in grown j ≡ 4096 * block + 128
  slot_new j next = sym (slot_known grown j (4096 * block + 128) (ap (slot_of grown) next ∙ next_has l cpu laid can.cpu_below block))

  pub number_new : (j : ℕ) → j ≡ next_number l cpu → IsTrue (has_slot grown j)
  number_new j next = subst (λ (o : Option ℕ). IsTrue (is_some o)) (sym (ap (slot_of grown) next ∙ next_has l cpu laid can.cpu_below block)) refl

  pub number_kept : (i : ℕ) → IsTrue (has_slot l i) → IsTrue (has_slot grown i)
  number_kept i has = subst (λ (o : Option ℕ). IsTrue (is_some o)) (sym (slot_kept i has)) refl

  free_before : (c b : ℕ) → IsFreeIn mid c b → IsFreeIn free c b
  free_before c b is = subst (λ (pools : List (List Run)). HasBlock (pool_at pools c) b) taken.same.pools (stays_free taken.from mid (block ∷ []) (takes_of taken) c b is)

  pub laid_grown : IsLaid grown
  laid_grown = grown_laid l cpu block in_chains laid can.version (in_data laid can taken).0 (in_data laid can taken).1 (fresh laid can taken)

  -- A row that stands right does so still.
  pub stands_grown : (M : Region) (row : Row) → size M ≡ size R → StandsRight R l free row → StandsRight M grown mid row
  stands_grown M row len stands = record {
    laid = laid_grown;
    lists = taken_sup taken ∙ can.lists;
    number = number_kept row.inode stands.number;
    whole = subst (λ (a : ℕ). a % 128 ≡ 0) (sym (slot_same row.inode stands.number)) stands.whole;
    inside = (let same = slot_same row.inode stands.number in let inside = stands.inside in omega (arith, same, len, inside));
    aligned = stands.aligned;
    offset = stands.offset;
    blocks = (let blocks = stands.blocks in omega (arith, blocks, len));
    in_blocks = stands.in_blocks;
    used = λ c is. stands.used c (free_before c (row.tail / 4096) is);
  }

  module _ {M : Region} (is : IsLinked R (last_link l cpu) block M) where
    journal_word : (a : ℕ) → a % 8 ≡ 0 → a < 4096 * (1 + l.sup.cpus) → a % 4096 < 16 → word M a ≡ word R a
    journal_word a whole below offset = is.others a whole (journal_apart l cpu a laid below offset) (inl (let from = (in_data laid can taken).0 in omega (arith, from, below)))

    journal_stays : IsEmpty R cpu → IsEmpty M cpu
    journal_stays empty =
        let below = can.cpu_below in
        let one : word M (journal cpu) ≡ word R (journal cpu) = journal_word (journal cpu) (omega arith) (omega (arith, below)) (omega arith) in
        let two : word M (journal cpu + 8) ≡ word R (journal cpu + 8) = journal_word (journal cpu + 8) (omega arith) (omega (arith, below)) (omega arith) in
        (one ∙ empty.0 ∙ sym two, (let few = empty.1 in omega (arith, two, few)))

    -- The next number gets a name in the directory.
    pub names_grown : (row : Row) (j : ℕ) → IsEmpty R cpu → system_blocks l.sup ≤ row.tail / 4096 → j ≡ next_number l cpu → CanName M grown cpu j row
    names_grown row j empty inside next = record { cpu_below = can.cpu_below; journal_empty = journal_stays empty; number = number_new j next; in_data = inside }

  -- ---- the words of both

  module _ {held : Store} (shows : ShowsFree R l held free) where
    unowned : IsUnowned l held block
    unowned = are_free taken l held shows.lists can.lists block (Contains-head block [])

    -- a tail in a slot isn't stored by the growth
    tail_away : (d : ℕ) → IsTrue (has_slot l d) → MayStore l held (one_link l cpu) (tail_address l d) → ⊥
    tail_away d has may = by (tail_address l d) refl may where
      whole : slot_in l d % 128 ≡ 0
      whole = whole_there l d laid has

      by : (a : ℕ) → a ≡ tail_address l d → MayStore l held (one_link l cpu) a → ⊥
      by a is (in_free _ free_there) = (sound_clear shows.sound).unfree (a / 4096) free_there d (slot_in l d) (slot_there_is l d has) (omega (arith, is, whole))
      by a is (behind_tail _ i h there holds block_is from) = none_in i there
      by a is (in_slot _ j there from to) = none_in j there
      by a is (in_journal _ c there from to) = none_in c there
      by a is (at_commit _ there) = elim (Contains-cons (last_link l cpu) [] a there) [
        | inl same ↦ link_apart l cpu a laid (omega (arith, is, whole)) same
        | inr none ↦ none_in a none
      ]

    pub tail_stays : (d : ℕ) → IsTrue (has_slot l d) → (S : Region) → StoresIn l held (one_link l cpu) R S → word S (tail_address l d) ≡ word R (tail_address l d)
    tail_stays d has S stores = stores (tail_address l d) (let whole = whole_there l d laid has in omega (arith, whole)) (tail_away d has)

    pub first_then : (M S : Region) (d j : ℕ) → IsTrue (has_slot l d) → StoresIn l held (one_link l cpu) R M → FirstIsFirst M (slot_in grown j) 1 (tail_address grown d) S → FirstIsFirst R (slot_in grown j) 1 (tail_address grown d) S
    first_then M S d j has stores (inr first) = inr first
    first_then M S d j has stores (inl same) = inl (same ∙ subst (λ (a : ℕ). word M (a + 24) ≡ word R (a + 24)) (sym (slot_same d has)) (tail_stays d has M stores))

    -- What the growth stores, and then the inode and its name.
    pub link_in : (S : Region) (d : ℕ) → StoresIn l held (one_link l cpu) R S → StoresIn l held (grown_more l cpu d) R S
    link_in S d stores at whole away = stores at whole (λ may. away (by may)) where
      by : MayStore l held (one_link l cpu) at → MayStore l held (grown_more l cpu d) at
      by (in_free _ free_there) = in_free at free_there
      by (behind_tail _ i h there holds block_is from) = absurd (none_in i there)
      by (in_slot _ j there from to) = absurd (none_in j there)
      by (in_journal _ c there from to) = absurd (none_in c there)
      by (at_commit _ there) = at_commit at (elim (Contains-cons (last_link l cpu) [] at there) [
        | inl same ↦ subst (λ (a : ℕ). Contains (last_link l cpu ∷ tail_address l d ∷ []) a) (sym same) (Contains-head (last_link l cpu) (tail_address l d ∷ []))
        | inr none ↦ absurd (none_in at none)
      ])

    pub both_in : (M S : Region) (d j : ℕ) → IsTrue (has_slot l d) → j ≡ next_number l cpu → StoresIn l held (one_link l cpu) R M → StoresIn grown held (one_more grown cpu j d) M S → StoresIn l held (grown_more l cpu d) R S
    both_in M S d j has next first second at whole away = second at whole (λ may. away (by may)) ∙ link_in M d first at whole away where
      new_free : (a : ℕ) → slot_in grown j ≤ a → a < slot_in grown j + 128 → MayStore l held (grown_more l cpu d) a
      new_free a from to =
          let here : block ≡ a / 4096 = (let is = slot_new j next in omega (arith, is, from, to)) in
          in_free a (subst (IsUnowned l held) here unowned)

      by : MayStore grown held (one_more grown cpu j d) at → MayStore l held (grown_more l cpu d) at
      by (in_free _ free_there) = in_free at ((grown_free l held cpu block in_chains (at / 4096)).0 free_there).0
      by (behind_tail _ i h there holds block_is from) = behind_tail at i h there holds block_is from
      by (in_slot _ i there from to) = elim (Contains-cons j [] i there) [
        | inl same ↦ new_free at (subst (λ (n : ℕ). slot_in grown n ≤ at) same from) (subst (λ (n : ℕ). at < slot_in grown n + 128) same to)
        | inr none ↦ absurd (none_in i none)
      ]
      by (in_journal _ c there from to) = in_journal at c there from to
      by (at_commit _ there) = elim (Contains-cons (slot_in grown j) (tail_address grown d ∷ []) at there) [
        | inl same ↦ new_free at (omega (arith, same)) (omega (arith, same))
        | inr later ↦ elim (Contains-cons (tail_address grown d) [] at later) [
          | inl same ↦ at_commit at (subst (λ (a : ℕ). Contains (last_link l cpu ∷ tail_address l d ∷ []) a) (sym (same ∙ ap (λ (a : ℕ). a + 24) (slot_same d has)))
              (Contains-tail (last_link l cpu) (tail_address l d ∷ []) (tail_address l d) (Contains-head (tail_address l d) [])))
          | inr none ↦ absurd (none_in at none)
        ]
      ]

-- ---- the same by what the growth promises

module _ {R M : Region} {l grown : Layout} {free mid : FreeLists} {cpu number : ℕ} (laid : IsLaid l) (can : CanGrow R l free cpu) (grows : GrowsTable R M l grown free mid cpu number) where
  pub then_has : (j : ℕ) → j ≡ next_number l cpu → IsTrue (has_slot grown j)
  then_has j next = subst (λ (x : Layout). IsTrue (has_slot x j)) (sym grows.layout) (number_new laid can grows.taken j next)

  pub then_kept : (i : ℕ) → IsTrue (has_slot l i) → IsTrue (has_slot grown i)
  then_kept i has = subst (λ (x : Layout). IsTrue (has_slot x i)) (sym grows.layout) (number_kept laid can grows.taken i has)

  -- The inode and its name can be committed.
  pub then_commits : {after : FreeLists} {slot parent j time : ℕ} {row ready : Row} {name blocks : List ℕ} → size M ≡ size R → StandsRight R l free row → IsEmpty R cpu → system_blocks l.sup ≤ row.tail / 4096 → j ≡ next_number l cpu
      → slot ≡ slot_in grown j → parent ≡ slot_in grown ready.inode → TakesEach mid cpu blocks after → length blocks ≡ 1 + needed (row.tail % 4096) (name_entries Add j name time) → SameRow row ready → EachOnce row.names
      → CanCommitName M grown mid after cpu slot parent row ready j name time blocks
  then_commits {j = j} {row = row} len stands empty inside next slot_is parent_is taken count same once = record {
    stands = subst (λ (x : Layout). StandsRight M x mid row) (sym grows.layout) (stands_grown laid can grows.taken M row len stands);
    can = subst (λ (x : Layout). CanName M x cpu j row) (sym grows.layout) (names_grown laid can grows.taken grows.linked row j empty inside next);
    slot_is = slot_is;
    parent_is = parent_is;
    taken = taken;
    count = count;
    same = same;
    once = once;
  }

  module _ {held : Store} (shows : ShowsFree R l held free) (d j : ℕ) (has : IsTrue (has_slot l d)) (first : StoresIn l held (one_link l cpu) R M) where
    pub then_first : (S : Region) → FirstIsFirst M (slot_in grown j) 1 (tail_address grown d) S → FirstIsFirst R (slot_in grown j) 1 (tail_address grown d) S
    then_first S = subst (λ (x : Layout). FirstIsFirst M (slot_in x j) 1 (tail_address x d) S → FirstIsFirst R (slot_in x j) 1 (tail_address x d) S) (sym grows.layout) (first_then laid can grows.taken shows M S d j has first)

    pub then_stores : (S : Region) → j ≡ next_number l cpu → StoresIn grown held (one_more grown cpu j d) M S → StoresIn l held (grown_more l cpu d) R S
    then_stores S next = subst (λ (x : Layout). StoresIn x held (one_more x cpu j d) M S → StoresIn l held (grown_more l cpu d) R S) (sym grows.layout) (both_in laid can grows.taken shows M S d j has next first)
