-- A CPU's table that grew by a block: what the region shows then, and what a stop leaves of it.
use Rattle.std.proofs.Common.{None, ◌≡◌, ◌≢◌, ◌⊎◌, inl, inr, ℕ, ◌+◌, ◌*◌, ◌/◌, ◌%◌, ◌<◌, ◌≤◌, Bool, true, false, eqb, List, [], ◌∷◌, length, get_or, refl, ap, sym, ◌∙◌, subst, arith}
use Rattle.std.specs.List.{Contains, list_any}
use Rattle.nv_region.specs.Region.{Region, size}
use Rattle.nv_region.specs.Stops.{Choices, IsMixed, LeavesOnly, NothingPending}
use Rattle.nv_region.specs.Stored.{StoresOnly}
use Rattle.nv_region.proofs.Stops.{mixed_left}
use Rattle.nv_super.specs.declared.superblock.Super.{Super}
use Rattle.nv_super.specs.declared.owners.Run.{Run}
use Rattle.nv_super.specs.declared.owners.Owner.TheVariants as owners
use Rattle.nv_super.specs.Layout.{Layout, chain_of, slot_of, system_blocks}
use Rattle.nv_super.proofs.Members.{none_in}
use Rattle.nv_super.proofs.Rising.{Contains-cons, Contains-head}
use Rattle.nv_inode.specs.Chains.{IsLaid}
use Rattle.nv_inode.specs.Growing.{IsLinked, Links, LinksOrNot, with_block}
use Rattle.nv_inode.specs.Numbers.{next_number}
use Rattle.nv_inode.proofs.GrownTables.{link_apart, link_lies, next_has, next_has_none}
use Rattle.nv_inode.proofs.LayoutWords.{found_at}
use Rattle.nv_alloc.specs.FreeValue.{FreeLists}
use Rattle.nv_outcome.proofs.SuperOf.{blocks_of_super}
use Rattle.nv_scan.specs.declared.piece.Row.{Row}
use Rattle.nv_mounted.specs.Held.{Held, Store}
use Rattle.nv_mounted.specs.Blocks.{ArePoolRuns, IsUnowned, KeepsFree, by_table}
use Rattle.nv_mounted.specs.Lists.{WasTaken}
use Rattle.nv_mounted.proofs.BytesKept.{mixed_size}
use Rattle.nv_mounted.proofs.ListsKept.{pools_all_taken, pools_same}
use Rattle.nv_mounted.proofs.ChainGrows.{block_loose, linked_bytes, linked_sound, row_stays}
use Rattle.nv_mounted.proofs.ChainGrows as chains
use Rattle.nv_commit.specs.Stopped.{LeavesEither}
use Rattle.nv_commit.proofs.Left.{loose_recovers, made_there}
use Rattle.nv_steps.specs.GrownTables.{CanGrow, GrowsTable, ShowsFree, ShowsGrown, TableGrown, last_link, one_link}
use Rattle.nv_steps.specs.Steps.{ShowsRow}
use Rattle.nv_steps.specs.Stores.{StoresIn, in_free}
use Rattle.nv_steps.specs.Taken.{TakesEach}
use Rattle.nv_steps.proofs.PreparedBlocks.{free_held}
use Rattle.nv_steps.proofs.Stores.{stores_in, word_in}
use Rattle.nv_steps.proofs.OneByOne.{single_takes, takes_of}
use Rattle.nv_steps.proofs.TakenBlocks.{are_free, each_in_data, each_was_free, is_taken, was_taken}

-- one block as a row
pub one_block : (xs : List ℕ) (v : ℕ) → length xs ≡ 1 → v ≡ get_or xs 0 v → xs ≡ v ∷ []
one_block [] v count is = absurd (omega (arith, count))
one_block (x ∷ []) v count is = ap (λ (y : ℕ). y ∷ []) (sym is)
one_block (x ∷ y ∷ xs) v count is = absurd (omega (arith, count))

only_block : (a b : ℕ) → Contains (a ∷ []) b → b ≡ a
only_block a b c = elim (Contains-cons a [] b c) [ inl same ↦ same | inr none ↦ absurd (none_in b none) ]

-- it can in a region that is mounted
pub shown_can : (R : Region) (l : Layout) (held : Store) (free : FreeLists) (cpu : ℕ) → ShowsFree R l held free → free.sup ≡ l.sup → l.sup.version ≡ 2 → cpu < l.sup.cpus → CanGrow R l free cpu
shown_can R l held free cpu shows lists version below = record {
  version = version;
  cpu_below = below;
  lists = lists;
  blocks = (let sound = shows.sound in let at_block : l.sup.blocks ≡ size R / 4096 = blocks_of_super R l.sup sound.sup in omega (arith, at_block));
  used = λ c k b there is_free. (free_held l held free shows.lists c b is_free).unowned (owners.Table cpu k) (by_table there);
}

-- a row that stood for what is held does so still
pub row_shown : (R S : Region) (l grown : Layout) (free after : FreeLists) (cpu number : ℕ) (held : Store) (h : Held) (row : Row) → GrowsTable R S l grown free after cpu number → ShowsRow R l held h row free
    → ShowsRow S grown held h row after × (held number ≡ None)
row_shown R S l grown free after cpu number held h row grows shows =
    let now : ShowsGrown R S l grown held after number = grows.shows held (record { sound = shows.sound; lists = shows.lists }) in
    let there : ShowsFree S grown held after = now.shows in
    (record { sound = there.sound; holds = shows.holds; told = now.rows h row shows.told; lists = there.lists }, now.unused)

module _ {R : Region} {l : Layout} {free after : FreeLists} {cpu block : ℕ} (laid : IsLaid l) (can : CanGrow R l free cpu) (taken : TakesEach free cpu (block ∷ []) after) where
  pub in_data : (system_blocks l.sup ≤ block) × (block < l.sup.blocks)
  in_data = subst (λ (s : Super). (system_blocks s ≤ block) × (block < s.blocks)) can.lists (each_in_data taken block (Contains-head block []))

  pub fresh : list_any (eqb block) (chain_of l cpu) ≡ false
  fresh = by (list_any (eqb block) (chain_of l cpu)) refl where
    by : (t : Bool) → list_any (eqb block) (chain_of l cpu) ≡ t → t ≡ false
    by false off = refl
    by true on = absurd (let found = found_at (chain_of l cpu) block on in let f = each_was_free taken block (Contains-head block []) in can.used f.0 found.0 block found.1 f.1)

  pub apart : (last_link l cpu < 4096 * block) ⊎ (4096 * block + 4096 ≤ last_link l cpu)
  apart = link_apart l cpu block can.cpu_below in_data.0 fresh

  link_there : (last_link l cpu % 8 ≡ 0) × (last_link l cpu + 8 ≤ 4096 * l.sup.blocks)
  link_there = link_lies l cpu laid can.cpu_below

  -- Memory that is open past the region is open past all that is stored.
  pub all_within : (limit : ℕ) → size R ≤ limit → (last_link l cpu + 8 ≤ limit) × (4096 * block + 4096 ≤ limit)
  all_within limit past = (let whole = can.blocks in (omega (arith, link_there.1, whole, past), omega (arith, in_data.1, whole, past)))

  pub within : cpu < length l.chains
  within = let each = laid.each in let below = can.cpu_below in omega (arith, each, below)

  module _ {held : Store} (shows : ShowsFree R l held free) where
    unowned : IsUnowned l held block
    unowned = are_free taken l held shows.lists can.lists block (Contains-head block [])

    without : ArePoolRuns l (λ b. IsUnowned l held b × (b ≢ block)) after.pools
    without =
        let kept = subst (λ (pools : List (List Run)). KeepsFree l held pools) (sym taken.same.pools) shows.lists in
        let w = pools_all_taken l (IsUnowned l held) taken.from after (single_takes (block ∷ [])) kept (taken.same.sup ∙ can.lists) (takes_of taken) in
        pools_same l (λ b. IsUnowned l held b × (WasTaken (single_takes (block ∷ [])) b → ⊥)) (λ b. IsUnowned l held b × (b ≢ block)) after.pools
        (λ b. (
          (λ v. (v.0, λ same. v.1 (was_taken (block ∷ []) b (subst (Contains (block ∷ [])) (sym same) (Contains-head block []))))),
          (λ v. (v.0, λ t. v.1 (only_block block b (is_taken (block ∷ []) b t)))),
        )) w.0

    shows_grown : (S : Region) → size S ≡ size R → IsLinked R (last_link l cpu) block S → ShowsGrown R S l (with_block l cpu block) held after (next_number l cpu)
    shows_grown S len is =
        let sound = shows.sound in
        let shown = sound.shows in
        record {
          shows = record {
            sound = linked_sound R S l held cpu block sound can.version can.cpu_below unowned len is;
            lists = chains.lists_without l held cpu block after.pools within without;
          };
          unused = shown.only (next_number l cpu) (next_has_none l cpu laid can.cpu_below (slot_of l (next_number l cpu)) refl);
          rows = row_stays l cpu block;
          bytes = linked_bytes R S l held cpu block sound can.version can.cpu_below unowned len is;
        }

    -- Nothing else is stored than what the block and the link take.
    pub table_stores : (S : Region) → IsMixed R (Links (last_link l cpu) block) S → StoresIn l held (one_link l cpu) R S
    table_stores S mixed = stores_in (one_link l cpu) R S (Links (last_link l cpu) block) mixed (λ k v w. elim w [
      | inl inside ↦ in_free (8 * k) (let from = inside.0 in let to = inside.1 in let here : block ≡ 8 * k / 4096 = omega (arith, from, to) in subst (IsUnowned l held) here unowned)
      | inr one ↦ word_in (one_link l cpu) (last_link l cpu) link_there.0 (Contains-head (last_link l cpu) []) k one.0
    ])

  pub grows : (S : Region) → size S ≡ size R → IsLinked R (last_link l cpu) block S → (grown : Layout) → grown ≡ with_block l cpu block → (number : ℕ) → number ≡ next_number l cpu → GrowsTable R S l grown free after cpu number
  grows S len is grown layout number next = record {
    block = block;
    taken = taken;
    layout = layout;
    is_next = next;
    none_before = ap (slot_of l) next ∙ next_has_none l cpu laid can.cpu_below (slot_of l (next_number l cpu)) refl;
    slot = (λ i. slot_of (layout i) (next i)) ∙ next_has l cpu laid can.cpu_below block;
    linked = is;
    shows = λ held shows. subst (λ (g : Layout). ShowsGrown R S l g held after number) (sym layout)
        (subst (λ (n : ℕ). ShowsGrown R S l (with_block l cpu block) held after n) (sym next) (shows_grown shows S len is));
  }

  -- What a stop leaves.
  pub left_grown : {held : Store} → ShowsFree R l held free → (now : Region) (first_may last_may : Choices) → StoresOnly (Links (last_link l cpu) block) R now first_may last_may → NothingPending R first_may
      → LeavesOnly now last_may (LinksOrNot R (last_link l cpu) block) → LeavesOnly now last_may (LeavesEither R l held (TableGrown R l free cpu))
  left_grown {held} shows now first_may last_may wrote settled stops left may = by (stops left may) where
    mixed : IsMixed R (Links (last_link l cpu) block) left
    mixed = let stored = wrote.mixed in mixed_left R now (Links (last_link l cpu) block) first_may last_may stored.as_long stored.same_rest settled wrote.adds left may

    by : LinksOrNot R (last_link l cpu) block left → LeavesEither R l held (TableGrown R l free cpu) left
    by (inl words) = inl (loose_recovers R left l held shows.sound (block_loose R left l held block (unowned shows) words))
    by (inr is) = inr (made_there (TableGrown R l free cpu) (linked_sound R left l held cpu block shows.sound can.version can.cpu_below (unowned shows) (mixed_size mixed) is)
        (after, with_block l cpu block, next_number l cpu, grows left (mixed_size mixed) is (with_block l cpu block) refl (next_number l cpu) refl))

  -- ---- where the link stands at an address that was found

  module _ (a : ℕ) (is_link : a ≡ last_link l cpu) where
    pub owed_aligned : a % 8 ≡ 0
    owed_aligned = subst (λ (n : ℕ). n % 8 ≡ 0) (sym is_link) link_there.0

    pub owed_behind : (limit : ℕ) → size R ≤ limit → (a + 8 ≤ limit) × (4096 * block + 4096 ≤ limit)
    owed_behind limit past = subst (λ (n : ℕ). (n + 8 ≤ limit) × (4096 * block + 4096 ≤ limit)) (sym is_link) (all_within limit past)

    pub owed_apart : (a < 4096 * block) ⊎ (4096 * block + 4096 ≤ a)
    owed_apart = subst (λ (n : ℕ). (n < 4096 * block) ⊎ (4096 * block + 4096 ≤ n)) (sym is_link) apart

    pub told_stores : {held : Store} → ShowsFree R l held free → (S : Region) → IsMixed R (Links a block) S → StoresIn l held (one_link l cpu) R S
    told_stores shows S mixed = table_stores shows S (subst (λ (n : ℕ). IsMixed R (Links n block) S) is_link mixed)

    pub told_grows : (S : Region) → IsMixed R (Links a block) S → IsLinked R a block S → (grown : Layout) → grown ≡ with_block l cpu block → (number : ℕ) → number ≡ next_number l cpu → GrowsTable R S l grown free after cpu number
    told_grows S mixed is = grows S (mixed_size mixed) (subst (λ (n : ℕ). IsLinked R n block S) is_link is)

    pub told_left : {held : Store} → ShowsFree R l held free → (now : Region) (first_may last_may : Choices) → StoresOnly (Links a block) R now first_may last_may → NothingPending R first_may
        → LeavesOnly now last_may (LinksOrNot R a block) → LeavesOnly now last_may (LeavesEither R l held (TableGrown R l free cpu))
    told_left shows now first_may last_may wrote settled stops =
        left_grown shows now first_may last_may (subst (λ (n : ℕ). StoresOnly (Links n block) R now first_may last_may) is_link wrote) settled
        (subst (λ (n : ℕ). LeavesOnly now last_may (LinksOrNot R n block)) is_link stops)
