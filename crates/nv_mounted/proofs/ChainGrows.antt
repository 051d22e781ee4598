-- A chain that grows by a free block, which is blank: the region is sound by the layout with that block, and shows what it showed.
use Rattle.std.proofs.Common.{◌≡◌, ◌≢◌, ◌↔◌, ◌⊎◌, inl, inr, ℕ, zero, suc, ◌+◌, ◌*◌, ◌/◌, ◌%◌, ◌<◌, ◌≤◌, ◌==◌, ◌&&◌, nat_lt, if◌then◌else◌, Bool, true, false, eqb, List, [], ◌∷◌, ◌++◌, length, slice_get, Option, Some, None, refl, ap, sym, ◌∙◌, subst, arith}
use Rattle.std.specs.List.{Contains, cons_option, filter_map, list_any, range_with_len}
use Rattle.std.proofs.lemmas.Bool.{cases_eq, cases_lt}
use Rattle.nv_region.specs.Region.{Region, size, word}
use Rattle.nv_region.specs.Stops.{IsMixed}
use Rattle.nv_region.specs.Stored.{Within}
use Rattle.nv_region.proofs.Stops.{mixed_same}
use Rattle.nv_region.proofs.Wordwise.{mixed_more}
use Rattle.nv_super.specs.declared.faults.Fault.{Fault}
use Rattle.nv_super.specs.declared.owners.Owner.{Owner}
use Rattle.nv_super.specs.declared.owners.Owner.TheVariants as owners
use Rattle.nv_super.specs.declared.owners.Run.{Run}
use Rattle.nv_super.specs.Layout.{Layout, chain_of, slot_of, system_blocks}
use Rattle.nv_super.specs.Super.{IsSuper}
use Rattle.nv_super.proofs.Accepted.{super_stays}
use Rattle.nv_super.proofs.Options.{some_is}
use Rattle.nv_inode.specs.Chains.{chain_faults, chain_in, end_fault, fault_behind, first_link, layout_of, link_behind, link_fault}
use Rattle.nv_inode.specs.Growing.{CanLink, IsLinked, LinksOrNot, with_block}
use Rattle.nv_inode.proofs.GrownSlots.{slots_stay, slots_unused}
use Rattle.nv_inode.proofs.GrownTables.{other_chain, own_chain}
use Rattle.nv_inode.proofs.LayoutWords.{found_at}
use Rattle.nv_inode.proofs.LinkedChains.{linked_layout}
use Rattle.nv_inode.proofs.ReadChains.{link_last}
use Rattle.nv_journal.specs.Undo.{dequeue, enqueue, is_sound, journal}
use Rattle.nv_logpage.proofs.Local.{ReadsOn-same}
use Rattle.nv_scan.specs.State.{block_of}
use Rattle.nv_scan.specs.declared.piece.Row.{Row}
use Rattle.nv_scan.proofs.Blocks.{data_pages}
use Rattle.nv_mounted.specs.Held.{Held, Store, HoldsInode, Shows, ShowsSlot, good_in}
use Rattle.nv_mounted.specs.Blocks.{ArePoolRuns, KeepsFree, OwnsIn, by_table, by_log, by_page, IsUnowned, NoneDoubled}
use Rattle.nv_mounted.specs.Bytes.{byte_of}
use Rattle.nv_mounted.specs.Loose.{Loose}
use Rattle.nv_mounted.specs.Slots.{SlotsClear}
use Rattle.nv_mounted.specs.Mounted.{AreIdle, IsFaultless, IsMounted, KeepsRow, ShowsSound}
use Rattle.nv_mounted.proofs.BytesKept.{same_byte}
use Rattle.nv_mounted.proofs.ListsKept.{pools_same}
use Rattle.nv_mounted.proofs.Shown.{holds_at, stands_at}
use Rattle.nv_mounted.proofs.Kept.{head_whole, page_owner, pages_data}
use Rattle.nv_mounted.proofs.Fronts.{loose_sound, sound_clear, tables_laid}
use Rattle.nv_outcome.proofs.SameChains.{chain_is}

-- ---- rows of chains, and lists with one block more

pushed_at : (xs : List ℕ) (k b c : ℕ) → slice_get (xs ++ b ∷ []) k ≡ Some c → (slice_get xs k ≡ Some c) ⊎ ((k ≡ length xs) × (c ≡ b))
pushed_at [] zero b c e = let same : b ≡ c = cc in inr (refl, sym same)
pushed_at [] (suc k) b c e = absurd (cc)
pushed_at (x ∷ xs) zero b c e = inl e
pushed_at (x ∷ xs) (suc k) b c e = elim (pushed_at xs k b c e) [ inl old ↦ inl old | inr new ↦ inr (ap suc new.0, new.1) ]

pushed_keeps : (xs : List ℕ) (k b c : ℕ) → slice_get xs k ≡ Some c → slice_get (xs ++ b ∷ []) k ≡ Some c
pushed_keeps [] k b c e = absurd (cc)
pushed_keeps (x ∷ xs) zero b c e = e
pushed_keeps (x ∷ xs) (suc k) b c e = pushed_keeps xs k b c e

pushed_last : (xs : List ℕ) (b : ℕ) → slice_get (xs ++ b ∷ []) (length xs) ≡ Some b
pushed_last [] b = refl
pushed_last (x ∷ xs) b = pushed_last xs b

-- where the link behind these blocks stands: where the first does, or first in one of them
last_behind : (at b : ℕ) (blocks : List ℕ) → (k : ℕ) × (c : ℕ) × (slice_get (b ∷ blocks) k ≡ Some c) × (link_behind at (b ∷ blocks) ≡ 4096 * c)
last_behind at b [] = (0, b, refl, refl)
last_behind at b (d ∷ blocks) = let more = last_behind (4096 * b) d blocks in (suc more.0, more.1, more.2, more.3)

end_at : (at : ℕ) (blocks : List ℕ) → (link_behind at blocks ≡ at) ⊎ ((k : ℕ) × (c : ℕ) × (slice_get blocks k ≡ Some c) × (link_behind at blocks ≡ 4096 * c))
end_at at [] = inl refl
end_at at (b ∷ blocks) = inr (last_behind at b blocks)

-- ---- faults of rows of links

none_each : (f : ℕ → Option Fault) (from n : ℕ) → ((c : ℕ) → from ≤ c → c < from + n → f c ≡ None) → filter_map f (range_with_len from n) ≡ []
none_each f from zero each = refl
none_each f from (suc n) each =
    ap (λ (o : Option Fault). cons_option o (filter_map f (range_with_len (from + 1) n))) (each from (omega arith) (omega arith))
    ∙ none_each f (from + 1) n (λ c low high. each c (omega (arith, low)) (omega (arith, high)))

first_none : (o : Option Fault) (rest : List Fault) → cons_option o rest ≡ [] → (o ≡ None) × (rest ≡ [])
first_none None rest e = (refl, e)
first_none (Some f) rest e = absurd (cc)

each_none : (f : ℕ → Option Fault) (from n : ℕ) → filter_map f (range_with_len from n) ≡ [] → (c : ℕ) → from ≤ c → c < from + n → f c ≡ None
each_none f from zero e c low high = absurd (omega (arith, low, high))
each_none f from (suc n) e c low high =
    let two = first_none (f from) (filter_map f (range_with_len (from + 1) n)) e in
    elim (cases_eq c from) [ inl same ↦ ap f same ∙ two.0 | inr differs ↦ each_none f (from + 1) n two.1 c (omega (arith, low, differs)) (omega (arith, high)) ]

-- ---- the owners

module _ (l : Layout) (held : Store) (cpu block : ℕ) (below : cpu < length l.chains) where
  abbrev grown : Layout
  grown = with_block l cpu block

  at_of : (c d n b : ℕ) → c ≡ d → slice_get (chain_of grown c) n ≡ Some b → slice_get (chain_of grown d) n ≡ Some b
  at_of c d n b same has = subst (λ (q : ℕ). slice_get (chain_of grown q) n ≡ Some b) same has

  -- an owner is one of before, or the table with its new block
  pub owned_was : (b : ℕ) (o : Owner) → OwnsIn grown held b o → OwnsIn l held b o ⊎ ((b ≡ block) × (o ≡ owners.Table cpu (length (chain_of l cpu))))
  owned_was b _ (by_table {c = c} {k = n} has) = elim (cases_eq c cpu) [
    | inl same ↦ elim (pushed_at (chain_of l cpu) n block b (ap (λ (blocks : List ℕ). slice_get blocks n) (sym (own_chain l cpu block below)) ∙ at_of c cpu n b same has)) [
      | inl old ↦ inl (subst (λ (q : ℕ). OwnsIn l held b (owners.Table q n)) (sym same) (by_table old))
      | inr new ↦ inr (new.1, λ i. owners.Table (same i) (new.0 i))
    ]
    | inr differs ↦ inl (by_table (ap (λ (blocks : List ℕ). slice_get blocks n) (sym (other_chain l cpu block below c differs)) ∙ has))
  ]
  owned_was b _ (by_log is page) = inl (by_log is page)
  owned_was b _ (by_page is maps) = inl (by_page is maps)

  pub owned_still : (b : ℕ) (o : Owner) → OwnsIn l held b o → OwnsIn grown held b o
  owned_still b _ (by_table {c = c} {k = n} has) = elim (cases_eq c cpu) [
    | inl same ↦ (
        let there : slice_get (chain_of l cpu) n ≡ Some b = subst (λ (q : ℕ). slice_get (chain_of l q) n ≡ Some b) same has in
        let now : slice_get (chain_of grown cpu) n ≡ Some b = ap (λ (blocks : List ℕ). slice_get blocks n) (own_chain l cpu block below) ∙ pushed_keeps (chain_of l cpu) n block b there in
        subst (λ (q : ℕ). OwnsIn grown held b (owners.Table q n)) (sym same) (by_table now))
    | inr differs ↦ by_table (ap (λ (blocks : List ℕ). slice_get blocks n) (other_chain l cpu block below c differs) ∙ has)
  ]
  owned_still b _ (by_log is page) = by_log is page
  owned_still b _ (by_page is maps) = by_page is maps

  owned_new : OwnsIn grown held block (owners.Table cpu (length (chain_of l cpu)))
  owned_new = by_table (ap (λ (blocks : List ℕ). slice_get blocks (length (chain_of l cpu))) (own_chain l cpu block below) ∙ pushed_last (chain_of l cpu) block)

  -- The free blocks are those of before but for it.
  pub grown_free : (b : ℕ) → IsUnowned grown held b ↔ (IsUnowned l held b × (b ≢ block))
  grown_free b = (
    (λ is. (
      record { from = is.from; below = is.below; unowned = λ o owns. is.unowned o (owned_still b o owns) },
      (λ same. is.unowned (owners.Table cpu (length (chain_of l cpu))) (subst (λ (q : ℕ). OwnsIn grown held q (owners.Table cpu (length (chain_of l cpu)))) (sym same) owned_new)),
    )),
    (λ was. record { from = was.0.from; below = was.0.below; unowned = λ o owns. elim (owned_was b o owns) [ inl old ↦ was.0.unowned o old | inr new ↦ was.1 new.0 ] }),
  )

  grown_undoubled : IsUnowned l held block → NoneDoubled l held → NoneDoubled grown held
  grown_undoubled free undoubled b o other x y = elim (owned_was b o x) [
    | inl one ↦ elim (owned_was b other y) [
      | inl two ↦ undoubled b o other one two
      | inr two ↦ absurd (free.unowned o (subst (λ (q : ℕ). OwnsIn l held q o) two.0 one))
    ]
    | inr one ↦ elim (owned_was b other y) [
      | inl two ↦ absurd (free.unowned other (subst (λ (q : ℕ). OwnsIn l held q other) one.0 two))
      | inr two ↦ one.1 ∙ sym two.1
    ]
  ]

table_cpu : (c k d n : ℕ) → owners.Table c k ≡ owners.Table d n → c ≡ d
table_cpu c k d n e = cc

-- ---- a free block can be linked

module _ {R : Region} {l : Layout} {held : Store} (m : ShowsSound R l held) (cpu block : ℕ) (below : cpu < l.sup.cpus) (free : IsUnowned l held block) where
  -- the owner of a block of a chain
  owner_there : (c n b : ℕ) → c < l.sup.cpus → slice_get (chain_in l.sup R c) n ≡ Some b → OwnsIn l held b (owners.Table c n)
  owner_there c n b less has = by_table (ap (λ (blocks : List ℕ). slice_get blocks n) (chain_is R l m.laid c less) ∙ has)

  one_chain : (c n d o b : ℕ) → c < l.sup.cpus → d < l.sup.cpus → slice_get (chain_in l.sup R c) n ≡ Some b → slice_get (chain_in l.sup R d) o ≡ Some b → c ≡ d
  one_chain c n d o b less few one two = table_cpu c n d o (m.faultless.undoubled b (owners.Table c n) (owners.Table d o) (owner_there c n b less one) (owner_there d o b few two))

  fresh : (c : ℕ) → c < l.sup.cpus → list_any (eqb block) (chain_in l.sup R c) ≡ false
  fresh c less = by (list_any (eqb block) (chain_in l.sup R c)) refl where
    by : (t : Bool) → list_any (eqb block) (chain_in l.sup R c) ≡ t → t ≡ false
    by false off = refl
    by true on = absurd (let found = found_at (chain_in l.sup R c) block on in free.unowned (owners.Table c found.0) (owner_there c found.0 block less found.1))

  alone : (c b : ℕ) → c < l.sup.cpus → c ≢ cpu → list_any (eqb b) (chain_in l.sup R c) ≡ true → link_behind (first_link cpu) (chain_in l.sup R cpu) ≢ 4096 * b
  alone c b less differs on same = elim (end_at (first_link cpu) (chain_in l.sup R cpu)) [
    | inl first ↦ omega (arith, first, same)
    | inr w ↦ (
        let there = w.3 in
        let block_is : w.1 ≡ b = omega (arith, there, same) in
        let found = found_at (chain_in l.sup R c) b on in
        differs (one_chain c found.0 cpu w.0 b less below found.1 (w.2 ∙ ap Some block_is)))
  ]

  pub can_link : l.sup.version ≡ 2 → CanLink l.sup R cpu block
  can_link version = record { version = version; below = below; from = free.from; to = free.below; fresh = fresh; alone = alone }

  -- ---- and then it is

  module _ (version : l.sup.version ≡ 2) (Q : Region) (len : size Q ≡ size R) (is : IsLinked R (link_behind (first_link cpu) (chain_in l.sup R cpu)) block Q) where
    abbrev link : ℕ
    link = link_behind (first_link cpu) (chain_in l.sup R cpu)

    abbrev new : Layout
    new = with_block l cpu block

    within : cpu < length l.chains
    within = let each = (tables_laid m.tables).each in omega (arith, each, below)

    clear : SlotsClear l held
    clear = sound_clear m

    laid : new ≡ layout_of l.sup Q
    laid = ap (λ (k : Layout). with_block k cpu block) m.laid ∙ sym (linked_layout l.sup R Q cpu block (can_link version) is)

    -- where the link stands
    link_there : (link ≡ first_link cpu) ⊎ ((n : ℕ) × (d : ℕ) × (slice_get (chain_in l.sup R cpu) n ≡ Some d) × (link ≡ 4096 * d))
    link_there = end_at (first_link cpu) (chain_in l.sup R cpu)

    link_data : (n d : ℕ) → slice_get (chain_in l.sup R cpu) n ≡ Some d → system_blocks l.sup ≤ d
    link_data n d has = ((tables_laid m.tables).inside cpu n d (ap (λ (blocks : List ℕ). slice_get blocks n) (chain_is R l m.laid cpu below) ∙ has)).0

    -- ---- the front

    front_word : (at : ℕ) → at % 8 ≡ 0 → at < (1 + l.sup.cpus) * 4096 → at ≢ first_link cpu → word Q at ≡ word R at
    front_word at whole low other = is.others at whole differs (inl (let from = free.from in omega (arith, from, low))) where
      differs : at ≢ link
      differs same = elim link_there [ inl first ↦ other (same ∙ first) | inr w ↦ (let data_from = link_data w.0 w.1 w.2 in let there = w.3 in omega (arith, same, there, low, data_from)) ]

    sup : IsSuper Q l.sup
    sup = super_stays R Q len (λ at whole before. front_word at whole (omega (arith, before)) (λ e. omega (arith, e, before))) l.sup m.sup

    idle : AreIdle l.sup.cpus Q
    idle c less =
        let d : dequeue Q c ≡ dequeue R c = front_word (journal c) (omega arith) (omega (arith, less)) (λ e. omega (arith, e)) in
        let e : enqueue Q c ≡ enqueue R c = front_word (journal c + 8) (omega arith) (omega (arith, less)) (λ e. omega (arith, e)) in
        let same : is_sound Q c ≡ is_sound R c = λ i. nat_lt (d i) 252 && nat_lt (e i) 252 in
        let w = m.idle c less in
        (same ∙ w.0, d ∙ w.1 ∙ sym e)

    -- ---- the ends of the chains

    chain_now : (c : ℕ) → c < l.sup.cpus → chain_in l.sup Q c ≡ chain_of new c
    chain_now c less = sym (chain_is Q new laid c less)

    away : (b : ℕ) → b ≢ block → (4096 * b < 4096 * block) ⊎ (4096 * block + 4096 ≤ 4096 * b)
    away b differs = elim (cases_lt b block) [ inl low ↦ inl (omega (arith, low)) | inr high ↦ inr (omega (arith, high, differs)) ]

    -- the last link of another chain
    other_last : (c : ℕ) → c < l.sup.cpus → c ≢ cpu → word Q (link_behind (first_link c) (chain_in l.sup R c)) ≡ word R (link_behind (first_link c) (chain_in l.sup R c))
    other_last c less differs = elim (end_at (first_link c) (chain_in l.sup R c)) [
      | inl first ↦ subst (λ (at : ℕ). word Q at ≡ word R at) (sym first) (front_word (first_link c) (omega arith) (omega (arith, less)) (λ e. differs (omega (arith, e))))
      | inr w ↦ subst (λ (at : ℕ). word Q at ≡ word R at) (sym w.3) (is.others (4096 * w.1) (omega arith) (apart w.0 w.1 w.2)
          (away w.1 (λ same. free.unowned (owners.Table c w.0) (owner_there c w.0 block less (w.2 ∙ ap Some same)))))
    ] where
      apart : (n d : ℕ) → slice_get (chain_in l.sup R c) n ≡ Some d → 4096 * d ≢ link
      apart n d has same = elim link_there [
        | inl first ↦ omega (arith, same, first)
        | inr w ↦ (
            let there = w.3 in
            let block_is : w.1 ≡ d = omega (arith, there, same) in
            differs (one_chain c n cpu w.0 d less below has (w.2 ∙ ap Some block_is)))
      ]

    neither : (t : Bool) (o : Option Fault) → o ≡ None → (if t then o else None) ≡ None
    neither true o none = none
    neither false o none = refl

    ended_at : (c : ℕ) → c < l.sup.cpus → end_fault l.sup Q c ≡ None
    ended_at c less = elim (cases_eq c cpu) [
      | inl same ↦ (
          let now : chain_in l.sup Q cpu ≡ chain_of l cpu ++ block ∷ [] = chain_now cpu below ∙ own_chain l cpu block within in
          let last : link_behind (first_link cpu) (chain_in l.sup Q cpu) ≡ 4096 * block = ap (link_behind (first_link cpu)) now ∙ link_last (first_link cpu) (chain_of l cpu) block in
          let start : 4096 * block ≡ 4096 * block + 128 * 0 = omega arith in
          let none : word Q (link_behind (first_link cpu) (chain_in l.sup Q cpu)) ≡ 0 = ap (word Q) (last ∙ start) ∙ is.blank 0 (omega arith) in
          ap (end_fault l.sup Q) same
          ∙ ap (λ (w : ℕ). if l.sup.version == 2 then link_fault l.sup cpu (link_behind (first_link cpu) (chain_in l.sup Q cpu)) w else None) none
          ∙ neither (l.sup.version == 2) (link_fault l.sup cpu (link_behind (first_link cpu) (chain_in l.sup Q cpu)) 0) refl)
      | inr differs ↦ (
          let now : chain_in l.sup Q c ≡ chain_in l.sup R c = chain_now c less ∙ other_chain l cpu block within c differs ∙ chain_is R l m.laid c less in
          ap (λ (blocks : List ℕ). if l.sup.version == 2 then fault_behind l.sup Q c blocks else None) now
          ∙ ap (λ (w : ℕ). if l.sup.version == 2 then link_fault l.sup c (link_behind (first_link c) (chain_in l.sup R c)) w else None) (other_last c less differs)
          ∙ each_none (end_fault l.sup R) 0 l.sup.cpus m.ended c (omega arith) (omega (arith, less)))
    ]

    ended : chain_faults l.sup Q ≡ []
    ended = none_each (end_fault l.sup Q) 0 l.sup.cpus (λ c low high. ended_at c (omega (arith, high)))

    -- ---- what is shown

    slot_word : (i a n : ℕ) → slot_of l i ≡ Some a → n % 8 ≡ 0 → n < 128 → word Q (a + n) ≡ word R (a + n)
    slot_word i a n at whole few = is.others (a + n) (omega (arith, whole, clear.whole i a at)) differs outside where
      differs : a + n ≢ link
      differs same = elim link_there [
        | inl first ↦ omega (arith, same, first, clear.behind i a at, below)
        | inr w ↦ (
            let there = w.3 in
            clear.unlinked i a cpu w.0 w.1 at (ap (λ (blocks : List ℕ). slice_get blocks w.0) (chain_is R l m.laid cpu below) ∙ w.2) (omega (arith, same, there, few, clear.whole i a at)))
      ]

      outside : (a + n < 4096 * block) ⊎ (4096 * block + 4096 ≤ a + n)
      outside = elim (cases_lt (a + n) (4096 * block)) [ inl low ↦ inl low | inr high ↦ inr (let other = clear.unfree block free i a at in omega (arith, high, other, few, whole, clear.whole i a at)) ]

    no_log : (d k j n : ℕ) → owners.Table d k ≡ owners.Log j n → ⊥
    no_log d k j n e = cc

    no_data : (d k j p : ℕ) → owners.Table d k ≡ owners.Data j p → ⊥
    no_data d k j p e = cc

    -- a word of a block that an inode owns
    owned_word : (b : ℕ) (o : Owner) → OwnsIn l held b o → ((d n : ℕ) → owners.Table d n ≡ o → ⊥) → system_blocks l.sup ≤ b → (x : ℕ) → x % 8 ≡ 0 → x / 4096 ≡ b → word Q x ≡ word R x
    owned_word b o owns no_table from x whole page = is.others x whole differs outside where
      differs : x ≢ link
      differs same = elim link_there [
        | inl first ↦ omega (arith, same, first, page, from, below)
        | inr w ↦ (
            let there = w.3 in
            let block_is : w.1 ≡ b = omega (arith, there, same, page) in
            no_table cpu w.0 (m.faultless.undoubled b (owners.Table cpu w.0) o (owner_there cpu w.0 b below (w.2 ∙ ap Some block_is)) owns))
      ]

      other : b ≢ block
      other same = free.unowned o (subst (λ (q : ℕ). OwnsIn l held q o) same owns)

      outside : (x < 4096 * block) ⊎ (4096 * block + 4096 ≤ x)
      outside = elim (cases_lt b block) [ inl low ↦ inl (omega (arith, low, page)) | inr high ↦ inr (omega (arith, high, other, page)) ]

    page_word : (i : ℕ) (h : Held) → held i ≡ Some h → (b : ℕ) → Contains h.pages b → (x : ℕ) → x % 8 ≡ 0 → x / 4096 ≡ b → word Q x ≡ word R x
    page_word i h here b c =
        let mine = page_owner l held i b h here c in
        let v = stands_at m.shows i h here in
        owned_word b (owners.Log i mine.0) mine.1 (λ d n. no_log d n i mine.0) (pages_data v.is.right v.is.reads b c)

    -- each byte of a file is where it was
    pub grown_bytes : (i : ℕ) (h : Held) → held i ≡ Some h → (x : ℕ) → byte_of Q new h x ≡ byte_of R l h x
    grown_bytes i h here x = same_byte R Q (block_of (good_in l h) (x / 4096)) x of_block where
      of_block : (b : ℕ) → block_of (good_in l h) (x / 4096) ≡ Some b → word Q (b * 4096 + x % 4096 / 8 * 8) ≡ word R (b * 4096 + x % 4096 / 8 * 8)
      of_block b maps =
          owned_word b (owners.Data i (x / 4096)) (by_page here maps) (λ d n. no_data d n i (x / 4096)) (data_pages l.sup h.kind h.entries (x / 4096) b maps).1
          (b * 4096 + x % 4096 / 8 * 8) (omega arith) (omega arith)

    holds_there : (i a : ℕ) (h : Held) → slot_of l i ≡ Some a → held i ≡ Some h → HoldsInode Q new a h
    holds_there i a h at here =
        let holds = holds_at m.shows i a h at here in
        let start : h.head % 4096 ≡ 0 = head_whole l.sup h.head h.tail holds.right in
        let plus : a + 0 ≡ a = omega arith in
        let first : word Q a ≡ word R a = ap (word Q) (sym plus) ∙ slot_word i a 0 at refl (omega arith) ∙ ap (word R) plus in
        record {
          kind = rw (first, slot_word i a 8 at refl (omega arith)) holds.kind;
          head = slot_word i a 16 at refl (omega arith) ∙ holds.head;
          tail = slot_word i a 24 at refl (omega arith) ∙ holds.tail;
          created = slot_word i a 32 at refl (omega arith) ∙ holds.created;
          right = holds.right;
          reads = ReadsOn-same Q (λ b in_all x whole page. page_word i h here b in_all x whole page) (0, omega arith, refl) (omega (arith, start)) (omega (arith, start)) holds.reads;
        }

    slot_there : (i a : ℕ) → slot_of new i ≡ Some a → (o : Option Held) → held i ≡ o → ShowsSlot Q new a o
    slot_there i a at (Some h) here =
        let v = stands_at m.shows i h here in
        let same : v.a ≡ a = some_is v.a a (slot_of new i) (slots_stay l cpu block i within v.a v.at) at in
        subst (λ (b : ℕ). HoldsInode Q new b h) same (holds_there i v.a h v.at here)
    slot_there i a at None here = elim (slots_unused l R Q link cpu block i a within is at) [
      | inl old ↦ (
          let plus : a + 0 ≡ a = omega arith in
          let none : word R a ≡ 0 = subst (λ (o : Option Held). ShowsSlot R l a o) here (m.shows.slots i a old) in
          ap (word Q) (sym plus) ∙ slot_word i a 0 old refl (omega arith) ∙ ap (word R) plus ∙ none)
      | inr none ↦ none
    ]

    only_there : (i : ℕ) → slot_of new i ≡ None → (o : Option ℕ) → slot_of l i ≡ o → held i ≡ None
    only_there i out None none = m.shows.only i none
    only_there i out (Some a) at = absurd (let clash : None ≡ Some a = sym out ∙ slots_stay l cpu block i within a at in cc)

    shows : Shows Q new held
    shows = record { slots = λ i a at. slot_there i a at (held i) refl; only = λ i out. only_there i out (slot_of l i) refl }

    faultless : IsFaultless new held
    faultless = record { clean = m.faultless.clean; undoubled = grown_undoubled l held cpu block within free m.faultless.undoubled; named = m.faultless.named }

    pub grown_sound : ShowsSound Q new held
    grown_sound = record { tables = record { sup = sup; laid = laid; ended = ended }; idle = idle; shows = shows; faultless = faultless }

-- Words of a free block are loose.
pub block_loose : (R left : Region) (l : Layout) (held : Store) (block : ℕ) → IsUnowned l held block → IsMixed R (Within (4096 * block) 4096) left → IsMixed R (Loose l held) left
block_loose R left l held block free mixed =
    mixed_more (Loose l held) (Within (4096 * block) 4096) R R left (λ i x w. (
    let from = w.0 in let to = w.1 in
    let here : block ≡ 8 * i / 4096 = omega (arith, from, to) in
    inl (subst (IsUnowned l held) here free))) (mixed_same R (Loose l held)) mixed

-- While words of the block alone have changed.
pub clearing_sound : (R left : Region) (l : Layout) (held : Store) (block : ℕ) → ShowsSound R l held → IsUnowned l held block → IsMixed R (Within (4096 * block) 4096) left → ShowsSound left l held
clearing_sound R left l held block m free mixed = loose_sound R left l held m (block_loose R left l held block free mixed)

-- Once it is linked.
pub linked_sound : (R Q : Region) (l : Layout) (held : Store) (cpu block : ℕ) → ShowsSound R l held → l.sup.version ≡ 2 → cpu < l.sup.cpus → IsUnowned l held block → size Q ≡ size R
    → IsLinked R (link_behind (first_link cpu) (chain_of l cpu)) block Q → ShowsSound Q (with_block l cpu block) held
linked_sound R Q l held cpu block m version below free len is =
    grown_sound m cpu block below free version Q len (subst (λ (blocks : List ℕ). IsLinked R (link_behind (first_link cpu) blocks) block Q) (chain_is R l m.laid cpu below) is)

pub linked_bytes : (R Q : Region) (l : Layout) (held : Store) (cpu block : ℕ) → ShowsSound R l held → l.sup.version ≡ 2 → cpu < l.sup.cpus → IsUnowned l held block → size Q ≡ size R
    → IsLinked R (link_behind (first_link cpu) (chain_of l cpu)) block Q → (i : ℕ) (h : Held) → held i ≡ Some h → (x : ℕ) → byte_of Q (with_block l cpu block) h x ≡ byte_of R l h x
linked_bytes R Q l held cpu block m version below free len is =
    grown_bytes m cpu block below free version Q len (subst (λ (blocks : List ℕ). IsLinked R (link_behind (first_link cpu) blocks) block Q) (chain_is R l m.laid cpu below) is)

-- What a stop leaves.
pub stopped_sound : (R left : Region) (l : Layout) (held : Store) (cpu block : ℕ) → ShowsSound R l held → l.sup.version ≡ 2 → cpu < l.sup.cpus → IsUnowned l held block → size left ≡ size R
    → LinksOrNot R (link_behind (first_link cpu) (chain_of l cpu)) block left → ShowsSound left l held ⊎ ShowsSound left (with_block l cpu block) held
stopped_sound R left l held cpu block m version below free len (inl mixed) = inl (clearing_sound R left l held block m free mixed)
stopped_sound R left l held cpu block m version below free len (inr is) = inr (linked_sound R left l held cpu block m version below free len is)

-- ---- rows and free lists

-- What a row says doesn't go by the chains.
pub row_stays : (l : Layout) (cpu block : ℕ) (h : Held) (row : Row) → KeepsRow l h row → KeepsRow (with_block l cpu block) h row
row_stays l cpu block h row told = record { kind = told.kind; numbers = told.numbers; head = told.head; tail = told.tail; pages = told.pages; index = told.index; names = told.names }

pub lists_without : (l : Layout) (held : Store) (cpu block : ℕ) (free : List (List Run)) → cpu < length l.chains → ArePoolRuns l (λ b. IsUnowned l held b × (b ≢ block)) free → KeepsFree (with_block l cpu block) held free
lists_without l held cpu block free below kept =
    let there : ArePoolRuns l (IsUnowned (with_block l cpu block) held) free = pools_same l (λ b. IsUnowned l held b × (b ≢ block)) (IsUnowned (with_block l cpu block) held) free (λ b. (let w = grown_free l held cpu block below b in (w.1, w.0))) kept in
    record { pools = there.pools; each = there.each }

pub grown_mounted : (R Q : Region) (l : Layout) (held : Store) (rows : List Row) (free without : List (List Run)) (cpu block : ℕ) → IsMounted R l held rows free → l.sup.version ≡ 2 → cpu < l.sup.cpus → IsUnowned l held block → size Q ≡ size R
    → IsLinked R (link_behind (first_link cpu) (chain_of l cpu)) block Q → ArePoolRuns l (λ b. IsUnowned l held b × (b ≢ block)) without → IsMounted Q (with_block l cpu block) held rows without
grown_mounted R Q l held rows free without cpu block m version below unowned len is lists =
    let sound = m.sound in
    let in_rows = m.keeps.in_rows in
    record {
      sound = linked_sound R Q l held cpu block sound version below unowned len is;
      keeps = record {
        in_rows = record {
          rising = in_rows.rising;
          each = λ row c. (let w = in_rows.each row c in (w.0, w.1, row_stays l cpu block w.0 row w.2));
          all = in_rows.all;
        };
        in_lists = lists_without l held cpu block without (let each = (tables_laid sound.tables).each in omega (arith, each, below)) lists;
      };
    }
