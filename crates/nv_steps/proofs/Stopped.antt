-- What a stop leaves of entries behind the log of a row.
use Rattle.std.proofs.Common.{◌≡◌, ℕ, ◌*◌, ◌/◌, ◌%◌, ◌≤◌, ◌<◌, ◌++◌, inl, inr, List, [], ◌∷◌, get_or, length, refl, ap, sym, ◌∙◌, subst, arith, Some}
use Rattle.std.proofs.lemmas.Bool.{cases_lt}
use Rattle.std.proofs.lemmas.List.{get_or_past}
use Rattle.nv_region.specs.Region.{Region}
use Rattle.nv_region.specs.Stops.{Choices, IsMixed, LeavesOnly, NothingPending, PendingOnly}
use Rattle.nv_region.specs.Stored.{StoresOnly}
use Rattle.nv_region.proofs.Stops.{mixed_left, mixed_same}
use Rattle.nv_region.proofs.Wordwise.{mixed_more}
use Rattle.nv_super.specs.Layout.{Layout}
use Rattle.nv_alloc.specs.FreeValue.{FreeLists}
use Rattle.nv_alloc.specs.Taking.{HasBlock}
use Rattle.nv_bytes.specs.Storing.{InBlocks}
use Rattle.nv_entry.specs.declared.entry.AttrEntry.{AttrEntry}
use Rattle.nv_entry.specs.declared.entry.Entry.{Entry}
use Rattle.nv_entry.specs.declared.entry.Entry.TheVariants.{Attr}
use Rattle.nv_logpage.specs.Append.{AreGiven, end_of, needed}
use Rattle.nv_scan.specs.declared.piece.Row.{Row}
use Rattle.nv_mounted.specs.Held.{Held, Store}
use Rattle.nv_mounted.specs.Blocks.{IsUnowned}
use Rattle.nv_mounted.specs.Loose.{Loose}
use Rattle.nv_mounted.specs.Mounted.{ShowsSound}
use Rattle.nv_mounted.proofs.Fronts.{front_idle, front_super, loose_sound}
use Rattle.nv_mounted.proofs.Idle.{idle_faultless, idle_undone}
use Rattle.nv_outcome.proofs.SuperOf.{layout_of_super}
use Rattle.nv_journal.specs.Undo.{undone}
use Rattle.nv_commit.specs.Extends.{BeforeOrExtended, CanExtend, ExtendWords, LooseOrExtended, ShowsMoved, with_log}
use Rattle.nv_commit.specs.Stopped.{CanRecover, LeavesEither}
use Rattle.nv_commit.proofs.Left.{loose_recovers, one_held, sound_recovers}
use Rattle.nv_steps.specs.Grown.{HasGrown}
use Rattle.nv_steps.specs.Steps.{ShowsRow}
use Rattle.nv_steps.specs.Stopped.{Appended, Attributed}
use Rattle.nv_steps.specs.Stores.{StoresIn, one_log}
use Rattle.nv_steps.specs.Taken.{TakesEach}
use Rattle.nv_steps.specs.Written.{Commits, HoldEntries, entry_blocks}
use Rattle.nv_steps.proofs.Attributed.{attributes_follow, has_attributes, numbers_with}
use Rattle.nv_steps.proofs.LogGrows.{can_extend, extended_bytes}
use Rattle.nv_steps.proofs.Stores.{one_stores}
use Rattle.nv_steps.proofs.TakenBlocks.{taken_sup}
use Rattle.nv_steps.specs.Slots.{slot_in}

-- a row whose log goes on
abbrev pub grown_row : Row → List ℕ → ℕ → Row
grown_row row fresh end = record row { tail = end; pages = record row.pages { items = row.pages.items ++ fresh } }

pub grown_row_has : (row : Row) (fresh : List ℕ) (end : ℕ) → HasGrown row fresh end (grown_row row fresh end)
grown_row_has row fresh end = record { inode = refl; kind = refl; numbers = refl; head = refl; tail = refl; pages = refl; index = refl; names = refl }

-- A region with the superblock and the journals of a sound one is its own undo.
module _ {R left : Region} {l : Layout} {held after : Store} (sound : ShowsSound R l held) (moved : ShowsMoved R l after left) where
  pub moved_can : CanRecover l.sup left
  moved_can = record { sup = front_super R left l moved.front sound.sup; journals = λ f h. idle_faultless l.sup left f (front_idle R left l moved.front sound.idle) h }

  pub moved_undo : undone l.sup left ≡ left
  moved_undo = idle_undone l.sup left (layout_of_super R l.sup sound.sup) (front_idle R left l moved.front sound.idle)

-- What is so for one thing that is held is so for whatever is held of the region.
pub for_any : {R left : Region} {l : Layout} {held : Store} {i : ℕ} {h : Held} {slot tail : ℕ} {entries : List Entry} {fresh : List ℕ} → ShowsSound R l held → held i ≡ Some h → ShowsMoved R l (with_log held i h entries fresh) left
    → (other : Store) (g : Held) → CanExtend R l other i g slot tail entries fresh → ShowsMoved R l (with_log other i g entries fresh) left
for_any {R} {left} {l} {held} {i} {h} {slot} {tail} {entries} {fresh} sound is moved other g can =
    let shown = can.sound in
    let same : held ≡ other = one_held sound.shows shown.shows in
    let both : Some h ≡ Some g = sym is ∙ ap (λ (st : Store). st i) same ∙ can.holds in
    let one : h ≡ g = cc in
    subst (λ (k : Held). ShowsMoved R l (with_log other i k entries fresh) left) one (subst (λ (st : Store). ShowsMoved R l (with_log st i h entries fresh) left) same moved)

module _ {R : Region} {l : Layout} {held : Store} {h : Held} {row : Row} {free after : FreeLists} {cpu : ℕ} (entries : List Entry) (fresh given : List ℕ) (slot : ℕ) (same : given ≡ fresh) (at : slot ≡ slot_in l row.inode)
    (shows : ShowsRow R l held h row free) (lists : free.sup ≡ l.sup) (taken : TakesEach free cpu fresh after) (count : length fresh ≡ needed (row.tail % 4096) entries) (allowed : AreGiven entries) (some : 0 < length entries) where
  abbrev taken_there : TakesEach free cpu given after
  taken_there = subst (λ (blocks : List ℕ). TakesEach free cpu blocks after) (sym same) taken

  abbrev count_there : length given ≡ needed (row.tail % 4096) entries
  count_there = ap (λ (blocks : List ℕ). length blocks) same ∙ count

  can : CanExtend R l held row.inode h (slot_in l row.inode) row.tail entries given
  can = can_extend entries shows lists taken_there count_there allowed some

  -- What their commit stores.
  pub log_stores : (now : Region) → IsMixed R (ExtendWords slot row.tail entries given) now → StoresIn l held (one_log l row.inode) R now
  log_stores now mixed = one_stores can (subst (λ (a : ℕ). IsMixed R (ExtendWords a row.tail entries given) now) at mixed)

  -- What a stop leaves of it.
  pub left_log : (now : Region) (old new : Choices) → StoresOnly (ExtendWords slot row.tail entries given) R now old new → NothingPending R old
      → (CanExtend R l held row.inode h slot row.tail entries given → NothingPending R old → LeavesOnly now new (BeforeOrExtended R l held row.inode h entries given))
      → LeavesOnly now new (LeavesEither R l held (Appended R l free cpu row entries))
  left_log now old new wrote settled stops left may = by (stops (subst (λ (a : ℕ). CanExtend R l held row.inode h a row.tail entries given) (sym at) can) settled left may) where
    mixed : IsMixed R (ExtendWords (slot_in l row.inode) row.tail entries given) left
    mixed =
        let stored = wrote.mixed in
        subst (λ (a : ℕ). IsMixed R (ExtendWords a row.tail entries given) left) at (mixed_left R now (ExtendWords slot row.tail entries given) old new stored.as_long stored.same_rest settled wrote.adds left may)

    by : BeforeOrExtended R l held row.inode h entries given left → LeavesEither R l held (Appended R l free cpu row entries) left
    by (inl sound) = inl (sound_recovers R left l held held sound (extended_bytes can mixed))
    by (inr moved) = inr (
      moved_can shows.sound moved,
      subst (Appended R l free cpu row entries) (sym (moved_undo shows.sound moved)) (
        after,
        grown_row row given (end_of given 0 row.tail entries),
        record {
          fresh = given;
          taken = taken_there;
          count = count_there;
          row = grown_row_has row given (end_of given 0 row.tail entries);
          moved = for_any shows.sound shows.holds moved;
          mixed = mixed;
        },
      ),
    )

-- The same of an attributes entry, with what it says.
pub left_attributes : {R : Region} {l : Layout} {held : Store} {free : FreeLists} {cpu : ℕ} {row : Row} (x : AttrEntry) → free.sup ≡ l.sup → x.mode ≤ 4095 → x.size ≡ row.numbers.size → (left : Region) → LeavesEither R l held (Appended R l free cpu row (Attr x ∷ [])) left → LeavesEither R l held (Attributed R l free cpu row x) left
left_attributes x lists mode size left (inl same) = inl same
left_attributes {l = l} x lists mode size left (inr w) =
    let made = w.1 in
    let grown = made.2 in
    inr (w.0, (made.0, record made.1 { numbers = numbers_with made.1.numbers x }, (λ held h shows. attributes_follow x shows lists grown mode size), has_attributes x grown.row refl size, taken_sup grown.taken))

-- ---- data that was stored before

-- Of words that nothing is read from those that were stored are pending.
pub loose_pending : (R mid : Region) (those these old new : Choices) → ((i x y : ℕ) → these i y → those i x) → NothingPending R old → StoresOnly these R mid old new → PendingOnly mid new those
loose_pending R mid those these old new within settled wrote i x may = elim (wrote.adds i x may) [
  | inl before ↦ (
      let was : x ≡ get_or R.words i 0 = settled i x before in
      let mixed = wrote.mixed in
      elim (cases_lt i (length R.words)) [
        | inl inside ↦ (elim (mixed.each_word i inside) [ inl same ↦ inl (was ∙ sym same) | inr one ↦ inr (within i x (get_or mid.words i 0) one) ])
        | inr past ↦ inl (was ∙ get_or_past R.words i 0 past ∙ sym (get_or_past mid.words i 0 (let long = mixed.as_long in omega (arith, long, past))))
      ])
  | inr one ↦ inr (within i x x one)
]

module _ {R : Region} {l : Layout} {held : Store} {inode : ℕ} {h : Held} {slot tail : ℕ} (bytes : ℕ → ℕ) (entries stored given : List Entry) (fresh over : List ℕ) (same_stored : stored ≡ entries) (same_given : given ≡ entries) (same_over : over ≡ fresh)
    (can : CanExtend R l held inode h slot tail entries fresh) (free : (b : ℕ) → HasBlock (entry_blocks entries) b → IsUnowned l held b) (first : Choices) (settled : NothingPending R first) where
  in_loose : (i x y : ℕ) → InBlocks (HasBlock (entry_blocks stored)) i y → Loose l held i x
  in_loose i x y w = inl (free (8 * i / 4096) (subst (λ (es : List Entry). HasBlock (entry_blocks es) (8 * i / 4096)) same_stored w))

  -- before the entries are written
  data_mixed : (left : Region) → IsMixed R (InBlocks (HasBlock (entry_blocks stored))) left → IsMixed R (Loose l held) left
  data_mixed left mixed = mixed_more (Loose l held) (InBlocks (HasBlock (entry_blocks stored))) R R left (λ i x w. in_loose i x x w) (mixed_same R (Loose l held)) mixed

  pub data_left : (now : Region) (last : Choices) (Made : Region → Type 0) → StoresOnly (InBlocks (HasBlock (entry_blocks stored))) R now first last → LeavesOnly now last (LeavesEither R l held Made)
  data_left now last Made wrote left may =
      let mixed = wrote.mixed in
      inl (loose_recovers R left l held can.sound (data_mixed left (mixed_left R now (InBlocks (HasBlock (entry_blocks stored))) first last mixed.as_long mixed.same_rest settled wrote.adds left may)))

  module _ {mid : Region} (mids : Choices) (wrote : StoresOnly (InBlocks (HasBlock (entry_blocks stored))) R mid first mids) (holds : HoldEntries mid bytes stored) where
    mid_mixed : IsMixed R (Loose l held) mid
    mid_mixed = data_mixed mid wrote.mixed

    mid_sound : ShowsSound mid l held
    mid_sound = loose_sound R mid l held can.sound mid_mixed

    mid_can : CanExtend mid l held inode h slot tail given over
    mid_can =
        subst (λ (es : List Entry). CanExtend mid l held inode h slot tail es over) (sym same_given)
        (subst (λ (bs : List ℕ). CanExtend mid l held inode h slot tail entries bs) (sym same_over)
        (record { sound = mid_sound; at = can.at; holds = can.holds; tail_is = can.tail_is; free = can.free; differ = can.differ; enough = can.enough; given = can.given; some = can.some }))

    -- What a stop leaves once the data are stored, where the entries are written or committed.
    pub commit_left : (now : Region) (last : Choices) → (CanExtend mid l held inode h slot tail given over → PendingOnly mid mids (Loose l held) → LeavesOnly now last (LooseOrExtended mid l held inode h slot tail given over))
        → LeavesOnly now last (LeavesEither R l held (λ S. Commits R S l inode slot tail bytes entries fresh))
    commit_left now last stops left may =
        by (subst (λ (es : List Entry). LooseOrExtended mid l held inode h slot tail es fresh left) same_given
        (subst (λ (bs : List ℕ). LooseOrExtended mid l held inode h slot tail given bs left) same_over
        (stops mid_can (loose_pending R mid (Loose l held) (InBlocks (HasBlock (entry_blocks stored))) first mids in_loose settled wrote) left may)))
      where
        by : LooseOrExtended mid l held inode h slot tail entries fresh left → LeavesEither R l held (λ S. Commits R S l inode slot tail bytes entries fresh) left
        by (inl loose) = inl (loose_recovers R left l held can.sound (mixed_more (Loose l held) (Loose l held) R mid left (λ i x w. w) mid_mixed loose))
        by (inr w) = inr (
          moved_can mid_sound w.0,
          subst (λ (S : Region). Commits R S l inode slot tail bytes entries fresh) (sym (moved_undo mid_sound w.0)) (record {
            mid = mid;
            «data» = subst (λ (es : List Entry). IsMixed R (InBlocks (HasBlock (entry_blocks es))) mid) same_stored wrote.mixed;
            holds = subst (λ (es : List Entry). HoldEntries mid bytes es) same_stored holds;
            moved = for_any mid_sound can.holds w.0;
            mixed = w.1;
          }),
        )
