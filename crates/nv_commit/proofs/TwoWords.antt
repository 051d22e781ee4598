-- Words of slots that a journal changes together: what is shown then, and what the undone region shows meanwhile.
use Rattle.std.proofs.Common.{◌≡◌, ◌≢◌, ℕ, ◌+◌, ◌*◌, ◌/◌, ◌%◌, ◌<◌, ◌≤◌, ◌&&◌, ◌⊎◌, nat_lt, true, inl, inr, ap, sym, ◌∙◌, subst, arith, Some, slice_get}
use Rattle.std.proofs.lemmas.Bool.{cases_eq, cases_lt}
use Rattle.nv_region.specs.Region.{Region, word}
use Rattle.nv_region.specs.Stops.{Choices, IsMixed, LeavesOnly, NothingPending}
use Rattle.nv_region.specs.Stored.{SameOutside, StoresOnly}
use Rattle.nv_region.proofs.Stops.{mixed_left}
use Rattle.nv_region.proofs.Wordwise.{mixed_word}
use Rattle.nv_super.specs.Layout.{IsLayout, Layout, chain_of, slot_of, system_blocks}
use Rattle.nv_super.specs.Super.{IsSuper}
use Rattle.nv_super.proofs.Accepted.{super_stays}
use Rattle.nv_inode.specs.Chains.{first_link}
use Rattle.nv_inode.specs.Permitted.{is_permitted_by}
use Rattle.nv_journal.specs.Undo.{dequeue, enqueue, is_sound, journal, pending_of, undo, undone, undone_by}
use Rattle.nv_journal.specs.Pending.{IsEmpty, SameButJournals}
use Rattle.nv_journal.specs.Recorded.{JournalWords}
use Rattle.nv_journal.specs.Faults.{NoFault, NoJournalFault}
use Rattle.nv_journal.proofs.Faultless.{idle_faultless}
use Rattle.nv_journal.proofs.KeptLinks.{faults_undone, undone_layout}
use Rattle.nv_journal.proofs.Partly.{sound_of}
use Rattle.nv_journal.proofs.SuperKept.{super_undone}
use Rattle.nv_outcome.proofs.SuperOf.{layout_of_super}
use Rattle.nv_mounted.specs.Held.{Store, Shows}
use Rattle.nv_mounted.specs.Slots.{SlotsStand}
use Rattle.nv_mounted.specs.Front.{SameFront}
use Rattle.nv_mounted.specs.Mounted.{HasTables, ShowsSound}
use Rattle.nv_mounted.proofs.BytesKept.{mixed_size}
use Rattle.nv_mounted.proofs.Fronts.{front_idle, front_tables, shown_same, tables_laid}
use Rattle.nv_outcome.proofs.SameChains.{laid_there, same_ends}
use Rattle.nv_commit.specs.Together.{ShowsIdle, UndoneShows}

-- nothing is wrong with the journals of a region whose front is that of a sound one
pub no_fault : {R S : Region} {l : Layout} {held : Store} → ShowsSound R l held → SameFront l R S → NoJournalFault (is_permitted_by l) l.sup.cpus S
no_fault {R} {S} {l} sound front = idle_faultless (is_permitted_by l) l.sup.cpus S (front_idle R S l front sound.idle)

-- what a stop may leave where nothing was pending before these were stored
pub stop_mixed : {S now : Region} {these old new : Choices} → StoresOnly these S now old new → NothingPending S old → LeavesOnly now new (IsMixed S these)
stop_mixed {S} {now} {these} {old} {new} wrote settled = mixed_left S now these old new wrote.mixed.as_long wrote.mixed.same_rest settled wrote.adds

-- ---- the tables stay

-- the word of this number is one of a slot
abbrev pub IsInSlot : Layout → ℕ → Type 0
IsInSlot l k = (i : ℕ) × (a : ℕ) × (slot_of l i ≡ Some a) × (a ≤ 8 * k) × (8 * k < a + 128)

-- a journal's words but for its link, and others
abbrev pub ByJournal : ℕ → Choices → Choices
ByJournal cpu these k v = JournalWords cpu k v ⊎ these k v

-- an undone region has the tables of the region
pub tables_undone : {left : Region} {l : Layout} → HasTables left l → HasTables (undone l.sup left) l
tables_undone {left} {l} has =
    let layout : IsLayout l.sup = layout_of_super left l.sup has.sup in
    record {
      sup = super_undone l.sup left layout has.sup;
      laid = has.laid ∙ sym (undone_layout l.sup left layout);
      ended = faults_undone l.sup left layout ∙ has.ended;
    }

-- Where words of slots were stored, and those of a journal but for its link, the tables stay.
module _ {S left : Region} {l : Layout} {cpu : ℕ} (these : Choices) (inside : (k v : ℕ) → these k v → IsInSlot l k) (stand : SlotsStand l) (journals : cpu < l.sup.cpus) (mixed : IsMixed S (ByJournal cpu these) left) (has : HasTables S l) where
  first_same : (c : ℕ) → c < l.sup.cpus → word left (first_link c) ≡ word S (first_link c)
  first_same c below = mixed_word S left (ByJournal cpu these) (first_link c) (omega arith) mixed off where
    off : (v : ℕ) → ByJournal cpu these (first_link c / 8) v → ⊥
    off v (inl (inl w)) = let from = w.0 in let to = w.1 in omega (arith, from, to)
    off v (inl (inr w)) = let from = w.0 in let to = w.1 in omega (arith, from, to)
    off v (inr one) = let w = inside (first_link c / 8) v one in let from = w.3 in let behind = stand.behind w.0 w.1 w.2 in omega (arith, from, behind, below)

  link_same : (c k b : ℕ) → slice_get (chain_of l c) k ≡ Some b → word left (4096 * b) ≡ word S (4096 * b)
  link_same c k b there = mixed_word S left (ByJournal cpu these) (4096 * b) (omega arith) mixed off where
    from_data : system_blocks l.sup ≤ b
    from_data = ((tables_laid has).inside c k b there).0

    off : (v : ℕ) → ByJournal cpu these (4096 * b / 8) v → ⊥
    off v (inl (inl w)) = let to = w.1 in omega (arith, to, from_data, journals)
    off v (inl (inr w)) = let to = w.1 in omega (arith, to, from_data, journals)
    off v (inr one) =
        let w = inside (4096 * b / 8) v one in
        let from = w.3 in let to = w.4 in let whole = stand.whole w.0 w.1 w.2 in
        stand.unlinked w.0 w.1 c k b w.2 there (omega (arith, from, to, whole))

  sup_same : IsSuper left l.sup
  sup_same = super_stays S left (mixed_size mixed) (λ at whole low. mixed_word S left (ByJournal cpu these) at whole mixed (off at whole (omega (arith, low)))) l.sup has.sup where
    off : (at : ℕ) → at % 8 ≡ 0 → at < 4096 → (v : ℕ) → ByJournal cpu these (at / 8) v → ⊥
    off at whole low v (inl (inl w)) = let from = w.0 in omega (arith, from, whole, low)
    off at whole low v (inl (inr w)) = let from = w.0 in omega (arith, from, whole, low)
    off at whole low v (inr one) = let w = inside (at / 8) v one in let from = w.3 in let behind = stand.behind w.0 w.1 w.2 in omega (arith, from, behind, whole, low)

  pub tables_meanwhile : HasTables left l
  tables_meanwhile = record {
    sup = sup_same;
    laid = laid_there S left l has.laid first_same link_same;
    ended = same_ends S left l has.laid first_same link_same ∙ has.ended;
  }

-- ---- what is shown

module _ {R S both : Region} {l : Layout} {held after : Store} {cpu : ℕ} (these : Choices) (inside : (k v : ℕ) → these k v → IsInSlot l k) (sound : ShowsSound R l held) (stand : SlotsStand l) (journals : cpu < l.sup.cpus)
    (front : SameFront l R S) (shows : Shows S l held) (both_front : SameFront l R both) (both_show : Shows both l after) where
  tables_then : (left : Region) → IsMixed S (ByJournal cpu these) left → HasTables left l
  tables_then left mixed = tables_meanwhile these inside stand journals mixed (front_tables R S l front sound.tables)

  -- after the change
  module _ (N : Region) (outside : SameOutside both (journal cpu) 4096 N) (empty : IsEmpty N cpu) where
    other_word : (c : ℕ) → c ≢ cpu → (at : ℕ) → at % 8 ≡ 0 → journal c ≤ at → at < journal c + 4096 → word N at ≡ word both at
    other_word c differs at whole low high = elim (cases_lt c cpu) [ inl less ↦ outside.before at whole (omega (arith, less, high)) | inr more ↦ outside.behind at whole (omega (arith, more, differs, low)) ]

    other_idle : (c : ℕ) → c ≢ cpu → c < l.sup.cpus → (is_sound N c ≡ true) × (dequeue N c ≡ enqueue N c)
    other_idle c differs below =
        let d : dequeue N c ≡ dequeue both c = other_word c differs (journal c) (omega arith) (omega arith) (omega arith) in
        let e : enqueue N c ≡ enqueue both c = other_word c differs (journal c + 8) (omega arith) (omega arith) (omega arith) in
        let same : is_sound N c ≡ is_sound both c = λ k. nat_lt (d k) 252 && nat_lt (e k) 252 in
        let was = front_idle R both l both_front sound.idle c below in
        (same ∙ was.0, d ∙ was.1 ∙ sym e)

    idle_there : (c : ℕ) → c < l.sup.cpus → (is_sound N c ≡ true) × (dequeue N c ≡ enqueue N c)
    idle_there c below = elim (cases_eq c cpu) [
      | inl same ↦ subst (λ (k : ℕ). (is_sound N k ≡ true) × (dequeue N k ≡ enqueue N k)) (sym same) (sound_of (pending_of N cpu) (omega (arith, empty.0, empty.1), empty.1), empty.0)
      | inr differs ↦ other_idle c differs below
    ]

    pub words_idle : IsMixed S (ByJournal cpu these) N → ShowsIdle N l after
    words_idle mixed = record {
      tables = tables_then N mixed;
      idle = idle_there;
      shows = shown_same l after both N stand (λ at whole high. outside.behind at whole (omega (arith, high, journals))) both_show;
    }

  own_undone : (left : Region) → HasTables (undone l.sup left) l → SameButJournals l.sup.cpus S (undone l.sup left) ⊎ SameButJournals l.sup.cpus both (undone l.sup left) → NoFault l.sup left → UndoneShows l held left ⊎ UndoneShows l after left
  own_undone left has (inl was) none = inl (record { tables = has; shows = shown_same l held S (undone l.sup left) stand (λ at whole high. was.words at whole (inr high)) shows; journals = none })
  own_undone left has (inr now) none = inr (record { tables = has; shows = shown_same l after both (undone l.sup left) stand (λ at whole high. now.words at whole (inr high)) both_show; journals = none })

  -- the undone region while they change, by the region's own tables, which stay
  pub words_undone : (left : Region) → SameButJournals l.sup.cpus S (undo (is_permitted_by l) l.sup.cpus left) ⊎ SameButJournals l.sup.cpus both (undo (is_permitted_by l) l.sup.cpus left) → NoJournalFault (is_permitted_by l) l.sup.cpus left
      → IsMixed S (ByJournal cpu these) left → UndoneShows l held left ⊎ UndoneShows l after left
  words_undone left either none mixed =
      let has = tables_then left mixed in
      let own : undone_by l left ≡ undone l.sup left = ap (λ (m : Layout). undone_by m left) has.laid in
      own_undone left (tables_undone has) (subst (λ (U : Region). SameButJournals l.sup.cpus S U ⊎ SameButJournals l.sup.cpus both U) own either)
      (subst (λ (m : Layout). NoJournalFault (is_permitted_by m) l.sup.cpus left) has.laid none)
