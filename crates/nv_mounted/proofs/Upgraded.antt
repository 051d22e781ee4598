-- A mounted region of version 1 that is upgraded: it shows what it showed, and nothing is wrong with it.
use Rattle.std.proofs.Common.{◌≡◌, ◌≢◌, ℕ, ◌+◌, ◌%◌, ◌<◌, ◌≤◌, ◌&&◌, ◌||◌, nat_lt, Bool, true, false, cond, not, List, [], ◌∷◌, ◌++◌, Option, Some, None, refl, ap, sym, ◌∙◌, subst, arith, append_assoc}
use Rattle.std.specs.Prelude.{IsTrue}
use Rattle.std.specs.Option.{option_map, option_and_then}
use Rattle.nv_region.specs.Region.{Region, word}
use Rattle.nv_region.specs.Stops.{IsMixed}
use Rattle.nv_region.proofs.Wordwise.{mixed_word}
use Rattle.nv_super.specs.declared.superblock.Super.{Super}
use Rattle.nv_super.specs.declared.kind.Kind.{Kind}
use Rattle.nv_super.specs.declared.kind.Kind.TheVariants.{File, Directory}
use Rattle.nv_super.specs.declared.owners.Owner.{Owner}
use Rattle.nv_super.specs.declared.owners.Run.{Run}
use Rattle.nv_super.specs.declared.faults.Fault.TheVariants as faults
use Rattle.nv_super.specs.Layout.{Layout, is_name_number}
use Rattle.nv_inode.specs.Chains.{first_link}
use Rattle.nv_inode.specs.Upgraded.{IsUpgraded, NoLinks, upgraded, upgraded_layout}
use Rattle.nv_inode.proofs.FixedLayout.{fixed_faults, layout_fixed}
use Rattle.nv_inode.proofs.NameNumbers.{grown_names}
use Rattle.nv_inode.proofs.UpgradedTables.{faults_upgraded, layout_upgraded, super_after, super_before}
use Rattle.nv_journal.specs.Undo.{dequeue, enqueue, is_sound, journal}
use Rattle.nv_entry.specs.declared.content.ContentFault.{ContentFault}
use Rattle.nv_entry.specs.declared.content.ContentFault.TheVariants.{OutOfRange, WrongKind}
use Rattle.nv_entry.specs.declared.entry.Entry.{Entry}
use Rattle.nv_entry.specs.declared.entry.Entry.TheVariants.{NextPage, Write, Attr, Name, Links}
use Rattle.nv_entry.specs.Content.{content_fault, has_bad_byte, is_dots, is_good, is_out_of_range, is_wrong_kind}
use Rattle.nv_logpage.specs.declared.found.LogEnd.{LogEnd}
use Rattle.nv_logpage.specs.declared.found.Placed.{Placed}
use Rattle.nv_logpage.specs.Good.{good_entries}
use Rattle.nv_logpage.specs.Reads.{ReadsOn, ends, reads, turns}
use Rattle.nv_scan.specs.Faults.{StandsBehind, e1, e2, e3, e4}
use Rattle.nv_scan.specs.Rows.{AreNumbers}
use Rattle.nv_scan.specs.State.{block_of, links_of, named}
use Rattle.nv_scan.specs.declared.piece.Row.{Row}
use Rattle.nv_alloc.proofs.Changed.{AreRuns-same}
use Rattle.nv_graph.specs.Calls.{SameGraph}
use Rattle.nv_graph.proofs.Root.{same_faultless}
use Rattle.nv_mounted.specs.Held.{Held, Shows, ShowsSlot, Store, good_in}
use Rattle.nv_mounted.specs.Blocks.{IsUnowned, OwnsIn, by_log, by_page, by_table}
use Rattle.nv_mounted.specs.Front.{SameBehind}
use Rattle.nv_mounted.specs.Graph.{graph_in, node_in, target_in}
use Rattle.nv_mounted.specs.Grows.{NoEntryFault}
use Rattle.nv_mounted.specs.Mounted.{AreIdle, HasTables, IsFaultless, IsMounted, Keeps, KeepsRow, ShowsSound}
use Rattle.nv_mounted.proofs.Fronts.{shown_same, sound_clear}

-- ---- entries that are right in version 1

-- a name that may say its number still may
name_stays : (bad dots was now : Bool) → (IsTrue was → IsTrue now) → cond (bad || dots || not was) (Some OutOfRange) None ≡ None → cond (bad || dots || not now) (Some OutOfRange) None ≡ None
name_stays true dots was now grows right = absurd (cc)
name_stays false true was now grows right = absurd (cc)
name_stays false false false now grows right = absurd (cc)
name_stays false false true now grows right = ap (λ (t : Bool). cond (not t) (Some OutOfRange) None) (grows refl)

content_stays : (s : Super) (kind : Kind) (e : Entry) → s.version ≡ 1 → content_fault s kind e ≡ None → content_fault (upgraded s) kind e ≡ None
content_stays s kind NextPage one right = right
content_stays s kind (Write e) one right = right
content_stays s kind (Attr e) one right = right
content_stays s kind (Links e) one right = right
content_stays s File (Name e) one right = right
content_stays s Directory (Name e) one right = name_stays (has_bad_byte e.name) (is_dots e.name) (is_name_number s e.inode) (is_name_number (upgraded s) e.inode) (grown_names s e.inode one) right

-- what has no fault counts
right_counts : (wrong out : Bool) → cond wrong (Some WrongKind) (cond out (Some OutOfRange) None) ≡ None → (not wrong && not out) ≡ true
right_counts true out right = absurd (cc)
right_counts false true right = absurd (cc)
right_counts false false right = refl

counts : (s : Super) (kind : Kind) (e : Entry) → content_fault s kind e ≡ None → is_good s kind e ≡ true
counts s kind e right = right_counts (is_wrong_kind e kind) (is_out_of_range s kind e) right

-- no entry has a fault by itself
abbrev pub AreRight : Super → Kind → List Placed → Type 0
AreRight s kind [] = Unit {0}
AreRight s kind (x ∷ xs) = (content_fault s kind x.entry ≡ None) × AreRight s kind xs

front_right : (s : Super) (kind : Kind) (xs ys : List Placed) → AreRight s kind (xs ++ ys) → AreRight s kind xs
front_right s kind [] ys are = tt
front_right s kind (x ∷ xs) ys are = (are.0, front_right s kind xs ys are.1)

rest_right : (s : Super) (kind : Kind) (xs ys : List Placed) → AreRight s kind (xs ++ ys) → AreRight s kind ys
rest_right s kind [] ys are = are
rest_right s kind (x ∷ xs) ys are = rest_right s kind xs ys are.1

-- the same entries count
same_good : (s : Super) (kind : Kind) (xs : List Placed) → s.version ≡ 1 → AreRight s kind xs → good_entries (upgraded s) kind xs ≡ good_entries s kind xs
same_good s kind [] one are = refl
same_good s kind (x ∷ xs) one are =
    let test : is_good (upgraded s) kind x.entry ≡ is_good s kind x.entry = counts (upgraded s) kind x.entry (content_stays s kind x.entry one are.0) ∙ sym (counts s kind x.entry are.0) in
    let rest = same_good s kind xs one are.1 in
    λ i. cond (test i) (x ∷ rest i) (rest i)

module _ (s : Super) (kind : Kind) (i : ℕ) (entries : List Placed) (clean : NoEntryFault s kind i entries) where
  right_at : (before : List Placed) (x : Placed) → StandsBehind entries before x → (o : Option ContentFault) → content_fault s kind x.entry ≡ o → o ≡ None
  right_at before x stands None is = refl
  right_at before x stands (Some OutOfRange) is = absurd (clean (faults.E1 i x.at) (e1 before x stands is))
  right_at before x stands (Some WrongKind) is = absurd (clean (faults.E2 i x.at) (e2 before x stands is))

  right_from : (before after : List Placed) → entries ≡ before ++ after → AreRight s kind after
  right_from before [] is = tt
  right_from before (x ∷ after) is = (
    right_at before x (after, is) (content_fault s kind x.entry) refl,
    right_from (before ++ x ∷ []) after (is ∙ sym (append_assoc before (x ∷ []) after)),
  )

  pub all_right : AreRight s kind entries
  all_right = right_from [] entries refl

  module _ (one : s.version ≡ 1) where
    -- those before an entry
    same_before : (before : List Placed) (x : Placed) → StandsBehind entries before x → good_entries (upgraded s) kind before ≡ good_entries s kind before
    same_before before x stands = same_good s kind before one (front_right s kind before (x ∷ stands.0) (subst (AreRight s kind) stands.1 all_right))

    right_there : (before : List Placed) (x : Placed) → StandsBehind entries before x → content_fault s kind x.entry ≡ None
    right_there before x stands = (rest_right s kind before (x ∷ stands.0) (subst (AreRight s kind) stands.1 all_right)).0

    not_both : (before : List Placed) (x : Placed) (f : ContentFault) → StandsBehind entries before x → content_fault (upgraded s) kind x.entry ≡ Some f → ⊥
    not_both before x f stands is = let clash : None ≡ Some f = sym (content_stays s kind x.entry one (right_there before x stands)) ∙ is in cc

    -- nothing is wrong with them in version 2
    pub still_clean : NoEntryFault (upgraded s) kind i entries
    still_clean _ (e1 before x stands is) = not_both before x OutOfRange stands is
    still_clean _ (e2 before x stands is) = not_both before x WrongKind stands is
    still_clean _ (e3 before at e old stands good add there) =
        clean (faults.E3 i at) (e3 before at e old stands (right_there before _ stands) add (ap (λ (xs : List Placed). named xs e.name) (sym (same_before before _ stands)) ∙ there))
    still_clean _ (e4 before at e stands good remove none) =
        clean (faults.E4 i at) (e4 before at e stands (right_there before _ stands) remove (ap (λ (xs : List Placed). named xs e.name) (sym (same_before before _ stands)) ∙ none))

-- a log is read alike
reads_alike : {R : Region} {s : Super} {tail : ℕ} {pages : List ℕ} {p : ℕ} {es : List Placed} {all : List ℕ} {fault : Option LogEnd} → ReadsOn R s tail pages p es all fault → ReadsOn R (upgraded s) tail pages p es all fault
reads_alike (ends found) = ends found
reads_alike (reads found more) = reads found (reads_alike more)
reads_alike (turns found more) = turns found (reads_alike more)

-- ---- what is held, by the two layouts

module _ (l : Layout) (held : Store) (one : l.sup.version ≡ 1) (faultless : IsFaultless l held) where
  abbrev new : Layout
  new = upgraded_layout l

  clean_of : (i : ℕ) (h : Held) → held i ≡ Some h → NoEntryFault l.sup h.kind i h.entries
  clean_of i h is = λ f. faultless.clean i h f is

  pub good_alike : (i : ℕ) (h : Held) → held i ≡ Some h → good_in new h ≡ good_in l h
  good_alike i h is = same_good l.sup h.kind h.entries one (all_right l.sup h.kind i h.entries (clean_of i h is))

  owned_was : (b : ℕ) (o : Owner) → OwnsIn new held b o → OwnsIn l held b o
  owned_was b _ (by_table has) = by_table has
  owned_was b _ (by_log is page) = by_log is page
  owned_was b _ (by_page {i = i} {p = p} {h = h} is maps) = by_page is (ap (λ (es : List Placed). block_of es p) (sym (good_alike i h is)) ∙ maps)

  owned_still : (b : ℕ) (o : Owner) → OwnsIn l held b o → OwnsIn new held b o
  owned_still b _ (by_table has) = by_table has
  owned_still b _ (by_log is page) = by_log is page
  owned_still b _ (by_page {i = i} {p = p} {h = h} is maps) = by_page is (ap (λ (es : List Placed). block_of es p) (good_alike i h is) ∙ maps)

  node_alike : (i : ℕ) (o : Option Held) → held i ≡ o → option_map (node_in new) o ≡ option_map (node_in l) o
  node_alike i None is = refl
  node_alike i (Some h) is = let same = good_alike i h is in λ k. Some (record { kind = h.kind; links = links_of (same k) })

  name_alike : (i : ℕ) (name : List ℕ) (o : Option Held) → held i ≡ o → option_and_then (target_in new name) o ≡ option_and_then (target_in l name) o
  name_alike i name None is = refl
  name_alike i name (Some h) is = ap (λ (es : List Placed). option_map (λ (x : ℕ × ℕ). x.0) (named es name)) (good_alike i h is)

  graph_alike : SameGraph (graph_in l held) (graph_in new held)
  graph_alike = record { node = λ i. node_alike i (held i) refl; name = λ i name. name_alike i name (held i) refl }

  -- Nothing is wrong.
  pub upgraded_faultless : IsFaultless new held
  upgraded_faultless = record {
    clean = λ i h f is. still_clean l.sup h.kind i h.entries (clean_of i h is) one f;
    undoubled = λ b o other x y. faultless.undoubled b o other (owned_was b o x) (owned_was b other y);
    named = same_faultless (graph_in l held) (graph_in new held) graph_alike faultless.named;
  }

  -- The rows and the free lists are those of what is held.
  row_alike : (row : Row) (h : Held) → held row.inode ≡ Some h → KeepsRow l h row → KeepsRow new h row
  row_alike row h is k =
      let back : good_in l h ≡ good_in new h = sym (good_alike row.inode h is) in
      record {
        kind = k.kind;
        numbers = subst (λ (es : List Placed). AreNumbers h.created es row.numbers) back k.numbers;
        head = k.head;
        tail = k.tail;
        pages = k.pages;
        index = λ p. k.index p ∙ ap (λ (es : List Placed). block_of es p) back;
        names = λ q. k.names q ∙ ap (λ (es : List Placed). named es q) back;
      }

  free_was : (b : ℕ) → IsUnowned new held b → IsUnowned l held b
  free_was b f = record { from = f.from; below = f.below; unowned = λ o owns. f.unowned o (owned_still b o owns) }

  free_still : (b : ℕ) → IsUnowned l held b → IsUnowned new held b
  free_still b f = record { from = f.from; below = f.below; unowned = λ o owns. f.unowned o (owned_was b o owns) }

  pub upgraded_keeps : (rows : List Row) (free : List (List Run)) → Keeps l held rows free → Keeps new held rows free
  upgraded_keeps rows free k = record {
    in_rows = record {
      rising = k.in_rows.rising;
      each = λ row c. (let w = k.in_rows.each row c in (w.0, w.1, row_alike row w.0 w.1 w.2));
      all = k.in_rows.all;
    };
    in_lists = record {
      pools = k.in_lists.pools;
      each = λ cpu below. AreRuns-same _ _ _ (λ b w. (w.0, free_still b w.1)) (λ b w. (w.0, free_was b w.1)) (k.in_lists.each cpu below);
    };
  }

-- ---- the region

journals_idle : (R Q : Region) (cpus : ℕ) → ((at : ℕ) → at % 8 ≡ 0 → at % 4096 < 16 → 4096 ≤ at → word Q at ≡ word R at) → AreIdle cpus R → AreIdle cpus Q
journals_idle R Q cpus words idle c less =
    let d : dequeue Q c ≡ dequeue R c = words (journal c) (omega arith) (omega arith) (omega arith) in
    let e : enqueue Q c ≡ enqueue R c = words (journal c + 8) (omega arith) (omega arith) (omega arith) in
    let same : is_sound Q c ≡ is_sound R c = λ i. nat_lt (d i) 252 && nat_lt (e i) 252 in
    let w = idle c less in
    (same ∙ w.0, d ∙ w.1 ∙ sym e)

-- No word behind the journals has changed.
pub upgraded_behind : (R Q : Region) (l : Layout) → IsUpgraded R l.sup.cpus Q → SameBehind l.sup.cpus R Q
upgraded_behind R Q l up at whole far = up.others at whole (λ e. omega (arith, e, far)) (λ c below e. omega (arith, e, far, below))

module _ (R Q : Region) (l : Layout) (one : l.sup.version ≡ 1) (up : IsUpgraded R l.sup.cpus Q) where
  pub upgraded_has : HasTables R l → HasTables Q (upgraded_layout l)
  upgraded_has has = record {
    sup = super_after l.sup R Q up has.sup;
    laid = ap upgraded_layout has.laid ∙ sym (layout_upgraded l.sup R Q one up);
    ended = faults_upgraded l.sup R Q up;
  }

  module _ (held : Store) (m : ShowsSound R l held) where
    slot_alike : (a : ℕ) (o : Option Held) → ShowsSlot Q l a o → ShowsSlot Q (upgraded_layout l) a o
    slot_alike a None is = is
    slot_alike a (Some h) is = record { kind = is.kind; head = is.head; tail = is.tail; created = is.created; right = is.right; reads = reads_alike is.reads }

    shows_now : Shows Q (upgraded_layout l) held
    shows_now =
        let same : Shows Q l held = shown_same l held R Q (sound_clear m).stand (upgraded_behind R Q l up) m.shows in
        record { slots = λ i a at. slot_alike a (held i) (same.slots i a at); only = same.only }

    pub upgraded_sound : ShowsSound Q (upgraded_layout l) held
    upgraded_sound = record {
      tables = upgraded_has m.tables;
      idle = journals_idle R Q l.sup.cpus (λ at whole low from. up.others at whole (λ e. omega (arith, e, from)) (λ c below e. omega (arith, e, low))) m.idle;
      shows = shows_now;
      faultless = upgraded_faultless l held one m.faultless;
    }

-- while links alone are cleared
unlinked_word : (R left : Region) (cpus : ℕ) → IsMixed R (NoLinks cpus) left → (at : ℕ) → at % 8 ≡ 0 → ((c : ℕ) → c < cpus → at ≢ first_link c) → word left at ≡ word R at
unlinked_word R left cpus mixed at whole away = mixed_word R left (NoLinks cpus) at whole mixed (λ x here. (let same = here.2.0 in away here.0 here.1 (omega (arith, same, whole))))

pub clearing_behind : (R left : Region) (l : Layout) → IsMixed R (NoLinks l.sup.cpus) left → SameBehind l.sup.cpus R left
clearing_behind R left l mixed at whole far = unlinked_word R left l.sup.cpus mixed at whole (λ c below e. omega (arith, e, far, below))

module _ (R left : Region) (l : Layout) (one : l.sup.version ≡ 1) (mixed : IsMixed R (NoLinks l.sup.cpus) left) where
  pub clearing_has : HasTables R l → HasTables left l
  clearing_has has = record {
    sup = super_before l.sup R left mixed has.sup;
    laid = has.laid ∙ layout_fixed l.sup R one ∙ sym (layout_fixed l.sup left one);
    ended = fixed_faults l.sup left one;
  }

  pub clearing_sound : (held : Store) → ShowsSound R l held → ShowsSound left l held
  clearing_sound held m = record {
    tables = clearing_has m.tables;
    idle = journals_idle R left l.sup.cpus (λ at whole low from. unlinked_word R left l.sup.cpus mixed at whole (λ c below e. omega (arith, e, low))) m.idle;
    shows = shown_same l held R left (sound_clear m).stand (clearing_behind R left l mixed) m.shows;
    faultless = m.faultless;
  }

-- ---- with rows and free lists

pub upgraded_mounted : (R Q : Region) (l : Layout) (held : Store) (rows : List Row) (free : List (List Run)) → l.sup.version ≡ 1 → IsUpgraded R l.sup.cpus Q → IsMounted R l held rows free → IsMounted Q (upgraded_layout l) held rows free
upgraded_mounted R Q l held rows free one up m = record {
  sound = upgraded_sound R Q l one up held m.sound;
  keeps = upgraded_keeps l held one m.sound.faultless rows free m.keeps;
}

pub clearing_mounted : (R left : Region) (l : Layout) (held : Store) (rows : List Row) (free : List (List Run)) → l.sup.version ≡ 1 → IsMixed R (NoLinks l.sup.cpus) left → IsMounted R l held rows free → IsMounted left l held rows free
clearing_mounted R left l held rows free one mixed m = record { sound = clearing_sound R left l one mixed held m.sound; keeps = m.keeps }
