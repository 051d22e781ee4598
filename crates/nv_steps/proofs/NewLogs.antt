-- What is owed where a new inode and its name are written: over blocks that were taken one by one, the first for its log.
use Rattle.std.proofs.Common.{◌≡◌, ℕ, zero, suc, ◌+◌, ◌*◌, ◌/◌, ◌%◌, ◌<◌, ◌≤◌, List, [], ◌∷◌, length, get_or, refl, ap, sym, ◌∙◌, subst, arith, Some, None}
use Rattle.std.specs.List.{Contains}
use Rattle.std.proofs.lemmas.List.{get_or_default}
use Rattle.nv_region.specs.Region.{Region, size}
use Rattle.nv_super.specs.declared.superblock.Super.{Super}
use Rattle.nv_super.specs.Layout.{slot_of, system_blocks, Layout}
use Rattle.nv_super.proofs.Rising.{Contains-head, Contains-tail}
use Rattle.nv_journal.specs.Undo.{journal}
use Rattle.nv_alloc.specs.FreeValue.{FreeLists}
use Rattle.nv_entry.specs.declared.entry.Entry.{Entry}
use Rattle.nv_logpage.specs.Append.{AllDiffer, AreGiven, CanAppend, EndBy, needed}
use Rattle.nv_scan.specs.declared.piece.Row.{Row}
use Rattle.nv_mounted.specs.Held.{Held, Store}
use Rattle.nv_mounted.specs.Blocks.{IsUnowned}
use Rattle.nv_commit.specs.declared.together.Extension.{Extension}
use Rattle.nv_commit.specs.declared.making.NewInode.{NewInode}
use Rattle.nv_commit.specs.Together.{BeginFrom, CanCommit}
use Rattle.nv_commit.specs.Makes.{CanBegin, CanMake}
use Rattle.nv_commit.specs.Extends.{CanExtend}
use Rattle.nv_steps.specs.Grown.{StandsRight}
use Rattle.nv_steps.specs.NameEntries.{first_entries}
use Rattle.nv_steps.specs.NewNames.{CanName}
use Rattle.nv_steps.specs.Steps.{ShowsRow}
use Rattle.nv_steps.specs.Taken.{TakesEach}
use Rattle.nv_steps.proofs.LogGrows.{slot_there}
use Rattle.nv_steps.proofs.SlotPlaces.{behind_there, inside_there, slot_there_is, whole_there}
use Rattle.nv_steps.proofs.TakenBlocks.{all_differ, are_free, differ_rest, differ_with, each_in_data}
use Rattle.nv_steps.specs.Slots.{slot_in}

differ_tail : (a : ℕ) (xs : List ℕ) → AllDiffer (a ∷ xs) → AllDiffer xs
differ_tail a xs differ i j less inside = differ (suc i) (suc j) (omega (arith, less)) (omega (arith, inside))

-- an entry of attributes fits on a page of its own
pub fits_alone : (mode time : ℕ) → needed 0 (first_entries mode time) ≡ 0
fits_alone mode time = refl

module _ {R : Region} {l : Layout} {free after : FreeLists} {row : Row} {cpu j page : ℕ} {fresh : List ℕ} (entries : List Entry) (stands : StandsRight R l free row) (can : CanName R l cpu j row)
    (taken : TakesEach free cpu (page ∷ fresh) after) (count : length fresh ≡ needed (row.tail % 4096) entries) (given : AreGiven entries) where
  lists : free.sup ≡ l.sup
  lists = stands.lists

  pub block_in : (b : ℕ) → Contains (page ∷ fresh) b → (system_blocks l.sup ≤ b) × (b < l.sup.blocks)
  block_in b c = subst (λ (t : Super). (system_blocks t ≤ b) × (b < t.blocks)) lists (each_in_data taken b c)

  pub page_in : (system_blocks l.sup ≤ page) × (page < l.sup.blocks)
  page_in = block_in page (Contains-head page fresh)

  fresh_in : (k : ℕ) → k < length fresh → (system_blocks l.sup ≤ get_or fresh k 0) × (get_or fresh k 0 < l.sup.blocks)
  fresh_in k below = block_in (get_or fresh k 0) (Contains-tail page fresh (get_or fresh k 0) (k, below, get_or_default fresh k (get_or fresh k 0) 0 below))

  -- the new slot
  pub new_slot : slot_of l j ≡ Some (slot_in l j)
  new_slot = slot_there_is l j can.number

  slot_whole : slot_in l j % 128 ≡ 0
  slot_whole = whole_there l j stands.laid can.number

  slot_behind : (1 + l.sup.cpus) * 4096 ≤ slot_in l j
  slot_behind = behind_there l j stands.laid can.number

  pub slot_inside : slot_in l j + 128 ≤ size R
  slot_inside = let inside = inside_there l j stands.laid can.number in let blocks = stands.blocks in omega (arith, inside, blocks)

  journal_before : journal cpu + 4096 ≤ (1 + l.sup.cpus) * 4096
  journal_before = let below = can.cpu_below in omega (arith, below)

  data_behind : (1 + l.sup.cpus) * 4096 ≤ 4096 * system_blocks l.sup
  data_behind = omega arith

  -- a new inode can begin on the first block
  pub first_append : (mode time : ℕ) → CanAppend R (4096 * page) (first_entries mode time) []
  first_append mode time = record {
    whole = omega arith;
    offset = omega arith;
    given = (refl, tt);
    enough = (let offset : (4096 * page) % 4096 ≡ 0 = omega arith in subst (λ (o : ℕ). needed o (first_entries mode time) ≤ 0) (sym offset) (omega arith));
    differ = λ i k less inside. absurd (omega (arith, less, inside));
    inside = inside;
  } where
    inside : EndBy (4096 * page / 4096 ∷ []) (size R)
    inside zero below = (let under = page_in.1 in let blocks = stands.blocks in omega (arith, under, blocks))
    inside (suc k) below = absurd (omega (arith, below))

  module _ (mode time : ℕ) {n : NewInode} (slot : n.slot ≡ slot_in l j) (page_is : n.page ≡ page) (first : n.entries.now ≡ first_entries mode time) where
    pub can_begin : CanBegin R cpu n
    can_begin = record {
      append = subst (λ (b : ℕ). CanAppend R (4096 * b) n.entries.now []) (sym page_is) (subst (λ (es : List Entry). CanAppend R (4096 * page) es []) (sym first) (first_append mode time));
      whole = omega (arith, slot, slot_whole);
      inside = omega (arith, slot, slot_inside);
      slot_behind = omega (arith, slot, slot_behind, journal_before);
      page_behind = (let from = page_in.0 in omega (arith, page_is, from, journal_before, data_behind));
    }

  -- the directory's log can be extended over the others
  all_apart : AllDiffer (row.tail / 4096 ∷ page ∷ fresh)
  all_apart = differ_with taken (row.tail / 4096) stands.used

  pub second_append : CanAppend R row.tail entries fresh
  second_append = record {
    whole = stands.aligned;
    offset = stands.offset;
    given = given;
    enough = omega (arith, count);
    differ = differ_rest (row.tail / 4096) page fresh all_apart;
    inside = inside;
  } where
    inside : EndBy (row.tail / 4096 ∷ fresh) (size R)
    inside zero below = (let all = stands.blocks in let under = stands.in_blocks in omega (arith, all, under))
    inside (suc k) below = (let all = stands.blocks in let under = (fresh_in k (omega (arith, below))).1 in omega (arith, all, under))

  pages_behind : BeginFrom (row.tail / 4096 ∷ fresh) (journal cpu + 4096)
  pages_behind zero below = (let from = can.in_data in omega (arith, from, journal_before, data_behind))
  pages_behind (suc k) below = (let from = (fresh_in k (omega (arith, below))).0 in omega (arith, from, journal_before, data_behind))

  row_slot_behind : (1 + l.sup.cpus) * 4096 ≤ slot_in l row.inode
  row_slot_behind = behind_there l row.inode stands.laid stands.number

  module _ {x : Extension} (slot : x.slot ≡ slot_in l row.inode) (tail : x.tail ≡ row.tail) (more : x.entries.now ≡ entries) (blocks : x.fresh.now ≡ fresh) where
    pub can_commit : CanCommit R cpu x
    can_commit = record {
      append = subst (λ (t : ℕ). CanAppend R t x.entries.now x.fresh.now) (sym tail) (subst (λ (es : List Entry). CanAppend R row.tail es x.fresh.now) (sym more) (subst (λ (bs : List ℕ). CanAppend R row.tail entries bs) (sym blocks) second_append));
      whole = (let whole = stands.whole in omega (arith, slot, whole));
      inside = (let inside = stands.inside in omega (arith, slot, inside));
      slot_behind = omega (arith, slot, row_slot_behind, journal_before);
      pages_behind = subst (λ (t : ℕ). BeginFrom (t / 4096 ∷ x.fresh.now) (journal cpu + 4096)) (sym tail) (subst (λ (bs : List ℕ). BeginFrom (row.tail / 4096 ∷ bs) (journal cpu + 4096)) (sym blocks) pages_behind);
    }

  pub fresh_apart : Contains fresh page → ⊥
  fresh_apart c = all_differ taken zero (suc c.0) (omega arith) (omega (arith, c.1)) (sym (get_or_default fresh c.0 0 page c.1 ∙ c.2))

  -- what is held can have both
  module _ {held : Store} {h : Held} (shows : ShowsRow R l held h row free) (unused : held j ≡ None) (some : 0 < length entries) where
    tails : h.tail ≡ row.tail
    tails = (let kept = shows.told in sym kept.tail)

    all_free : (b : ℕ) → Contains (page ∷ fresh) b → IsUnowned l held b
    all_free = are_free taken l held shows.lists lists

    extend : CanExtend R l held row.inode h (slot_in l row.inode) row.tail entries fresh
    extend = record {
      sound = shows.sound;
      at = (let sound = shows.sound in slot_there row.inode h sound.shows shows.holds);
      holds = shows.holds;
      tail_is = tails;
      free = λ b c. all_free b (Contains-tail page fresh b c);
      differ = differ_tail page fresh (all_differ taken);
      enough = omega (arith, count);
      given = given;
      some = some;
    }

    module _ (mode time : ℕ) {n : NewInode} (new_slot_is : n.slot ≡ slot_in l j) (page_is : n.page ≡ page) (first : n.entries.now ≡ first_entries mode time)
        {x : Extension} (slot : x.slot ≡ slot_in l row.inode) (tail : x.tail ≡ row.tail) (more : x.entries.now ≡ entries) (blocks : x.fresh.now ≡ fresh) where
      pub can_make : CanMake R l held cpu j n row.inode h x
      can_make = record {
        journals = can.cpu_below;
        parent = subst (λ (a : ℕ). CanExtend R l held row.inode h a x.tail x.entries.now x.fresh.now) (sym slot)
            (subst (λ (t : ℕ). CanExtend R l held row.inode h (slot_in l row.inode) t x.entries.now x.fresh.now) (sym tail)
            (subst (λ (es : List Entry). CanExtend R l held row.inode h (slot_in l row.inode) row.tail es x.fresh.now) (sym more)
            (subst (λ (bs : List ℕ). CanExtend R l held row.inode h (slot_in l row.inode) row.tail entries bs) (sym blocks) extend)));
        at = new_slot ∙ ap (λ (a : ℕ). Some a) (sym new_slot_is);
        unused = unused;
        page = subst (λ (b : ℕ). IsUnowned l held b) (sym page_is) (all_free page (Contains-head page fresh));
        apart = λ c. fresh_apart (subst (λ (b : ℕ). Contains fresh b) page_is (subst (λ (bs : List ℕ). Contains bs n.page) blocks c));
        fits = ap (λ (es : List Entry). needed 0 es) first ∙ fits_alone mode time;
        some = subst (λ (es : List Entry). 0 < length es) (sym first) (omega arith);
      }
