-- Two logs that grow together, told of their rows: what is owed before, over blocks that were taken one by one, the first
-- log's first.
use Rattle.std.proofs.Common.{◌≡◌, ◌≢◌, ℕ, zero, suc, ◌+◌, ◌*◌, ◌/◌, ◌%◌, ◌<◌, ◌≤◌, inl, inr, List, [], ◌∷◌, ◌++◌, length, get_or, refl, sym, ◌∙◌, subst, arith}
use Rattle.std.specs.List.{Contains}
use Rattle.std.proofs.lemmas.List.{get_or_default}
use Rattle.std.proofs.lemmas.List.Elements.{Contains-append_right}
use Rattle.nv_region.specs.Region.{Region}
use Rattle.nv_super.specs.declared.superblock.Super.{Super}
use Rattle.nv_super.specs.declared.owners.Run.{Run}
use Rattle.nv_super.specs.Layout.{system_blocks, Layout}
use Rattle.nv_super.proofs.Members.{none_in}
use Rattle.nv_super.proofs.Rising.{Contains-cons}
use Rattle.nv_journal.specs.Undo.{journal}
use Rattle.nv_alloc.specs.FreeValue.{FreeLists}
use Rattle.nv_alloc.specs.FreeLists.{IsFreeIn, IsSound}
use Rattle.nv_alloc.specs.Taking.{HasBlock, pool_at, block_run}
use Rattle.nv_alloc.proofs.Singly.{in_single}
use Rattle.nv_entry.specs.declared.entry.Entry.{Entry}
use Rattle.nv_logpage.specs.Append.{AreGiven, CanAppend, needed}
use Rattle.nv_scan.specs.declared.piece.Row.{Row}
use Rattle.nv_mounted.specs.Held.{Held, Store}
use Rattle.nv_mounted.specs.Lists.{TakeAll}
use Rattle.nv_commit.specs.declared.together.Extension.{Extension}
use Rattle.nv_commit.specs.Extends.{CanExtend}
use Rattle.nv_commit.specs.Together.{BeginFrom, CanCommit, CanExtendTwo}
use Rattle.nv_steps.specs.Grown.{StandsRight}
use Rattle.nv_steps.specs.NewNames.{CanName}
use Rattle.nv_steps.specs.Steps.{ShowsRow}
use Rattle.nv_steps.specs.Taken.{TakesEach, TakesInTurn}
use Rattle.nv_steps.proofs.LogGrows.{can_append, can_extend, slot_there}
use Rattle.nv_steps.proofs.TakenBlocks.{all_differ, are_free, each_in_data, each_was_free, stays_free, taken_sup}
use Rattle.nv_steps.proofs.OneByOne.{single_takes, takes_of}
use Rattle.nv_steps.proofs.SlotPlaces.{behind_there}
use Rattle.nv_steps.specs.Slots.{slot_in}

-- ---- blocks that were taken for one log, and then for another

cut_takes : (old new : FreeLists) (cpu : ℕ) (xs ys : List ℕ) → IsSound old → TakesInTurn old cpu (xs ++ ys) new → (mid : FreeLists) × IsSound mid × TakesInTurn old cpu xs mid × TakesInTurn mid cpu ys new
cut_takes old new cpu [] ys sound w = (old, sound, refl, w)
cut_takes old new cpu (a ∷ xs) ys sound w = let c = cut_takes w.0 new cpu xs ys w.1.after w.2 in (c.0, c.1, (w.0, w.1, c.2), c.3)

pub cut_each : {old new : FreeLists} {cpu : ℕ} (xs ys : List ℕ) → TakesEach old cpu (xs ++ ys) new → (mid : FreeLists) × TakesEach old cpu xs mid × TakesEach mid cpu ys new
cut_each {old} {new} {cpu} xs ys taken =
    let c = cut_takes taken.from new cpu xs ys taken.sound taken.each in (
      c.0,
      record { from = taken.from; same = taken.same; sound = taken.sound; each = c.2 },
      record { from = c.0; same = record { sup = refl; pools = refl }; sound = c.1; each = c.3 },
    )

-- what was taken is free no more
gone_all : (old new : FreeLists) (xs : List ℕ) → TakeAll old (single_takes xs) new → (b : ℕ) → Contains xs b → (cpu : ℕ) → IsFreeIn new cpu b → ⊥
gone_all old new [] w b c cpu free = absurd (none_in b c)
gone_all old new (a ∷ xs) w b c cpu free = elim (Contains-cons a xs b c) [
  | inl same ↦ w.1.leave.gone cpu b (stays_free w.0 new xs w.2 cpu b free) (subst (λ (n : ℕ). HasBlock (block_run a ∷ []) n) (sym same) (in_single a))
  | inr later ↦ gone_all w.0 new xs w.2 b later cpu free
]

-- so no block is one of both
pub taken_apart : {old mid new : FreeLists} {cpu : ℕ} {xs ys : List ℕ} → TakesEach old cpu xs mid → TakesEach mid cpu ys new → (b : ℕ) → Contains xs b → Contains ys b → ⊥
taken_apart {old} {mid} {new} {cpu} {xs} {ys} first second b one other = let f = each_was_free second b other in gone_all first.from mid xs (takes_of first) b one f.0 f.1

-- What is known of a row stands once blocks were taken.
pub stands_after : {R : Region} {l : Layout} {free mid : FreeLists} {row : Row} {cpu : ℕ} {xs : List ℕ} → StandsRight R l free row → TakesEach free cpu xs mid → StandsRight R l mid row
stands_after {R} {l} {free} {mid} {row} {cpu} {xs} stands taken = record {
  laid = stands.laid;
  lists = taken_sup taken ∙ stands.lists;
  number = stands.number;
  whole = stands.whole;
  inside = stands.inside;
  aligned = stands.aligned;
  offset = stands.offset;
  blocks = stands.blocks;
  in_blocks = stands.in_blocks;
  used = λ c now. stands.used c (subst (λ (pools : List (List Run)). HasBlock (pool_at pools c) (row.tail / 4096)) taken.same.pools (stays_free taken.from mid xs (takes_of taken) c (row.tail / 4096) now));
}

-- ---- one of the logs

module _ {R : Region} {l : Layout} {free after : FreeLists} {row : Row} {cpu j : ℕ} {fresh : List ℕ} (entries : List Entry) (stands : StandsRight R l free row) (can : CanName R l cpu j row) (taken : TakesEach free cpu fresh after)
    (count : length fresh ≡ needed (row.tail % 4096) entries) (given : AreGiven entries) where
  fresh_from : (k : ℕ) → k < length fresh → system_blocks l.sup ≤ get_or fresh k 0
  fresh_from k below =
      let c : Contains fresh (get_or fresh k 0) = (k, below, get_or_default fresh k (get_or fresh k 0) 0 below) in
      subst (λ (t : Super). system_blocks t ≤ get_or fresh k 0) stands.lists (each_in_data taken (get_or fresh k 0) c).0

  journal_before : journal cpu + 4096 ≤ (1 + l.sup.cpus) * 4096
  journal_before = let below = can.cpu_below in omega (arith, below)

  data_behind : (1 + l.sup.cpus) * 4096 ≤ 4096 * system_blocks l.sup
  data_behind = omega arith

  slot_behind : (1 + l.sup.cpus) * 4096 ≤ slot_in l row.inode
  slot_behind = behind_there l row.inode stands.laid stands.number

  pages_behind : BeginFrom (row.tail / 4096 ∷ fresh) (journal cpu + 4096)
  pages_behind zero below = (let from = can.in_data in omega (arith, from, journal_before, data_behind))
  pages_behind (suc k) below = (let from = fresh_from k (omega (arith, below)) in omega (arith, from, journal_before, data_behind))

  module _ (x : Extension) (slot : x.slot ≡ slot_in l row.inode) (tail : x.tail ≡ row.tail) (more : x.entries.now ≡ entries) (blocks : x.fresh.now ≡ fresh) where
    pub row_commits : CanCommit R cpu x
    row_commits = record {
      append = subst (λ (t : ℕ). CanAppend R t x.entries.now x.fresh.now) (sym tail) (subst (λ (es : List Entry). CanAppend R row.tail es x.fresh.now) (sym more) (subst (λ (bs : List ℕ). CanAppend R row.tail entries bs) (sym blocks) (can_append entries stands taken count given)));
      whole = (let whole = stands.whole in omega (arith, slot, whole));
      inside = (let inside = stands.inside in omega (arith, slot, inside));
      slot_behind = omega (arith, slot, slot_behind, journal_before);
      pages_behind = subst (λ (t : ℕ). BeginFrom (t / 4096 ∷ x.fresh.now) (journal cpu + 4096)) (sym tail) (subst (λ (bs : List ℕ). BeginFrom (row.tail / 4096 ∷ bs) (journal cpu + 4096)) (sym blocks) pages_behind);
    }

    pub as_extension : {held : Store} {h : Held} → CanExtend R l held row.inode h (slot_in l row.inode) row.tail entries fresh → CanExtend R l held row.inode h x.slot x.tail x.entries.now x.fresh.now
    as_extension {held} {h} extend = subst (λ (a : ℕ). CanExtend R l held row.inode h a x.tail x.entries.now x.fresh.now) (sym slot)
        (subst (λ (t : ℕ). CanExtend R l held row.inode h (slot_in l row.inode) t x.entries.now x.fresh.now) (sym tail)
        (subst (λ (es : List Entry). CanExtend R l held row.inode h (slot_in l row.inode) row.tail es x.fresh.now) (sym more)
        (subst (λ (bs : List ℕ). CanExtend R l held row.inode h (slot_in l row.inode) row.tail entries bs) (sym blocks) extend)))

-- ---- both of them, where what is held shows both rows

module _ {R : Region} {l : Layout} {free after : FreeLists} {row other : Row} {cpu : ℕ} (entries others : List Entry) (fresh more : List ℕ) (lists : free.sup ≡ l.sup) (taken : TakesEach free cpu (fresh ++ more) after)
    (count : length fresh ≡ needed (row.tail % 4096) entries) (more_count : length more ≡ needed (other.tail % 4096) others) (given : AreGiven entries) (more_given : AreGiven others) (some : 0 < length entries) (more_some : 0 < length others)
    {held : Store} {h g : Held} (shows : ShowsRow R l held h row free) (shows_other : ShowsRow R l held g other free) where
  abbrev mid : FreeLists
  mid = (cut_each fresh more taken).0

  first_taken : TakesEach free cpu fresh mid
  first_taken = (cut_each fresh more taken).1

  then_taken : TakesEach mid cpu more after
  then_taken = (cut_each fresh more taken).2

  first_extends : CanExtend R l held row.inode h (slot_in l row.inode) row.tail entries fresh
  first_extends = can_extend entries shows lists first_taken count given some

  second_extends : CanExtend R l held other.inode g (slot_in l other.inode) other.tail others more
  second_extends = record {
    sound = shows_other.sound;
    at = (let sound = shows_other.sound in slot_there other.inode g sound.shows shows_other.holds);
    holds = shows_other.holds;
    tail_is = (let kept = shows_other.told in sym kept.tail);
    free = λ b c. are_free taken l held shows.lists lists b (Contains-append_right fresh more b c);
    differ = all_differ then_taken;
    enough = omega (arith, more_count);
    given = more_given;
    some = more_some;
  }

  pub can_extend_two : {x y : Extension} → cpu < l.sup.cpus → row.inode ≢ other.inode → x.fresh.now ≡ fresh → y.fresh.now ≡ more
      → (CanExtend R l held row.inode h (slot_in l row.inode) row.tail entries fresh → CanExtend R l held row.inode h x.slot x.tail x.entries.now x.fresh.now)
      → (CanExtend R l held other.inode g (slot_in l other.inode) other.tail others more → CanExtend R l held other.inode g y.slot y.tail y.entries.now y.fresh.now)
      → CanExtendTwo R l held cpu row.inode h x other.inode g y
  can_extend_two {x} {y} below differ blocks more_blocks as_first as_second = record {
    journals = below;
    first = as_first first_extends;
    second = as_second second_extends;
    differ = differ;
    apart = λ b one two. taken_apart first_taken then_taken b (subst (λ (bs : List ℕ). Contains bs b) blocks one) (subst (λ (bs : List ℕ). Contains bs b) more_blocks two);
  }
