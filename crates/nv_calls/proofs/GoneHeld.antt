-- What is held once a log has grown and another inode is gone: the free lists are of it, and the log's inode owns what it has.
use Rattle.std.proofs.Common.{◌≡◌, ◌≢◌, ◌↔◌, ℕ, ◌%◌, ◌<◌, ◌≤◌, ◌⊎◌, inl, inr, eqb, List, ◌++◌, length, take_all, ap, sym, ◌∙◌, subst, arith, Some, None}
use Rattle.std.specs.List.{Contains, IsDistinct}
use Rattle.nv_region.specs.Region.{Region}
use Rattle.nv_super.specs.declared.owners.Run.{Run}
use Rattle.nv_super.specs.Layout.{Layout, system_blocks}
use Rattle.nv_alloc.specs.FreeValue.{FreeLists}
use Rattle.nv_alloc.specs.Taking.{HasBlock}
use Rattle.nv_entry.specs.declared.entry.Entry.{Entry}
use Rattle.nv_logpage.specs.Append.{needed}
use Rattle.nv_logpage.proofs.DataBlocks.{one_page, pages_are}
use Rattle.nv_logpage.proofs.RightLogs.{head_starts}
use Rattle.nv_scan.specs.declared.piece.Row.{Row}
use Rattle.nv_mounted.specs.Held.{Held, Store}
use Rattle.nv_mounted.specs.Blocks.{IsUnowned, KeepsFree, NoneDoubled, OwnsNew}
use Rattle.nv_mounted.specs.Grows.{AreFree, Maps, SameFile}
use Rattle.nv_mounted.specs.Lists.{WasTaken}
use Rattle.nv_mounted.specs.Mounted.{IsFaultless}
use Rattle.nv_mounted.proofs.Growing.{free_but, grown_owns}
use Rattle.nv_mounted.proofs.ListsKept.{lists_change}
use Rattle.nv_mounted.proofs.Owning.{other_held, same_held, still_undoubled}
use Rattle.nv_mounted.proofs.Shown.{stands_at}
use Rattle.nv_commit.specs.Extends.{extended, with_log}
use Rattle.nv_commit.specs.Together.{ShowsIdle}
use Rattle.nv_commit.proofs.BlocksOf.{gone_free}
use Rattle.nv_steps.specs.LessNames.{GivesRow}
use Rattle.nv_steps.specs.NameEntries.{with_gone}
use Rattle.nv_steps.specs.Steps.{ShowsRow}
use Rattle.nv_steps.specs.Taken.{TakesEach}
use Rattle.nv_steps.proofs.TakenBlocks.{are_free, is_taken, was_taken}
use Rattle.nv_steps.proofs.OneByOne.{single_takes, takes_of}

module _ {R : Region} {l : Layout} {held : Store} {h f : Held} {row gone : Row} {free mid : FreeLists} {cpu : ℕ} (entries : List Entry) (fresh : List ℕ) (shows : ShowsRow R l held h row free) (shows_gone : ShowsRow R l held f gone free) (differ : row.inode ≢ gone.inode)
    (file_stays : SameFile l h (extended h entries fresh)) (lists : free.sup ≡ l.sup) (taken : TakesEach free cpu fresh mid) (count : length fresh ≡ needed (h.tail % 4096) entries) where
  abbrev i : ℕ
  i = gone.inode

  abbrev grown_log : Held
  grown_log = extended h entries fresh

  abbrev less : Store
  less = with_log held row.inode h entries fresh

  abbrev then : Store
  then = with_gone held row.inode h entries fresh i

  was : IsFaultless l held
  was = let sound = shows.sound in sound.faultless

  there : less i ≡ Some f
  there = other_held held row.inode i (Some grown_log) (λ e. differ (sym e)) ∙ shows_gone.holds

  pub fresh_free : AreFree l held fresh
  fresh_free = are_free taken l held shows.lists lists

  pages_now : grown_log.pages ≡ h.pages ++ fresh
  pages_now = ap (λ (ps : List ℕ). h.pages ++ ps) (take_all (needed (h.tail % 4096) entries) fresh (omega (arith, count)))

  but : (b : ℕ) → IsUnowned l less b ↔ (IsUnowned l held b × (Contains fresh b → ⊥))
  but = free_but l held row.inode h grown_log shows.holds fresh pages_now fresh_free file_stays

  -- the blocks of what goes, by its row
  gone_has : {after : FreeLists} (given : GivesRow mid gone after) (b : ℕ) → HasBlock given.runs b → Contains f.pages b ⊎ Maps l f b
  gone_has given b w =
      let told = shows_gone.told in
      elim ((given.blocks b).0 w) [ inl log ↦ inl (subst (λ (ps : List ℕ). Contains ps b) told.pages log) | inr mapped ↦ inr (mapped.0, sym (told.index mapped.0) ∙ mapped.1) ]

  has_gone : {after : FreeLists} (given : GivesRow mid gone after) (b : ℕ) → Contains f.pages b ⊎ Maps l f b → HasBlock given.runs b
  has_gone given b w =
      let told = shows_gone.told in
      (given.blocks b).1 (elim w [ inl log ↦ inl (subst (λ (ps : List ℕ). Contains ps b) (sym told.pages) log) | inr mapped ↦ inr (mapped.0, told.index mapped.0 ∙ mapped.1) ])

  pages_inside : (b : ℕ) → Contains f.pages b → (system_blocks l.sup ≤ b) × (b < l.sup.blocks)
  pages_inside b c =
      let sound = shows_gone.sound in
      let v = stands_at sound.shows i f shows_gone.holds in
      let all = pages_are (one_page l.sup f.head (head_starts l.sup f.head f.tail v.is.right)) v.is.reads in
      (all.behind b c, all.within b c)

  module _ {S : Region} (idle : ShowsIdle S l then) where
    once : IsDistinct eqb grown_log.pages
    once =
        let v = stands_at idle.shows row.inode grown_log (other_held less i row.inode None differ ∙ same_held held row.inode (Some grown_log)) in
        let all = pages_are (one_page l.sup h.head (head_starts l.sup h.head grown_log.tail v.is.right)) v.is.reads in
        all.once

    pub own_then : OwnsNew l held row.inode (Some grown_log)
    own_then = grown_owns l held row.inode h grown_log shows.holds fresh pages_now fresh_free file_stays was.undoubled once

    less_undoubled : NoneDoubled l less
    less_undoubled = still_undoubled l held row.inode (Some grown_log) own_then was.undoubled

    -- The free lists are those of the free blocks: without the ones that were taken, and with those that were given back.
    pub lists_then : {after : FreeLists} (given : GivesRow mid gone after) → KeepsFree l then after.pools
    lists_then {after} given =
        let same = taken.same in
        lists_change l held then taken.from mid after (single_takes fresh) given.runs (subst (λ (pools : List (List Run)). KeepsFree l held pools) (sym same.pools) shows.lists) (same.sup ∙ lists) (takes_of taken) given.joined (λ b. (to b, from b))
      where
        left : (b : ℕ) → IsUnowned l then b ↔ (IsUnowned l less b ⊎ (Contains f.pages b ⊎ Maps l f b))
        left = gone_free l less i f there less_undoubled pages_inside

        to : (b : ℕ) → IsUnowned l then b → (IsUnowned l held b × (WasTaken (single_takes fresh) b → ⊥)) ⊎ HasBlock given.runs b
        to b now = elim ((left b).0 now) [ inl stays ↦ (let w = (but b).0 stays in inl (w.0, λ t. w.1 (is_taken fresh b t))) | inr went ↦ inr (has_gone given b went) ]

        from : (b : ℕ) → (IsUnowned l held b × (WasTaken (single_takes fresh) b → ⊥)) ⊎ HasBlock given.runs b → IsUnowned l then b
        from b (inl w) = (left b).1 (inl ((but b).1 (w.0, λ c. w.1 (was_taken fresh b c))))
        from b (inr w) = (left b).1 (inr (gone_has given b w))
