-- What is held once logs have grown one after another whose entries leave the files' blocks: what each inode owns, and the free lists.
use Rattle.std.proofs.Common.{◌≡◌, ◌↔◌, ◌⊎◌, ℕ, ◌%◌, ◌<◌, ◌≤◌, inl, inr, eqb, List, [], ◌++◌, length, take_all, ap, sym, ◌∙◌, subst, arith, Some, None}
use Rattle.std.specs.List.{Contains, IsDistinct}
use Rattle.std.proofs.lemmas.List.Elements.{Contains-append_cases, Contains-append_left, Contains-append_right}
use Rattle.nv_region.specs.Region.{Region}
use Rattle.nv_super.specs.declared.owners.Run.{Run}
use Rattle.nv_super.specs.Layout.{Layout, system_blocks}
use Rattle.nv_super.proofs.Members.{none_in}
use Rattle.nv_alloc.specs.FreeValue.{FreeLists}
use Rattle.nv_alloc.specs.Taking.{HasBlock}
use Rattle.nv_entry.specs.declared.entry.Entry.{Entry}
use Rattle.nv_logpage.specs.Append.{needed}
use Rattle.nv_logpage.proofs.DataBlocks.{one_page, pages_are}
use Rattle.nv_logpage.proofs.RightLogs.{head_starts}
use Rattle.nv_scan.specs.declared.piece.Row.{Row}
use Rattle.nv_mounted.specs.Held.{Held, Store, Shows, with_inode}
use Rattle.nv_mounted.specs.Blocks.{IsUnowned, KeepsFree, NoneDoubled, OwnsNew}
use Rattle.nv_mounted.specs.Grows.{AreFree, Maps, SameFile}
use Rattle.nv_mounted.specs.Lists.{WasTaken}
use Rattle.nv_mounted.proofs.Growing.{free_but, grown_owns}
use Rattle.nv_mounted.proofs.ListsKept.{lists_change}
use Rattle.nv_mounted.proofs.Owning.{still_undoubled}
use Rattle.nv_mounted.proofs.Shown.{stands_at}
use Rattle.nv_commit.specs.Extends.{extended, with_log}
use Rattle.nv_commit.proofs.BlocksOf.{gone_free}
use Rattle.nv_steps.specs.LessNames.{GivesRow}
use Rattle.nv_steps.specs.Steps.{ShowsRow}
use Rattle.nv_steps.specs.Taken.{TakesEach}
use Rattle.nv_steps.proofs.TakenBlocks.{is_taken, lists_without, was_taken}
use Rattle.nv_steps.proofs.OneByOne.{single_takes, takes_of}

-- From what was held logs have grown over these blocks, and nothing else: all but they are free that were, and none has two owners.
pub record GrewOver (l : Layout) (held now : Store) (blocks : List ℕ) : Type 0 where
  pub but : (b : ℕ) → IsUnowned l now b ↔ (IsUnowned l held b × (Contains blocks b → ⊥))
  pub undoubled : NoneDoubled l now

-- where none has grown yet
pub none_grew : {l : Layout} {held : Store} → NoneDoubled l held → GrewOver l held held []
none_grew undoubled = record { but = λ b. (λ free. (free, λ c. none_in b c), λ w. w.0); undoubled = undoubled }

-- the pages of a log that is shown are all different
pub shown_once : (l : Layout) (S : Region) (held : Store) (i : ℕ) (h : Held) → Shows S l held → held i ≡ Some h → IsDistinct eqb h.pages
shown_once l S held i h shows is = let v = stands_at shows i h is in let all = pages_are (one_page l.sup h.head (head_starts l.sup h.head h.tail v.is.right)) v.is.reads in all.once

module _ {l : Layout} {held now : Store} {blocks : List ℕ} (grew : GrewOver l held now blocks) {i : ℕ} {h : Held} (is : now i ≡ Some h) (entries : List Entry) (fresh : List ℕ) (free : AreFree l held (blocks ++ fresh)) (apart : (b : ℕ) → Contains blocks b → Contains fresh b → ⊥)
    (stays : SameFile l h (extended h entries fresh)) (count : length fresh ≡ needed (h.tail % 4096) entries) (once : IsDistinct eqb (extended h entries fresh).pages) where
  pages_now : (extended h entries fresh).pages ≡ h.pages ++ fresh
  pages_now = ap (λ (ps : List ℕ). h.pages ++ ps) (take_all (needed (h.tail % 4096) entries) fresh (omega (arith, count)))

  still_free : AreFree l now fresh
  still_free b c = (grew.but b).1 (free b (Contains-append_right blocks fresh b c), λ one. apart b one c)

  but_more : (b : ℕ) → IsUnowned l (with_log now i h entries fresh) b ↔ (IsUnowned l now b × (Contains fresh b → ⊥))
  but_more = free_but l now i h (extended h entries fresh) is fresh pages_now still_free stays

  -- What the inode of the next log owns was its own or free.
  pub owns_more : OwnsNew l now i (Some (extended h entries fresh))
  owns_more = grown_owns l now i h (extended h entries fresh) is fresh pages_now still_free stays grew.undoubled once

  pub grew_more : GrewOver l held (with_log now i h entries fresh) (blocks ++ fresh)
  grew_more = record { but = λ b. (to b, from b); undoubled = still_undoubled l now i (Some (extended h entries fresh)) owns_more grew.undoubled } where
    to : (b : ℕ) → IsUnowned l (with_log now i h entries fresh) b → IsUnowned l held b × (Contains (blocks ++ fresh) b → ⊥)
    to b unowned =
        let w = (but_more b).0 unowned in
        let v = (grew.but b).0 w.0 in
        (v.0, λ c. elim (Contains-append_cases blocks fresh b c) [ inl one ↦ v.1 one | inr two ↦ w.1 two ])

    from : (b : ℕ) → IsUnowned l held b × (Contains (blocks ++ fresh) b → ⊥) → IsUnowned l (with_log now i h entries fresh) b
    from b w = (but_more b).1 ((grew.but b).1 (w.0, λ c. w.1 (Contains-append_left blocks fresh b c)), λ c. w.1 (Contains-append_right blocks fresh b c))

module _ {l : Layout} {held now : Store} {blocks : List ℕ} (grew : GrewOver l held now blocks) {free after : FreeLists} {cpu : ℕ} (taken : TakesEach free cpu blocks after) (kept : KeepsFree l held free.pools) (lists : free.sup ≡ l.sup) where
  -- The free lists are those of the free blocks without the ones that were taken.
  pub lists_grew : KeepsFree l now after.pools
  lists_grew = lists_without taken l held kept lists now grew.but

-- And with those of an inode that is gone, which were given back.
module _ {R : Region} {l : Layout} {held now : Store} {blocks : List ℕ} (grew : GrewOver l held now blocks) {f : Held} {gone : Row} {free mid : FreeLists} {cpu : ℕ} (taken : TakesEach free cpu blocks mid) (lists : free.sup ≡ l.sup) (shows_gone : ShowsRow R l held f gone free) (there : now gone.inode ≡ Some f) where
  abbrev then : Store
  then = with_inode now gone.inode None

  gone_has : {after : FreeLists} (given : GivesRow mid gone after) (b : ℕ) → HasBlock given.runs b → Contains f.pages b ⊎ Maps l f b
  gone_has given b w =
      let told = shows_gone.told in
      elim ((given.blocks b).0 w) [ inl log ↦ inl (subst (λ (ps : List ℕ). Contains ps b) told.pages log) | inr mapped ↦ inr (mapped.0, sym (told.index mapped.0) ∙ mapped.1) ]

  has_gone : {after : FreeLists} (given : GivesRow mid gone after) (b : ℕ) → Contains f.pages b ⊎ Maps l f b → HasBlock given.runs b
  has_gone given b w =
      let told = shows_gone.told in
      (given.blocks b).1 (elim w [ inl log ↦ inl (subst (λ (ps : List ℕ). Contains ps b) (sym told.pages) log) | inr mapped ↦ inr (mapped.0, told.index mapped.0 ∙ mapped.1) ])

  pages_inside : (b : ℕ) → Contains f.pages b → (system_blocks l.sup ≤ b) × (b < l.sup.blocks)
  pages_inside b c =
      let sound = shows_gone.sound in
      let v = stands_at sound.shows gone.inode f shows_gone.holds in
      let all = pages_are (one_page l.sup f.head (head_starts l.sup f.head f.tail v.is.right)) v.is.reads in
      (all.behind b c, all.within b c)

  pub lists_gone : {after : FreeLists} (given : GivesRow mid gone after) → KeepsFree l then after.pools
  lists_gone {after} given =
      let same = taken.same in
      lists_change l held then taken.from mid after (single_takes blocks) given.runs (subst (λ (pools : List (List Run)). KeepsFree l held pools) (sym same.pools) shows_gone.lists) (same.sup ∙ lists) (takes_of taken) given.joined (λ b. (to b, from b))
    where
      left : (b : ℕ) → IsUnowned l then b ↔ (IsUnowned l now b ⊎ (Contains f.pages b ⊎ Maps l f b))
      left = gone_free l now gone.inode f there grew.undoubled pages_inside

      to : (b : ℕ) → IsUnowned l then b → (IsUnowned l held b × (WasTaken (single_takes blocks) b → ⊥)) ⊎ HasBlock given.runs b
      to b unowned = elim ((left b).0 unowned) [ inl stays ↦ (let w = (grew.but b).0 stays in inl (w.0, λ t. w.1 (is_taken blocks b t))) | inr went ↦ inr (has_gone given b went) ]

      from : (b : ℕ) → (IsUnowned l held b × (WasTaken (single_takes blocks) b → ⊥)) ⊎ HasBlock given.runs b → IsUnowned l then b
      from b (inl w) = (left b).1 (inl ((grew.but b).1 (w.0, λ c. w.1 (was_taken blocks b c))))
      from b (inr w) = (left b).1 (inr (gone_has given b w))
