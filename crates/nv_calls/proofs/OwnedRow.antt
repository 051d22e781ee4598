-- What is known of a row whose inode goes: its blocks are its own.
use Rattle.std.proofs.Common.{◌≡◌, ℕ, ◌*◌, ◌<◌, ◌≤◌, Bool, false, List, length, get_or, slice_get, ap, sym, ◌∙◌, subst, arith, Some}
use Rattle.std.specs.List.{Contains}
use Rattle.std.proofs.Math.Logic.{∥∥₁_elim}
use Rattle.std.proofs.Math.Nat.{ℕ_set}
use Rattle.std.proofs.Props.{props}
use Rattle.std.proofs.lemmas.Option.{slice_get-get_or}
use Rattle.nv_region.specs.Region.{Region}
use Rattle.nv_super.specs.declared.superblock.Super.{Super}
use Rattle.nv_super.specs.declared.owners.Owner.TheVariants as owners
use Rattle.nv_super.specs.declared.faults.Fault.{Fault}
use Rattle.nv_super.specs.Layout.{system_blocks, Layout}
use Rattle.nv_alloc.specs.FreeValue.{FreeLists}
use Rattle.nv_alloc.proofs.Sound.{free_within}
use Rattle.nv_logpage.specs.Append.{AllDiffer}
use Rattle.nv_logpage.specs.DataBlocks.{AreDataBlocks}
use Rattle.nv_logpage.proofs.DataBlocks.{one_page, pages_are}
use Rattle.nv_logpage.proofs.RightLogs.{head_starts}
use Rattle.nv_scan.specs.declared.piece.Row.{Row}
use Rattle.nv_scan.proofs.Sizes.{page_below}
use Rattle.nv_mounted.specs.Held.{Held, Store}
use Rattle.nv_mounted.specs.Blocks.{NoneDoubled, OwnsIn, by_log, by_page}
use Rattle.nv_mounted.specs.Mounted.{IsMounted, KeepsRow}
use Rattle.nv_mounted.proofs.Kept.{page_owner}
use Rattle.nv_mounted.proofs.Shown.{stands_at}
use Rattle.nv_steps.specs.LessNames.{OwnsBlocks}
use Rattle.nv_calls.specs.Mount.{IsKept}
use Rattle.nv_steps.specs.Steps.{ShowsRow}
use Rattle.nv_steps.specs.Taken.{TakesEach}
use Rattle.nv_steps.proofs.GivenPages.{own_taken, was_free}
use Rattle.nv_calls.proofs.OwnedPages.{own_row}
use Rattle.nv_calls.proofs.Mounts.{mounted_of_kept}
use Rattle.nv_calls.proofs.OneRow.{shows_row}
use Rattle.nv_steps.proofs.TakenBlocks.{taken_sup}

-- ---- its blocks

one_place : (i k m : ℕ) → owners.Log i k ≡ owners.Log i m → k ≡ m
one_place i k m e = cc

log_no_data : (i k j p : ℕ) → owners.Log i k ≡ owners.Data j p → ⊥
log_no_data i k j p e = cc

module _ {R : Region} {l : Layout} {held : Store} {rows : List Row} (free : FreeLists) (m : IsMounted R l held rows free.pools) (lists : free.sup ≡ l.sup) (row : Row) (c : Contains rows row) where
  abbrev h : Held
  h = (shows_row {free = free} m lists row c).0

  shown : ShowsRow R l held h row free
  shown = (shows_row {free = free} m lists row c).1

  told : KeepsRow l h row
  told = shown.told

  undoubled : NoneDoubled l held
  undoubled = let sound = m.sound in let right = sound.faultless in right.undoubled

  data_blocks : AreDataBlocks l.sup h.pages
  data_blocks = let sound = m.sound in let v = stands_at sound.shows row.inode h shown.holds in pages_are (one_page l.sup h.head (head_starts l.sup h.head h.tail v.is.right)) v.is.reads

  held_page : (b : ℕ) → Contains row.pages.items b → Contains h.pages b
  held_page b at = subst (λ (ps : List ℕ). Contains ps b) told.pages at

  owner : (b : ℕ) → Contains row.pages.items b → (k : ℕ) × OwnsIn l held b (owners.Log row.inode k)
  owner b at = page_owner l held row.inode b h shown.holds (held_page b at)

  at_place : (k : ℕ) → k < length row.pages.items → slice_get h.pages k ≡ Some (get_or row.pages.items k 0)
  at_place k inside = ap (λ (ps : List ℕ). slice_get ps k) (sym told.pages) ∙ slice_get-get_or row.pages.items k 0 inside

  log_once : AllDiffer row.pages.items
  log_once i j less inside same =
      let first : slice_get h.pages i ≡ Some (get_or row.pages.items j 0) = at_place i (omega (arith, less, inside)) ∙ ap (λ (b : ℕ). Some b) same in
      let e : i ≡ j = one_place row.inode i j (undoubled (get_or row.pages.items j 0) (owners.Log row.inode i) (owners.Log row.inode j) (by_log shown.holds first) (by_log shown.holds (at_place j inside))) in
      omega (arith, less, e)

  pub row_owns : OwnsBlocks free row
  row_owns = record {
    log = record {
      in_data = λ b at. subst (λ (t : Super). (system_blocks t ≤ b) × (b < t.blocks)) (sym lists) (data_blocks.behind b (held_page b at), data_blocks.within b (held_page b at));
      used = λ b cpu at there. (
          let keeps = m.keeps in
          let kept = keeps.in_lists in
          let within : cpu < l.sup.cpus = (let place = free_within free.pools cpu b there in let n = kept.pools in omega (arith, place, n)) in
          let is_free = ((kept.each cpu within).each there.0 b there.1 there.2 there.3).1 in
          let o = owner b at in
          is_free.unowned (owners.Log row.inode o.0) o.1);
      once = log_once;
    };
    maps = own_row {free = free} m lists row c;
    apart = λ p b mapped at. (
        let o = owner b at in
        log_no_data row.inode o.0 row.inode p (undoubled b (owners.Log row.inode o.0) (owners.Data row.inode p) o.1 (by_page shown.holds (sym (told.index p) ∙ mapped))));
    below = λ p b mapped. (
        let numbers = told.numbers in
        let low = page_below l.sup h.kind h.entries p b (sym (told.index p) ∙ mapped) in
        subst (λ (n : ℕ). p * 4096 < n) (sym numbers.size) low);
  }

module _ {R : Region} {s : Super} {l : Layout} {rows : List Row} {free : FreeLists} {faults : List Fault} {read_only stopped : Bool} (kept : IsKept R s l rows free faults read_only stopped) (runs : stopped ≡ false) (writes : read_only ≡ false) (row : Row) (c : Contains rows row) where
  -- What is known of a row that is kept.
  pub owns_blocks : OwnsBlocks free row
  owns_blocks = ∥∥₁_elim (mounted_of_kept kept runs writes) prop (λ w. row_owns free w.1 kept.lists row c) where
    prop : IsProp (OwnsBlocks free row)
    prop = hlevel (props, ℕ_set)

-- ---- once blocks were taken

-- Its blocks are its own also then.
pub owns_taken : {old new : FreeLists} {cpu : ℕ} {fresh : List ℕ} {row : Row} → TakesEach old cpu fresh new → OwnsBlocks old row → OwnsBlocks new row
owns_taken {old} {new} {cpu} {fresh} {row} taken own =
    let log = own.log in
    record {
      log = record {
        in_data = λ b at. subst (λ (s : Super). (system_blocks s ≤ b) × (b < s.blocks)) (sym (taken_sup taken)) (log.in_data b at);
        used = λ b c at there. log.used b c at (was_free taken c b there);
        once = log.once;
      };
      maps = own_taken taken own.maps;
      apart = own.apart;
      below = own.below;
    }
