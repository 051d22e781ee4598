-- A mounted file system once one row was replaced.
use Rattle.std.proofs.Common.{◌≡◌, ℕ, ◌/◌, ◌%◌, ◌<◌, ◌≤◌, Bool, true, false, List, sym, subst, arith}
use Rattle.std.specs.List.{Contains}
use Rattle.std.proofs.Math.Logic.{∥∥₁_elim}
use Rattle.std.proofs.Math.Nat.{ℕ_set}
use Rattle.std.proofs.Props.{props}
use Rattle.std.proofs.lemmas.Bool.Decides.{nat_tests}
use Rattle.nv_region.specs.Region.{Region, size}
use Rattle.nv_super.specs.declared.superblock.Super.{Super}
use Rattle.nv_super.specs.declared.faults.Fault.{Fault}
use Rattle.nv_super.specs.declared.owners.Owner.TheVariants as owners
use Rattle.nv_super.specs.Layout.{Layout}
use Rattle.nv_alloc.specs.FreeValue.{FreeLists}
use Rattle.nv_alloc.proofs.Sound.{free_within}
use Rattle.nv_inode.specs.Slot.{is_right_log}
use Rattle.nv_outcome.proofs.SuperOf.{blocks_of_super}
use Rattle.nv_scan.specs.declared.piece.Row.{Row}
use Rattle.nv_mounted.specs.Held.{Held, Store}
use Rattle.nv_mounted.specs.Mounted.{IsMounted}
use Rattle.nv_mounted.proofs.Fronts.{tables_laid}
use Rattle.nv_mounted.proofs.Kept.{page_owner, tail_there}
use Rattle.nv_mounted.proofs.Shown.{stands_at}
use Rattle.nv_steps.specs.Grown.{StandsRight}
use Rattle.nv_calls.specs.Mount.{IsKept}
use Rattle.nv_steps.specs.Steps.{ShowsRow}
use Rattle.nv_steps.proofs.SlotPlaces.{inside_there, slot_has, whole_there}
use Rattle.nv_calls.proofs.Mounts.{mounted_of_kept}

-- ---- what is known of it

tail_in : (l : Layout) (head tail : ℕ) → is_right_log l.sup head tail ≡ true → (tail % 8 ≡ 0) × (tail % 4096 ≤ 4064) × (tail / 4096 < l.sup.blocks)
tail_in l head tail right = (grind (arith, nat_tests), grind (arith, nat_tests), grind (arith, nat_tests))

module _ {R : Region} {l : Layout} {held : Store} {rows : List Row} {free : FreeLists} (m : IsMounted R l held rows free.pools) (lists : free.sup ≡ l.sup) where
  -- the row as what the region shows
  pub shows_row : (row : Row) → Contains rows row → (h : Held) × ShowsRow R l held h row free
  shows_row row c =
      let keeps = m.keeps in
      let in_rows = keeps.in_rows in
      let w = in_rows.each row c in
      (w.0, record { sound = m.sound; holds = w.1; told = w.2; lists = keeps.in_lists })

  pub row_stands : (row : Row) → Contains rows row → StandsRight R l free row
  row_stands row c =
      let sound = m.sound in
      let laid = tables_laid sound.tables in
      let keeps = m.keeps in
      let lists_kept = keeps.in_lists in
      let w = shows_row row c in
      let shown = w.1 in
      let v = stands_at sound.shows row.inode w.0 shown.holds in
      let number = slot_has l row.inode v.a v.at in
      let within = inside_there l row.inode laid number in
      let tails : w.0.tail ≡ row.tail = (let told = shown.told in sym told.tail) in
      let right = tail_in l w.0.head w.0.tail v.is.right in
      let at_block : l.sup.blocks ≡ size R / 4096 = blocks_of_super R l.sup sound.sup in
      record {
        laid = laid;
        lists = lists;
        number = number;
        whole = whole_there l row.inode laid number;
        inside = omega (arith, within, at_block);
        aligned = subst (λ (n : ℕ). n % 8 ≡ 0) tails right.0;
        offset = subst (λ (n : ℕ). n % 4096 ≤ 4064) tails right.1;
        blocks = omega (arith, at_block);
        in_blocks = subst (λ (n : ℕ). n / 4096 < l.sup.blocks) tails right.2;
        used = λ cpu free_there. (
            let run = free_there in
            let below : cpu < l.sup.cpus = (let place = free_within free.pools cpu (row.tail / 4096) free_there in let n = lists_kept.pools in omega (arith, place, n)) in
            let is_free = ((lists_kept.each cpu below).each run.0 (row.tail / 4096) run.1 run.2 run.3).1 in
            let o = page_owner l held row.inode (row.tail / 4096) w.0 shown.holds (subst (λ (t : ℕ). Contains w.0.pages (t / 4096)) tails (tail_there v.is.right v.is.reads)) in
            is_free.unowned (owners.Log row.inode o.0) o.1);
      }

-- What is known of a row that is kept.
pub stands_right : {R : Region} {s : Super} {l : Layout} {rows : List Row} {free : FreeLists} {faults : List Fault} {read_only stopped : Bool} → IsKept R s l rows free faults read_only stopped → stopped ≡ false → read_only ≡ false → (row : Row) → Contains rows row → StandsRight R l free row
stands_right {R} {s} {l} {rows} {free} kept runs writes row c =
    let prop : IsProp (StandsRight R l free row) = hlevel (props, ℕ_set) in
    ∥∥₁_elim (mounted_of_kept kept runs writes) prop (λ w. row_stands w.1 kept.lists row c)
