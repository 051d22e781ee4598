-- The blocks of a file's pages are its own, where a mounted file system keeps its row.
use Rattle.std.proofs.Common.{◌≡◌, ℕ, ◌<◌, ◌≤◌, Bool, false, List, sym, ◌∙◌, subst, arith}
use Rattle.std.specs.List.{Contains}
use Rattle.std.proofs.Math.Logic.{∥∥₁_elim}
use Rattle.std.proofs.Math.Nat.{ℕ_set}
use Rattle.std.proofs.Props.{props}
use Rattle.nv_region.specs.Region.{Region}
use Rattle.nv_super.specs.declared.superblock.Super.{Super}
use Rattle.nv_super.specs.declared.faults.Fault.{Fault}
use Rattle.nv_super.specs.Layout.{system_blocks, Layout}
use Rattle.nv_alloc.specs.FreeValue.{FreeLists}
use Rattle.nv_alloc.proofs.Sound.{free_within}
use Rattle.nv_scan.specs.declared.piece.Row.{Row}
use Rattle.nv_scan.proofs.Blocks.{data_pages}
use Rattle.nv_mounted.specs.Held.{Store}
use Rattle.nv_mounted.specs.Blocks.{by_page}
use Rattle.nv_mounted.specs.Mounted.{IsMounted}
use Rattle.nv_steps.specs.Given.{MapsOwn}
use Rattle.nv_calls.specs.Mount.{IsKept}
use Rattle.nv_calls.proofs.Mounts.{mounted_of_kept}
use Rattle.nv_super.specs.declared.owners.Owner.TheVariants as owners

module _ {R : Region} {l : Layout} {held : Store} {rows : List Row} {free : FreeLists} (m : IsMounted R l held rows free.pools) (lists : free.sup ≡ l.sup) where
  pub own_row : (row : Row) → Contains rows row → MapsOwn free row.index
  own_row row c =
      let keeps = m.keeps in
      let in_rows = keeps.in_rows in
      let w = in_rows.each row c in
      let told = w.2 in
      let sound = m.sound in
      let right = sound.faultless in
      let kept = keeps.in_lists in
      record {
        in_data = λ p b at. (let inside = data_pages l.sup w.0.kind w.0.entries p b (sym (told.index p) ∙ at) in subst (λ (t : Super). (system_blocks t ≤ b) × (b < t.blocks)) (sym lists) (inside.1, inside.2));
        used = λ p b cpu at there. (
            let within : cpu < l.sup.cpus = (let place = free_within free.pools cpu b there in let n = kept.pools in omega (arith, place, n)) in
            let is_free = ((kept.each cpu within).each there.0 b there.1 there.2 there.3).1 in
            is_free.unowned (owners.Data row.inode p) (by_page w.1 (sym (told.index p) ∙ at)));
        once = λ p q b first second. same_page (right.undoubled b (owners.Data row.inode p) (owners.Data row.inode q) (by_page w.1 (sym (told.index p) ∙ first)) (by_page w.1 (sym (told.index q) ∙ second)));
      }
    where
      same_page : {i p q : ℕ} → owners.Data i p ≡ owners.Data i q → p ≡ q
      same_page e = cc

-- What is known of the blocks of a row that is kept.
pub maps_own : {R : Region} {s : Super} {l : Layout} {rows : List Row} {free : FreeLists} {faults : List Fault} {read_only stopped : Bool} → IsKept R s l rows free faults read_only stopped → stopped ≡ false → read_only ≡ false → (row : Row) → Contains rows row → MapsOwn free row.index
maps_own {R} {s} {l} {rows} {free} kept runs writes row c =
    let prop : IsProp (MapsOwn free row.index) = hlevel (props, ℕ_set) in
    ∥∥₁_elim (mounted_of_kept kept runs writes) prop (λ w. own_row w.1 kept.lists row c)
