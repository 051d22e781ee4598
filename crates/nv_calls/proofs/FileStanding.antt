-- What is known of the row of a file, and of what a write does to it.
use Rattle.std.proofs.Common.{◌≡◌, ℕ, ◌≤◌, Bool, false, List, sym, ◌∙◌, arith}
use Rattle.std.specs.List.{Contains}
use Rattle.std.proofs.Math.Logic.{∥∥₁_elim}
use Rattle.std.proofs.Math.Nat.{ℕ_set}
use Rattle.std.proofs.Props.{props}
use Rattle.nv_region.specs.Region.{Region}
use Rattle.nv_super.specs.declared.superblock.Super.{Super}
use Rattle.nv_super.specs.declared.faults.Fault.{Fault}
use Rattle.nv_super.specs.declared.owners.Owner.TheVariants as owners
use Rattle.nv_super.specs.Layout.{Layout}
use Rattle.nv_alloc.specs.FreeValue.{FreeLists}
use Rattle.nv_outcome.proofs.SuperOf.{blocks_of_super}
use Rattle.nv_scan.specs.declared.piece.Row.{Row}
use Rattle.nv_scan.proofs.Blocks.{data_pages}
use Rattle.nv_scan.proofs.Sizes.{page_below}
use Rattle.nv_mounted.specs.Held.{Held, Store}
use Rattle.nv_mounted.specs.Blocks.{by_page}
use Rattle.nv_calls.specs.Mount.{IsKept}
use Rattle.nv_steps.specs.Steps.{ShowsRow}
use Rattle.nv_steps.specs.Written.{FileStands}
use Rattle.nv_calls.proofs.FileBytes.{row_size}
use Rattle.nv_calls.proofs.Mounts.{mounted_of_kept}
use Rattle.nv_calls.proofs.OneRow.{shows_row}
use Rattle.nv_steps.proofs.PreparedBlocks.{free_held}

file_stands_so : {R : Region} {l : Layout} {held : Store} {h : Held} {row : Row} {free : FreeLists} → ShowsRow R l held h row free → row.numbers.size ≤ 1073741824 → FileStands R l.sup free row
file_stands_so {R} {l} {held} {h} {row} {free} shows small =
    let told = shows.told in
    let sound = shows.sound in
    let faultless = sound.faultless in
    let numbers = told.numbers in
    let blocks = blocks_of_super R l.sup sound.sup in
    let size_is = numbers.size in
    record {
      inside = λ p b at. (let place = data_pages l.sup h.kind h.entries p b (sym (told.index p) ∙ at) in omega (arith, place.2, blocks));
      «data» = λ p b at. (let place = data_pages l.sup h.kind h.entries p b (sym (told.index p) ∙ at) in (place.1, place.2));
      used = λ p b cpu at free_there. (free_held l held free shows.lists cpu b free_there).unowned (owners.Data row.inode p) (by_page shows.holds (sym (told.index p) ∙ at));
      once = λ p q b first second. one_page row.inode p q (faultless.undoubled b (owners.Data row.inode p) (owners.Data row.inode q) (by_page shows.holds (sym (told.index p) ∙ first)) (by_page shows.holds (sym (told.index q) ∙ second)));
      below = λ p b at. (let less = page_below l.sup h.kind h.entries p b (sym (told.index p) ∙ at) in omega (arith, less, size_is));
      small = small;
    }
  where
    one_page : (i p q : ℕ) → owners.Data i p ≡ owners.Data i q → p ≡ q
    one_page i p q e = cc

-- A row that is kept stands so.
pub file_stands : {R : Region} {s : Super} {l : Layout} {rows : List Row} {free : FreeLists} {faults : List Fault} {read_only stopped : Bool} → IsKept R s l rows free faults read_only stopped → stopped ≡ false → read_only ≡ false → (row : Row) → Contains rows row → FileStands R l.sup free row
file_stands {R} {s} {l} {rows} {free} {faults} {read_only} {stopped} kept runs writes row c =
    let prop : IsProp (FileStands R l.sup free row) = hlevel (props, ℕ_set) in
    ∥∥₁_elim (mounted_of_kept kept runs writes) prop (λ w. (let v = shows_row w.1 kept.lists row c in file_stands_so v.1 (row_size R s l rows free faults read_only stopped kept runs row c)))
