-- A mounted file system whose file got a size: the file's bytes and its log, for whatever is held of the region.
use Rattle.std.proofs.Common.{◌≡◌, ℕ, ◌/◌, ◌%◌, ◌≤◌, Bool, false, cond, nat_lt, nat_eq, not, ◌&&◌, is_some, List, refl, ap, sym, ◌∙◌, subst, Option, Some, None, slice_get}
use Rattle.std.proofs.Math.Logic.{∥∥₁_elim, ∥∥₁_map}
use Rattle.std.proofs.Math.Nat.{ℕ_set}
use Rattle.std.proofs.Props.{props}
use Rattle.nv_region.specs.Region.{Region}
use Rattle.nv_super.specs.Layout.{most_size, Layout}
use Rattle.nv_super.specs.declared.superblock.Super.{Super}
use Rattle.nv_super.specs.declared.faults.Fault.{Fault}
use Rattle.nv_super.specs.declared.kind.Kind.TheVariants.{File}
use Rattle.nv_alloc.specs.FreeValue.{FreeLists}
use Rattle.nv_entry.specs.declared.entry.AttrEntry.{AttrEntry}
use Rattle.nv_radix.specs.Pages.{block_at}
use Rattle.nv_scan.specs.declared.piece.Row.{Row}
use Rattle.nv_mounted.specs.Held.{Held, Store}
use Rattle.nv_mounted.specs.Bytes.{byte_in}
use Rattle.nv_mounted.specs.Mounted.{ShowsSound}
use Rattle.nv_calls.specs.Mount.{IsKept}
use Rattle.nv_paths.specs.Seen.{node_of}
use Rattle.nv_steps.specs.Sizes.{CanResize, Resizes, SameBytes, blocks_from, sized}
use Rattle.nv_calls.specs.SizeCall.{ShowsResizedLog}
use Rattle.nv_steps.specs.Steps.{ShowsRow}
use Rattle.nv_calls.proofs.OwnedPages.{maps_own}
use Rattle.nv_calls.proofs.Mounts.{mounted_of_kept, mounted_with}
use Rattle.nv_calls.proofs.OneRow.{shows_row, stands_right}
use Rattle.nv_super.proofs.Members.{stands}

-- how many blocks it takes goes with the tail and the pages alone
pub blocks_same : (tail : ℕ) (x y : AttrEntry) (o : Option ℕ) → blocks_from tail x o ≡ blocks_from tail y o
blocks_same tail x y None = refl
blocks_same tail x y (Some b) = refl

module _ {R : Region} {s : Super} {l : Layout} {rows : List Row} {free : FreeLists} {faults : List Fault} {read_only stopped : Bool} (kept : IsKept R s l rows free faults read_only stopped) (runs : stopped ≡ false) (writes : read_only ≡ false)
    (place : ℕ) (row : Row) (at : slice_get rows place ≡ Some row) (size time : ℕ) where
  -- The file of the row can get the size.
  pub can_resize : row.kind ≡ File → size ≤ most_size → CanResize R l free row (sized (node_of R row) size time)
  can_resize file most = record {
    stands = stands_right kept runs writes row (stands rows place row at);
    own = maps_own kept runs writes row (stands rows place row at);
    file = file;
    mode = refl;
    most = most;
  }

  module _ {S : Region} {cpu : ℕ} {new : Row} {after : FreeLists} (resized : Resizes R S l free cpu row (sized (node_of R row) size time) new after) where
    -- It has the bytes of before.
    pub bytes_after : SameBytes R S row new size
    bytes_after y below = ∥∥₁_elim (mounted_of_kept kept runs writes) prop (λ w. (let v = shows_row w.1 kept.lists row (stands rows place row at) in resized.bytes w.0 v.0 v.1 y below)) where
      prop : IsProp (byte_in S (block_at new.index (y / 4096)) y ≡ (cond (nat_lt y row.numbers.size) (byte_in R (block_at row.index (y / 4096)) y) 0))
      prop = hlevel (props, ℕ_set)

    -- Its log has grown by the entries for it.
    pub log_after : (held : Store) (h : Held) → ShowsSound R l held → held row.inode ≡ Some h → ShowsResizedLog S l free.pools cpu held row.inode h (node_of R row) size time
    log_after held h sound is = ∥∥₁_map (mounted_with kept runs held sound) (λ m.
        let w = shows_row m kept.lists row (stands rows place row at) in
        let shown = w.1 in
        let both : Some w.0 ≡ Some h = sym shown.holds ∙ is in
        let same : w.0 ≡ h = cc in
        let here = subst (λ (g : Held). ShowsRow R l held g row free) same shown in
        let told = here.told in
        let f = resized.follows held h here in
        record {
          to = resized.to;
          copied = resized.copied ∙ ap (λ (o : Option ℕ). is_some (cond (nat_lt row.numbers.size size && not (nat_eq (row.numbers.size % 4096) 0)) o None)) (told.index (row.numbers.size / 4096));
          between = resized.between;
          taken = resized.taken;
          free = resized.fresh held h here;
          zeros = resized.zeros held h here;
          grew = record { fresh = f.fresh; rest = f.rest; taken = f.taken; free = f.blocks; count = f.count; sound = f.sound };
        })
