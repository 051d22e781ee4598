-- Which of the two words of a commit is stored first, told of what is held in place of rows.
use Rattle.std.proofs.Common.{◌≡◌, ℕ, List, ap, sym, ◌∙◌, subst, Bool, false, Some}
use Rattle.std.specs.List.{Contains}
use Rattle.std.proofs.Math.Logic.{∥∥₁_map}
use Rattle.std.proofs.lemmas.Option.{same_Some}
use Rattle.nv_region.specs.Region.{Region}
use Rattle.nv_super.specs.declared.superblock.Super.{Super}
use Rattle.nv_super.specs.declared.owners.Run.{Run}
use Rattle.nv_super.specs.declared.faults.Fault.{Fault}
use Rattle.nv_super.specs.Layout.{Layout}
use Rattle.nv_alloc.specs.FreeValue.{FreeLists}
use Rattle.nv_entry.specs.declared.entry.Entry.{Entry}
use Rattle.nv_scan.specs.declared.piece.Row.{Row}
use Rattle.nv_mounted.specs.Held.{Held, Store}
use Rattle.nv_mounted.specs.Mounted.{IsMounted, ShowsSound}
use Rattle.nv_steps.specs.InOrder.{TailIsFirst}
use Rattle.nv_steps.specs.Steps.{ShowsRow}
use Rattle.nv_calls.specs.InOrder.{ShowsTailFirst, ShowsValidFirst}
use Rattle.nv_calls.specs.Mount.{IsKept}
use Rattle.nv_calls.proofs.Mounts.{mounted_with}
use Rattle.nv_calls.proofs.OneRow.{shows_row}

-- by other names
pub first_as : (R : Region) {S : Region} {l : Layout} {pools : List (List Run)} {cpu i j : ℕ} (h : Held) {entries others : List Entry} {at place : ℕ} → i ≡ j → entries ≡ others → at ≡ place → ShowsTailFirst R S l pools cpu i h entries at → ShowsTailFirst R S l pools cpu j h others place
first_as R {S} {l} {pools} {cpu} {i} {j} h {entries} {others} {at} {place} one same there known =
    subst (λ (k : ℕ). ShowsTailFirst R S l pools cpu k h others place) one
    (subst (λ (es : List Entry). ShowsTailFirst R S l pools cpu i h es place) same
    (subst (λ (a : ℕ). ShowsTailFirst R S l pools cpu i h entries a) there known))

pub valid_as : (R S : Region) (l : Layout) {j k d e : ℕ} → j ≡ k → d ≡ e → ShowsValidFirst R S l j d → ShowsValidFirst R S l k e
valid_as R S l {j} {k} {d} {e} one there known = subst (λ (i : ℕ). ShowsValidFirst R S l i e) one (subst (λ (a : ℕ). ShowsValidFirst R S l j a) there known)

module _ {R : Region} {s : Super} {l : Layout} {rows : List Row} {free : FreeLists} {faults : List Fault} {read_only stopped : Bool} (kept : IsKept R s l rows free faults read_only stopped) (runs : stopped ≡ false) where
  -- by the row of the log
  pub row_first : (S : Region) (row : Row) → Contains rows row → (cpu : ℕ) (entries : List Entry) (at : ℕ) (held : Store) (h : Held) → ShowsSound R l held → held row.inode ≡ Some h
      → ((m : IsMounted R l held rows free.pools) (g : Held) → ShowsRow R l held g row free → TailIsFirst R S l free.pools cpu row.inode row.tail entries at) → ShowsTailFirst R S l free.pools cpu row.inode h entries at
  row_first S row there cpu entries at held h sound is step = ∥∥₁_map (mounted_with kept runs held sound) (λ m.
      let v = shows_row {free = free} m kept.lists row there in
      let shown = v.1 in
      let told = shown.told in
      let one : v.0 ≡ h = same_Some _ _ (sym shown.holds ∙ is) in
      subst (λ (t : ℕ). TailIsFirst R S l free.pools cpu row.inode t entries at) (told.tail ∙ ap (λ (g : Held). g.tail) one) (step m v.0 shown))

  -- and that of another inode
  pub rows_first : (S : Region) (row other : Row) → Contains rows row → Contains rows other → (cpu : ℕ) (entries : List Entry) (at : ℕ) (held : Store) (h : Held) → ShowsSound R l held → held row.inode ≡ Some h
      → ((f g : Held) → ShowsRow R l held f row free → ShowsRow R l held g other free → TailIsFirst R S l free.pools cpu row.inode row.tail entries at) → ShowsTailFirst R S l free.pools cpu row.inode h entries at
  rows_first S row other there other_there cpu entries at held h sound is step = row_first S row there cpu entries at held h sound is (λ m f shown. let u = shows_row {free = free} m kept.lists other other_there in step f u.0 shown u.1)
