-- What the calls that change two words together leave of the superblock and the journals.
use Rattle.std.proofs.Common.{◌≡◌, ℕ, ◌+◌, ◌*◌, ◌<◌, ◌∙◌, subst, sym, Bool, false, inl, inr, List, None, refl, arith}
use Rattle.std.proofs.Math.Logic.{∥∥₁_elim}
use Rattle.std.proofs.Math.Nat.{ℕ_set}
use Rattle.std.proofs.Props.{props}
use Rattle.nv_region.specs.Region.{Region, size}
use Rattle.nv_super.specs.declared.superblock.Super.{Super}
use Rattle.nv_super.specs.declared.faults.Fault.{Fault}
use Rattle.nv_super.specs.declared.kind.Kind.{Kind}
use Rattle.nv_super.proofs.Members.{stands}
use Rattle.nv_super.specs.Layout.{Layout}
use Rattle.nv_alloc.specs.FreeValue.{FreeLists}
use Rattle.nv_entry.specs.declared.entry.Entry.{Entry}
use Rattle.nv_scan.specs.declared.piece.Row.{Row}
use Rattle.nv_graph.specs.Read.{row_of}
use Rattle.nv_mounted.specs.Held.{Store}
use Rattle.nv_mounted.specs.Mounted.{IsMounted}
use Rattle.nv_steps.specs.Fronts.{SameFrontBut}
use Rattle.nv_steps.specs.MoreNames.{GrowsTwo}
use Rattle.nv_steps.specs.Moves.{move_entries}
use Rattle.nv_steps.proofs.LogGrows.{can_extend}
use Rattle.nv_steps.proofs.OtherJournals.{extended_front}
use Rattle.nv_calls.specs.AtPlaces.{CreatesAt, CutsAt, Releases, cut_of}
use Rattle.nv_calls.specs.Growing.{CreatesGrown}
use Rattle.nv_calls.specs.Mount.{IsKept}
use Rattle.nv_calls.specs.MoveCalls.{MovesAt, MovesHere}
use Rattle.nv_calls.specs.ReplaceCalls.{ReplacesHere, ReplacesOver}
use Rattle.nv_calls.proofs.CreatedRows.{not_held}
use Rattle.nv_calls.proofs.GrownMount.{got_kept, got_sup, got_words}
use Rattle.nv_calls.proofs.Mounts.{mounted_of_kept}
use Rattle.nv_calls.proofs.OneRow.{shows_row}

-- by whatever is held of the region
by_held : {R S : Region} {s : Super} {l : Layout} {rows : List Row} {free : FreeLists} {faults : List Fault} {read_only stopped : Bool} {cpu : ℕ} → IsKept R s l rows free faults read_only stopped → stopped ≡ false → read_only ≡ false
    → ((held : Store) → IsMounted R l held rows free.pools → SameFrontBut l.sup.cpus cpu R S) → SameFrontBut l.sup.cpus cpu R S
by_held kept runs writes front = record {
  len = ∥∥₁_elim (mounted_of_kept kept runs writes) (hlevel (props, ℕ_set)) (λ w. (let one = front w.0 w.1 in one.len));
  words = λ at whole low other. ∥∥₁_elim (mounted_of_kept kept runs writes) (hlevel (props, ℕ_set)) (λ w. (let one = front w.0 w.1 in one.words at whole low other));
}

module _ {R S : Region} {s : Super} {l : Layout} {rows news : List Row} {free after : FreeLists} {faults : List Fault} {read_only stopped : Bool} (kept : IsKept R s l rows free faults read_only stopped) (runs : stopped ≡ false) (writes : read_only ≡ false) {cpu : ℕ} where
  pub step_front : {place : ℕ} {kind : Kind} {mode time j : ℕ} {name : List ℕ} → CreatesAt R S l free after cpu rows news place kind mode time j name → row_of rows j ≡ None → SameFrontBut l.sup.cpus cpu R S
  step_front {place} {kind} {mode} {time} {j} step unused = by_held kept runs writes (λ held m.
      let made = step.step in
      let row = shows_row {free = free} m kept.lists step.row (stands rows place step.row step.at) in
      let seen = made.shows held row.0 row.1 (not_held m j unused) in
      seen.front)

  pub both_front : {i j : ℕ} {first second : Row} {entries others : List Entry} {Becomes Other : List ℕ → Row → Type 0} → GrowsTwo R S l free after cpu rows news i first entries j second others Becomes Other → SameFrontBut l.sup.cpus cpu R S
  both_front {i} {j} {first} {second} step = by_held kept runs writes (λ held m.
      let row = shows_row {free = free} m kept.lists first (stands rows i first step.at) in
      let other = shows_row {free = free} m kept.lists second (stands rows j second step.other_at) in
      let seen = step.shows held row.0 other.0 row.1 other.1 in
      seen.front)

  pub cut_front : {place target : ℕ} {name : List ℕ} {time : ℕ} → CutsAt R S l free after cpu rows news place target name time → SameFrontBut l.sup.cpus cpu R S
  cut_front {place} step = by_held kept runs writes (λ held m.
      let cuts = step.step in
      let row = shows_row {free = free} m kept.lists step.row (stands rows place step.row step.at) in
      let seen = cuts.shows held row.0 row.1 in
      seen.front)

  -- within one directory no journal is used
  here_front : {place target : ℕ} {name other : List ℕ} {time : ℕ} → MovesHere R S l free after cpu rows news place target name other time → SameFrontBut l.sup.cpus cpu R S
  here_front {place} {target} {name} {other} {time} step = by_held kept runs writes (λ held m.
      let moves = step.step in
      let moved = step.moved in
      let row = shows_row {free = free} m kept.lists step.row (stands rows place step.row step.at) in
      extended_front (can_extend (move_entries moved.inode name other time) row.1 kept.lists moves.taken moves.count (refl, (refl, tt)) (omega arith)) cpu S moves.mixed)

  pub moved_front : {place target end : ℕ} {name other : List ℕ} {time : ℕ} → MovesAt R S l free after cpu rows news place target end name other time → SameFrontBut l.sup.cpus cpu R S
  moved_front (inl w) = here_front w.1
  moved_front (inr w) = let across = w.1 in both_front across.step

  -- a name that was given to another inode: within one directory
  pub taken_front : {place target i : ℕ} {name other : List ℕ} {time : ℕ} → ReplacesHere R S l free after cpu rows news place target i name other time → SameFrontBut l.sup.cpus cpu R S
  taken_front (inl w) = let lessens = w.1 in both_front lessens.step
  taken_front {place} (inr w) = by_held kept runs writes (λ held m.
      let takes = w.1 in
      let step = takes.step in
      let row = shows_row {free = free} m kept.lists takes.row (stands rows place takes.row takes.at) in
      let seen = step.shows held row.0 row.1 in
      seen.front)

  -- and from one directory to another
  pub handed_front : {place end target i : ℕ} {name other : List ℕ} {time : ℕ} → ReplacesOver R S l free after cpu rows news place end target i name other time → SameFrontBut l.sup.cpus cpu R S
  handed_front {place} {end} {target} (inl w) = by_held kept runs writes (λ held m.
      let lessens = w.1 in
      let step = lessens.step in
      let from = shows_row {free = free} m kept.lists lessens.from (stands rows place lessens.from lessens.at) in
      let to = shows_row {free = free} m kept.lists lessens.to (stands rows end lessens.to lessens.to_at) in
      let file = shows_row {free = free} m kept.lists lessens.file (stands rows target lessens.file lessens.file_at) in
      let seen = step.shows held from.0 to.0 file.0 from.1 to.1 file.1 in
      seen.front)
  handed_front {place} {end} {target} (inr w) = by_held kept runs writes (λ held m.
      let takes = w.1 in
      let step = takes.step in
      let from = shows_row {free = free} m kept.lists takes.from (stands rows place takes.from takes.at) in
      let to = shows_row {free = free} m kept.lists takes.to (stands rows end takes.to takes.to_at) in
      let seen = step.shows held from.0 to.0 from.1 to.1 in
      seen.front)

-- a name that went, with its file or a link of it
pub released_front : {R S : Region} {s : Super} {l : Layout} {rows news : List Row} {free after : FreeLists} {faults : List Fault} {read_only stopped : Bool} → IsKept R s l rows free faults read_only stopped → stopped ≡ false → read_only ≡ false
    → {cpu place target : ℕ} {name : List ℕ} {time : ℕ} → Releases R S l free after cpu rows news place target name time → SameFrontBut l.sup.cpus cpu R S
released_front kept runs writes (inl w) = let unlinks = w.1 in both_front kept runs writes unlinks.step
released_front kept runs writes (inr w) = cut_front kept runs writes (cut_of w.1)

-- A number got a slot first.
pub created_front : {R S : Region} {s : Super} {l grown : Layout} {rows news : List Row} {free after : FreeLists} {faults : List Fault} {read_only stopped : Bool} (kept : IsKept R s l rows free faults read_only stopped) (runs : stopped ≡ false) (writes : read_only ≡ false) {cpu place : ℕ} {kind : Kind} {mode time j : ℕ} {name : List ℕ}
    (step : CreatesGrown R S l grown free after cpu rows news place kind mode time j name) → cpu < l.sup.cpus → row_of rows j ≡ None → size S ≡ size R → SameFrontBut l.sup.cpus cpu R S
created_front {R} {S} {s} {l} {grown} {stopped = stopped} kept runs writes {cpu} step low unused len = record {
  len = len;
  words = λ at whole below other. later.words at whole (subst (λ (x : Super). at < (1 + x.cpus) * 4096) (sym (got_sup step.got)) below) other ∙ got_words kept runs writes step.got low at whole below other;
} where
  later : SameFrontBut grown.sup.cpus cpu step.mid S
  later = step_front (got_kept kept runs writes step.got stopped) runs writes step.step unused
