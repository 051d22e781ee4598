-- What `replace` leaves.
use Rattle.std.proofs.Common.{◌≡◌, ◌≢◌, ℕ, Bool, false, inl, inr, List, ◌∷◌, slice_get, refl, ap, sym, ◌∙◌, subst, Option, Some, None}
use Rattle.nv_region.specs.Region.{Region}
use Rattle.nv_super.specs.declared.superblock.Super.{Super}
use Rattle.nv_super.specs.declared.faults.Fault.{Fault}
use Rattle.nv_super.specs.Layout.{Layout}
use Rattle.nv_alloc.specs.FreeValue.{FreeLists}
use Rattle.nv_scan.specs.declared.piece.Row.{Row}
use Rattle.nv_rows.specs.Rows.{IsInUse, place_in}
use Rattle.nv_rows.proofs.Places.{at_place, numbered, row_in_use}
use Rattle.nv_steps.specs.Fronts.{SameFrontBut}
use Rattle.nv_tree.specs.Path.{IsPathName}
use Rattle.nv_tree.specs.Tree.{SameTree, Tree}
use Rattle.nv_tree.specs.Replace.{replaced}
use Rattle.nv_tree.proofs.Replaced.{replaced_one, replaced_unused}
use Rattle.nv_tree.proofs.Same.{same_itself}
use Rattle.nv_paths.specs.MoveSpots.{IsMoveSpot}
use Rattle.nv_paths.specs.ReplaceSpots.{IsReplaceSpot}
use Rattle.nv_paths.specs.Seen.{tree_of}
use Rattle.nv_calls.specs.Mount.{IsKept}
use Rattle.nv_calls.specs.ReplaceCalls.{ReplacesAt, ReplacesHere, ReplacesOver}
use Rattle.nv_calls.proofs.FrontsKept.{handed_front, moved_front, taken_front}
use Rattle.nv_calls.proofs.MoveCall.{moved_kept, moved_tree}
use Rattle.nv_calls.proofs.ReplacedAcross.{over_kept, over_tree}
use Rattle.nv_calls.proofs.ReplacedSpot.{from_differs, to_differs}
use Rattle.nv_calls.proofs.ReplacedWithin.{here_kept, here_tree}

module _ {R : Region} {s : Super} {l : Layout} {rows : List Row} {free : FreeLists} {faults : List Fault} {read_only stopped : Bool} (kept : IsKept R s l rows free faults read_only stopped) (runs : stopped ≡ false) (writes : read_only ≡ false)
    (place source end : ℕ) {name other : List ℕ} (spelled : IsPathName name) (spelled_other : IsPathName other) (first_old : List ℕ) (old : List (List ℕ)) (first : List ℕ) (rest : List (List ℕ)) (moved : Row) (moved_at : slice_get rows source ≡ Some moved) where
  abbrev i : ℕ
  i = moved.inode

  abbrev names : List (List ℕ)
  names = first_old ∷ old

  abbrev others : List (List ℕ)
  others = first ∷ rest

  abbrev t : Tree
  t = tree_of R rows

  abbrev Spot : Option ℕ → Type 0
  Spot there = IsReplaceSpot t rows names others place name source end other there

  -- where the new name is free, it is moved
  free_spot : Spot None → IsMoveSpot t rows names others place name source end other
  free_spot spot =
      let way = spot.way in
      let over = spot.over in
      record { from = way.from; spot = record { directory = way.to; absent = λ row at. over.none row at refl }; apart = way.apart }

  -- within one directory both places are one
  here_spot : (there : Option ℕ) → place ≡ end → Spot there → IsReplaceSpot t rows names others place name source place other there
  here_spot there same = subst (λ (k : ℕ). IsReplaceSpot t rows names others place name source k other there) (sym same)

  module _ (j : ℕ) (used : IsInUse rows j) (spot : Spot (Some j)) (apart : j ≢ i) where
    abbrev had : Row
    had = (row_in_use rows j used).0

    had_at : slice_get rows (place_in rows j) ≡ Some had
    had_at = at_place rows j ∙ (row_in_use rows j used).1

    number : had.inode ≡ j
    number = numbered rows j had (row_in_use rows j used).1

    had_spot : Spot (Some had.inode)
    had_spot = subst (λ (k : ℕ). Spot (Some k)) (sym number) spot

    had_apart : i ≢ had.inode
    had_apart same = apart (sym (same ∙ number))

    -- neither directory is that inode
    pub ends_apart : (from to : Row) → slice_get rows place ≡ Some from → slice_get rows end ≡ Some to → (from.inode ≢ j) × (to.inode ≢ j)
    ends_apart from to at to_at = (
      λ e. from_differs kept runs writes (place_in rows j) moved had moved_at had_at first_old old first rest had_spot had_apart from at had had_at (e ∙ sym number),
      λ e. to_differs kept runs writes (place_in rows j) moved had moved_at had_at first_old old first rest had_spot had_apart to to_at had had_at (e ∙ sym number),
    )

    module _ {S : Region} {news : List Row} {after : FreeLists} {cpu time : ℕ} where
      within_kept : (same : place ≡ end) → ReplacesHere R S l free after cpu rows news place (place_in rows j) i name other time → (later : Bool) → IsKept S s l news after faults read_only later
      within_kept same step = here_kept kept runs writes (place_in rows j) moved had moved_at had_at spelled spelled_other first_old old first rest (here_spot (Some had.inode) same had_spot) had_apart step

      within_tree : (same : place ≡ end) → ReplacesHere R S l free after cpu rows news place (place_in rows j) i name other time → SameTree (tree_of S news) (replaced names others time t)
      within_tree same step = here_tree kept runs writes (place_in rows j) moved had moved_at had_at spelled spelled_other first_old old first rest (here_spot (Some had.inode) same had_spot) had_apart step

      across_kept : (differ : place ≢ end) → ReplacesOver R S l free after cpu rows news place end (place_in rows j) i name other time → (later : Bool) → IsKept S s l news after faults read_only later
      across_kept differ step = over_kept kept runs writes (place_in rows j) moved had moved_at had_at spelled spelled_other first_old old first rest had_spot had_apart differ step

      across_tree : (differ : place ≢ end) → ReplacesOver R S l free after cpu rows news place end (place_in rows j) i name other time → SameTree (tree_of S news) (replaced names others time t)
      across_tree differ step = over_tree kept runs writes (place_in rows j) moved had moved_at had_at spelled spelled_other first_old old first rest had_spot had_apart differ step

  -- What is kept.
  pub replaced_kept : (S : Region) (news : List Row) (after : FreeLists) (cpu time : ℕ) (there : Option ℕ) → ((j : ℕ) → there ≡ Some j → IsInUse rows j) → Spot there → ReplacesAt R S l free after cpu rows news place source end there i name other time → (later : Bool) → IsKept S s l news after faults read_only later
  replaced_kept S news after cpu time None used spot step later = moved_kept kept runs writes spelled spelled_other names first rest (free_spot spot) step later
  replaced_kept S news after cpu time (Some j) used spot (inl w) later =
      let all : (R, free, rows) ≡ (S, after, news) = λ k. (sym w.1.0 k, sym w.1.1 k, sym w.1.2 k) in
      subst (λ (x : Region × FreeLists × List Row). IsKept x.0 s l x.2 x.1 faults read_only later) all (record { writes = kept.writes; tables = kept.tables; lists = kept.lists; own = λ on. kept.own runs; shown = λ on. kept.shown runs })
  replaced_kept S news after cpu time (Some j) used spot (inr (apart, inl w)) later = within_kept j (used j refl) spot apart w.0 w.1 later
  replaced_kept S news after cpu time (Some j) used spot (inr (apart, inr w)) later = across_kept j (used j refl) spot apart w.0 w.1 later

  -- The tree is what the call makes of that of before.
  pub replaced_tree : (S : Region) (news : List Row) (after : FreeLists) (cpu time : ℕ) (there : Option ℕ) → ((j : ℕ) → there ≡ Some j → IsInUse rows j) → Spot there → ReplacesAt R S l free after cpu rows news place source end there i name other time → SameTree (tree_of S news) (replaced names others time t)
  replaced_tree S news after cpu time None used spot step = subst (λ (u : Tree). SameTree (tree_of S news) u) (sym (replaced_unused t names others time spot.leads)) (moved_tree kept runs writes spelled spelled_other names first rest (free_spot spot) step)
  replaced_tree S news after cpu time (Some j) used spot (inl w) =
      let way = spot.way in
      let from = way.from in
      let one : replaced names others time t ≡ t = replaced_one t names others i time (from.leads moved moved_at) (spot.leads ∙ ap (λ (k : ℕ). Some k) w.0) in
      let all : (R, rows) ≡ (S, news) = λ k. (sym w.1.0 k, sym w.1.2 k) in
      subst (λ (u : Tree). SameTree (tree_of S news) u) (sym one) (subst (λ (x : Region × List Row). SameTree (tree_of x.0 x.1) t) all (same_itself t))
  replaced_tree S news after cpu time (Some j) used spot (inr (apart, inl w)) = within_tree j (used j refl) spot apart w.0 w.1
  replaced_tree S news after cpu time (Some j) used spot (inr (apart, inr w)) = across_tree j (used j refl) spot apart w.0 w.1

  -- The superblock and all journals but that of the CPU are as they were.
  pub replaced_front : (S : Region) (news : List Row) (after : FreeLists) (cpu time : ℕ) (there : Option ℕ) → ReplacesAt R S l free after cpu rows news place source end there i name other time → SameFrontBut l.sup.cpus cpu R S
  replaced_front S news after cpu time None step = moved_front kept runs writes step
  replaced_front S news after cpu time (Some j) (inl w) = subst (λ (x : Region). SameFrontBut l.sup.cpus cpu R x) (sym w.1.0) (record { len = refl; words = λ at whole low other. refl })
  replaced_front S news after cpu time (Some j) (inr (apart, inl w)) = taken_front kept runs writes w.1
  replaced_front S news after cpu time (Some j) (inr (apart, inr w)) = handed_front kept runs writes w.1
