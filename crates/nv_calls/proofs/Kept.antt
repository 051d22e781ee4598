-- What follows from what a mounted file system keeps.
use Rattle.std.proofs.Common.{◌≡◌, Bool, false, List, [], ◌∷◌, Option, subst}
use Rattle.std.proofs.Math.Logic.{∥∥₁_elim}
use Rattle.std.proofs.Props.{props}
use Rattle.nv_region.specs.Region.{Region}
use Rattle.nv_super.specs.declared.superblock.Super.{Super}
use Rattle.nv_super.specs.declared.faults.Fault.{Fault}
use Rattle.nv_super.specs.Order.{Rises}
use Rattle.nv_super.specs.Layout.{Layout}
use Rattle.nv_alloc.specs.FreeValue.{FreeLists}
use Rattle.nv_scan.specs.declared.piece.Row.{Row}
use Rattle.nv_cross_check.specs.Cross.{row_key}
use Rattle.nv_tree.specs.declared.refusal.Refusal.{Refusal}
use Rattle.nv_tree.specs.Refusals.{Path, first_refusal, stat_tests}
use Rattle.nv_calls.specs.Mount.{Mount, IsKept}
use Rattle.nv_paths.specs.Seen.{tree_of}

rises_prop : (rows : List Row) → IsProp (Rises row_key rows)
rises_prop [] = hlevel props
rises_prop (x ∷ []) = hlevel props
rises_prop (x ∷ y ∷ rows) = hlevel (props, rises_prop (y ∷ rows))

-- the rows rise by number
pub rows_rise : (R : Region) (s : Super) (l : Layout) (rows : List Row) (free : FreeLists) (faults : List Fault) (read_only stopped : Bool) → IsKept R s l rows free faults read_only stopped → stopped ≡ false → Rises row_key rows
rows_rise R s l rows free faults read_only stopped kept runs = ∥∥₁_elim (kept.shown runs) (rises_prop rows) (λ w. w.1.rows.rising)

-- what refuses a call, by a mount and by what it is equal to
pub refused_as : {P : Type 0} (region : P → Region) {m n : Mount P} (p : Path) (o : Option Refusal) → m ≡ n → first_refusal (stat_tests (tree_of (region m.memory) m.rows) p) ≡ o → first_refusal (stat_tests (tree_of (region n.memory) n.rows) p) ≡ o
refused_as {P} region p o same refused = subst (λ (k : Mount P). first_refusal (stat_tests (tree_of (region k.memory) k.rows) p) ≡ o) same refused
