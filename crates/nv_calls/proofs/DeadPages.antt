-- Pages that go one after another, told by what is held.
use Rattle.std.proofs.Common.{◌≡◌, ℕ, zero, suc, Bool, false, List, get_or, subst, Option, Some, None}
use Rattle.std.specs.List.{Contains, remove}
use Rattle.std.proofs.Math.Logic.{∥∥₁_elim}
use Rattle.std.proofs.Math.Nat.{ℕ_set}
use Rattle.std.proofs.Props.{props}
use Rattle.nv_region.specs.Region.{Region}
use Rattle.nv_super.specs.declared.superblock.Super.{Super}
use Rattle.nv_super.specs.declared.kind.Kind.{Kind}
use Rattle.nv_super.specs.declared.faults.Fault.{Fault}
use Rattle.nv_super.specs.Layout.{Layout}
use Rattle.nv_alloc.specs.FreeValue.{FreeLists}
use Rattle.nv_logpage.specs.declared.found.Placed.{Placed}
use Rattle.nv_logpage.specs.Unlinked.{without_page}
use Rattle.nv_deadpages.specs.Dead.{IsFirstDead}
use Rattle.nv_deadpages.specs.InTurn.{AreDeadPages, GoInTurn}
use Rattle.nv_deadpages.specs.declared.in_turn.DeadPages.{DeadPages}
use Rattle.nv_scan.specs.declared.piece.Row.{Row}
use Rattle.nv_mounted.specs.Held.{Held, Store}
use Rattle.nv_mounted.specs.Mounted.{ShowsSound}
use Rattle.nv_steps.specs.Steps.{ShowsRow}
use Rattle.nv_calls.specs.Mount.{IsKept, Mount}
use Rattle.nv_calls.proofs.CleanedMount.{held_row}
use Rattle.nv_calls.proofs.Mounts.{mounted_with}

-- there is one way at most to be these pages
pub first_prop : (s : Super) (kind : Kind) (i created : ℕ) (es : List Placed) (pages : List ℕ) (found : Option ℕ) → IsProp (IsFirstDead s kind i created es pages found)
first_prop s kind i created es pages None = hlevel (props, ℕ_set)
first_prop s kind i created es pages (Some k) = hlevel (props, ℕ_set)

pub turns_prop : (s : Super) (kind : Kind) (i created k n : ℕ) (es : List Placed) (pages : List ℕ) → IsProp (GoInTurn s kind i created k n es pages)
turns_prop s kind i created k zero es pages = hlevel (props, ℕ_set)
turns_prop s kind i created k (suc n) es pages =
    let first = first_prop s kind i created es pages (Some k) in
    let rest = turns_prop s kind i created k n (without_page (get_or pages k 0) es) (remove pages k) in
    hlevel (props, ℕ_set, first, rest)

pub dead_prop : (s : Super) (kind : Kind) (i created : ℕ) (es : List Placed) (pages : List ℕ) (found : Option DeadPages) → IsProp (AreDeadPages s kind i created es pages found)
dead_prop s kind i created es pages None = first_prop s kind i created es pages None
dead_prop s kind i created es pages (Some found) = let turns = turns_prop s kind i created found.first found.count es pages in hlevel (props, ℕ_set, turns)

abbrev IsTold : Region → Layout → ℕ → Option DeadPages → Type 0
IsTold R l i found = (held : Store) (h : Held) → ShowsSound R l held → held i ≡ Some h → AreDeadPages l.sup h.kind i h.created h.entries h.pages found

-- What is told of the log by its row is so of what is held of it.
pub dead_told : {R : Region} {s : Super} {l : Layout} {rows : List Row} {free : FreeLists} {faults : List Fault} {read_only stopped : Bool} → IsKept R s l rows free faults read_only stopped → stopped ≡ false → (row : Row) → Contains rows row → (found : Option DeadPages)
    → ((held : Store) (h : Held) → ShowsRow R l held h row free → AreDeadPages l.sup h.kind row.inode h.created h.entries h.pages found) → IsTold R l row.inode found
dead_told {R} {s} {l} {rows} {free} kept runs row there found told held h sound is =
    ∥∥₁_elim (mounted_with kept runs held sound) (dead_prop l.sup h.kind row.inode h.created h.entries h.pages found) (λ m. told held h (held_row kept row there held h is m))

-- and of the inode of a number
pub dead_here : {P : Type 0} (region : P → Region) {n m : Mount P} → n ≡ m → {i j : ℕ} (found : Option DeadPages) → i ≡ j → IsTold (region n.memory) n.layout i found → IsTold (region m.memory) m.layout j found
dead_here {P} region {n} {m} same {i} {j} found number told = subst (λ (k : Mount P). IsTold (region k.memory) k.layout j found) same (subst (λ (q : ℕ). IsTold (region n.memory) n.layout q found) number told)
