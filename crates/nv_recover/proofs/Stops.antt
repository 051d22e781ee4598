-- What a recovery stores, and what a stop may leave of it.
use Rattle.std.proofs.Common.{◌≡◌, refl, sym, subst, arith}
use Rattle.nv_region.specs.Region.{Region}
use Rattle.nv_region.specs.Stops.{Choices, NothingPending, LeavesOnly}
use Rattle.nv_region.specs.Stored.{StoresOnly}
use Rattle.nv_region.proofs.Stops.{fenced_leaves}
use Rattle.nv_region.proofs.Wordwise.{stores_within}
use Rattle.nv_super.specs.declared.superblock.Super.{Super}
use Rattle.nv_super.specs.Layout.{IsLayout}
use Rattle.nv_super.specs.Super.{IsSuper}
use Rattle.nv_super.proofs.Accepted.{super_stays}
use Rattle.nv_journal.specs.Undo.{undone}
use Rattle.nv_journal.specs.Undone.{UndoStores}
use Rattle.nv_journal.proofs.AnyLength.{undone_size, first_word}
use Rattle.nv_journal.proofs.KeptLinks.{own_rule}
use Rattle.nv_journal.proofs.SuperKept.{super_undone}
use Rattle.nv_recover.specs.Behind.{RecoveryStores}
use Rattle.nv_recover.specs.Errors.{UndoesAsBefore}

-- a region has the superblock that its undone region has
super_back : (s : Super) (R : Region) → IsLayout s → IsSuper (undone s R) s → IsSuper R s
super_back s R layout is = super_stays (undone s R) R (sym (undone_size _ s.cpus (own_rule s R layout) R))
    (λ at whole before. sym (first_word _ s.cpus (own_rule s R layout) R at whole (omega (arith, before)))) s is

-- what a stop leaves of journals that are being rolled back
pub stop_undone : (old new : Region) (choices : Choices) (s : Super) → IsLayout s → IsSuper old s → LeavesOnly new choices (λ left. undone s left ≡ undone s old) → LeavesOnly new choices (UndoesAsBefore old)
stop_undone old new choices s layout is leaves left may =
    let same : undone s left ≡ undone s old = leaves left may in
    (s, is, super_back s left layout (subst (λ (R : Region). IsSuper R s) (sym same) (super_undone s old layout is)), same)

-- and where nothing was stored
pub stop_before : (R : Region) (choices : Choices) (s : Super) → IsSuper R s → NothingPending R choices → LeavesOnly R choices (UndoesAsBefore R)
stop_before R choices s is none = fenced_leaves R choices (UndoesAsBefore R) none (s, is, is, refl)

-- what is stored once the superblock is read
pub recovery_stores : (R S : Region) (old new : Choices) (s : Super) → IsSuper R s → StoresOnly (UndoStores s R) R S old new → StoresOnly (RecoveryStores R) R S old new
recovery_stores R S old new s is = stores_within (RecoveryStores R) (UndoStores s R) R S old new (λ i x it. (s, is, it))
