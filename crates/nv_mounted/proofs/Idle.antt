-- Journals in which nothing is pending: a region that is its own undo.
use Rattle.std.proofs.Common.{◌≡◌, Bool, true, false, refl, sym, ap, ◌∙◌, arith}
use Rattle.nv_region.specs.Region.{Region}
use Rattle.nv_super.specs.declared.superblock.Super.{Super}
use Rattle.nv_super.specs.declared.faults.Fault.{Fault}
use Rattle.nv_super.specs.declared.faults.Fault.TheVariants as faults
use Rattle.nv_super.specs.Layout.{IsLayout}
use Rattle.nv_inode.specs.Chains.{layout_of}
use Rattle.nv_inode.specs.Permitted.{is_permitted_by}
use Rattle.nv_journal.specs.Undo.{dequeue, enqueue, is_sound, pending_count, undone}
use Rattle.nv_journal.specs.Faults.{HasFault}
use Rattle.nv_journal.proofs.AnyLength.{dequeue_settled, quiet_same}
use Rattle.nv_journal.proofs.KeptLinks.{own_rule}
use Rattle.nv_journal.proofs.Pointers.{right_pointers, wrong_pointers}
use Rattle.nv_mounted.specs.Mounted.{AreIdle}

-- an idle region is its own undo
pub idle_undone : (s : Super) (R : Region) → IsLayout s → AreIdle s.cpus R → undone s R ≡ R
idle_undone s R layout idle = quiet_same (is_permitted_by (layout_of s R)) s.cpus (own_rule s R layout) R (λ cpu below sound. (idle cpu below).1)

-- its journals have no faults
pub idle_faultless : (s : Super) (R : Region) (f : Fault) → AreIdle s.cpus R → HasFault s R f → ⊥
idle_faultless s R (faults.J1 c) idle h = right_pointers R h.0 (idle h.0 h.1).0 h.2.1
idle_faultless s R (faults.J2 c n) idle h =
    let none : pending_count R h.0 ≡ 0 = (let same = (idle h.0 h.1).1 in omega (arith, same)) in
    let some = h.2.2.1 in
    omega (arith, none, some)
idle_faultless s R _ idle h = absurd h.2

-- a region that is its own undo, and whose journals have no faults, is idle
pub idle_of : (s : Super) (R : Region) → IsLayout s → undone s R ≡ R → ((f : Fault) → HasFault s R f → ⊥) → AreIdle s.cpus R
idle_of s R layout own none k below = test (is_sound R k) refl where
  test : (b : Bool) → is_sound R k ≡ b → (is_sound R k ≡ true) × (dequeue R k ≡ enqueue R k)
  test true sound = (sound, ap (λ (Q : Region). dequeue Q k) (sym own) ∙ dequeue_settled (is_permitted_by (layout_of s R)) s.cpus (own_rule s R layout) R k below sound)
  test false unsound = absurd (none (faults.J1 k) (k, below, (refl, wrong_pointers R k unsound)))
