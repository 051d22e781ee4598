-- An inode is in use where its number has a slot, and the slot a kind.
use Rattle.std.proofs.Common.{◌≡◌, ℕ, ◌+◌, Bool, true, false, refl, Some, ◌↔◌}
use Rattle.nv_region.specs.Region.{Region, word}
use Rattle.nv_super.specs.declared.kind.Kind.{Kind}
use Rattle.nv_super.specs.Layout.{Layout, slot_of}
use Rattle.nv_inode.specs.Slot.{kind_at, is_right_log}
use Rattle.nv_logpage.proofs.Readable.{has_reading}
use Rattle.nv_logpage.proofs.RightLogs.{head_starts}
use Rattle.nv_scan.specs.Inode.{Log, IsInode, IsInUse, right, wrong, empty_log}
use Rattle.nv_scan.proofs.Only.{slot_in_use, kind_in_use}

-- an inode of this kind has its log there
pub has_log : (R : Region) (l : Layout) (i a : ℕ) (kind : Kind) → slot_of l i ≡ Some a → kind_at R a ≡ Some kind → (log : Log) × (log.kind ≡ kind) × IsInode R l i a log
has_log R l i a kind slot is_kind = by_test (is_right_log l.sup (word R (a + 16)) (word R (a + 24))) refl
  where
    by_test : (t : Bool) → is_right_log l.sup (word R (a + 16)) (word R (a + 24)) ≡ t → (log : Log) × (log.kind ≡ kind) × IsInode R l i a log
    by_test true t =
        let r = has_reading R l.sup (word R (a + 16)) (word R (a + 24)) (head_starts l.sup (word R (a + 16)) (word R (a + 24)) t) in
        (record { kind = kind; entries = r.0; pages = r.1; fault = r.2 }, refl, right slot is_kind t r.3)
    by_test false t = (empty_log kind, refl, wrong slot is_kind t)

pub by_slot : (R : Region) (l : Layout) (i : ℕ) → IsInUse R l i ↔ ((a : ℕ) × (kind : Kind) × (slot_of l i ≡ Some a) × (kind_at R a ≡ Some kind))
by_slot R l i = (
  λ u. (u.0, u.1.kind, slot_in_use u.2, kind_in_use u.2),
  λ s. (let h = has_log R l i s.0 s.1 s.2 s.3 in (s.0, h.0, h.2)),
)
