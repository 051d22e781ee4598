use Rattle.std.proofs.Common.{◌≡◌, ◌≢◌, ℕ, zero, suc, ◌<◌, [], ◌∷◌, get_or, ap, sym, subst, IsTrue, arith}
use Rattle.nv_scan.specs.declared.piece.Row.{Row}
use Rattle.nv_super.specs.declared.superblock.Super.{Super}
use Rattle.nv_super.specs.Layout.{Layout, fixed_layout}
use Rattle.nv_inode.specs.Numbers.{has_slot}
use Rattle.nv_rows.specs.Rows.{inodes_of}
use Rattle.nv_rows.specs.Unused.{HaveSlots}
use Rattle.test_system.proofs.rows.two_files.Goals as goal

abbrev small : Super
small = record { version = 1; cpus = 1; blocks = 16; table_blocks = 1; state = 0 }

slots : (a b : Row) → a.inode ≡ 4 → b.inode ≡ 2 → (k : ℕ) → k < 2 → IsTrue (has_slot (fixed_layout small) (get_or (inodes_of (a ∷ b ∷ [])) k 0))
slots a b first second zero inside = ap (has_slot (fixed_layout small)) first
slots a b first second (suc zero) inside = ap (has_slot (fixed_layout small)) second
slots a b first second (suc (suc k)) inside = absurd (omega (arith, inside))

once : (a b : Row) → a.inode ≡ 4 → b.inode ≡ 2 → (j k : ℕ) → j < k → k < 2 → get_or (inodes_of (a ∷ b ∷ [])) j 0 ≢ get_or (inodes_of (a ∷ b ∷ [])) k 0
once a b first second j zero order inside same = absurd (omega (arith, order))
once a b first second zero (suc zero) order inside same = absurd (omega (arith, first, second, same))
once a b first second (suc j) (suc zero) order inside same = absurd (omega (arith, order))
once a b first second j (suc (suc k)) order inside same = absurd (omega (arith, inside))

pub from_rows-requires : goal.from_rows-requires
from_rows-requires c =
    subst (λ (l : Layout). HaveSlots l (inodes_of c.in_ok-of.field-0.items)) (sym c.in_ok-tables.ensures)
    (rw (c.in_ok-of.ensures, c.in_ok-push-2.ensures.ok, c.in_ok-push.ensures.ok, c.new-rows.ensures)
    (record {
      each = slots c.file.result c.file-2.result c.file.ensures c.file-2.ensures;
      once = once c.file.result c.file-2.result c.file.ensures c.file-2.ensures;
    }))
