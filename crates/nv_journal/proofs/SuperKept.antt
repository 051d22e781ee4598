-- An undone region has the superblock that the region had.
use Rattle.std.proofs.Common.{arith}
use Rattle.nv_region.specs.Region.{Region}
use Rattle.nv_super.specs.declared.superblock.Super.{Super}
use Rattle.nv_super.specs.Layout.{IsLayout}
use Rattle.nv_super.specs.Super.{IsSuper}
use Rattle.nv_super.proofs.Accepted.{super_stays}
use Rattle.nv_inode.specs.Chains.{layout_of}
use Rattle.nv_inode.specs.Permitted.{is_permitted_by}
use Rattle.nv_journal.specs.Undo.{undone}
use Rattle.nv_journal.proofs.KeptLinks.{own_rule}
use Rattle.nv_journal.proofs.AnyLength.{undone_size, first_word}

pub super_undone : (s : Super) (R : Region) → IsLayout s → IsSuper R s → IsSuper (undone s R) s
super_undone s R layout is = super_stays R (undone s R) (undone_size (is_permitted_by (layout_of s R)) s.cpus (own_rule s R layout) R)
    (λ at whole before. first_word (is_permitted_by (layout_of s R)) s.cpus (own_rule s R layout) R at whole (omega (arith, before))) s is
