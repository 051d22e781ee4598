-- In version 1 a region has the fixed tables.
use Rattle.std.proofs.Common.{◌≡◌, sym, ◌∙◌}
use Rattle.nv_region.specs.Region.{Region}
use Rattle.nv_super.specs.declared.superblock.Super.{Super}
use Rattle.nv_super.specs.Layout.{Layout, fixed_layout}
use Rattle.nv_super.specs.Super.{IsSuper}
use Rattle.nv_inode.proofs.FixedLayout.{fixed_faults, layout_fixed}
use Rattle.nv_mounted.specs.Mounted.{HasTables}

pub fixed_tables : (R : Region) (s : Super) → IsSuper R s → s.version ≡ 1 → HasTables R (fixed_layout s)
fixed_tables R s is one = record { sup = is; laid = sym (layout_fixed s R one); ended = fixed_faults s R one }

pub only_fixed : (R : Region) (l : Layout) → HasTables R l → l.sup.version ≡ 1 → l ≡ fixed_layout l.sup
only_fixed R l has one = has.laid ∙ layout_fixed l.sup R one
