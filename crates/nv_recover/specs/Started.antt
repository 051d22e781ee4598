-- What is known once the journals are rolled back.
use Rattle.std.specs.Prelude.{◌≡◌}
use Rattle.nv_region.specs.Region.{Region, HasBlocks}
use Rattle.nv_super.specs.Layout.{IsLayout}
use Rattle.nv_super.specs.Order.{fault_key, Lists}
use Rattle.nv_super.specs.Super.{IsSuper}
use Rattle.nv_inode.specs.Chains.{chain_faults, layout_of}
use Rattle.nv_journal.specs.Undo.{undone}
use Rattle.nv_journal.specs.Faults.{HasFault}
use Rattle.nv_recover.specs.declared.starting.Started.{Started}

-- The superblock of the old region, and the faults of its journals. The new region is the old one with its journals rolled back;
-- the tables are those of the new one, and what is wrong with its chains is told.
pub record IsStarted (old new : Region) (o : Started) : Type 0 where
  pub sup : IsSuper old o.sup
  pub layout : IsLayout o.sup
  pub tables : o.tables.layout ≡ layout_of o.sup new
  pub chained : o.tables.faults ≡ chain_faults o.sup new
  pub rolled_back : new ≡ undone o.sup old
  pub blocks : HasBlocks new o.sup.blocks
  pub in_journals : Lists fault_key (HasFault o.sup old) o.journal.items
