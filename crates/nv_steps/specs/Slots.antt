-- Where the slot of an inode stands.
use Rattle.std.specs.Prelude.{ℕ, unwrap_or}
use Rattle.nv_super.specs.Layout.{Layout, slot_of}

-- the address of the slot of an inode, whose number has one
abbrev pub slot_in : Layout → ℕ → ℕ
slot_in l i = unwrap_or (slot_of l i) 0
