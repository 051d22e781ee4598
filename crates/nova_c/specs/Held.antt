-- What a handle owns.
use Rattle.std.specs.Prelude.{ℕ, zero, suc, false, []}
use base.Fml.{Fml, ftrue}
use denote.RattleType.{RattleType}
use denote.Signature.{static_lft}
use denote.RawPtr.{Ptr}
use Rattle.std.specs.Coded.{Coded}
use Rattle.std_alloc.specs.Box.Ownership.{box_owns}
use Rattle.std.specs.declared.alloc.Global.{Global}
use Rattle.std.specs.contracts.impls.GlobalAllocator.TheImpl.{ghosts}
use Rattle.nv_region.specs.Region.{Region}
use Rattle.nv_super.specs.declared.superblock.Super.{Super}
use Rattle.nv_super.specs.Layout.{Layout}
use Rattle.nv_alloc.specs.FreeValue.{FreeLists}
use Rattle.nv_lent.specs.contracts.words.WordRegion as memory
use Rattle.nv_lent.specs.contracts.words.WordRegionPmem.TheImpl.{ghosts as memory_ghosts}
use Rattle.nv_calls.specs.contracts.fs.Fs as fs
use Rattle.nv_calls.specs.Mount.{Mount}

-- a mount, as a type
abbrev pub Mounted : RattleType
Mounted = fs.the_row (memory.the_row static_lft) memory_ghosts

-- how what contracts see of a mount is coded, for a ghost field
abbrev pub mount_coded : Coded (Mount Region)
mount_coded = Mounted.coded

-- a heap's handle: the C library has one heap, whose blocks do not depend on it
abbrev pub heap : Global
heap = record { memory = record { seal = tt } }

-- the mount m in a block of the C library's heap at p
abbrev pub boxed : Ptr → Mount Region → Fml
boxed p m = box_owns (ghosts.dealloc_token heap) Mounted p m

-- what is owned of a handle with this in `is_open`
abbrev pub held : ℕ → Ptr → Mount Region → Fml
held zero p m = ftrue
held (suc n) p m = boxed p m

-- what a closed handle says of its mount, which matters to nobody: a superblock of no region
abbrev pub no_super : Super
no_super = record { version = 0; cpus = 0; blocks = 0; table_blocks = 0; state = 0 }

-- tables of no region
abbrev pub no_layout : Layout
no_layout = record { sup = no_super; chains = [] }

-- free lists of no region
abbrev pub no_lists : FreeLists
no_lists = record { sup = no_super; pools = []; room = 0 }

-- a region of no words
abbrev pub no_region : Region
no_region = record { words = []; rest = [] }

-- the mount of no region
abbrev pub no_mount : Mount Region
no_mount = record { memory = no_region; sup = no_super; layout = no_layout; rows = []; free = no_lists; faults = []; read_only = false; stopped = false }
