-- Handles, and the mounts that they own.
use Rattle.std.specs.Prelude.{◌≡◌, ◌≤◌, ℕ, false}
use Rattle.nv_region.specs.Region.{Region}
use Rattle.nv_tree.specs.Tree.{Tree}
use Rattle.nv_paths.specs.Seen.{tree_of}
use Rattle.nv_calls.specs.Mount.{Mount}
use Rattle.nova_c.specs.declared.handle.NovaFs.{NovaFs}

-- the tree that a mount shows
abbrev pub shown : Mount Region → Tree
shown m = tree_of m.memory m.rows

-- the handle owns a mount
abbrev pub IsOpen : NovaFs → Type 0
IsOpen h = 1 ≤ h.is_open

-- the handle owns nothing
abbrev pub IsClosed : NovaFs → Type 0
IsClosed h = h.is_open ≡ 0

-- it owns a mount, whose memory was never stopped
pub record IsRunning (h : NovaFs) : Type 0 where
  pub owns : IsOpen h
  pub runs : h.mount.stopped ≡ false

-- a closed handle stays so, and the status says that it is closed
pub record TellsClosed (new : NovaFs) (status : ℕ) : Type 0 where
  pub stays : IsClosed new
  pub says : status ≡ 16

-- the handle owns the mount that it owned before
pub record KeepsAll (old new : NovaFs) : Type 0 where
  pub owns : IsOpen new
  pub mount : new.mount ≡ old.mount
