-- Why each call on a mount is refused: the first refusal that applies.
use Rattle.std.specs.Prelude.{ℕ, List, Option}
use Rattle.nv_region.specs.Region.{Region}
use Rattle.nv_tree.specs.Refusals.{Path, first_refusal, clean_tests, create_tests, link_tests, list_tests, read_tests, rename_tests, rmdir_tests, set_attr_tests, set_size_tests, stat_tests}
use Rattle.nv_tree.specs.Refusals.{unlink_tests, write_tests}
use Rattle.nv_tree.specs.Replace.{replace_tests}
use Rattle.nv_tree.specs.declared.refusal.Refusal.{Refusal}
use Rattle.nv_calls.specs.Mount.{Mount}
use Rattle.nv_calls.specs.World.{world_of}
use Rattle.nv_calls.specs.AttributesCall.{attributes_blocks}
use Rattle.nv_calls.specs.ByNumber.{list_inode_tests, read_inode_tests, stat_inode_tests}
use Rattle.nv_calls.specs.ChangesByNumber.{attributes_inode_blocks, resized_inode_blocks, set_attr_inode_tests, set_size_inode_tests, write_inode_tests}
use Rattle.nv_calls.specs.LinkCalls.{link_blocks}
use Rattle.nv_calls.specs.MoveCalls.{rename_blocks}
use Rattle.nv_calls.specs.NameCalls.{create_blocks, name_blocks}
use Rattle.nv_calls.specs.NamesByNumber.{create_inode_blocks, create_inode_tests, entry_blocks, link_inode_blocks, link_inode_tests, lookup_inode_tests, rmdir_inode_tests, unlink_inode_blocks, unlink_inode_tests}
use Rattle.nv_calls.specs.ReplaceBlocks.{replace_blocks}
use Rattle.nv_calls.specs.SizeCall.{resized_blocks}
use Rattle.nv_calls.specs.UnlinkCalls.{unlink_blocks}
use Rattle.nova_c.specs.Handles.{shown}

-- of `create` and `mkdir`
abbrev pub create_refusal : Mount Region → ℕ → Path → Option Refusal
create_refusal m cpu p = first_refusal (create_tests (world_of m) (shown m) cpu p (create_blocks m.layout m.rows cpu (shown m) p))

-- of `write` up to this end, which takes so many blocks
abbrev pub write_refusal : Mount Region → ℕ → Path → ℕ → ℕ → Option Refusal
write_refusal m cpu p end blocks = first_refusal (write_tests (world_of m) (shown m) cpu p end blocks)

-- of `set_size`
abbrev pub set_size_refusal : Mount Region → ℕ → Path → ℕ → Option Refusal
set_size_refusal m cpu p size = first_refusal (set_size_tests (world_of m) (shown m) cpu p size (resized_blocks m.rows (shown m) p size))

-- of `set_attr`
abbrev pub set_attr_refusal : Mount Region → ℕ → Path → Option Refusal
set_attr_refusal m cpu p = first_refusal (set_attr_tests (world_of m) (shown m) cpu p (attributes_blocks m.rows (shown m) p))

-- of `link`, by the file's path and the new one
abbrev pub link_refusal : Mount Region → ℕ → Path → Path → Option Refusal
link_refusal m cpu p q = first_refusal (link_tests (world_of m) (shown m) cpu p q (link_blocks m.rows (shown m) p q))

-- of `unlink`
abbrev pub unlink_refusal : Mount Region → ℕ → Path → Option Refusal
unlink_refusal m cpu p = first_refusal (unlink_tests (world_of m) (shown m) cpu p (unlink_blocks m.rows (shown m) p))

-- of `rmdir`
abbrev pub rmdir_refusal : Mount Region → ℕ → Path → Option Refusal
rmdir_refusal m cpu p = first_refusal (rmdir_tests (world_of m) (shown m) cpu p (name_blocks m.rows (shown m) p))

-- of `rename`, by the old path and the new one
abbrev pub rename_refusal : Mount Region → ℕ → Path → Path → Option Refusal
rename_refusal m cpu p q = first_refusal (rename_tests (world_of m) (shown m) cpu p q (rename_blocks m.rows (shown m) p q))

-- of `replace`, by the old path and the new one
abbrev pub replace_refusal : Mount Region → ℕ → Path → Path → Option Refusal
replace_refusal m cpu p q = first_refusal (replace_tests (world_of m) (shown m) cpu p q (replace_blocks m.rows (shown m) p q))

-- of `clean`
abbrev pub clean_refusal : Mount Region → Path → Option Refusal
clean_refusal m p = first_refusal (clean_tests (world_of m) (shown m) p)

-- of `stat`
abbrev pub stat_refusal : Mount Region → Path → Option Refusal
stat_refusal m p = first_refusal (stat_tests (shown m) p)

-- of `read`
abbrev pub read_refusal : Mount Region → Path → Option Refusal
read_refusal m p = first_refusal (read_tests (shown m) p)

-- of `list`
abbrev pub list_refusal : Mount Region → Path → Option Refusal
list_refusal m p = first_refusal (list_tests (shown m) p)

-- of `stat_inode`, by an inode's number
abbrev pub stat_inode_refusal : Mount Region → ℕ → Option Refusal
stat_inode_refusal m i = first_refusal (stat_inode_tests (shown m) i)

-- of `read_inode`
abbrev pub read_inode_refusal : Mount Region → ℕ → Option Refusal
read_inode_refusal m i = first_refusal (read_inode_tests (shown m) i)

-- of `list_inode`
abbrev pub list_inode_refusal : Mount Region → ℕ → Option Refusal
list_inode_refusal m i = first_refusal (list_inode_tests (shown m) i)

-- of `write_inode` up to this end, which takes so many blocks
abbrev pub write_inode_refusal : Mount Region → ℕ → ℕ → ℕ → ℕ → Option Refusal
write_inode_refusal m cpu i end blocks = first_refusal (write_inode_tests (world_of m) (shown m) cpu i end blocks)

-- of `set_size_inode`
abbrev pub set_size_inode_refusal : Mount Region → ℕ → ℕ → ℕ → Option Refusal
set_size_inode_refusal m cpu i size = first_refusal (set_size_inode_tests (world_of m) (shown m) cpu i size (resized_inode_blocks m.rows i size))

-- of `set_attr_inode`
abbrev pub set_attr_inode_refusal : Mount Region → ℕ → ℕ → Option Refusal
set_attr_inode_refusal m cpu i = first_refusal (set_attr_inode_tests (world_of m) (shown m) cpu i (attributes_inode_blocks m.rows i))

-- of `lookup_inode`, by the directory's number and the name
abbrev pub lookup_inode_refusal : Mount Region → ℕ → List ℕ → Option Refusal
lookup_inode_refusal m d name = first_refusal (lookup_inode_tests (shown m) d name)

-- of `create_inode` and `mkdir_inode`
abbrev pub create_inode_refusal : Mount Region → ℕ → ℕ → List ℕ → Option Refusal
create_inode_refusal m cpu d name = first_refusal (create_inode_tests (world_of m) (shown m) cpu d name (create_inode_blocks m.layout m.rows cpu d name))

-- of `unlink_inode`
abbrev pub unlink_inode_refusal : Mount Region → ℕ → ℕ → List ℕ → Option Refusal
unlink_inode_refusal m cpu d name = first_refusal (unlink_inode_tests (world_of m) (shown m) cpu d name (unlink_inode_blocks m.rows (shown m) d name))

-- of `rmdir_inode`
abbrev pub rmdir_inode_refusal : Mount Region → ℕ → ℕ → List ℕ → Option Refusal
rmdir_inode_refusal m cpu d name = first_refusal (rmdir_inode_tests (world_of m) (shown m) cpu d name (entry_blocks m.rows d name))

-- of `link_inode`, by the file's number too
abbrev pub link_inode_refusal : Mount Region → ℕ → ℕ → ℕ → List ℕ → Option Refusal
link_inode_refusal m cpu i d name = first_refusal (link_inode_tests (world_of m) (shown m) cpu i d name (link_inode_blocks m.rows i d name))
