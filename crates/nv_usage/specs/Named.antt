-- Rows as inodes with names.
use Rattle.std.specs.Prelude.{List, []}
use Rattle.nv_region.specs.Region.{region_of}
use Rattle.nv_scan.specs.declared.piece.Row.{Row}
use Rattle.nv_tree.specs.Tree.{Tree}
use Rattle.nv_paths.specs.Seen.{tree_of}

-- the tree of the names of rows, in which no file has bytes
abbrev pub names_tree : List Row → Tree
names_tree rows = tree_of (region_of []) rows
