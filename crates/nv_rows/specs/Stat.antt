-- The numbers that a row shows.
use Rattle.nv_tree.specs.declared.stat.Stat.{Stat}
use Rattle.nv_scan.specs.declared.piece.Row.{Row}

-- a row's inode, kind and numbers
abbrev pub row_stat : Row → Stat
row_stat row = record {
  inode = row.inode;
  kind = row.kind;
  mode = row.numbers.mode;
  owner = row.numbers.owner;
  group = row.numbers.group;
  size = row.numbers.size;
  links = row.numbers.links;
  time = row.numbers.time;
}
