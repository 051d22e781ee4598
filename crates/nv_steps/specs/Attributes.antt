-- What `set_attr` writes.
use Rattle.std.specs.Prelude.{◌≡◌, ℕ, ◌%◌, List, [], ◌∷◌}
use Rattle.nv_entry.specs.declared.entry.AttrEntry.{AttrEntry}
use Rattle.nv_entry.specs.declared.entry.Entry.{Entry}
use Rattle.nv_entry.specs.declared.entry.Entry.TheVariants.{Attr}
use Rattle.nv_scan.specs.declared.piece.Row.{Row}

-- the entries that set the attributes of an inode of this size
abbrev pub attributes : ℕ → ℕ → ℕ → ℕ → ℕ → List Entry
attributes size mode owner group time = Attr (record { mode = mode % 4096; size = size; time = time; owner = owner; group = group }) ∷ []

-- Mode, owner, group and time are those of the entry, and there is nothing else new but of the log.
pub record HasAttributes (old : Row) (x : AttrEntry) (new : Row) : Type 0 where
  pub inode : new.inode ≡ old.inode
  pub kind : new.kind ≡ old.kind
  pub size : new.numbers.size ≡ old.numbers.size
  pub mode : new.numbers.mode ≡ x.mode
  pub owner : new.numbers.owner ≡ x.owner
  pub group : new.numbers.group ≡ x.group
  pub links : new.numbers.links ≡ old.numbers.links
  pub time : new.numbers.time ≡ x.time
  pub index : new.index ≡ old.index
  pub names : new.names ≡ old.names
