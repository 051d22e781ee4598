-- The item of an entry of a tree.
use Rattle.std.specs.Prelude.{ℕ, List, [], Option, Some, None, string_bytes, unwrap_or}
use Rattle.nv_untar.specs.declared.item.ItemKind.{ItemKind}
use Rattle.nv_untar.specs.declared.item.ItemKind.TheVariants as items
use Rattle.nv_untar.specs.Items.{Item}
use Rattle.nv_host.specs.declared.found.HostKind.{HostKind}
use Rattle.nv_host.specs.declared.found.HostKind.TheVariants.{File, Directory}
use Rattle.nv_host.specs.declared.held.Held.{Held}
use Rattle.nv_host.specs.Links.{path_of}

-- a further name of a file is a link
abbrev pub kind_said : Option (List ℕ) → HostKind → ItemKind
kind_said (Some first) kind = items.Link
kind_said None File = items.File
kind_said None Directory = items.Directory

-- the path of the first name, or none
abbrev pub text_of : Option (List ℕ) → List ℕ
text_of (Some first) = first
text_of None = []

-- the item of an entry, at this time or, without one, at its own
abbrev pub item_said : Option ℕ → Held → Item
item_said time held = record {
  path = string_bytes held.entry.now.path;
  kind = kind_said (path_of held.link) held.entry.now.found.kind;
  mode = held.entry.now.found.mode;
  owner = held.entry.now.found.owner;
  group = held.entry.now.found.group;
  time = unwrap_or time held.entry.now.found.time;
  link = text_of (path_of held.link);
  bytes = held.bytes.items;
}
