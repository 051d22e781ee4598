-- The entries of names, and what is held with them.
use Rattle.std.specs.Prelude.{ℕ, List, [], ◌∷◌, ◌*◌, ◌%◌, Some, None}
use Rattle.nv_entry.specs.declared.entry.Entry.{Entry}
use Rattle.nv_entry.specs.declared.entry.Entry.TheVariants.{Links, Attr, Name}
use Rattle.nv_super.specs.declared.kind.Kind.{Kind}
use Rattle.nv_entry.specs.declared.entry.Operation.{Operation}
use Rattle.nv_entry.specs.declared.entry.Operation.TheVariants.{Add}
use Rattle.nv_logpage.specs.Append.{appended, end_of}
use Rattle.nv_mounted.specs.Held.{Held, Store, with_inode}
use Rattle.nv_commit.specs.Extends.{with_log}

-- the entry for a link count
abbrev pub links_entries : ℕ → ℕ → List Entry
links_entries count time = Links (record { count = count; time = time }) ∷ []

-- the entry of a new inode's log
abbrev pub first_entries : ℕ → ℕ → List Entry
first_entries mode time = Attr (record { mode = mode % 4096; size = 0; time = time; owner = 0; group = 0 }) ∷ []

-- the entry that adds or removes a name
abbrev pub name_entries : Operation → ℕ → List ℕ → ℕ → List Entry
name_entries operation i name time = Name (record { operation = operation; inode = i; time = time; name = name }) ∷ []

-- what is held of a new inode whose log begins on a page
abbrev pub new_held : Kind → ℕ → ℕ → ℕ → Held
new_held kind mode time page = record {
  kind = kind;
  head = 4096 * page;
  tail = end_of [] 0 (4096 * page) (first_entries mode time);
  created = time;
  entries = appended [] 0 (4096 * page) (first_entries mode time);
  pages = page ∷ [];
}

-- what is held with a new inode, and its name in the directory's log
abbrev pub with_named : Store → Kind → ℕ → ℕ → ℕ → ℕ → Held → List ℕ → ℕ → List ℕ → Store
with_named held kind mode time j d h name page fresh = with_log (with_inode held j (Some (new_held kind mode time page))) d h (name_entries Add j name time) fresh

-- what is held with these entries behind a directory's log and without an inode
abbrev pub with_gone : Store → ℕ → Held → List Entry → List ℕ → ℕ → Store
with_gone held d h entries fresh i = with_inode (with_log held d h entries fresh) i None
