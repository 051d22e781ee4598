-- The kinds of inodes, as numbers and as words.
use Rattle.std.specs.Prelude.{ℕ, List, codes}
use Rattle.nv_super.specs.declared.kind.Kind.{Kind}
use Rattle.nv_super.specs.declared.kind.Kind.TheVariants.{File, Directory}

-- the number that stands for a kind in a slot
abbrev pub kind_number : Kind → ℕ
kind_number File = 1
kind_number Directory = 2

-- the word that a report prints for a kind
abbrev pub kind_word : Kind → List ℕ
kind_word File = codes "file"
kind_word Directory = codes "dir"
