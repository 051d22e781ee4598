-- The table that a name index holds: buckets of names, and a list of names beside them.
use Rattle.std.specs.Prelude.{◌≡◌, ℕ, nat_eq, if◌then◌else◌, List, [], Option, None, Some, IsSome, Box}
use Rattle.std.specs.declared.alloc.Global.{Global}
use Rattle.std.specs.Cmp.Lexicographic.{pointwise}
use Rattle.std.specs.List.{IsDistinct}
use Rattle.nv_names.specs.declared.target.Target.{Target}
use Rattle.nv_names.specs.Names.{Names, found_in, names_of}

-- a name beside the buckets as one of `Names`
abbrev pub fresh_line : List ℕ × Target → List ℕ × ℕ × ℕ
fresh_line e = (e.0, e.1.inode, e.1.place)

-- new has w at a name, and at each other name what old has
abbrev pub PutsAt : List (List ℕ × ℕ × ℕ) → List (List ℕ × ℕ × ℕ) → List ℕ → Option (ℕ × ℕ) → Type 0
PutsAt old new name w = (q : List ℕ) → found_in new q ≡ (if pointwise nat_eq q name then w else found_in old q)

-- old and new have the same at each name
abbrev pub FindSame : List (List ℕ × ℕ × ℕ) → List (List ℕ × ℕ × ℕ) → Type 0
FindSame old new = (q : List ℕ) → found_in new q ≡ found_in old q

-- no name of the second list is in the first one
abbrev pub AreApart : List (List ℕ × ℕ × ℕ) → List (List ℕ × ℕ × ℕ) → Type 0
AreApart xs ys = (q : List ℕ) → IsSome (found_in ys q) → found_in xs q ≡ None

-- no name is twice beside the buckets, nor both in them and beside them
pub record AreBeside (held fresh : List (List ℕ × ℕ × ℕ)) : Type 0 where
  pub once : IsDistinct (pointwise nat_eq) (names_of fresh)
  pub apart : AreApart held fresh

-- the names that a table holds; where there is no table, there is no name, and no room for one
abbrev pub names_held : Option (Box Names Global) → Names
names_held None = record { names = []; room = 0 }
names_held (Some table) = table.value
