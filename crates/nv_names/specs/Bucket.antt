-- A bucket of names: of the names with one key at most one stands by its key, and the others by themselves.
use Rattle.std.specs.Prelude.{◌≡◌, ℕ, ◌+◌, ◌<◌, ◌^◌, ◌++◌, nat_eq, List, length, map, All, Vec}
use Rattle.std.specs.declared.alloc.Global.{Global}
use Rattle.std.specs.List.{IsDistinct}
use Rattle.std.specs.Map.{keys_of}
use Rattle.nv_names.specs.declared.target.Target.{Target}
use Rattle.nv_names.specs.Keys.{key_of}
use Rattle.nv_names.specs.Table.{AreApart}

-- an entry of `first` as one of `Names`
abbrev pub first_line : ℕ × (List ℕ × ℕ × ℕ) → List ℕ × ℕ × ℕ
first_line e = e.1

-- an entry of `others` as one of `Names`
abbrev pub other_line : Vec ℕ Global × Target → List ℕ × ℕ × ℕ
other_line e = (e.0.items, e.1.inode, e.1.place)

-- all names of a bucket
abbrev pub lines_of : List (ℕ × (List ℕ × ℕ × ℕ)) → List (Vec ℕ Global × Target) → List (List ℕ × ℕ × ℕ)
lines_of first others = map first_line first ++ map other_line others

-- each key is that of its name
abbrev pub AreKeyed : List (ℕ × (List ℕ × ℕ × ℕ)) → Type 0
AreKeyed first = All (λ (e : ℕ × (List ℕ × ℕ × ℕ)). e.0 ≡ key_of e.1.0) first

-- each key is that of its name, and no key is there twice; no name is in both maps; and a word counts all names
pub record IsBucket (first : List (ℕ × (List ℕ × ℕ × ℕ))) (others : List (Vec ℕ Global × Target)) : Type 0 where
  pub keyed : AreKeyed first
  pub once : IsDistinct nat_eq (keys_of first)
  pub apart : AreApart (map first_line first) (map other_line others)
  pub few : length first + length others < 2 ^ 63
