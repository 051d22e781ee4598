-- Where the path of an item leads.
use Rattle.std.specs.Prelude.{ℕ, ◌==◌, Bool, true, false, if◌then◌else◌, List, [], ◌∷◌, ◌++◌}
use Rattle.std.specs.List.{flat_map, slice_split}
use Rattle.nv_tree.specs.Path.{is_slash}

-- the part is empty, or `.`
abbrev pub says_nothing : List ℕ → Bool
says_nothing [] = true
says_nothing (b ∷ []) = b == 46
says_nothing (b ∷ c ∷ bs) = false

-- a part behind a `/`, where it says something
abbrev pub part_text : List ℕ → List ℕ
part_text part = if says_nothing part then [] else 47 ∷ part

-- the parts of a path, each behind a `/`
abbrev pub parts_text : List ℕ → List ℕ
parts_text path = flat_map part_text (slice_split is_slash path)

-- the text, or `/` for an empty one
abbrev pub or_root : List ℕ → List ℕ
or_root [] = 47 ∷ []
or_root (b ∷ bs) = b ∷ bs

-- Where a path leads below a base: `./a/b`, `/a/b`, `a//b` and `a/b/` lead to one place. What is no name, as `..`, stays in the
-- text, which is no path then, so that the call that it is given refuses it.
abbrev pub place : List ℕ → List ℕ → List ℕ
place base path = or_root (parts_text base ++ parts_text path)
