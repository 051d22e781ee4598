-- Lists of names that a text spells.
use Rattle.std.specs.Prelude.{◌≡◌, ℕ, All, List}
use Rattle.nv_tree.specs.Path.{IsPathName, spelled}

-- The text is these names, each of which a path can say, each behind a `/`.
pub record Spells (text : List ℕ) (names : List (List ℕ)) : Type 0 where
  pub spells : text ≡ spelled names
  pub good : All IsPathName names
