-- The path of the first member.
use Rattle.std.proofs.Common.{◌≡◌, ◌∙◌, ◌<◌, ℕ, List, [], ◌∷◌, length, refl, ap, sym, arith}
use Rattle.std.specs.Prelude.{codes}
use Rattle.nv_tree.specs.Path.{IsPath, last_name}
use Rattle.nv_tree.specs.Names.{Spells}
use Rattle.nv_paths.proofs.Walks.{longer, one_byte}
use Rattle.nv_archive.specs.Chosen.{base_of}

some_text : (text : List ℕ) (names : List (List ℕ)) → IsPath text names → 0 < length text
some_text text [] s = let long = ap (length {A = ℕ}) s.spells in omega (arith, long)
some_text text (name ∷ names) s = let long = ap (length {A = ℕ}) s.spells in omega (arith, long)

-- a text of one byte is the root's
pub base_of_root : (text : List ℕ) (names : List (List ℕ)) → IsPath text names → length text < 2 → codes "." ≡ base_of names
base_of_root text names s short =
    let some = some_text text names s in
    sym (ap base_of (one_byte text names s (omega (arith, short, some))))

-- a longer one ends in a name
pub base_of_names : (text name : List ℕ) (names : List (List ℕ)) → IsPath text names → (length text < 2 → ⊥) → ((others : List (List ℕ)) → Spells text others → name ≡ last_name others) → name ≡ base_of names
base_of_names text name names s long last =
    let l = longer text names s (λ one. long (omega (arith, one))) in
    last names l.3 ∙ (rw l.2 refl)
