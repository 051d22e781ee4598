-- What the last name of a path stands for.
use Rattle.std.proofs.Common.{◌≡◌, ℕ, true, false, List, [], ◌∷◌, length, refl, ap, sym, ◌∙◌, Option, Some, None, Ok, IsTrue, is_some, option_copied, Bor, All}
use Rattle.std.specs.Option.{option_and_then, option_map}
use Rattle.std.proofs.lemmas.List.Elements.{All-head, All-tail}
use Rattle.nv_region.specs.Region.{Region}
use Rattle.nv_super.specs.declared.superblock.Super.{Super}
use Rattle.nv_super.specs.Layout.{is_name_number}
use Rattle.nv_super.specs.declared.kind.Kind.TheVariants.{Directory}
use Rattle.nv_names.specs.Names.{name_at}
use Rattle.nv_scan.specs.declared.piece.Row.{Row}
use Rattle.nv_graph.specs.Read.{row_of}
use Rattle.nv_graph.specs.Step.{IsGoodName}
use Rattle.nv_tree.specs.Path.{IsPath, IsPathName, Says, last_name}
use Rattle.nv_tree.specs.Names.{Spells}
use Rattle.nv_tree.specs.Tree.{found, walk}
use Rattle.nv_tree.specs.Refusals.{Path}
use Rattle.nv_paths.specs.Seen.{LeadsTo, node_of, tree_of}
use Rattle.nv_rows.specs.Rows.{IsInUse}
use Rattle.nv_rows.proofs.Places.{numbered, row_in_use}
use Rattle.nv_paths.proofs.Targets.{leads_to, none_found, said}
use Rattle.nv_paths.proofs.Walks.{found_below, one_byte}

pub spells_names : (text name : List ℕ) (names : List (List ℕ)) → IsPath text (name ∷ names) → Spells text (name ∷ names)
spells_names text name names path = record { spells = path.spells; good = path.good }

-- what is said of each path with names, where the text is one
pub said_names : (text : List ℕ) (Q : Path → Type 0) → (name : List ℕ) × (names : List (List ℕ)) × IsPath text (name ∷ names) → (length text ≡ 1 → ⊥) → ((name : List ℕ) (names : List (List ℕ)) → IsPath text (name ∷ names) → Q (Some (name ∷ names))) → (p : Path) → Says text p → Q p
said_names text Q some long each = said text Q (some.0 ∷ some.1, some.2) by where
  by : (names : List (List ℕ)) → IsPath text names → Q (Some names)
  by [] path = absurd (long (ap length path.spells))
  by (name ∷ names) path = each name names path

pub some_of : (o : Option (Bor Row)) → is_some o ≡ true → (k : Bor Row) × (o ≡ Some k)
some_of None e = absurd (cc)
some_of (Some k) e = (k, refl)

pub none_of : (o : Option (Bor Row)) → is_some o ≡ false → o ≡ None
none_of None e = refl
none_of (Some k) e = absurd (cc)

-- a path with a name has more than one byte
pub long_text : (text : List ℕ) → (name : List ℕ) × (names : List (List ℕ)) × IsPath text (name ∷ names) → length text ≡ 1 → ⊥
long_text text w one = let none = one_byte text (w.0 ∷ w.1) w.2 one in cc

-- the last name of a path is one that a path can say
pub last_is_name : (name : List ℕ) (names : List (List ℕ)) → All IsPathName (name ∷ names) → IsPathName (last_name (name ∷ names))
last_is_name name [] good = All-head IsPathName name [] good
last_is_name name (next ∷ names) good = last_is_name next names (All-tail IsPathName name (next ∷ names) good)

pub good_name : (s : Super) (j : ℕ) (name : List ℕ) → IsPathName name → IsTrue (is_name_number s j) → IsGoodName s j name
good_name s j name good number = rw (good.bytes, good.no_dots, number) refl

module _ (R : Region) (rows : List Row) (text name : List ℕ) (d : ℕ) (used : IsInUse rows d) (o : Option (Bor Row)) (long : length text ≡ 1 → ⊥)
    (directory : (names : List (List ℕ)) → Spells text names → (row : Row) → row_of rows d ≡ Some row → (walk (tree_of R rows) 1 names ≡ Ok row.inode) × (row.kind ≡ Directory)) (last : (names : List (List ℕ)) → Spells text names → name ≡ last_name names)
    (to : (row : Row) → row_of rows d ≡ Some row → option_copied o ≡ option_and_then (row_of rows) (option_map (λ (x : ℕ × ℕ). x.0) (name_at row.names name))) where
  abbrev row : Row
  row = (row_in_use rows d used).0

  at : row_of rows d ≡ Some row
  at = (row_in_use rows d used).1

  module _ (first : List ℕ) (names : List (List ℕ)) (path : IsPath text (first ∷ names)) where
    spells : Spells text (first ∷ names)
    spells = spells_names text first names path

    pub walked : walk (tree_of R rows) 1 (first ∷ names) ≡ Ok d
    walked = (directory (first ∷ names) spells row at).0 ∙ ap (λ (i : ℕ). Ok i) (numbered rows d row at)

    pub leads : option_copied o ≡ option_and_then (row_of rows) (found (tree_of R rows) (first ∷ names))
    leads = to row at ∙ sym (found_below R rows text name (first ∷ names) d row (name_at row.names name) path long walked at (last (first ∷ names) spells) refl)

    -- the row is that of the inode that is there
    pub row_leads : (r : Bor Row) → o ≡ Some r → LeadsTo (tree_of R rows) (first ∷ names) r.now.inode (node_of R r.now)
    row_leads r is = leads_to R rows (first ∷ names) r.now (sym leads ∙ ap option_copied is)

    pub none : o ≡ None → found (tree_of R rows) (first ∷ names) ≡ None
    none is = none_found R rows (first ∷ names) (sym leads ∙ ap option_copied is)
