-- Where the last name of a path stands.
use Rattle.std.proofs.Common.{◌≡◌, ℕ, ◌<◌, true, false, cond, List, length, refl, sym, ◌∙◌, ap, Option, Some, None, Ok, Err}
use Rattle.std.specs.Option.{option_map}
use Rattle.nv_region.specs.Region.{Region}
use Rattle.nv_super.specs.declared.kind.Kind.{Kind}
use Rattle.nv_super.specs.declared.kind.Kind.TheVariants.{File, Directory}
use Rattle.nv_scan.specs.declared.piece.Row.{Row}
use Rattle.nv_tree.specs.declared.refusal.Refusal.TheVariants.{BadName, NotDirectory}
use Rattle.nv_tree.specs.Path.{IsPath, Says}
use Rattle.nv_tree.specs.Names.{Spells}
use Rattle.nv_tree.specs.Tree.{as_directory, is_directory, walk}
use Rattle.nv_tree.specs.Refusals.{Path, is_bad_name}
use Rattle.nv_graph.specs.Read.{row_of}
use Rattle.nv_paths.specs.Seen.{node_of, tree_of}
use Rattle.nv_rows.proofs.Places.{numbered}
use Rattle.nv_paths.proofs.Targets.{said}
use Rattle.nv_paths.proofs.Walks.{longer, some_names, walk_ends}

-- ---- paths with a name

-- so it is no bad name
pub good_name : (text : List ℕ) → (names : List (List ℕ)) × IsPath text names → (length text ≡ 1 → ⊥) → (p : Path) → Says text p → is_bad_name p ≡ (false, BadName)
good_name text some long = said text (λ p. is_bad_name p ≡ (false, BadName)) some (λ names is. (let w = longer text names is long in rw w.2 refl))

-- and so is what is no path
pub bad_text : (text : List ℕ) → Says text None → (p : Path) → Says text p → is_bad_name p ≡ (true, BadName)
bad_text text none None says = refl
bad_text text none (Some names) says = absurd (none names says)

-- ---- a row on the way

-- what a directory's row answers, and a file's
told_by : (R : Region) (rows : List Row) (i : ℕ) (row : Row) (k : Kind) → row_of rows i ≡ Some row → row.kind ≡ k → cond (is_directory k) (Ok i) (Err NotDirectory) ≡ as_directory i (tree_of R rows i)
told_by R rows i row k there kind = sym (ap (λ (o : Option Row). as_directory i (option_map (node_of R) o)) there ∙ ap (λ (k : Kind). cond (is_directory k) (Ok i) (Err NotDirectory)) kind)

pub directory_told : (R : Region) (rows : List Row) (i : ℕ) (row : Row) → row_of rows i ≡ Some row → row.kind ≡ Directory → Ok i ≡ as_directory i (tree_of R rows i)
directory_told R rows i row there kind = told_by R rows i row Directory there kind

pub file_told : (R : Region) (rows : List Row) (i : ℕ) (row : Row) → row_of rows i ≡ Some row → row.kind ≡ File → Err NotDirectory ≡ as_directory i (tree_of R rows i)
file_told R rows i row there kind = told_by R rows i row File there kind

kind_told : (d : ℕ) (kind : Kind) → cond (is_directory kind) (Ok d) (Err NotDirectory) ≡ Ok d → kind ≡ Directory
kind_told d File e = absurd (cc)
kind_told d Directory e = refl

module _ (R : Region) (rows : List Row) (text : List ℕ) (names : List (List ℕ)) (some : 0 < length text) (spells : Spells text names) (d : ℕ) (walked : walk (tree_of R rows) 1 names ≡ Ok d) where
  ended : as_directory d (tree_of R rows d) ≡ Ok d
  ended = let w = some_names text names some spells in walk_ends (tree_of R rows) 1 d w.0 w.1 (ap (walk (tree_of R rows) 1) (sym w.2) ∙ walked)

  -- the row of the directory where it ended
  pub spot_found : (row : Row) → row_of rows d ≡ Some row → (walk (tree_of R rows) 1 names ≡ Ok row.inode) × (row.kind ≡ Directory)
  spot_found row there = (
    walked ∙ ap (λ (i : ℕ). Ok i) (sym (numbered rows d row there)),
    kind_told d row.kind (sym (ap (λ (o : Option Row). as_directory d (option_map (node_of R) o)) there) ∙ ended),
  )
