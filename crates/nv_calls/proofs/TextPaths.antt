-- A text that isn't refused is a path.
use Rattle.std.proofs.Common.{◌≡◌, ℕ, List, Some, None}
use Rattle.nv_tree.specs.Path.{IsPath, Says}
use Rattle.nv_tree.specs.Tree.{Tree}
use Rattle.nv_tree.specs.Refusals.{Path, first_refusal, stat_tests}
use Rattle.nv_calls.proofs.SetSize.{front_tests}

pub stat_path : (t : Tree) (text : List ℕ) (p : Path) → Says text p → first_refusal (stat_tests t p) ≡ None → (names : List (List ℕ)) × IsPath text names
stat_path t text None says none = absurd (cc)
stat_path t text (Some names) says none = (names, says)

pub front_path : (t : Tree) (text : List ℕ) (p : Path) (size : ℕ) → Says text p → first_refusal (front_tests t p size) ≡ None → (names : List (List ℕ)) × IsPath text names
front_path t text None size says none = absurd (cc)
front_path t text (Some names) size says none = (names, says)
