-- What is told of a data block.
use Rattle.std.proofs.Common.{◌≡◌, ◌≤◌, ℕ, Bool, false, List, sym, subst, arith}
use Rattle.std.specs.Prelude.{MatchBool, nat_lt}
use Rattle.std.proofs.lemmas.Bool.Decides.{nat_tests}
use Rattle.nv_region.specs.Region.{Region}
use Rattle.nv_super.specs.Layout.{Layout, system_blocks}
use Rattle.nv_block.specs.Block.{IsBlockText, IsOwnersText, system_line}

-- behind the areas in front its owners are told
pub tells_owners : (R : Region) (l : Layout) (b : ℕ) (text : List ℕ) → system_blocks l.sup ≤ b → IsOwnersText R l b text → IsBlockText R l b text
tells_owners R l b text from is =
    let e : nat_lt b (system_blocks l.sup) ≡ false = grind (arith, nat_tests) in
    subst (λ (t : Bool). MatchBool t (text ≡ system_line l.sup b) (IsOwnersText R l b text)) (sym e) is
