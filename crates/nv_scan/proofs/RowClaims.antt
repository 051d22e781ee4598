-- The claims of rows, one row after the other.
use Rattle.std.proofs.Common.{ℕ, List, [], ◌∷◌, ◌++◌, refl, ap, sym, ◌∙◌, append_assoc, append-nil}
use Rattle.nv_super.specs.declared.owners.Owner.{Owner}
use Rattle.nv_radix.specs.Pages.{block_at}
use Rattle.nv_scan.specs.Claims.{AreSmall, AreRowClaims, AreClaimsOf}
use Rattle.nv_scan.specs.declared.piece.Row.{Row}

-- the claims of one row more
pub one_row_more : (rows : List Row) (row : Row) (claims own : List (ℕ × Owner)) → AreClaimsOf rows claims → AreRowClaims row own → AreClaimsOf (rows ++ row ∷ []) (claims ++ own)
one_row_more [] row claims own none are = (own, [], ap (λ (xs : List (ℕ × Owner)). xs ++ own) none ∙ sym (append-nil own), are, refl)
one_row_more (first ∷ rows) row claims own (its, rest, split, lists, others) are =
    (its, rest ++ own, ap (λ (xs : List (ℕ × Owner)). xs ++ own) split ∙ append_assoc its rest own, lists, one_row_more rows row rest own others are)

-- the pages of the files and their blocks have small numbers
abbrev pub HasSmall : Row → Type 0
HasSmall row = AreSmall (block_at row.index)
