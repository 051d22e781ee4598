-- What the head of a row tells of it.
use Rattle.std.proofs.Common.{◌≡◌, ℕ, nat_lt, true, not, Some, IsSome, List, [], length, slice_get, ap, sym, ◌∙◌, subst, arith}
use Rattle.std.specs.List.{IsDistinct}
use Rattle.std.proofs.lemmas.Bool.{true≢false}
use Rattle.std.proofs.lemmas.Bool.Decides.{nat_tests}
use Rattle.nv_names.specs.Names.{Names, HasNames}
use Rattle.nv_names.proofs.Listing.{found_in-empty}
use Rattle.nv_scan.specs.Heads.{head_of, heads_of}
use Rattle.nv_scan.specs.declared.piece.Row.{Row}
use Rattle.nv_scan.specs.declared.row_list.RowHead.{RowHead}
use Rattle.nv_scan.proofs.RowHeads.{row_of_head}

-- the head at a row's place is the row's
head_is : (rows : List Row) (place : ℕ) (head : RowHead) (row : Row) → slice_get (heads_of rows) place ≡ Some head → slice_get rows place ≡ Some row → head ≡ head_of row
head_is rows place head row at is =
    let found = row_of_head rows place head at in
    let same : found.0 ≡ row = (let one : Some found.0 ≡ Some row = sym found.1 ∙ is in cc) in
    found.2 ∙ ap head_of same

-- an index without names has an empty listing
none_named : (index : Names) → length index.names ≡ 0 → HasNames index []
unfolding IsDistinct
none_named index none = record {
  once = tt;
  each = λ k d inside. absurd (omega (arith, inside));
  all = λ q some. absurd (true≢false (sym (subst IsSome (found_in-empty index.names none q) some)));
}

pub unnamed : (rows : List Row) (place : ℕ) (head : RowHead) (row : Row) → slice_get (heads_of rows) place ≡ Some head → not head.has_names ≡ true → slice_get rows place ≡ Some row → HasNames row.names []
unnamed rows place head row at says is =
    let none : not (nat_lt 0 (length row.names.names)) ≡ true = sym (ap (λ (h : RowHead). not h.has_names) (head_is rows place head row at is)) ∙ says in
    none_named row.names (grind (arith, nat_tests, none))
