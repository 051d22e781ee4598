-- What later recoveries find once a stop has left a region.
use Rattle.std.proofs.Common.{◌≡◌, List, [], ◌∷◌, ap, ◌∙◌, subst}
use Rattle.std.specs.List.{filter}
use Rattle.nv_region.specs.Region.{Region}
use Rattle.nv_super.specs.declared.superblock.Super.{Super}
use Rattle.nv_super.specs.declared.owners.Run.{Run}
use Rattle.nv_super.specs.declared.faults.Fault.{Fault}
use Rattle.nv_super.specs.Super.{IsSuper}
use Rattle.nv_super.specs.Layout.{Layout}
use Rattle.nv_journal.specs.Undo.{undone}
use Rattle.nv_scan.specs.declared.piece.Row.{Row}
use Rattle.nv_outcome.specs.Outcome.{Outcome, IsOutcome}
use Rattle.nv_outcome.specs.Same.{SameOutcome, SameRow, SameRows, is_lasting, lasting_outcome}
use Rattle.nv_mounted.specs.Mounted.{faultless_outcome}
use Rattle.nv_outcome.proofs.Again.{rolled_back}
use Rattle.nv_outcome.proofs.Exists.{has_outcome}
use Rattle.nv_outcome.proofs.OnlyOne.{same_outcome}
use Rattle.nv_outcome.proofs.SuperOf.{one_super}
use Rattle.nv_calls.specs.Stopped.{RecoversTo}

-- what is the same as the same
pub row_then : {a b c : Row} → SameRow a b → SameRow b c → SameRow a c
row_then first second = record {
  inode = second.inode ∙ first.inode;
  kind = second.kind ∙ first.kind;
  numbers = second.numbers ∙ first.numbers;
  head = second.head ∙ first.head;
  tail = second.tail ∙ first.tail;
  pages = second.pages ∙ first.pages;
  index = λ p. second.index p ∙ first.index p;
  names = λ q. second.names q ∙ first.names q;
}

rows_then : (xs ys zs : List Row) → SameRows xs ys → SameRows ys zs → SameRows xs zs
rows_then [] [] [] first second = tt
rows_then [] [] (z ∷ zs) first second = absurd second
rows_then [] (y ∷ ys) zs first second = absurd first
rows_then (x ∷ xs) [] zs first second = absurd first
rows_then (x ∷ xs) (y ∷ ys) [] first second = absurd second
rows_then (x ∷ xs) (y ∷ ys) (z ∷ zs) first second = (row_then first.0 second.0, rows_then xs ys zs first.1 second.1)

-- What is found again, where the region rolls back to the same.
pub later_same : {left next : Region} {l : Layout} {rows : List Row} {free : List (List Run)} → RecoversTo left l rows free → IsSuper next l.sup → undone l.sup next ≡ undone l.sup left → (o : Outcome) → IsOutcome next o → SameOutcome (faultless_outcome l rows free) (lasting_outcome o)
later_same {left} {next} {l} {rows} {free} w sup same o is =
    let e = has_outcome left l.sup w.sup in
    let first = w.shows e.0 e.2 in
    let one : o.sup ≡ l.sup = one_super next l.sup o.sup sup is.sup in
    let here : IsOutcome (undone l.sup left) (lasting_outcome e.0) = subst (λ (t : Super). IsOutcome (undone t left) (lasting_outcome e.0)) first.sup (rolled_back left e.0 e.2) in
    let there : IsOutcome (undone l.sup left) (lasting_outcome o) = subst (λ (U : Region). IsOutcome U (lasting_outcome o)) same (subst (λ (t : Super). IsOutcome (undone t next) (lasting_outcome o)) one (rolled_back next o is)) in
    let both = same_outcome (undone l.sup left) (lasting_outcome e.0) (lasting_outcome o) here there in
    record {
      sup = one;
      tables = both.tables ∙ first.tables;
      rows = rows_then rows e.0.rows o.rows first.rows both.rows;
      free = both.free ∙ first.free;
      doubled = both.doubled ∙ first.doubled;
      faults = both.faults ∙ ap (λ (fs : List Fault). filter is_lasting fs) first.faults;
    }
