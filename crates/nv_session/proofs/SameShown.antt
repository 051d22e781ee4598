-- What shows the same as an outcome of a region is one too.
use Rattle.std.proofs.Common.{◌+◌, ℕ, List, [], ◌∷◌, sym, ap, ◌∙◌, subst}
use Rattle.nv_region.specs.Region.{Region, word}
use Rattle.nv_super.specs.Layout.{Layout}
use Rattle.nv_scan.specs.Inode.{Log, IsInode, good_of}
use Rattle.nv_scan.specs.Rows.{AreNumbers, IsRow}
use Rattle.nv_scan.specs.declared.piece.Row.{Row}
use Rattle.nv_outcome.specs.Outcome.{AreRows, Outcome, IsOutcome}
use Rattle.nv_outcome.specs.Same.{SameRow, SameRows}
use Rattle.nv_outcome.proofs.SameRows.{from_first, from_second, rises_too}

module _ {R : Region} {l : Layout} where
  row_too : (a : ℕ) (log : Log) (x y : Row) → SameRow x y → IsRow R l a log x → IsRow R l a log y
  row_too a log x y same is = record {
    inode = subst (λ (i : ℕ). IsInode R l i a log) (sym same.inode) is.inode;
    kind = same.kind ∙ is.kind;
    numbers = subst (AreNumbers (word R (a + 32)) (good_of l log)) (sym same.numbers) is.numbers;
    head = same.head ∙ is.head;
    tail = same.tail ∙ is.tail;
    pages = same.pages ∙ is.pages;
    index = λ p. same.index p ∙ is.index p;
    names = λ q. same.names q ∙ is.names q;
  }

  pub rows_too : (xs ys : List Row) → SameRows xs ys → AreRows R l xs → AreRows R l ys
  rows_too xs ys same are = record {
    rising = rises_too _ (λ a b each. ap (λ i. i ∷ []) (sym each.inode)) xs ys same are.rising;
    each = λ y c. (let w = from_second xs ys same y c in let is = are.each w.0 w.1 in (is.0, is.1, row_too is.0 is.1 w.0 y w.2 is.2));
    all = λ i used. (let w = are.all i used in let v = from_first xs ys same w.0 w.1 in (v.0, v.1, v.2.inode ∙ w.2));
  }

-- an outcome with other rows that say the same
pub with_rows : (R : Region) (o : Outcome) (news : List Row) → SameRows o.rows news → IsOutcome R o → IsOutcome R (record o { rows = news })
with_rows R o news same is = record { sup = is.sup; tables = is.tables; rows = rows_too o.rows news same is.rows; free = is.free; doubled = is.doubled; faults = is.faults }
