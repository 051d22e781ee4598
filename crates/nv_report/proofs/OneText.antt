-- Outcomes that show the same have the same texts.
use Rattle.std.proofs.Common.{◌≡◌, ◌+◌, ℕ, Some, List, [], ◌∷◌, ◌++◌, length, refl, sym, ap, ◌∙◌, arith}
use Rattle.std.proofs.lemmas.List.Elements.{All-weaker}
use Rattle.nv_super.proofs.Rising.{Lists-only}
use Rattle.nv_super.specs.Order.{Lists}
use Rattle.nv_super.specs.declared.kind.Kind.{Kind}
use Rattle.nv_super.specs.declared.kind.Kind.TheVariants.{File, Directory}
use Rattle.nv_radix.proofs.OnlyExtents.{AreExtents-only}
use Rattle.nv_radix.specs.Pages.{Pages, block_at}
use Rattle.nv_radix.specs.Extents.{AreExtents, IsMapped}
use Rattle.nv_radix.specs.declared.extent.Extent.{Extent}
use Rattle.nv_names.specs.Names.{Names, name_at, ListsNames}
use Rattle.nv_scan.proofs.NamesListed.{names_listed}
use Rattle.nv_scan.specs.declared.piece.Row.{Row}
use Rattle.nv_alloc.specs.Taking.{all_blocks}
use Rattle.nv_text.specs.Answers.{recovered_line}
use Rattle.nv_text.specs.Report.{region_line, inode_line, log_line}
use Rattle.nv_text.specs.Free.{free_lines}
use Rattle.nv_text.specs.Faults.{faults_text}
use Rattle.nv_outcome.specs.Outcome.{Outcome}
use Rattle.nv_outcome.specs.Same.{SameRow, SameRows, SameOutcome}
use Rattle.nv_report.specs.Texts.{row_head, names_text, extents_text, IsContentText, IsRowText, IsTreeText, IsReportText, IsPartText, recovered_text}
use Rattle.nv_report.specs.declared.part.Part.{Part}
use Rattle.nv_report.specs.declared.part.Part.TheVariants as parts

-- a list of another index that stands for the same names
names_again : (a b : Names) (listed : List (List ℕ × ℕ × ℕ)) → ((name : List ℕ) → name_at b name ≡ name_at a name) → ListsNames b listed
    → Lists (λ (x : List ℕ × ℕ × ℕ). x.0) (λ x. name_at a x.0 ≡ Some (x.1, x.2)) listed
names_again a b listed same l = let all = names_listed b listed l in record {
  rising = all.rising;
  each = λ x c. sym (same x.0) ∙ all.each x c;
  all = λ x e. all.all x (same x.0 ∙ e);
}

-- extents of another map to the same blocks
extents_again : (a b : Pages) (extents : List Extent) → ((p : ℕ) → block_at b p ≡ block_at a p) → AreExtents b extents → AreExtents a extents
extents_again a b extents same are = record {
  some = are.some;
  mapped = All-weaker (IsMapped b) (IsMapped a) (λ (x : Extent) m. λ j inside. sym (same (x.page + j)) ∙ m j inside) extents are.mapped;
  whole = λ p some. are.whole p (rw (same p) some);
  apart = are.apart;
}

content_only : (kind : Kind) (a b : Row) (s t : List ℕ) → SameRow a b → IsContentText kind a.index a.names s → IsContentText kind b.index b.names t → s ≡ t
content_only Directory a b s t same p q =
    let listed = Lists-only (λ (x : List ℕ × ℕ × ℕ). x.0) (λ x. name_at a.names x.0 ≡ Some (x.1, x.2)) p.0 q.0 (names_listed a.names p.0 p.1) (names_again a.names b.names q.0 same.names q.1) in
    p.2 ∙ ap names_text listed ∙ sym q.2
content_only File a b s t same p q = p.2 ∙ ap extents_text (AreExtents-only a.index p.0 q.0 p.1 (extents_again a.index b.index q.0 same.index q.1)) ∙ sym q.2

head_only : (a b : Row) → SameRow a b → row_head b ≡ row_head a
head_only a b same = λ i. inode_line (record {
  inode = same.inode i;
  kind = same.kind i;
  mode = (same.numbers i).mode;
  owner = (same.numbers i).owner;
  group = (same.numbers i).group;
  size = (same.numbers i).size;
  links = (same.numbers i).links;
  time = (same.numbers i).time;
}) ++ log_line (same.pages i) (same.tail i)

pub row_only : (a b : Row) (s t : List ℕ) → SameRow a b → IsRowText a s → IsRowText b t → s ≡ t
row_only a b s t same p q =
    let content = content_only a.kind a b p.0 q.0 same p.1 (rw (sym same.kind) q.1) in
    let head = head_only a b same in
    p.2 ∙ (λ i. sym head i ++ content i) ∙ sym q.2

pub tree_only : (xs ys : List Row) (s t : List ℕ) → SameRows xs ys → IsTreeText xs s → IsTreeText ys t → s ≡ t
tree_only [] [] s t same p q = p ∙ sym q
tree_only [] (y ∷ ys) s t same p q = absurd same
tree_only (x ∷ xs) [] s t same p q = absurd same
tree_only (x ∷ xs) (y ∷ ys) s t same p q =
    let first = row_only x y p.0 q.0 same.0 p.2 q.2 in
    let rest = tree_only xs ys p.1 q.1 same.1 p.3 q.3 in
    p.4 ∙ (λ i. first i ++ rest i) ∙ sym q.4

pub report_only : (a b : Outcome) (s t : List ℕ) → SameOutcome a b → IsReportText a s → IsReportText b t → s ≡ t
report_only a b s t same p q =
    let tree = tree_only a.rows b.rows p.0 q.0 same.rows p.1 q.1 in
    p.2 ∙ (λ i. region_line (sym same.sup i) ++ tree i ++ free_lines (sym same.free i) ++ faults_text (sym same.faults i)) ∙ sym q.2

-- each part has one text
pub part_one : (part : Part) (a b : Outcome) (s t : List ℕ) → SameOutcome a b → IsPartText part a s → IsPartText part b t → s ≡ t
part_one parts.Tree a b s t same p q = tree_only a.rows b.rows s t same.rows p q
part_one parts.Free a b s t same p q = p ∙ ap free_lines (sym same.free) ∙ sym q
part_one parts.Faults a b s t same p q = p ∙ ap faults_text (sym same.faults) ∙ sym q
part_one parts.Report a b s t same p q = report_only a b s t same p q

-- as many rows
rows_count : (xs ys : List Row) → SameRows xs ys → length ys ≡ length xs
rows_count [] [] same = refl
rows_count [] (y ∷ ys) same = absurd same
rows_count (x ∷ xs) [] same = absurd same
rows_count (x ∷ xs) (y ∷ ys) same = let rest : length ys ≡ length xs = rows_count xs ys same.1 in omega (arith, rest)

-- one line tells of the recovery
pub recovered_one : (a b : Outcome) → SameOutcome a b → recovered_text b ≡ recovered_text a
recovered_one a b same = λ i. recovered_line (rows_count a.rows b.rows same.rows i) (all_blocks (same.free i)) (length (same.faults i))
