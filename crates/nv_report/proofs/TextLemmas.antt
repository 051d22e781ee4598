-- One text behind another.
use Rattle.std.proofs.Common.{◌≡◌, ◌+◌, ◌<◌, ℕ, List, [], ◌∷◌, ◌++◌, length, get_or, map, take, drop, refl, sym, ap, ap₂, ◌∙◌, subst, append_assoc, append-nil, add-one}
use Rattle.std.proofs.Math.Seq.{take-suc}
use Rattle.std.proofs.lemmas.List.{map-append, take-append-drop}
use Rattle.nv_scan.specs.declared.piece.Row.{Row}
use Rattle.nv_outcome.specs.Outcome.{Outcome}
use Rattle.nv_text.specs.Report.{region_line}
use Rattle.nv_text.specs.Free.{free_lines}
use Rattle.nv_text.specs.Faults.{faults_text}
use Rattle.nv_report.specs.Texts.{row_head, IsContentText, IsRowText, IsTreeText, IsReportText, IsPartText, AddsText}
use Rattle.nv_super.specs.declared.owners.Owner.{Owner}
use Rattle.nv_report.specs.declared.part.Part.{Part}
use Rattle.nv_report.specs.declared.part.Part.TheVariants as parts

-- the text of one inode more
pub tree_snoc : (rows : List Row) (row : Row) (text more : List ℕ) → IsTreeText rows text → IsRowText row more → IsTreeText (rows ++ row ∷ []) (text ++ more)
tree_snoc [] row text more is shown = (more, [], shown, refl, ap (λ t. t ++ more) is ∙ sym (append-nil more))
tree_snoc (x ∷ rows) row text more is shown = (is.0, is.1 ++ more, is.2, tree_snoc rows row is.1 more is.3 shown, ap (λ t. t ++ more) is.4 ∙ append_assoc is.0 is.1 more)

-- the texts of inodes, and of others behind them
pub tree_both : (rows more : List Row) (text rest : List ℕ) → IsTreeText rows text → IsTreeText more rest → IsTreeText (rows ++ more) (text ++ rest)
tree_both [] more text rest is others = subst (IsTreeText more) (sym (ap (λ t. t ++ rest) is)) others
tree_both (row ∷ rows) more text rest is others = (is.0, is.1 ++ rest, is.2, tree_both rows more is.1 rest is.3 others, ap (λ t. t ++ rest) is.4 ∙ append_assoc is.0 is.1 rest)

-- the texts of two halves of a list
pub tree_halves : {X : Type 0} (row_of : X → Row) (list : List X) (n : ℕ) (first second : List X) (text rest : List ℕ) → first ≡ take n list → second ≡ drop n list → IsTreeText (map row_of first) text → IsTreeText (map row_of second) rest → IsTreeText (map row_of list) (text ++ rest)
tree_halves row_of list n first second text rest front back a b =
    let rows : map row_of first ++ map row_of second ≡ map row_of list = sym (map-append row_of first second) ∙ ap (map row_of) (ap₂ ◌++◌ front back ∙ take-append-drop n list) in
    subst (λ (l : List Row). IsTreeText l (text ++ rest)) rows (tree_both (map row_of first) (map row_of second) text rest a b)

-- two texts, one after the other
pub adds_both : (P Q S : List ℕ → Type 0) (old mid new : List ℕ) → ((a b : List ℕ) → P a → Q b → S (a ++ b)) → AddsText P old mid → AddsText Q mid new → AddsText S old new
adds_both P Q S old mid new both a b = (a.0 ++ b.0, both a.0 b.0 a.1 b.1, b.2 ∙ ap (λ t. t ++ b.0) a.2 ∙ append_assoc old a.0 b.0)

-- a known text, and then another
pub adds_after : (P S : List ℕ → Type 0) (old mid new head : List ℕ) → ((b : List ℕ) → P b → S (head ++ b)) → mid ≡ old ++ head → AddsText P mid new → AddsText S old new
adds_after P S old mid new head both e b = (head ++ b.0, both b.0 b.1, b.2 ∙ ap (λ t. t ++ b.0) e ∙ append_assoc old head b.0)

-- what an inode holds, behind its head
pub adds_row : (row : Row) (old mid new : List ℕ) → mid ≡ old ++ row_head row → AddsText (IsContentText row.kind row.index row.names) mid new → AddsText (IsRowText row) old new
adds_row row old mid new e b = adds_after (IsContentText row.kind row.index row.names) (IsRowText row) old mid new (row_head row) (λ t is. (t, is, refl)) e b

-- one inode more
pub adds_tree : (rows : List Row) (row : Row) (old mid new : List ℕ) → AddsText (IsTreeText rows) old mid → AddsText (IsRowText row) mid new → AddsText (IsTreeText (rows ++ row ∷ [])) old new
adds_tree rows row old mid new a b = adds_both (IsTreeText rows) (IsRowText row) (IsTreeText (rows ++ row ∷ [])) old mid new (λ s t is shown. tree_snoc rows row s t is shown) a b

-- none yet
pub adds_none : (old : List ℕ) → AddsText (IsTreeText []) old old
adds_none old = ([], refl, sym (append-nil old))

-- the text of the next inode of a list
pub adds_next : {X : Type 0} (row_of : X → Row) (list : List X) (k : ℕ) (x : X) (start old new : List ℕ) → k < length list → x ≡ get_or list k x → AddsText (IsTreeText (map row_of (take k list))) start old → AddsText (IsRowText (row_of x)) old new
    → AddsText (IsTreeText (map row_of (take (k + 1) list))) start new
adds_next row_of list k x start old new below is added adds =
    let rows : map row_of (take (k + 1) list) ≡ map row_of (take k list) ++ row_of x ∷ [] =
    ap (λ (n : ℕ). map row_of (take n list)) (add-one k) ∙ ap (map row_of) (take-suc list k x below) ∙ map-append row_of (take k list) (get_or list k x ∷ []) ∙ ap (λ y. map row_of (take k list) ++ row_of y ∷ []) (sym is) in
    subst (λ (l : List Row). AddsText (IsTreeText l) start new) (sym rows) (adds_tree (map row_of (take k list)) (row_of x) start old new added adds)

-- the texts of two halves of a list, the second of which was written by itself
pub adds_halves : {X : Type 0} (row_of : X → Row) (list : List X) (n : ℕ) (first second : List X) (start mid new rest : List ℕ) → first ≡ take n list → second ≡ drop n list → AddsText (IsTreeText (map row_of first)) start mid
    → AddsText (IsTreeText (map row_of second)) [] rest → new ≡ mid ++ rest → AddsText (IsTreeText (map row_of list)) start new
adds_halves row_of list n first second start mid new rest front back a b is =
    (a.0 ++ b.0, tree_halves row_of list n first second a.0 b.0 front back a.1 b.1, is ∙ ap (λ t. mid ++ t) b.2 ∙ ap (λ t. t ++ b.0) a.2 ∙ append_assoc start a.0 b.0)

-- all parts of a report
pub adds_report : (o : Outcome) (a b c d e : List ℕ) → b ≡ a ++ region_line o.sup → AddsText (IsTreeText o.rows) b c → d ≡ c ++ free_lines o.free → e ≡ d ++ faults_text o.faults → AddsText (IsReportText o) a e
adds_report o a b c d e head tree free faults =
    let r = region_line o.sup in
    let f = free_lines o.free in
    let u = faults_text o.faults in
    let t = tree.0 in
    let all : e ≡ (((a ++ r) ++ t) ++ f) ++ u = faults ∙ ap (λ x. x ++ u) (free ∙ ap (λ x. x ++ f) (tree.2 ∙ ap (λ x. x ++ t) head)) in
    (r ++ t ++ f ++ u, (t, tree.1, refl), all ∙ ap (λ x. x ++ f ++ u) (append_assoc a r t) ∙ ap (λ x. x ++ u) (append_assoc a (r ++ t) f) ∙ append_assoc a (r ++ t ++ f) u)

-- no text tells of tables and of doubled blocks
pub same_part : (part : Part) (o : Outcome) (tables chains : List (List ℕ)) (doubled other : List (ℕ × Owner)) (text : List ℕ) → IsPartText part (record o { tables = tables; doubled = doubled }) text → IsPartText part (record o { tables = chains; doubled = other }) text
same_part parts.Tree o tables chains doubled other text is = is
same_part parts.Free o tables chains doubled other text is = is
same_part parts.Faults o tables chains doubled other text is = is
same_part parts.Report o tables chains doubled other text is = is
