-- The texts of an outcome.
use Rattle.std.specs.Prelude.{◌≡◌, ℕ, List, [], ◌∷◌, ◌++◌, length, flat_map}
use Rattle.nv_super.specs.declared.kind.Kind.{Kind}
use Rattle.nv_super.specs.declared.kind.Kind.TheVariants.{File, Directory}
use Rattle.nv_alloc.specs.Taking.{all_blocks}
use Rattle.nv_radix.specs.Pages.{Pages}
use Rattle.nv_radix.specs.Extents.{AreExtents}
use Rattle.nv_radix.specs.declared.extent.Extent.{Extent}
use Rattle.nv_names.specs.Names.{Names, ListsNames}
use Rattle.nv_rows.specs.Stat.{row_stat}
use Rattle.nv_scan.specs.declared.piece.Row.{Row}
use Rattle.nv_text.specs.Answers.{recovered_line}
use Rattle.nv_text.specs.Report.{region_line, inode_line, log_line, page_line}
use Rattle.nv_text.specs.Names.{name_line}
use Rattle.nv_text.specs.Free.{free_lines}
use Rattle.nv_text.specs.Faults.{faults_text}
use Rattle.nv_outcome.specs.Outcome.{Outcome}
use Rattle.nv_report.specs.declared.part.Part.{Part}
use Rattle.nv_report.specs.declared.part.Part.TheVariants.{Tree, Free, Faults, Report}

-- how many inodes are in use, how many blocks are free, and how many faults there are
abbrev pub recovered_text : Outcome → List ℕ
recovered_text o = recovered_line (length o.rows) (all_blocks o.free) (length o.faults)

-- the line of an inode's numbers, and that of its log
abbrev pub row_head : Row → List ℕ
row_head row = inode_line (row_stat row) ++ log_line row.pages.items row.tail

-- a line for each name, with the name's inode
abbrev pub names_text : List (List ℕ × ℕ × ℕ) → List ℕ
names_text listed = flat_map (λ (e : List ℕ × ℕ × ℕ). name_line e.0 e.1) listed

-- a line for each extent
abbrev pub extents_text : List Extent → List ℕ
extents_text extents = flat_map (λ (x : Extent). page_line x.page x.count x.block) extents

-- what an inode holds: the names of a directory, each once and rising by bytes, or the longest extents of a file
abbrev pub IsContentText : Kind → Pages → Names → List ℕ → Type 0
IsContentText Directory index names text = (listed : List (List ℕ × ℕ × ℕ)) × ListsNames names listed × (text ≡ names_text listed)
IsContentText File index names text = (extents : List Extent) × AreExtents index extents × (text ≡ extents_text extents)

-- the text of an inode
abbrev pub IsRowText : Row → List ℕ → Type 0
IsRowText row text = (content : List ℕ) × IsContentText row.kind row.index row.names content × (text ≡ row_head row ++ content)

-- the texts of the inodes, one after another
abbrev pub IsTreeText : List Row → List ℕ → Type 0
IsTreeText [] text = text ≡ []
IsTreeText (row ∷ rows) text = (first : List ℕ) × (rest : List ℕ) × IsRowText row first × IsTreeText rows rest × (text ≡ first ++ rest)

-- the region's numbers, the inodes, the free blocks of each CPU, and the faults
abbrev pub IsReportText : Outcome → List ℕ → Type 0
IsReportText o text = (tree : List ℕ) × IsTreeText o.rows tree × (text ≡ region_line o.sup ++ tree ++ free_lines o.free ++ faults_text o.faults)

-- a part of an outcome, or the whole of it, as a text
abbrev pub IsPartText : Part → Outcome → List ℕ → Type 0
IsPartText Tree o text = IsTreeText o.rows text
IsPartText Free o text = text ≡ free_lines o.free
IsPartText Faults o text = text ≡ faults_text o.faults
IsPartText Report o text = IsReportText o text

-- a text of that kind was added
abbrev pub AddsText : (List ℕ → Type 0) → List ℕ → List ℕ → Type 0
AddsText IsText old new = (text : List ℕ) × IsText text × (new ≡ old ++ text)
