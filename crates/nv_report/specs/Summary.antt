-- What sums an outcome up in one line.
use Rattle.std.specs.Prelude.{ℕ, ◌-◌, Bool, true, false, not, nat_lt, List, [], ◌∷◌, ◌++◌, length, map, flat_map, count_by, bytes_eq, codes, decimal}
use Rattle.std.specs.List.{filter, sum_by}
use Rattle.nv_super.specs.declared.kind.Kind.{Kind}
use Rattle.nv_super.specs.declared.kind.Kind.TheVariants.{File, Directory}
use Rattle.nv_super.specs.declared.faults.Fault.{Fault}
use Rattle.nv_super.specs.Classes.{class_of, fault_class_names}
use Rattle.nv_super.specs.Layout.{system_blocks}
use Rattle.nv_alloc.specs.Taking.{all_blocks}
use Rattle.nv_scan.specs.declared.piece.Row.{Row}
use Rattle.nv_outcome.specs.Outcome.{Outcome}
use Rattle.nv_text.specs.Answers.{line}
use Rattle.nv_report.specs.declared.summary.ClassSum.{ClassSum}

-- inodes of this kind hold names
abbrev pub is_directory : Kind → Bool
is_directory File = false
is_directory Directory = true

-- how many directories are in use
abbrev pub directories : List Row → ℕ
directories rows = count_by (λ (row : Row). is_directory row.kind) rows

-- how many files are in use
abbrev pub files : List Row → ℕ
files rows = count_by (λ (row : Row). not (is_directory row.kind)) rows

-- how many names there are in all directories
abbrev pub names : List Row → ℕ
names rows = sum_by (λ (row : Row). length row.names.names) rows

-- the data blocks that aren't free
abbrev pub used_blocks : Outcome → ℕ
used_blocks o = o.sup.blocks - system_blocks o.sup - all_blocks o.free

-- ---- faults by class

-- a class, and how many faults are of it
abbrev pub class_sum : List Fault → List ℕ → List ℕ × ℕ
class_sum faults class = (class, count_by (λ fault. bytes_eq (class_of fault) class) faults)

-- there are some
abbrev pub is_some_sum : List ℕ × ℕ → Bool
is_some_sum x = nat_lt 0 x.1

-- the classes of which there are faults, and how many of each
abbrev pub class_sums : List Fault → List (List ℕ × ℕ)
class_sums faults = filter is_some_sum (map (class_sum faults) fault_class_names)

-- a sum of the code's as such a pair
abbrev pub class_and_count : ClassSum → List ℕ × ℕ
class_and_count x = (x.class.now, x.count)

-- a class and its number
abbrev pub sum_text : List ℕ × ℕ → List ℕ
sum_text x = x.0 ++ codes " " ++ decimal x.1

-- behind commas
abbrev pub more_text : List (List ℕ × ℕ) → List ℕ
more_text xs = flat_map (λ (x : List ℕ × ℕ). codes ", " ++ sum_text x) xs

-- in brackets, with commas between them; nothing where there are none
abbrev pub sums_text : List (List ℕ × ℕ) → List ℕ
sums_text [] = []
sums_text (x ∷ xs) = codes " (" ++ sum_text x ++ more_text xs ++ codes ")"

-- ---- the line

-- the first part: inodes, directories, files and names
abbrev pub inodes_text : ℕ → ℕ → ℕ → ℕ → List ℕ
inodes_text inodes directories files names = codes "inodes " ++ decimal inodes ++ codes ", directories " ++ decimal directories
    ++ codes ", files " ++ decimal files ++ codes ", names " ++ decimal names

-- the blocks in use
abbrev pub used_text : ℕ → List ℕ
used_text used = codes ", blocks in use " ++ decimal used

-- the free blocks
abbrev pub free_text : ℕ → List ℕ
free_text free = codes ", free " ++ decimal free

-- the number of faults
abbrev pub count_text : ℕ → List ℕ
count_text faults = codes ", faults " ++ decimal faults

-- the first part, of these rows
abbrev pub inodes_part : List Row → List ℕ
inodes_part rows = inodes_text (length rows) (directories rows) (files rows) (names rows)

-- the blocks of an outcome, in use and free
abbrev pub blocks_part : Outcome → List ℕ
blocks_part o = used_text (used_blocks o) ++ free_text (all_blocks o.free)

-- how many faults there are, and how many of each class
abbrev pub faults_part : List Fault → List ℕ
faults_part faults = count_text (length faults) ++ sums_text (class_sums faults)

-- the whole
abbrev pub summary_line : Outcome → List ℕ
summary_line o = line (inodes_part o.rows ++ blocks_part o ++ faults_part o.faults)
