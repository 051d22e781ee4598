-- The lines of what differs. Each begins with a word for what it is, and the path comes next.
use Rattle.std.specs.Prelude.{ℕ, ◌==◌, if◌then◌else◌, List, [], ◌∷◌, ◌++◌, codes, decimal}
use Rattle.nv_super.specs.Kind.{kind_word}
use Rattle.nv_super.specs.declared.kind.Kind.{Kind}
use Rattle.nv_text.specs.Answers.{line}
use Rattle.nv_text.specs.Names.{escaped}
use Rattle.nv_difference.specs.declared.contents.Numbers.{Numbers}

-- a path with its escapes; that of the root is empty
abbrev pub path_text : List ℕ → List ℕ
path_text [] = codes "/"
path_text (b ∷ bs) = escaped (b ∷ bs)

-- a word, and the path with a colon
abbrev pub head_text : List ℕ → List ℕ → List ℕ
head_text word path = word ++ codes " " ++ path_text path ++ codes ": "

-- a number that differs, first as A has it and then as B has it; nothing where both have the same
abbrev pub number_text : List ℕ → List ℕ → ℕ → ℕ → List ℕ
number_text word path a b = if a == b then [] else (head_text word path ++ line (decimal a ++ codes ", " ++ decimal b))

-- the mode, and whose it is
abbrev pub whose_text : List ℕ → Numbers → Numbers → List ℕ
whose_text path a b = number_text (codes "mode") path a.mode b.mode ++ number_text (codes "owner") path a.owner b.owner ++ number_text (codes "group") path a.group b.group

-- how large it is, how often it is named, and when it was changed
abbrev pub size_text : List ℕ → Numbers → Numbers → List ℕ
size_text path a b = number_text (codes "size") path a.size b.size ++ number_text (codes "links") path a.links b.links ++ number_text (codes "time") path a.time b.time

-- all numbers that differ
abbrev pub numbers_text : List ℕ → Numbers → Numbers → List ℕ
numbers_text path a b = whose_text path a b ++ size_text path a b

-- two kinds
abbrev pub kinds_line : List ℕ → Kind → Kind → List ℕ
kinds_line path a b = head_text (codes "kind") path ++ line (kind_word a ++ codes ", " ++ kind_word b)

-- from where on they differ
abbrev pub differ_text : ℕ → List ℕ
differ_text place = line (codes "differ from byte " ++ decimal place)

-- the first place where the bytes differ
abbrev pub bytes_line : List ℕ → ℕ → List ℕ
bytes_line path place = head_text (codes "bytes") path ++ differ_text place

-- there is an inode in A alone
abbrev pub only_a_line : List ℕ → List ℕ
only_a_line path = codes "only in A: " ++ line (path_text path)

-- there is one in B alone
abbrev pub only_b_line : List ℕ → List ℕ
only_b_line path = codes "only in B: " ++ line (path_text path)

-- the names of two directories aren't compared
abbrev pub passed_line : List ℕ → List ℕ
passed_line path = head_text (codes "names") path ++ line (codes "not compared, one directory has an earlier path")
