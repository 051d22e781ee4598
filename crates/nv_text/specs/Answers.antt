-- The lines that answer a command.
use Rattle.std.specs.Prelude.{ℕ, List, Option, Some, None, ◌++◌, codes, decimal}

-- a text as a line
abbrev pub line : List ℕ → List ℕ
line text = text ++ codes "\n"

-- the command was done
abbrev pub ok_line : List ℕ
ok_line = line (codes "ok")

-- a stop came during the command
abbrev pub stopped_line : List ℕ
stopped_line = line (codes "stopped")

-- the line of this number is no command
abbrev pub bad_line : ℕ → List ℕ
bad_line number = line (codes "bad line " ++ decimal number)

-- the command was refused, by this name
abbrev pub refused_line : List ℕ → List ℕ
refused_line name = line (codes "refused " ++ name)

-- how many inodes are in use, how many blocks are free, and how many faults there are
abbrev pub recovered_line : ℕ → ℕ → ℕ → List ℕ
recovered_line inodes free faults = line (codes "recovered inodes " ++ decimal inodes ++ codes " free " ++ decimal free ++ codes " faults " ++ decimal faults)

-- a word of the region
abbrev pub word_line : ℕ → List ℕ
word_line word = line (codes "word " ++ decimal word)

-- the page that was taken out of a log, or that it needs each of its pages
abbrev pub cleaned_line : Option ℕ → List ℕ
cleaned_line None = line (codes "nothing")
cleaned_line (Some block) = line (codes "cleaned " ++ decimal block)
