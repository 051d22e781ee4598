-- The commands of a script, a row for each.
use Rattle.std.specs.Prelude.{ℕ, List, [], ◌∷◌, map, Option, Some, None, if◌then◌else◌, bytes_eq, codes}
use Rattle.nv_region.specs.declared.memory.Keep.{Keep}
use Rattle.nv_line.specs.Request.{Request, Format, Time, Poke, Cut, Recover, Replay, ListNames, Stat, Read, Create, MakeDirectory, Write, SetSize, SetAttributes, Link, Unlink, RemoveDirectory, Rename}
use Rattle.nv_line.specs.Request.{Clean, Upgrade, Tree, Free, Faults, Report, Peek, Stop}
use Rattle.nv_line.specs.declared.reasons.Form.{Form}
use Rattle.nv_line.specs.declared.reasons.Form.TheVariants as forms
use Rattle.nv_line.specs.Shapes.{Moment, Shape, End, Numbers, Then, Number, UpTo, Path, When, Keeping, Makes, fuse_by}
use Rattle.nv_super.specs.Layout.{most_size}

-- A command: its name, what a user reads of its words, the words behind its name, and the request that they make.
pub record Row : Type 0 where
  pub name : List ℕ
  pub text : List ℕ
  pub shape : Shape
  pub make : Makes shape

-- the same of its parts
abbrev row : List ℕ → List ℕ → (shape : Shape) → Makes shape → Row
row name text shape make = record { name = name; text = text; shape = shape; make = make }

-- so many numbers
abbrev pub one_number : Shape
one_number = Then Number End

-- two numbers
abbrev pub two_numbers : Shape
two_numbers = Then Number one_number

-- three numbers
abbrev pub three_numbers : Shape
three_numbers = Then Number two_numbers

-- a number, and any more of them
abbrev pub number_and_numbers : Shape
number_and_numbers = Then Number Numbers

-- a path
abbrev pub one_path : Shape
one_path = Then Path End

-- a path, and a part of a file
abbrev pub path_and_two_numbers : Shape
path_and_two_numbers = Then Path two_numbers

-- the CPU whose pool gives blocks, and a path
abbrev pub cpu_and_path : Shape
cpu_and_path = Then Number one_path

-- the same, and another path
abbrev pub cpu_and_two_paths : Shape
cpu_and_two_paths = Then Number (Then Path one_path)

-- a CPU, a path and the size of a file
abbrev pub cpu_path_and_number : Shape
cpu_path_and_number = Then Number (Then Path one_number)

-- the most of 32 bits
abbrev pub most_32 : ℕ
most_32 = 4294967295

-- a CPU, a path, a mode, an owner and a group
abbrev pub attribute_words : Shape
attribute_words = Then Number (Then Path (Then (UpTo most_32) (Then (UpTo most_32) (Then (UpTo most_32) End))))

-- a CPU, a path, an offset, a count of at most the bytes that a file can have, and a byte
abbrev pub write_words : Shape
write_words = Then Number (Then Path (Then Number (Then (UpTo most_size) (Then (UpTo 255) End))))

-- when a stop comes, and what it keeps
abbrev pub stop_words : Shape
stop_words = Then When (Then Number (Then Keeping End))

-- the request of a stop
abbrev pub stop_of : Moment → ℕ → Keep → Request
stop_of moment n keep = Stop (fuse_by moment n) keep

-- the row of each command
unfoldable pub row_of : Form → Row
row_of forms.Format = row (codes "format") (codes "format CPUS BLOCKS TABLES") three_numbers Format
row_of forms.Time = row (codes "time") (codes "time T") one_number Time
row_of forms.Poke = row (codes "poke") (codes "poke AT VALUE") two_numbers Poke
row_of forms.Cut = row (codes "cut") (codes "cut LENGTH") one_number Cut
row_of forms.Recover = row (codes "recover") (codes "recover WORKERS") one_number Recover
row_of forms.Replay = row (codes "replay") (codes "replay WORKERS w w ..") number_and_numbers Replay
row_of forms.Tree = row (codes "tree") (codes "tree") End Tree
row_of forms.Free = row (codes "free") (codes "free") End Free
row_of forms.Faults = row (codes "faults") (codes "faults") End Faults
row_of forms.Report = row (codes "report") (codes "report") End Report
row_of forms.Peek = row (codes "peek") (codes "peek AT") one_number Peek
row_of forms.Stop = row (codes "stop") (codes "stop after|at N none|all|alternate") stop_words stop_of
row_of forms.ListNames = row (codes "list") (codes "list PATH") one_path ListNames
row_of forms.Stat = row (codes "stat") (codes "stat PATH") one_path Stat
row_of forms.Read = row (codes "read") (codes "read PATH OFFSET COUNT") path_and_two_numbers Read
row_of forms.Create = row (codes "create") (codes "create CPU PATH") cpu_and_path Create
row_of forms.MakeDirectory = row (codes "mkdir") (codes "mkdir CPU PATH") cpu_and_path MakeDirectory
row_of forms.Write = row (codes "write") (codes "write CPU PATH OFFSET COUNT BYTE") write_words Write
row_of forms.SetSize = row (codes "size") (codes "size CPU PATH N") cpu_path_and_number SetSize
row_of forms.SetAttributes = row (codes "attr") (codes "attr CPU PATH MODE OWNER GROUP") attribute_words SetAttributes
row_of forms.Clean = row (codes "clean") (codes "clean PATH") one_path Clean
row_of forms.Upgrade = row (codes "upgrade") (codes "upgrade") End Upgrade
row_of forms.Link = row (codes "link") (codes "link CPU OLD NEW") cpu_and_two_paths Link
row_of forms.Unlink = row (codes "unlink") (codes "unlink CPU PATH") cpu_and_path Unlink
row_of forms.RemoveDirectory = row (codes "rmdir") (codes "rmdir CPU PATH") cpu_and_path RemoveDirectory
row_of forms.Rename = row (codes "rename") (codes "rename CPU OLD NEW") cpu_and_two_paths Rename

-- the commands in their order
unfoldable pub commands : List Form
commands = forms.Format ∷ forms.Time ∷ forms.Poke ∷ forms.Cut ∷ forms.Recover ∷ forms.Replay ∷ forms.Tree ∷ forms.Free
    ∷ forms.Faults ∷ forms.Report ∷ forms.Peek ∷ forms.Stop ∷ forms.ListNames ∷ forms.Stat ∷ forms.Read
    ∷ forms.Create ∷ forms.MakeDirectory ∷ forms.Write ∷ forms.SetSize ∷ forms.SetAttributes ∷ forms.Clean ∷ forms.Upgrade
    ∷ forms.Link ∷ forms.Unlink ∷ forms.RemoveDirectory ∷ forms.Rename ∷ []

-- their rows
unfoldable pub rows : List Row
rows = map row_of commands

-- a command's name, and which it is
abbrev pub named : Form → List ℕ × Form
named form = ((row_of form).name, form)

-- the names of all
unfoldable pub names : List (List ℕ × Form)
names = map named commands

-- the command of this name, if there is one
unfoldable pub form_in : List (List ℕ × Form) → List ℕ → Option Form
form_in [] name = None
form_in (command ∷ commands) name = if bytes_eq name command.0 then Some command.1 else form_in commands name
