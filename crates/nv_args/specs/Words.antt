-- What the words of a command line ask for.
use Rattle.std.specs.Prelude.{◌≡◌, ◌⊎◌, ◌*◌, ◌^◌, ℕ, ◌≤◌, ◌<◌, ◌↔◌, List, [], ◌∷◌, ◌++◌, Option, Some, None, IsTrue, codes, option_map, map, unwrap_or, length}
use Rattle.std.specs.Borrow.{Bor}
use Rattle.std.specs.Str.Parse.{IsNumeral, digits_value, without_leading_plus}
use Rattle.clap.specs.Walk.{Row, Text, first_of, all_of}
use Rattle.clap.specs.Simple.{subcommand_of}
use Rattle.clap.specs.Faults.{fault_of}
use Rattle.nv_text.specs.declared.output.Output.TheVariants.{Report, Summary, OnlyFaults, Json}
use Rattle.nv_args.specs.CommandLine.{nova_app}
use Rattle.nv_args.specs.declared.todo.CheckOutput.{CheckOutput}
use Rattle.nv_args.specs.Changes.{AreOwners, IsMode}
use Rattle.nv_args.specs.declared.change.NamedChange.{NamedChange}
use Rattle.nv_args.specs.declared.change.NamedChange.TheVariants.{Mkdir, Rm, Rmdir, Mv, Ln, Truncate, Chmod, Chown, Put}
use Rattle.nv_args.specs.declared.todo.CheckOutput.TheVariants.{Written, Explained, Journal}
use Rattle.nv_args.specs.declared.todo.Todo.{Todo}
use Rattle.nv_args.specs.declared.todo.Todo.TheVariants.{Version, Run, Shell, Check, Mkfs, Clean, Change, PutTree, Untar, Recover, Ls, Stat, Cat, Tar, Log, View, Explain, Map}
use Rattle.nv_args.specs.declared.todo.LayoutVersion.{LayoutVersion}
use Rattle.nv_args.specs.declared.todo.LayoutVersion.TheVariants.{One, Two}
use Rattle.nv_args.specs.declared.todo.Which.{Which}
use Rattle.nv_args.specs.declared.todo.Which.TheVariants.{Path, Number}
use Rattle.nv_args.specs.declared.views.View.{View as ViewValue}
use Rattle.nv_args.specs.declared.views.View.TheVariants.{Logs, Block, Usage, Folders, Difference}
use Rattle.nv_args.specs.UsageValue.{UsageTold}

-- the written text is a decimal number below 2^64, which may have a plus sign and leading zeros
abbrev pub IsNumber : Option Text → ℕ → Type 0
IsNumber None number = ⊥
IsNumber (Some text) number = IsNumeral 10 (without_leading_plus text)
    × (number ≡ digits_value 10 (without_leading_plus text)) × (number < 2 ^ 64)

-- the number is the one that is written, or there is none and none is written
abbrev pub MayBeNumber : Option Text → Option ℕ → Type 0
MayBeNumber written None = written ≡ None
MayBeNumber written (Some number) = IsNumber written number

-- the letter behind a size stands for so many bytes, and no letter for one
abbrev pub IsUnit : Text → ℕ → Type 0
IsUnit letter bytes = ((letter ≡ []) × (bytes ≡ 1)) ⊎ ((letter ≡ codes "K") × (bytes ≡ 2 ^ 10))
    ⊎ ((letter ≡ codes "M") × (bytes ≡ 2 ^ 20)) ⊎ ((letter ≡ codes "G") × (bytes ≡ 2 ^ 30))

-- The text is a size of so many blocks of 4096 bytes: a number and a letter, which stands for so many bytes.
pub record SizeOf (text : Text) (blocks : ℕ) : Type 0 where
  pub digits : Text
  pub letter : Text
  pub number : ℕ
  pub unit : ℕ
  pub parts : text ≡ digits ++ letter
  pub is_number : IsNumber (Some digits) number
  pub is_unit : IsUnit letter unit
  pub whole : number * unit ≡ blocks * 4096
  pub fits : number * unit < 2 ^ 64

-- a size of so many blocks is written
abbrev pub IsSize : Option Text → ℕ → Type 0
IsSize None blocks = ⊥
IsSize (Some text) blocks = SizeOf text blocks

-- the word is this text between `<` and `>`
abbrev pub IsBetween : Text → Text → Type 0
IsBetween word inside = word ≡ 60 ∷ inside ++ 62 ∷ []

-- the word is this number, by itself or between `<` and `>`
abbrev pub SpellsNumber : Text → ℕ → Type 0
SpellsNumber word number = IsNumber (Some word) number ⊎ ((inside : Text) × IsBetween word inside × IsNumber (Some inside) number)

-- a word names an inode by its number, or else by a path, which is the word
abbrev pub Names : Text → Which → Type 0
Names word (Path path) = (path.now ≡ word) × ((number : ℕ) → ¬ SpellsNumber word number)
Names word (Number number) = SpellsNumber word number

-- an inode is named by the word that is written
abbrev pub IsNamed : Option Text → Which → Type 0
IsNamed None which = ⊥
IsNamed (Some word) which = Names word which

-- the number of workers is 1 where none is written, and else the decimal number that is, from 1 to 64
abbrev pub AreWorkers : Option Text → ℕ → Type 0
AreWorkers None workers = workers ≡ 1
AreWorkers (Some text) workers = IsNumeral 10 (without_leading_plus text)
    × (workers ≡ digits_value 10 (without_leading_plus text)) × (1 ≤ workers) × (workers ≤ 64)

-- the option with no value that has this name is among the words
abbrev pub IsGiven : Text → List Row → Type 0
IsGiven name values = first_of name values ≡ Some (codes "true")

-- A check prints the report, unless one of five options asks for something else: that each fault is explained, and what is pending,
-- only of one image.
abbrev pub IsOutput : List Row → ℕ → CheckOutput → Type 0
IsOutput values images (Written Report) = (¬ IsGiven (codes "summary") values) × (¬ IsGiven (codes "only-faults") values) × (¬ IsGiven (codes "json") values)
    × (¬ IsGiven (codes "explain") values) × (¬ IsGiven (codes "journal") values)
IsOutput values images (Written Summary) = IsGiven (codes "summary") values × (¬ IsGiven (codes "only-faults") values) × (¬ IsGiven (codes "json") values)
    × (¬ IsGiven (codes "explain") values) × (¬ IsGiven (codes "journal") values)
IsOutput values images (Written OnlyFaults) = (¬ IsGiven (codes "summary") values) × IsGiven (codes "only-faults") values × (¬ IsGiven (codes "json") values)
    × (¬ IsGiven (codes "explain") values) × (¬ IsGiven (codes "journal") values)
IsOutput values images (Written Json) = (¬ IsGiven (codes "summary") values) × (¬ IsGiven (codes "only-faults") values) × IsGiven (codes "json") values
    × (¬ IsGiven (codes "explain") values) × (¬ IsGiven (codes "journal") values)
IsOutput values images Explained = (¬ IsGiven (codes "summary") values) × (¬ IsGiven (codes "only-faults") values) × (¬ IsGiven (codes "json") values)
    × IsGiven (codes "explain") values × (¬ IsGiven (codes "journal") values) × (images ≡ 1)
IsOutput values images Journal = (¬ IsGiven (codes "summary") values) × (¬ IsGiven (codes "only-faults") values) × (¬ IsGiven (codes "json") values)
    × (¬ IsGiven (codes "explain") values) × IsGiven (codes "journal") values × (images ≡ 1)

-- the numbers of a new region are written: its blocks and the others, or its size, and of the others those that are written
abbrev pub AreNumbers : List Row → ℕ → Option ℕ → Option ℕ → Type 0
AreNumbers values blocks cpus tables = ((first_of (codes "size") values ≡ None) × IsNumber (first_of (codes "blocks") values) blocks
    × ((c : ℕ) × (cpus ≡ Some c) × IsNumber (first_of (codes "cpus") values) c)
    × ((t : ℕ) × (tables ≡ Some t) × IsNumber (first_of (codes "tables") values) t))
    ⊎ ((first_of (codes "blocks") values ≡ None) × IsSize (first_of (codes "size") values) blocks
    × MayBeNumber (first_of (codes "cpus") values) cpus × MayBeNumber (first_of (codes "tables") values) tables)

-- the number of a version
abbrev pub version_number : LayoutVersion → ℕ
version_number One = 1
version_number Two = 2

-- the layout of a new region has version 1 where none is written, and else the one that is
abbrev pub IsLayout : Option Text → LayoutVersion → Type 0
IsLayout None layout = layout ≡ One
IsLayout (Some text) layout = IsNumber (Some text) (version_number layout)

-- ---- changes

-- the number of a CPU is 0 where none is written
abbrev pub IsCpu : Option Text → ℕ → Type 0
IsCpu None cpu = cpu ≡ 0
IsCpu (Some text) cpu = IsNumber (Some text) cpu

-- a mode is written
abbrev pub WritesMode : Option Text → ℕ → Type 0
WritesMode None mode = ⊥
WritesMode (Some text) mode = IsMode text mode

-- an owner is written, and a group where there is one
abbrev pub WritesOwners : Option Text → ℕ → Option ℕ → Type 0
WritesOwners None owner group = ⊥
WritesOwners (Some text) owner group = AreOwners text owner group

-- the name of the command of a change
abbrev pub change_command : NamedChange → Text
change_command (Mkdir path) = codes "mkdir"
change_command (Rm path) = codes "rm"
change_command (Rmdir path) = codes "rmdir"
change_command (Mv old new) = codes "mv"
change_command (Ln old new) = codes "ln"
change_command (Truncate path size) = codes "truncate"
change_command (Chmod path mode) = codes "chmod"
change_command (Chown path owner group) = codes "chown"
change_command (Put host path) = codes "put"

-- a change has the values that are written
abbrev pub HasChange : List Row → NamedChange → Type 0
HasChange values (Mkdir path) = first_of (codes "path") values ≡ Some path.now
HasChange values (Rm path) = first_of (codes "path") values ≡ Some path.now
HasChange values (Rmdir path) = first_of (codes "path") values ≡ Some path.now
HasChange values (Mv old new) = (first_of (codes "old") values ≡ Some old.now) × (first_of (codes "new") values ≡ Some new.now)
HasChange values (Ln old new) = (first_of (codes "old") values ≡ Some old.now) × (first_of (codes "new") values ≡ Some new.now)
HasChange values (Truncate path size) = (first_of (codes "path") values ≡ Some path.now) × IsNumber (first_of (codes "size") values) size
HasChange values (Chmod path mode) = (first_of (codes "path") values ≡ Some path.now) × WritesMode (first_of (codes "mode") values) mode
HasChange values (Chown path owner group) = (first_of (codes "path") values ≡ Some path.now) × WritesOwners (first_of (codes "owner") values) owner group
HasChange values (Put host path) = (first_of (codes "host") values ≡ Some host.now) × (first_of (codes "path") values ≡ Some path.now) × (¬ IsGiven (codes "recursive") values)

-- this command, with the values written for its arguments, asks for this change
abbrev pub AsksChange : Text → List Row → NamedChange → Type 0
AsksChange command values change = (command ≡ change_command change) × HasChange values change

-- ---- commands

-- the name of the command by which something is shown
abbrev pub view_command : ViewValue → Text
view_command (Logs image) = codes "log"
view_command (Block image block hex) = codes "block"
view_command (Usage image which) = codes "du"
view_command (Folders image which long) = codes "ls"
view_command (Difference image other) = codes "diff"

-- the name of the command that is to be done
abbrev pub command_of : Todo → Text
command_of Version = []
command_of (Run script image save force strict) = codes "run"
command_of (Shell image force) = codes "shell"
command_of (Check paths workers output) = codes "check"
command_of (Mkfs image blocks cpus tables layout force) = codes "mkfs"
command_of (Clean image path) = codes "clean"
command_of (Change image change cpu time) = change_command change
command_of (PutTree image host path cpu time) = codes "put"
command_of (Untar image path cpu) = codes "untar"
command_of (Recover image dry_run) = codes "recover"
command_of (Ls image which long) = codes "ls"
command_of (Stat image which) = codes "stat"
command_of (Cat image which) = codes "cat"
command_of (Tar image which lost) = codes "tar"
command_of (Log image which) = codes "log"
command_of (View view) = view_command view
command_of (Explain class) = codes "explain"
command_of (Map image svg force) = codes "map"

-- the path, where there is one alone
abbrev pub only_path : List (Bor Text) → Option Text
only_path [] = None
only_path (path ∷ []) = Some path.now
only_path (path ∷ other ∷ paths) = None

-- the path of a check of one image
abbrev pub checked_path : Todo → Option Text
checked_path (Check paths workers output) = only_path paths.items
checked_path _ = None

-- what is to be shown has the values that are written for a command's arguments
abbrev pub HasView : List Row → ViewValue → Type 0
HasView values (Logs image) = (first_of (codes "image") values ≡ Some image.now) × (first_of (codes "path") values ≡ None) × IsGiven (codes "all") values
HasView values (Block image block hex) = (first_of (codes "image") values ≡ Some image.now)
    × IsNumber (first_of (codes "block") values) block × (IsTrue hex ↔ IsGiven (codes "hex") values)
-- the root, where none is written
HasView values (Usage image which) = (first_of (codes "image") values ≡ Some image.now)
    × Names (unwrap_or (first_of (codes "path") values) (codes "/")) which
HasView values (Folders image which long) = (first_of (codes "image") values ≡ Some image.now)
    × Names (unwrap_or (first_of (codes "path") values) (codes "/")) which × (IsTrue long ↔ IsGiven (codes "long") values) × IsGiven (codes "recursive") values
HasView values (Difference image other) = (first_of (codes "image") values ≡ Some image.now) × (first_of (codes "other") values ≡ Some other.now)

-- what is to be done has the values that are written for a command's arguments
abbrev pub HasValues : List Row → Todo → Type 0
HasValues values Version = ⊥
HasValues values (Run script image save force strict) = (first_of (codes "script") values ≡ option_map (λ text. text.now) script)
    × (first_of (codes "image") values ≡ option_map (λ text. text.now) image)
    × (first_of (codes "save") values ≡ option_map (λ text. text.now) save) × (IsTrue force ↔ IsGiven (codes "force") values)
    × (IsTrue strict ↔ IsGiven (codes "strict") values)
HasValues values (Shell image force) = (first_of (codes "image") values ≡ Some image.now) × (IsTrue force ↔ IsGiven (codes "force") values)
HasValues values (Check paths workers output) = (all_of (codes "path") values ≡ Some (map (λ path. path.now) paths.items))
    × AreWorkers (first_of (codes "workers") values) workers × IsOutput values (length paths.items) output
HasValues values (Mkfs image blocks cpus tables layout force) = (first_of (codes "image") values ≡ Some image.now)
    × AreNumbers values blocks cpus tables × IsLayout (first_of (codes "layout") values) layout × (IsTrue force ↔ IsGiven (codes "force") values)
HasValues values (Clean image path) = (first_of (codes "image") values ≡ Some image.now) × (first_of (codes "path") values ≡ option_map (λ text. text.now) path)
HasValues values (Change image change cpu time) = (first_of (codes "image") values ≡ Some image.now) × HasChange values change
    × IsCpu (first_of (codes "cpu") values) cpu × MayBeNumber (first_of (codes "time") values) time
HasValues values (PutTree image host path cpu time) = (first_of (codes "image") values ≡ Some image.now) × (first_of (codes "host") values ≡ Some host.now)
    × (first_of (codes "path") values ≡ Some path.now) × MayBeNumber (first_of (codes "cpu") values) cpu × MayBeNumber (first_of (codes "time") values) time
    × IsGiven (codes "recursive") values
-- the root, where none is written
HasValues values (Untar image path cpu) = (first_of (codes "image") values ≡ Some image.now) × (path.now ≡ unwrap_or (first_of (codes "path") values) (codes "/"))
    × MayBeNumber (first_of (codes "cpu") values) cpu
HasValues values (Recover image dry_run) = (first_of (codes "image") values ≡ Some image.now) × (IsTrue dry_run ↔ IsGiven (codes "dry-run") values)
-- the root, where none is written
HasValues values (Ls image which long) = (first_of (codes "image") values ≡ Some image.now)
    × Names (unwrap_or (first_of (codes "path") values) (codes "/")) which × (IsTrue long ↔ IsGiven (codes "long") values)
    × (¬ IsGiven (codes "recursive") values)
HasValues values (Stat image which) = (first_of (codes "image") values ≡ Some image.now) × IsNamed (first_of (codes "path") values) which
HasValues values (Cat image which) = (first_of (codes "image") values ≡ Some image.now) × IsNamed (first_of (codes "path") values) which
HasValues values (Tar image which lost) = (first_of (codes "image") values ≡ Some image.now)
    × Names (unwrap_or (first_of (codes "path") values) (codes "/")) which × (IsTrue lost ↔ IsGiven (codes "lost-found") values)
HasValues values (Log image which) = (first_of (codes "image") values ≡ Some image.now) × IsNamed (first_of (codes "path") values) which
    × (¬ IsGiven (codes "all") values)
HasValues values (View view) = HasView values view
HasValues values (Explain class) = first_of (codes "class") values ≡ Some class.now
HasValues values (Map image svg force) = (first_of (codes "image") values ≡ Some image.now)
    × (first_of (codes "svg") values ≡ option_map (λ text. text.now) svg) × (IsTrue force ↔ IsGiven (codes "force") values)

-- this command, with the values written for its arguments, asks for this
abbrev pub Asks : Text → List Row → Todo → Type 0
Asks command values todo = (command ≡ command_of todo) × HasValues values todo

-- a command was met, and it asks for this
abbrev pub Says : Option (Text × List Row) → Todo → Type 0
Says None todo = ⊥
Says (Some met) todo = Asks met.0 met.1 todo

-- these words are without fault on the program's command line, and the command that they name asks for this
abbrev pub CommandSays : List Text → Todo → Type 0
CommandSays words todo = (fault_of nova_app words ≡ []) × Says (subcommand_of nova_app words) todo

-- the word asks for the version
abbrev pub IsVersion : Text → Type 0
IsVersion word = (word ≡ codes "--version") ⊎ (word ≡ codes "-V")

-- there is one word, which asks for the version
abbrev pub AskVersion : List Text → Type 0
AskVersion [] = ⊥
AskVersion (word ∷ []) = IsVersion word
AskVersion (word ∷ other ∷ words) = ⊥

-- the words ask for the version, or they are those of a command, which asks for this
abbrev pub WordsSay : List Text → Todo → Type 0
WordsSay words todo = (AskVersion words × (todo ≡ Version)) ⊎ ((AskVersion words → ⊥) × CommandSays words todo)

-- it tells of want of memory
abbrev pub WantsMemory : UsageTold → Type 0
WantsMemory usage = IsTrue usage.out_of_memory
