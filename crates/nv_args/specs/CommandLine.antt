-- The command line of the program, as `clap` sees it.
use Rattle.std.specs.Prelude.{ℕ, ◌^◌, ◌-◌, List, [], ◌∷◌, ◌++◌, pos, true, Some, codes}
use Rattle.std.specs.List.{fold}
use Rattle.clap.specs.Walk.{Rule, Text}
use Rattle.clap.specs.Simple.{App, new_app, new_rule, with_rule, with_subcommand, on_top}
use Rattle.clap.specs.declared.builder.action.ArgAction.TheVariants.{SetTrue, Append}
use Rattle.clap.specs.declared.builder.value_parser.ValueParser.TheVariants as parsers

-- an argument that is written by its place
abbrev pub place_rule : Text → Rule
place_rule name = new_rule name

-- one that has to be written
abbrev pub needed_rule : Text → Rule
needed_rule name = record (new_rule name) { required = true }

-- arguments that are written by their places, one or more
abbrev pub several_rule : Text → Rule
several_rule name = record (needed_rule name) { action = Some Append }

-- an option with a text
abbrev pub option_rule : Text → Rule
option_rule name = record (new_rule name) { long = Some name }

-- an option with a number below 2^64
abbrev pub number_rule : Text → Rule
number_rule name = record (option_rule name) { parser = Some (parsers.Unsigned 0 (2 ^ 64 - 1)) }

-- an option with no value
abbrev pub flag_rule : Text → Rule
flag_rule name = record (option_rule name) { action = Some SetTrue }

-- an option with no value that has a letter too
abbrev pub letter_rule : ℕ → Text → Rule
letter_rule letter name = record (flag_rule name) { short = Some letter }

-- a number below 2^64 that has to be written
abbrev pub needed_number_rule : Text → Rule
needed_number_rule name = record (needed_rule name) { parser = Some (parsers.Unsigned 0 (2 ^ 64 - 1)) }

-- an option with a number from 1 to 64
abbrev pub threads_rule : Text → Rule
threads_rule name = record (option_rule name) { parser = Some (parsers.Signed (pos 1) (pos 64)) }

-- an option with the number 1 or 2
abbrev pub version_rule : Text → Rule
version_rule name = record (option_rule name) { parser = Some (parsers.Signed (pos 1) (pos 2)) }

-- the option `--workers`
abbrev pub workers_rule : Rule
workers_rule = threads_rule (codes "workers")

-- a command with these arguments
abbrev pub command : Text → List Rule → App
command name rules = fold with_rule (new_app name) rules

-- `run`: a script's file, the images that it begins with and ends with, whether another file may be replaced, and whether it
-- ends at a refusal
abbrev pub run_app : App
run_app = command (codes "run") (place_rule (codes "script") ∷ option_rule (codes "image") ∷ option_rule (codes "save") ∷ flag_rule (codes "force") ∷ flag_rule (codes "strict") ∷ [])

-- `shell`: an image's file, and whether another file may be replaced
abbrev pub shell_app : App
shell_app = command (codes "shell") (needed_rule (codes "image") ∷ flag_rule (codes "force") ∷ [])

-- `check`: the files of images, a number of workers, and what is printed in place of the report or below it
abbrev pub check_app : App
check_app = command (codes "check") (several_rule (codes "path") ∷ workers_rule ∷ flag_rule (codes "summary") ∷ flag_rule (codes "only-faults")
    ∷ flag_rule (codes "json") ∷ flag_rule (codes "explain") ∷ flag_rule (codes "journal") ∷ [])

-- `mkfs`: an image's file, the numbers of a new region, its size in place of its blocks, its layout, and whether the file may be there
abbrev pub mkfs_app : App
mkfs_app = command (codes "mkfs") (needed_rule (codes "image") ∷ number_rule (codes "blocks") ∷ number_rule (codes "cpus") ∷ number_rule (codes "tables")
    ∷ option_rule (codes "size") ∷ version_rule (codes "layout") ∷ flag_rule (codes "force") ∷ [])

-- a command on one inode of an image, which can be left out: `clean` and `ls`
abbrev pub may_path_app : Text → App
may_path_app name = command name (needed_rule (codes "image") ∷ place_rule (codes "path") ∷ [])

-- a command on one inode of an image: `stat` and `cat`
abbrev pub path_app : Text → App
path_app name = command name (needed_rule (codes "image") ∷ needed_rule (codes "path") ∷ [])

-- `tar`: an image's file, what is put into the archive, and whether all else that is in use is too
abbrev pub tar_app : App
tar_app = command (codes "tar") (needed_rule (codes "image") ∷ place_rule (codes "path") ∷ flag_rule (codes "lost-found") ∷ [])

-- `ls`: an image's file, a directory, whether the numbers of each inode stand before its name, and whether all directories below are
-- listed
abbrev pub ls_app : App
ls_app = command (codes "ls") (needed_rule (codes "image") ∷ place_rule (codes "path") ∷ letter_rule 108 (codes "long") ∷ letter_rule 82 (codes "recursive") ∷ [])

-- `log`: an image's file, and an inode or all
abbrev pub log_app : App
log_app = command (codes "log") (needed_rule (codes "image") ∷ place_rule (codes "path") ∷ flag_rule (codes "all") ∷ [])

-- `block`: an image's file, the number of a block, and whether its bytes are shown
abbrev pub block_app : App
block_app = command (codes "block") (needed_rule (codes "image") ∷ needed_number_rule (codes "block") ∷ flag_rule (codes "hex") ∷ [])

-- `diff`: the files of two images
abbrev pub diff_app : App
diff_app = command (codes "diff") (needed_rule (codes "image") ∷ needed_rule (codes "other") ∷ [])

-- `explain`: a class of faults
abbrev pub explain_app : App
explain_app = command (codes "explain") (needed_rule (codes "class") ∷ [])

-- `map`: an image's file, the file of a drawing, and whether a file may be replaced
abbrev pub map_app : App
map_app = command (codes "map") (needed_rule (codes "image") ∷ option_rule (codes "svg") ∷ flag_rule (codes "force") ∷ [])

-- the program before its commands: its own name isn't among the words, and one of the commands has to be
abbrev pub bare_app : App
bare_app = on_top (λ s. record s { no_binary_name = true; subcommand_required = true }) (new_app (codes "nova"))

-- a program with these commands
abbrev pub with_commands : App → List App → App
with_commands program apps = fold (λ app sub. with_subcommand app sub.top) program apps

-- the commands that read an image, or write one
abbrev pub image_apps : List App
image_apps = mkfs_app ∷ may_path_app (codes "clean") ∷ ls_app ∷ path_app (codes "stat") ∷ path_app (codes "cat") ∷ may_path_app (codes
    "du") ∷ tar_app ∷ log_app ∷ block_app ∷ diff_app ∷ explain_app ∷ map_app ∷ []

-- a command that changes an image: its file, these arguments, a CPU and a time
abbrev pub change_app : Text → List Rule → App
change_app name rules = command name (needed_rule (codes "image") ∷ rules ++ number_rule (codes "cpu") ∷ number_rule (codes "time") ∷ [])

-- one that changes what has a path
abbrev pub one_path_app : Text → App
one_path_app name = change_app name (needed_rule (codes "path") ∷ [])

-- one that gives what has a path another name
abbrev pub two_paths_app : Text → App
two_paths_app name = change_app name (needed_rule (codes "old") ∷ needed_rule (codes "new") ∷ [])

-- `put`: a file of the host, its path in an image, and whether all that is below a directory is put there too
abbrev pub put_app : App
put_app = change_app (codes "put") (needed_rule (codes "host") ∷ needed_rule (codes "path") ∷ letter_rule 114 (codes "recursive") ∷ [])

-- `untar`: an image's file, the directory that members go to, and a CPU
abbrev pub untar_app : App
untar_app = command (codes "untar") (needed_rule (codes "image") ∷ place_rule (codes "path") ∷ number_rule (codes "cpu") ∷ [])

-- `recover`: an image's file, and whether it stays as it is
abbrev pub recover_app : App
recover_app = command (codes "recover") (needed_rule (codes "image") ∷ flag_rule (codes "dry-run") ∷ [])

-- the commands that change an image by one call, `untar` and `recover`
abbrev pub change_apps : List App
change_apps = one_path_app (codes "mkdir") ∷ one_path_app (codes "rm") ∷ one_path_app (codes "rmdir") ∷ two_paths_app (codes "mv") ∷ two_paths_app (codes "ln")
    ∷ change_app (codes "truncate") (needed_rule (codes "size") ∷ needed_rule (codes "path") ∷ [])
    ∷ change_app (codes "chmod") (needed_rule (codes "mode") ∷ needed_rule (codes "path") ∷ [])
    ∷ change_app (codes "chown") (needed_rule (codes "owner") ∷ needed_rule (codes "path") ∷ [])
    ∷ put_app ∷ untar_app ∷ recover_app ∷ []

-- the program with its commands
abbrev pub nova_app : App
nova_app = with_commands (with_commands bare_app (run_app ∷ shell_app ∷ check_app ∷ image_apps)) change_apps
