-- The change that the words of a command stand for.
use Rattle.std.specs.Prelude.{ℕ, List}
use Rattle.std.specs.Borrow.{Bor}
use Rattle.nv_args.specs.declared.change.NamedChange.{NamedChange}
use Rattle.nv_args.specs.declared.change.NamedChange.TheVariants.{Mkdir, Rm, Rmdir, Mv, Ln, Truncate, Chmod, Chown, Put}
use Rattle.nv_changes.specs.declared.change.Change.{Change}
use Rattle.nv_changes.specs.declared.change.Change.TheVariants as changes

-- the change, of the path that its first word spells, and of the second one's or of the bytes of a file of the host
abbrev pub change_said : NamedChange → Bor (List ℕ) → Bor (List ℕ) → Change
change_said (Mkdir path) first second = changes.MakeDirectory first
change_said (Rm path) first second = changes.Remove first
change_said (Rmdir path) first second = changes.RemoveDirectory first
change_said (Mv old new) first second = changes.Rename first second
change_said (Ln old new) first second = changes.Link first second
change_said (Truncate path size) first second = changes.SetSize first size
change_said (Chmod path mode) first second = changes.SetMode first mode
change_said (Chown path owner group) first second = changes.SetOwner first owner group
change_said (Put host path) first second = changes.Put first second
