-- What the system tells of what stands at a place of the host.
use Rattle.std.specs.Prelude.{ℕ, ℤ, pos, negsuc, bit_and, Result, Ok, Err}
use Rattle.std.specs.Fs.{IsDir, IsFile, IsSymlink}
use Rattle.std.specs.declared.fs.FileType.{FileType}
use Rattle.nv_host.specs.declared.errors.Misfit.{Misfit}
use Rattle.nv_host.specs.declared.errors.Misfit.TheVariants.{SymbolicLink, OtherKind, NameNotUtf8, Replaced, System}
use Rattle.nv_host.specs.declared.found.HostKind.{HostKind}
use Rattle.nv_host.specs.declared.found.HostKind.TheVariants.{File, Directory}

-- what is of this type can be put into an image, as this, or it doesn't fit
abbrev pub IsKind : FileType → Result HostKind Misfit → Type 0
IsKind found (Ok File) = IsFile found
IsKind found (Ok Directory) = IsDir found
IsKind found (Err SymbolicLink) = IsSymlink found
IsKind found (Err OtherKind) = (¬ IsFile found) × (¬ IsDir found) × (¬ IsSymlink found)
IsKind found (Err NameNotUtf8) = ⊥
IsKind found (Err Replaced) = ⊥
IsKind found (Err (System error)) = ⊥

-- the permissions of a mode
abbrev pub permissions : ℕ → ℕ
permissions mode = bit_and mode 0o7777

-- seconds since 1970; a time before it is shown as 1970
abbrev pub seconds : ℤ → ℕ
seconds (pos n) = n
seconds (negsuc n) = 0
