-- An archive of what is chosen in a tree.
use Rattle.std.specs.Prelude.{◌⊎◌, ℕ, Bool, List, codes, Option}
use Rattle.std.specs.Io.KnownBytes.{Keeps}
use Rattle.nv_stream.specs.declared.fault.ScriptError.TheVariants as errors
use Rattle.nv_tree.specs.Tree.{Tree}
use Rattle.nv_tar.specs.Archive.{IsArchive, WritesArchive, WritesArchiveFront}
use Rattle.nv_tar.specs.declared.errors.TarError.{TarError}
use Rattle.nv_tar.specs.declared.errors.TarError.TheVariants.{Read, Answer}
use Rattle.nv_archive.specs.Chosen.{IsBase, IsChosen}
use Rattle.nv_archive.specs.declared.chosen.Chosen.{Chosen as ChosenValue}

-- the archive of what is chosen, and of all else that is in use if that is asked for
abbrev pub IsArchiveOf : Tree → ChosenValue → Bool → List ℕ → Type 0
IsArchiveOf t chosen all text = (i : ℕ) × (base : List ℕ) × IsChosen t chosen i base × IsArchive t i base (codes "lost+found") all text

-- ---- by the inode that is chosen

-- the archive of this inode was written
abbrev pub WritesArchiveOf : Tree → ChosenValue → ℕ → Bool → Option (List ℕ) → Option (List ℕ) → Type 0
WritesArchiveOf t chosen i all old new = (base : List ℕ) × IsBase chosen base × WritesArchive t i base (codes "lost+found") all old new

-- a front of it was written
abbrev pub WritesFrontOf : Tree → ChosenValue → ℕ → Bool → Option (List ℕ) → Option (List ℕ) → Type 0
WritesFrontOf t chosen i all old new = (base : List ℕ) × IsBase chosen base × WritesArchiveFront t i base (codes "lost+found") all old new

-- After an error: a front of it, or nothing where memory was refused. Where bytes are known, reading them doesn't fail.
abbrev pub FailsArchiveOf : Tree → ChosenValue → ℕ → Bool → TarError → Option (List ℕ) → Option (List ℕ) → Type 0
FailsArchiveOf t chosen i all (Read error) old new = ⊥
FailsArchiveOf t chosen i all (Answer errors.Read) old new = ⊥
FailsArchiveOf t chosen i all (Answer errors.Write) old new = WritesFrontOf t chosen i all old new
FailsArchiveOf t chosen i all (Answer errors.Memory) old new = Keeps old new ⊎ WritesFrontOf t chosen i all old new
