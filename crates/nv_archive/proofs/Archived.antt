-- What is known of an archive of what is chosen, by that of an archive.
use Rattle.std.proofs.Common.{◌+◌, ◌<◌, ◌≤◌, ◌^◌, inl, inr, ℕ, Bool, All, List, [], ◌∷◌, length, Option, ap, subst, arith}
use Rattle.std.specs.Prelude.{codes}
use Rattle.std.proofs.lemmas.List.Elements.{All-head, All-tail}
use Rattle.nv_stream.specs.declared.fault.ScriptError.TheVariants as errors
use Rattle.nv_tree.specs.Path.{IsPathName, last_name}
use Rattle.nv_tree.specs.Tree.{Tree}
use Rattle.nv_tar.specs.Archive.{FailsArchive}
use Rattle.nv_tar.specs.declared.errors.TarError.{TarError}
use Rattle.nv_tar.specs.declared.errors.TarError.TheVariants.{Read, Answer}
use Rattle.nv_tar.proofs.Short.{number_short}
use Rattle.nv_archive.specs.Chosen.{IsBase, IsNamedBy, base_of}
use Rattle.nv_archive.specs.Archiving.{FailsArchiveOf}
use Rattle.nv_archive.specs.declared.chosen.Chosen.{Chosen as ChosenValue}
use Rattle.nv_archive.specs.declared.chosen.Chosen.TheVariants.{Path as ByPath, Number as ByNumber}

-- ---- the path of the first member is short

last_short : (names : List (List ℕ)) → All IsPathName names → length (last_name names) ≤ 255
last_short [] good = omega arith
last_short (name ∷ []) good = (All-head IsPathName name [] good).fits.fits
last_short (name ∷ next ∷ names) good = last_short (next ∷ names) (All-tail IsPathName name (next ∷ names) good)

of_names : (names : List (List ℕ)) → All IsPathName names → length (base_of names) ≤ 255
of_names [] good = omega arith
of_names (name ∷ names) good = last_short (name ∷ names) good

pub base_short : (chosen : ChosenValue) (i : ℕ) (base : List ℕ) → IsNamedBy chosen i → i < 2 ^ 64 → IsBase chosen base → length base + 10 < 2 ^ 31
base_short (ByPath path) i base named low is =
    let short = of_names named.0 named.1.good in
    let same = ap (length {A = ℕ}) (is named.0 named.1) in
    omega (arith, short, same)
base_short (ByNumber number) i base named low is =
    let short = number_short number (subst (λ (n : ℕ). n < 2 ^ 64) named low) in
    let same = ap (length {A = ℕ}) is in
    omega (arith, short, same)

-- ---- an archive

-- what an error leaves, by that of the archive
pub archive_fails : (t : Tree) (chosen : ChosenValue) (i : ℕ) (all : Bool) (base : List ℕ) → IsBase chosen base → (e : TarError) (old new : Option (List ℕ)) → FailsArchive t i base (codes "lost+found") all e old new
    → FailsArchiveOf t chosen i all e old new
archive_fails t chosen i all base is (Read error) old new f = f
archive_fails t chosen i all base is (Answer errors.Read) old new f = f
archive_fails t chosen i all base is (Answer errors.Write) old new f = (base, is, f)
archive_fails t chosen i all base is (Answer errors.Memory) old new (inl kept) = inl kept
archive_fails t chosen i all base is (Answer errors.Memory) old new (inr f) = inr (base, is, f)
