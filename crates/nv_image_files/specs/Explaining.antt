-- Which classes of faults there are, what is printed of one, and why none may be.
use Rattle.std.specs.Prelude.{◌≡◌, ◌≢◌, ℕ, List, ◌++◌, Option, None, codes, find}
use Rattle.std.specs.Borrow.{Bor}
use Rattle.std.specs.Str.{str_eq_ignore_ascii_case}
use Rattle.nv_super.specs.Classes.{class_names}
use Rattle.nv_stream.specs.declared.fault.ScriptError.TheVariants.{Read}
use Rattle.nv_image_files.specs.declared.failure.Failure.{Failure}
use Rattle.nv_image_files.specs.declared.failure.Failure.TheVariants.{NoClass, Answer}

-- the name of the class that a text names, in upper or lower case
abbrev pub class_named : List ℕ → Option (List ℕ)
class_named text = find (λ name. str_eq_ignore_ascii_case name text) class_names

-- the name and the title on a line, and what such a fault is on the next
abbrev pub explanation : List ℕ → List ℕ → List ℕ → List ℕ
explanation name title meaning = name ++ codes ": " ++ title ++ codes "\n" ++ meaning ++ codes "\n"

-- Why no class was explained: none has the name, or one has it and the answer failed, for which nothing is read.
abbrev pub IsUnexplained : Bor (List ℕ) → Failure → Type 0
IsUnexplained name (NoClass text) = (text ≡ name) × (class_named name.now ≡ None)
IsUnexplained name (Answer error) = (class_named name.now ≢ None) × (error ≢ Read)
IsUnexplained name _ = ⊥
