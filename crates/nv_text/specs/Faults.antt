-- The lines of the faults.
use Rattle.std.specs.Prelude.{ℕ, List, [], ◌∷◌, ◌++◌, flat_map, codes}
use Rattle.nv_super.specs.FaultText.{fault_text}
use Rattle.nv_super.specs.declared.faults.Fault.{Fault}
use Rattle.nv_text.specs.Answers.{line}

-- the line of a fault
abbrev pub fault_line : Fault → List ℕ
fault_line f = line (codes "fault " ++ fault_text f)

-- the lines of all faults, or that there are none
abbrev pub faults_text : List Fault → List ℕ
faults_text [] = line (codes "no faults")
faults_text (f ∷ fs) = flat_map fault_line (f ∷ fs)
