-- The classes of faults, and of refused superblocks.
use Rattle.std.specs.Prelude.{ℕ, List, [], ◌∷◌, take, codes}
use Rattle.nv_super.specs.declared.faults.Fault.{Fault}
use Rattle.nv_super.specs.FaultText.{fault_text}

-- the names of the classes, in the order of their faults, and those of superblocks behind them
unfoldable pub class_names : List (List ℕ)
class_names =
    codes "J1" ∷ codes "J2" ∷ codes "H1" ∷ codes "H2" ∷ codes "I1" ∷ codes "I2" ∷ codes "I3"
    ∷ codes "L1" ∷ codes "L2" ∷ codes "L3" ∷ codes "L4"
    ∷ codes "E1" ∷ codes "E2" ∷ codes "E3" ∷ codes "E4"
    ∷ codes "C1" ∷ codes "C2" ∷ codes "C3" ∷ codes "C4" ∷ codes "C5" ∷ codes "B1"
    ∷ codes "S1" ∷ codes "S2" ∷ codes "S3" ∷ codes "S4" ∷ codes "S5" ∷ codes "S6" ∷ codes "S7" ∷ []

-- the class of a fault, with which its text begins
abbrev pub class_of : Fault → List ℕ
class_of fault = take 2 (fault_text fault)

-- the names of the classes of faults
abbrev pub fault_class_names : List (List ℕ)
fault_class_names = take 21 class_names
