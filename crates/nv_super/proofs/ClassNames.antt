-- The class of a fault, found in the table by its number.
use Rattle.std.proofs.Common.{◌≡◌, ◌∙◌, ℕ, ◌<◌, List, [], map, length, get_or, refl, ap, sym, arith}
use Rattle.std.proofs.lemmas.List.{get_or-map, length-map}
use Rattle.nv_super.specs.declared.faults.Fault.{Fault}
use Rattle.nv_super.specs.declared.faults.Fault.TheVariants as faults
use Rattle.nv_super.specs.Order.{fault_key}
use Rattle.nv_super.specs.Classes.{class_names, class_of, fault_class_names}

-- the number of a fault's class, with which its key begins
abbrev pub class_number : Fault → ℕ
class_number f = get_or (fault_key f) 0 0

-- its name stands there
name_at : (f : Fault) → get_or class_names (class_number f) [] ≡ class_of f
unfolding class_names
name_at (faults.J1 c) = refl
name_at (faults.J2 c k) = refl
name_at (faults.H1 c a) = refl
name_at (faults.H2 c a) = refl
name_at (faults.I1 i) = refl
name_at (faults.I2 i) = refl
name_at (faults.I3 i) = refl
name_at (faults.L1 i a) = refl
name_at (faults.L2 i a) = refl
name_at (faults.L3 i a) = refl
name_at (faults.L4 i a) = refl
name_at (faults.E1 i a) = refl
name_at (faults.E2 i a) = refl
name_at (faults.E3 i a) = refl
name_at (faults.E4 i a) = refl
name_at (faults.C1 d a) = refl
name_at (faults.C2 i) = refl
name_at (faults.C3 i) = refl
name_at (faults.C4 i) = refl
name_at faults.C5 = refl
name_at (faults.B1 b o) = refl

-- a fault's class is one of those of faults
pub class_below : (f : Fault) → class_number f < 28
class_below f = grind arith

-- the number lies in a table with these names
pub name_within : {X : Type 0} (name : X → List ℕ) (xs : List X) (k : ℕ) → map name xs ≡ class_names → k < 28 → k < length xs
unfolding class_names
name_within name xs k names below = let long : length xs ≡ 28 = sym (length-map xs name) ∙ ap length names in omega (arith, long, below)

-- what a table with these names has at a number
pub name_found : {X : Type 0} (name : X → List ℕ) (xs : List X) (d : X) (k : ℕ) → map name xs ≡ class_names → k < 28 → name (get_or xs k d) ≡ get_or class_names k []
name_found name xs d k names below = sym (get_or-map name xs k d [] (name_within name xs k names below)) ∙ ap (λ ns. get_or ns k []) names

-- the class of the number with which a fault's key begins
pub class_named : (f : Fault) (k : ℕ) → k ≡ class_number f → get_or class_names k [] ≡ class_of f
class_named f k is = ap (λ n. get_or class_names n []) is ∙ name_at f

-- so many classes of faults there are
pub fault_classes_long : length fault_class_names ≡ 21
unfolding class_names
fault_classes_long = refl
