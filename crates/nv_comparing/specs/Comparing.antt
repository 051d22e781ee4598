-- What is told of two images.
use Rattle.std.specs.Prelude.{◌≡◌, ◌⊎◌, ℕ, List, [], ◌∷◌, ◌++◌, codes, length}
use Rattle.nv_region.specs.Region.{Region}
use Rattle.nv_super.specs.declared.superblock.SuperFault.{SuperFault}
use Rattle.nv_super.specs.Super.{IsRefused}
use Rattle.nv_super.specs.FaultText.{super_fault_name}
use Rattle.nv_outcome.specs.Outcome.{Outcome, IsOutcome}
use Rattle.nv_journal.specs.Undo.{undone}
use Rattle.nv_paths.specs.Seen.{tree_of}
use Rattle.nv_tree.specs.Tree.{Tree}
use Rattle.nv_text.specs.Answers.{refused_line}
use Rattle.nv_difference.specs.Difference.{IsDifference}
use Rattle.nv_comparing.specs.declared.comparing.Compared.{Compared}

-- 0 where nothing is told, else 1
abbrev pub status_of : List ℕ → ℕ
status_of [] = 0
status_of (b ∷ bs) = 1

-- the image of this letter was refused, by this name
abbrev pub IsNamedRefusal : List ℕ → List ℕ → List ℕ → Compared → Type 0
IsNamedRefusal letter name text compared = (text ≡ letter ++ codes ": " ++ refused_line name) × (compared ≡ record { status = 2; first_faults = 0; second_faults = 0 })

-- its superblock isn't accepted, also for the region's length: the first fault that applies is named
abbrev pub IsNamedSuperRefusal : List ℕ → Region → List ℕ → Compared → Type 0
IsNamedSuperRefusal letter R text compared = (fault : SuperFault) × IsRefused R fault × IsNamedRefusal letter (super_fault_name fault) text compared

-- the tree that an outcome shows, once the journals are rolled back
abbrev pub outcome_tree : Region → Outcome → Tree
outcome_tree R o = tree_of (undone o.sup R) o.rows

-- What differs between the trees of two outcomes. The status says whether something does.
abbrev pub IsOutcomesDifference : Region → Outcome → Region → Outcome → List ℕ → Compared → Type 0
IsOutcomesDifference R o S p text compared = IsDifference (outcome_tree R o) (outcome_tree S p) text × (compared.status ≡ status_of text)
    × (compared.first_faults ≡ length o.faults) × (compared.second_faults ≡ length p.faults)

-- A's refusal, or where it is accepted B's, or what differs between the trees of both
abbrev pub IsImagesDifference : Region → Region → List ℕ → Compared → Type 0
IsImagesDifference R S text compared = IsNamedSuperRefusal (codes "A") R text compared
    ⊎ ((o : Outcome) × IsOutcome R o × (IsNamedSuperRefusal (codes "B") S text compared ⊎ ((p : Outcome) × IsOutcome S p × IsOutcomesDifference R o S p text compared)))
