-- What a call leaves is decided where any two regions that it may leave show the same.
use Rattle.nv_region.specs.Region.{Region}
use Rattle.nv_mounted.specs.Held.{Store}
use Rattle.nv_mounted.specs.Mounted.{ShowsSound}
use Rattle.nv_super.specs.Layout.{Layout}

-- Both regions show the same, with nothing wrong.
abbrev pub ShowSame : Layout → Region → Region → Type 0
ShowSame l S T = ∥ ((held : Store) × ShowsSound S l held × ShowsSound T l held) ∥₁

-- any two regions of which this holds show the same, by one of these layouts
abbrev pub IsDecidedBy : (Layout → Type 0) → (Region → Type 0) → Type 0
IsDecidedBy Laid Left = (S T : Region) → Left S → Left T → ∥ ((l : Layout) × Laid l × ShowSame l S T) ∥₁

-- any two regions of which this holds show the same
abbrev pub IsDecided : Layout → (Region → Type 0) → Type 0
IsDecided l Left = (S T : Region) → Left S → Left T → ShowSame l S T
