-- When two outcomes are the same: an index is compared by what each page and each name stands for.
use Rattle.std.specs.Prelude.{◌≡◌, ◌↔◌, ℕ, Bool, true, false, List, [], ◌∷◌}
use Rattle.std.specs.List.{Contains, filter}
use Rattle.nv_super.specs.declared.faults.Fault.{Fault}
use Rattle.nv_super.specs.declared.faults.Fault.TheVariants.{J2}
use Rattle.nv_radix.specs.Pages.{block_at}
use Rattle.nv_names.specs.Names.{name_at}
use Rattle.nv_scan.specs.declared.piece.Row.{Row}
use Rattle.nv_outcome.specs.Outcome.{Outcome}

-- the rows say the same of their inode
pub record SameRow (a b : Row) : Type 0 where
  pub inode : b.inode ≡ a.inode
  pub kind : b.kind ≡ a.kind
  pub numbers : b.numbers ≡ a.numbers
  pub head : b.head ≡ a.head
  pub tail : b.tail ≡ a.tail
  pub pages : b.pages.items ≡ a.pages.items
  pub index : (p : ℕ) → block_at b.index p ≡ block_at a.index p
  pub names : (name : List ℕ) → name_at b.names name ≡ name_at a.names name

-- the lists are as long, and their rows are the same one by one
abbrev pub SameRows : List Row → List Row → Type 0
SameRows [] [] = Unit {0}
SameRows [] (y ∷ ys) = ⊥
SameRows (x ∷ xs) [] = ⊥
SameRows (x ∷ xs) (y ∷ ys) = SameRow x y × SameRows xs ys

-- the outcomes show the same
pub record SameOutcome (a b : Outcome) : Type 0 where
  pub sup : b.sup ≡ a.sup
  pub tables : b.tables ≡ a.tables
  pub rows : SameRows a.rows b.rows
  pub free : b.free ≡ a.free
  pub doubled : b.doubled ≡ a.doubled
  pub faults : b.faults ≡ a.faults

-- not the fault of a pending record: once a journal was rolled back none is pending
abbrev pub is_lasting : Fault → Bool
is_lasting (J2 cpu k) = false
is_lasting _ = true

-- the same as a fact
abbrev pub IsLasting : Fault → Type 0
IsLasting f = is_lasting f ≡ true

-- the outcome without the faults of pending records
abbrev pub lasting_outcome : Outcome → Outcome
lasting_outcome o = record o { faults = filter is_lasting o.faults }

-- The second outcome shows what the first does, without the faults of pending records.
pub record ShowsAgain (a b : Outcome) : Type 0 where
  pub sup : b.sup ≡ a.sup
  pub tables : b.tables ≡ a.tables
  pub rows : SameRows a.rows b.rows
  pub free : b.free ≡ a.free
  pub doubled : b.doubled ≡ a.doubled
  pub faults : (f : Fault) → Contains b.faults f ↔ Contains a.faults f × IsLasting f
