-- The rule of the table, and what each step on it tells.
use Rattle.std.specs.Prelude.{◌≡◌, ℕ, ◌-◌, ◌≤◌, List, ◌∷◌, ◌++◌, replicate}
use Rattle.atomic_table.specs.Table as T
use Rattle.atomic_table.specs.Table.{Me, Step}
use Rattle.nv_super.specs.declared.owners.Owner.{Owner}
use Rattle.nv_claimcore.specs.declared.view.Sizes.{Sizes}
use Rattle.nv_claimcore.specs.declared.view.View.{View}
use Rattle.nv_claimcore.specs.Claims.{Legal, times, above, won, with_number}
use Rattle.nv_claimcore.specs.Spans.{claim_all, mark_all}

-- fifteen words that stay 0: they keep two parts of the table 128 bytes from each other
abbrev pub idle : List ℕ
idle = replicate 15 0

-- the words of the table: the cursor, the first set and the second set
abbrev pub table_of : ℕ → List ℕ → List ℕ → List ℕ
table_of cursor first second = cursor ∷ (idle ++ (first ++ (idle ++ second)))

-- The words are those of a cursor and of two sets, and with the views of all seats they are a legal state of the claim core.
pub record Kept (z : Sizes) (t : T.State ℕ View) : Type 0 where
  pub first : List ℕ
  pub second : List ℕ
  pub cursor : ℕ
  pub words : t.words ≡ table_of cursor first second
  pub legal : Legal z record { first = first; second = second; cursor = cursor; views = t.views }

-- ---- what each step does to the view of the seat that makes it; it never holds a slot

-- one seat is cut off
abbrev pub one_less : View → View
one_less v = record { seats = v.seats - 1; numbers = v.numbers; records = v.records }

-- the number found, which is more than all of the seat's, joins them
abbrev pub drawn : Step ℕ → Me ℕ View → ℕ → Me ℕ View → Type 0
drawn s m n m' = (m' ≡ (with_number m.0 n, m.1)) × (times n m.0.numbers ≡ 0) × (above m.0.numbers ≤ n)

-- a record for each block joins the seat's, won where the block's bit was 0 in the word found
abbrev pub claimed : List (ℕ × Owner) → Step ℕ → Me ℕ View → ℕ → Me ℕ View → Type 0
claimed ps s m n m' = m' ≡ (claim_all n ps m.0, m.1)

-- the lost claim of each block becomes marked
abbrev pub marked : List (ℕ × Owner) → Step ℕ → Me ℕ View → ℕ → Me ℕ View → Type 0
marked ps s m n m' = m' ≡ (mark_all ps m.0, m.1)

-- the seat stays as it was, and it has won no block twice
abbrev pub looked : Step ℕ → Me ℕ View → ℕ → Me ℕ View → Type 0
looked s m n m' = (m' ≡ m) × ((b : ℕ) → won b m.0 ≤ 1)
