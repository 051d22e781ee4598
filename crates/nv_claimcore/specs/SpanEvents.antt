-- The events that a claim and a mark of several blocks of one word stand for.
use Rattle.std.specs.Prelude.{◌≡◌, ℕ, zero, suc, ◌+◌, ◌*◌, ◌%◌, ◌<◌, ◌≤◌, ◌==◌, List, [], ◌∷◌, ◌++◌, if◌then◌else◌, length, map}
use Rattle.std.specs.Int.{bit_at}
use Rattle.nv_blockset.specs.BlockSet.{has}
use Rattle.nv_super.specs.declared.owners.Owner.{Owner}
use Rattle.nv_super.specs.declared.owners.Run.{Run}
use Rattle.nv_super.specs.Owners.{pairs}
use Rattle.nv_claimcore.specs.declared.view.Sizes.{Sizes}
use Rattle.nv_claimcore.specs.declared.event.Event.{Event}
use Rattle.nv_claimcore.specs.declared.event.Event.TheVariants.{Claim, Mark}
use Rattle.nv_claimcore.specs.Claims.{State}

-- The sizes that a state shows by itself: all blocks of its words, and its workers. No ticket is named: a claim and a
-- mark ask for none.
abbrev pub sizes_of : State → Sizes
sizes_of s = record { blocks = 64 * length s.first; tickets = 0; workers = length s.views }

-- a claim by w of each block, for its owner
abbrev pub claims_by : ℕ → List (ℕ × Owner) → List Event
claims_by w ps = map (λ p. Claim w p.0 p.1) ps

-- the claims by w of a run's blocks in rising order, the owner's page raised by one from block to block
abbrev pub span_events : ℕ → Run → Owner → List Event
span_events w run o = claims_by w (pairs run.start o run.count)

-- the marks by w of the blocks that the first n bits of a word's mask name, in rising order
abbrev pub low_marks : ℕ → ℕ → ℕ → ℕ → List Event
low_marks w word mask zero = []
low_marks w word mask (suc n) = low_marks w word mask n ++ (if bit_at mask n == 1 then Mark w (word * 64 + n) ∷ [] else [])

-- the marks by w of the blocks that a word's mask names, in rising order
abbrev pub mark_events : ℕ → ℕ → ℕ → List Event
mark_events w word mask = low_marks w word mask 64

-- Of a word's bits the mask has those of the run's blocks that are in the set, and no others.
pub record IsLost (words : List ℕ) (run : Run) (mask : ℕ) : Type 0 where
  pub inside : (b : ℕ) → run.start ≤ b → b < run.start + run.count → bit_at mask (b % 64) ≡ has words b
  pub below : (i : ℕ) → i < run.start % 64 → bit_at mask i ≡ 0
  pub above : (i : ℕ) → run.start % 64 + run.count ≤ i → bit_at mask i ≡ 0
