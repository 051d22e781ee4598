-- Which words a call stores, by what is held before it.
use Rattle.std.specs.Prelude.{◌≡◌, ℕ, ◌+◌, ◌/◌, ◌%◌, ◌≤◌, ◌<◌, List, [], ◌∷◌, Option, Some}
use Rattle.std.specs.List.{Contains}
use Rattle.std.specs.Option.{option_map_or}
use Rattle.nv_region.specs.Region.{Region, word}
use Rattle.nv_super.specs.Layout.{Layout}
use Rattle.nv_journal.specs.Undo.{journal}
use Rattle.nv_logpage.specs.Unlinked.{word_to}
use Rattle.nv_mounted.specs.Held.{Held, Store}
use Rattle.nv_mounted.specs.Blocks.{IsUnowned}
use Rattle.nv_steps.specs.InOrder.{tail_address}
use Rattle.nv_steps.specs.Slots.{slot_in}

-- Where a call may store beside free blocks: behind the tails of these inodes' logs, in the slots of these numbers, in the
-- journals of these CPUs, and in the words at these addresses, which its commit changes.
pub record Places : Type 0 where
  pub logs : List ℕ
  pub slots : List ℕ
  pub journals : List ℕ
  pub words : List ℕ

-- An address to which it may store.
pub data MayStore (l : Layout) (held : Store) (p : Places) : ℕ → Type 0 where
  in_free : (at : ℕ) → IsUnowned l held (at / 4096) → MayStore l held p at
  behind_tail : (at i : ℕ) (h : Held) → Contains p.logs i → held i ≡ Some h → at / 4096 ≡ h.tail / 4096 → h.tail ≤ at → MayStore l held p at
  in_slot : (at j : ℕ) → Contains p.slots j → slot_in l j ≤ at → at < slot_in l j + 128 → MayStore l held p at
  in_journal : (at cpu : ℕ) → Contains p.journals cpu → journal cpu ≤ at → at < journal cpu + 4096 → MayStore l held p at
  at_commit : (at : ℕ) → Contains p.words at → MayStore l held p at

-- Every other word is as it was.
abbrev pub StoresIn : Layout → Store → Places → Region → Region → Type 0
StoresIn l held p R S = (at : ℕ) → at % 8 ≡ 0 → (MayStore l held p at → ⊥) → word S at ≡ word R at

-- ---- the places of each kind of call

-- one log that grows, also one whose entries name data in blocks that were free
abbrev pub one_log : Layout → ℕ → Places
one_log l i = record { logs = i ∷ []; slots = []; journals = []; words = tail_address l i ∷ [] }

-- two logs that grow together
abbrev pub two_logs : Layout → ℕ → ℕ → ℕ → Places
two_logs l cpu i j = record { logs = i ∷ j ∷ []; slots = []; journals = cpu ∷ []; words = tail_address l i ∷ tail_address l j ∷ [] }

-- an inode that comes, named by the log of another
abbrev pub one_more : Layout → ℕ → ℕ → ℕ → Places
one_more l cpu j d = record { logs = d ∷ []; slots = j ∷ []; journals = cpu ∷ []; words = slot_in l j ∷ tail_address l d ∷ [] }

-- an inode that goes with its name
abbrev pub one_less : Layout → ℕ → ℕ → ℕ → Places
one_less l cpu d j = record { logs = d ∷ []; slots = []; journals = cpu ∷ []; words = tail_address l d ∷ slot_in l j ∷ [] }

-- an inode that goes as its name is given to another, by the logs of two directories
abbrev pub two_less : Layout → ℕ → ℕ → ℕ → ℕ → Places
two_less l cpu d e j = record { logs = d ∷ e ∷ []; slots = []; journals = cpu ∷ []; words = tail_address l d ∷ tail_address l e ∷ slot_in l j ∷ [] }

-- three logs that grow together
abbrev pub three_logs : Layout → ℕ → ℕ → ℕ → ℕ → Places
three_logs l cpu i j k = record { logs = i ∷ j ∷ k ∷ []; slots = []; journals = cpu ∷ []; words = tail_address l i ∷ tail_address l j ∷ tail_address l k ∷ [] }

-- a log that loses the page of this place among its pages, if there is one: the word that leads to the page
abbrev pub one_page_less : Layout → ℕ → List ℕ → Option ℕ → Places
one_page_less l i pages o = record { logs = []; slots = []; journals = []; words = option_map_or (λ (k : ℕ). word_to (slot_in l i + 16) pages k ∷ []) o [] }
