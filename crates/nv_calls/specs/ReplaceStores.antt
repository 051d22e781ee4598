-- Which words `replace` stores, and which of them first, by the region as it reads behind the call, also where it was stopped.
use Rattle.std.specs.Prelude.{ℕ, ◌%◌, nat_eq, Bool, if◌then◌else◌, List, [], Option, Some, None}
use Rattle.nv_region.specs.Region.{Region}
use Rattle.nv_super.specs.declared.owners.Run.{Run}
use Rattle.nv_super.specs.Layout.{Layout}
use Rattle.nv_steps.specs.Slots.{slot_in}
use Rattle.nv_entry.specs.declared.entry.Operation.TheVariants.{Remove}
use Rattle.nv_logpage.specs.Append.{needed}
use Rattle.nv_mounted.specs.Held.{Held}
use Rattle.nv_steps.specs.Across.{handed_entries}
use Rattle.nv_steps.specs.InOrder.{TailIsFirst, TailIsNext, tail_address}
use Rattle.nv_steps.specs.NameEntries.{name_entries}
use Rattle.nv_steps.specs.Stores.{Places, one_less, one_log, three_logs, two_less, two_logs}

-- no place
abbrev pub nowhere : Places
nowhere = record { logs = []; slots = []; journals = []; words = [] }

-- Where it may store: by the directories of the old and of the new name, the inode that moves, the one that has the new name, if one
-- has it, and whether that one has other names.
abbrev pub replace_places : Layout → ℕ → ℕ → ℕ → ℕ → Option ℕ → Bool → Places
replace_places l cpu d e i None stays = if nat_eq d e then one_log l d else two_logs l cpu d e
replace_places l cpu d e i (Some j) stays = if nat_eq i j then nowhere else if stays then (if nat_eq d e then two_logs l cpu d j else three_logs l cpu d e j) else if nat_eq d e
    then one_less l cpu d j else two_less l cpu d e j

-- the word that it stores last where another inode has the new name: that one's tail where it has other names, else its valid word
abbrev pub last_word : Layout → ℕ → Bool → ℕ
last_word l j stays = if stays then tail_address l j else slot_in l j

-- Across two directories the old one's tail is stored first, then that of the new one, and then a word.
abbrev pub ShowsHandsInOrder : Region → Region → Layout → List (List Run) → ℕ → ℕ → Held → ℕ → Held → ℕ → ℕ → List ℕ → List ℕ → ℕ → ℕ → Type 0
ShowsHandsInOrder R S l pools cpu d h e k i j name other time at = ∥ (TailIsFirst R S l pools cpu d h.tail (name_entries Remove i name time) (tail_address l e)
    × TailIsNext R S l pools cpu (needed (h.tail % 4096) (name_entries Remove i name time)) e k.tail (handed_entries i j other time) at) ∥₁
