-- The numbers that inodes can have by a layout of the tables.
use Rattle.std.specs.Prelude.{ℕ, Bool, is_some, ◌+◌, ◌*◌, max, List, [], ◌∷◌, length, map}
use Rattle.std.specs.List.{range_with_len}
use Rattle.nv_super.specs.Layout.{Layout, chain_of, slot_of}

-- an inode can have this number
abbrev pub has_slot : Layout → ℕ → Bool
has_slot l i = is_some (slot_of l i)

-- how many slots a CPU's table has, with those of its chain: its numbers are as many
abbrev pub table_size : Layout → ℕ → ℕ
table_size l c = 32 * l.sup.table_blocks + 31 * length (chain_of l c)

-- The first number of a CPU that has no slot: the next block that is linked to its chain gives it one.
abbrev pub next_number : Layout → ℕ → ℕ
next_number l c = table_size l c * l.sup.cpus + c

-- the sizes of the tables of all CPUs
abbrev pub sizes_of : Layout → List ℕ
sizes_of l = map (table_size l) (range_with_len 0 l.sup.cpus)

-- how many blocks the longest of these chains has
abbrev pub longest : List (List ℕ) → ℕ
longest [] = 0
longest (chain ∷ chains) = max (length chain) (longest chains)

-- Each number that has a slot is below this. It is as if the chain of each CPU were the longest one.
abbrev pub number_end : Layout → ℕ
number_end l = l.sup.cpus * (32 * l.sup.table_blocks + 31 * longest l.chains)
