-- What a block is, as text: which part of the areas in front, or its owners by the outcome, or free.
use Rattle.std.specs.Prelude.{◌≡◌, ℕ, ◌-◌, ◌/◌, ◌%◌, ◌==◌, nat_le, nat_lt, if◌then◌else◌, MatchBool, List, [], ◌∷◌, ◌++◌, flat_map, codes, decimal}
use Rattle.nv_region.specs.Region.{Region}
use Rattle.nv_super.specs.declared.superblock.Super.{Super}
use Rattle.nv_super.specs.declared.owners.Owner.{Owner}
use Rattle.nv_super.specs.FaultText.{owner_text}
use Rattle.nv_super.specs.Layout.{Layout, system_blocks}
use Rattle.nv_super.specs.Order.{Lists, owner_key}
use Rattle.nv_scan.specs.Owners.{Owns}
use Rattle.nv_text.specs.Answers.{line}

-- the start of each line
abbrev pub block_head : ℕ → List ℕ
block_head b = codes "block " ++ decimal b ++ codes " "

-- a table block of the areas in front, by its number among them: the CPU, and the place in its table
abbrev pub table_text : Super → ℕ → List ℕ
table_text s n = codes "table " ++ decimal (n / s.table_blocks) ++ codes " " ++ decimal (n % s.table_blocks)

-- a block in front of the data blocks: the superblock, the journal of a CPU, or a block of a CPU's table
abbrev pub system_text : Super → ℕ → List ℕ
system_text s b = if b == 0 then codes "superblock" else (if nat_le b s.cpus then (codes "journal " ++ decimal (b - 1)) else table_text s (b - 1 - s.cpus))

-- the line of such a block
abbrev pub system_line : Super → ℕ → List ℕ
system_line s b = block_head b ++ line (system_text s b)

-- the line of one owner
abbrev pub owner_line : ℕ → Owner → List ℕ
owner_line b o = block_head b ++ line (owner_text o)

-- a line for each owner, or one that says that the block is free
abbrev pub owners_text : ℕ → List Owner → List ℕ
owners_text b [] = block_head b ++ line (codes "free")
owners_text b (o ∷ os) = flat_map (owner_line b) (o ∷ os)

-- a data block: all its owners, each once, in their order
abbrev pub IsOwnersText : Region → Layout → ℕ → List ℕ → Type 0
IsOwnersText R l b text = (os : List Owner) × Lists owner_key (Owns R l b) os × (text ≡ owners_text b os)

-- what a block is by the owners that a region with its journals rolled back has by its layout
abbrev pub IsBlockText : Region → Layout → ℕ → List ℕ → Type 0
IsBlockText R l b text = MatchBool (nat_lt b (system_blocks l.sup)) (text ≡ system_line l.sup b) (IsOwnersText R l b text)
