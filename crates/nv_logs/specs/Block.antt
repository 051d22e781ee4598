-- What looking at a block of an image tells.
use Rattle.std.specs.Prelude.{◌≡◌, ◌⊎◌, ℕ, ◌*◌, ◌<◌, ◌≤◌, Bool, if◌then◌else◌, List, [], ◌++◌, length, codes}
use Rattle.nv_region.specs.Region.{Region, region_of}
use Rattle.nv_super.specs.Layout.{Layout}
use Rattle.nv_inode.specs.Chains.{layout_of}
use Rattle.nv_block.specs.Block.{IsBlockText}
use Rattle.nv_block.specs.Hex.{block_bytes, hex_text}
use Rattle.nv_journal.specs.Undo.{undone}
use Rattle.nv_outcome.specs.Outcome.{Outcome, IsOutcome}
use Rattle.nv_image_check.specs.Checking.{IsRefusal, IsSuperRefusal}
use Rattle.nv_image_check.specs.declared.answered.Answered.{Answered}

-- the bytes of the block as they stand in the image, where they are asked for
abbrev pub bytes_text : List ℕ → ℕ → Bool → List ℕ
bytes_text bytes b hex = if hex then hex_text (4096 * b) (block_bytes bytes b) else []

-- what the block is, and its bytes where they are asked for
abbrev pub IsShown : Region → Layout → List ℕ → ℕ → Bool → List ℕ → Type 0
IsShown R l bytes b hex text = (what : List ℕ) × IsBlockText R l b what × (text ≡ what ++ bytes_text bytes b hex)

-- such a text with status 0; or a refusal, where the region has no block of this number
abbrev pub TellsBlock : Region → Layout → List ℕ → ℕ → Bool → List ℕ → ℕ → Type 0
TellsBlock R l bytes b hex text status = ((b < l.sup.blocks) × IsShown R l bytes b hex text × (status ≡ 0)) ⊎ ((l.sup.blocks ≤ b) × IsRefusal (codes "NotFound") text status)

-- The superblock's first fault is named; or it is told what the block is by the owners that the region has, once its journals are
-- rolled back.
abbrev pub IsBlockLook : List ℕ → ℕ → Bool → List ℕ → Answered → Type 0
IsBlockLook bytes b hex text answered = (IsSuperRefusal (region_of bytes) text answered.status × (answered.faults ≡ 0))
    ⊎ ((o : Outcome) × IsOutcome (region_of bytes) o × TellsBlock (undone o.sup (region_of bytes))
    (layout_of o.sup (undone o.sup (region_of bytes))) bytes b hex text answered.status × (answered.faults ≡ length o.faults))
