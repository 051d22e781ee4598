-- What a look into an image that is read piece by piece opens, and what it leaves after an error.
use Rattle.std.specs.Prelude.{◌≡◌, ◌==◌, ℕ, Bool, false, List}
use Rattle.nv_region.specs.ImageState.{is_open_to}
use Rattle.nv_journal.specs.Undo.{undone}
use Rattle.nv_outcome.specs.Outcome.{Outcome, IsOutcome}
use Rattle.nv_text.specs.declared.refusals.Refusal.TheVariants as refusals
use Rattle.nv_metadata.specs.declared.gathering.Gathered.{Gathered}
use Rattle.nv_metadata.specs.declared.gathering.Gathered.TheVariants as gatherings
use Rattle.nv_image_check.specs.Answering.{IsOpenInFront}
use Rattle.nv_image_check.specs.declared.gathered.BlocksError.{BlocksError}
use Rattle.nv_image_check.specs.declared.gathered.BlocksError.TheVariants.{Read, Answer}
use Rattle.nv_looks.specs.Sent.{Written, KeepsBoth}
use Rattle.nv_looks.specs.Looking.{Call, FailsLook, FailsCat}
use Rattle.nv_looks.specs.declared.gathered.OpenedMetadata.{OpenedMetadata}
use Rattle.nv_looks.specs.declared.gathered.OpenedMetadata.TheVariants as opened

-- After an error: what a look into the bytes leaves. A reader of bytes that are known doesn't fail.
abbrev pub FailsBlocksLook : Call → List ℕ → BlocksError → Written → Written → Type 0
FailsBlocksLook Tells bytes (Read error) old new = ⊥
FailsBlocksLook Tells bytes (Answer error) old new = FailsLook Tells bytes error old new

-- the same where the text is written in pieces
abbrev pub FailsBlocksCat : Call → List ℕ → BlocksError → Written → Written → Type 0
FailsBlocksCat Tells bytes (Read error) old new = ⊥
FailsBlocksCat Tells bytes (Answer error) old new = FailsCat Tells bytes error old new

-- nothing was written where the reader failed
abbrev pub KeepsBothUnread : BlocksError → Written → Written → Type 0
KeepsBothUnread (Read error) old new = KeepsBoth old new
KeepsBothUnread (Answer error) old new = Unit {0}

-- ---- within

-- all bytes of the region are held: so they are in version 2
abbrev pub is_whole : Gathered → Bool
is_whole (gatherings.Metadata s memory) = s.version == 2
is_whole (gatherings.Refused fault) = false

-- What was gathered is mounted, with its journals rolled back, and what the mount shows is its outcome; or its superblock was refused.
-- The memory takes stores as before.
abbrev pub IsOpenedOf : Gathered → OpenedMetadata → Type 0
IsOpenedOf (gatherings.Metadata s memory) (opened.Mounted m) = (o : Outcome) × IsOutcome memory.memory.region o × (m.memory.memory.region ≡ undone o.sup memory.memory.region)
    × (m.rows ≡ o.rows) × (m.faults ≡ o.faults) × (m.stopped ≡ false) × IsOpenInFront memory.memory.region (is_open_to m.memory.memory)
IsOpenedOf (gatherings.Metadata s memory) (opened.Refused refusal) = ⊥
IsOpenedOf (gatherings.Refused fault) (opened.Mounted m) = ⊥
IsOpenedOf (gatherings.Refused fault) (opened.Refused refusal) = refusal ≡ refusals.Super fault
