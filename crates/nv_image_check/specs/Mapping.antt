-- The map of the region of some bytes, and what is written of it.
use Rattle.std.specs.Prelude.{◌≡◌, ℕ, List, [], length, Option}
use Rattle.std.specs.Io.KnownBytes.{Appends, Keeps}
use Rattle.nv_region.specs.Region.{Region}
use Rattle.nv_outcome.specs.Outcome.{Outcome, IsOutcome}
use Rattle.nv_stream.specs.declared.fault.ScriptError.{ScriptError}
use Rattle.nv_stream.specs.declared.fault.ScriptError.TheVariants.{Read, Write, Memory}
use Rattle.nv_stream.specs.Streams.{AppendsFront}
use Rattle.nv_map.specs.Map.{IsMap}
use Rattle.nv_map.specs.Text.{map_text}
use Rattle.nv_image_check.specs.Recovering.{IsSuperRefused}
use Rattle.nv_image_check.specs.declared.answered.Answered.{Answered}
use Rattle.nv_image_check.specs.declared.mapping.Mapped.{Mapped}
use Rattle.nv_image_check.specs.declared.mapping.Mapped.TheVariants as maps

-- the cells are a map of the region's outcome, whose faults are counted; or its superblock isn't accepted
abbrev pub IsMapped : Region → ℕ → Mapped → Type 0
IsMapped R most (maps.Cells cells faults) = (o : Outcome) × IsOutcome R o × IsMap o most cells × (faults ≡ length o.faults)
IsMapped R most (maps.Refused refusal) = IsSuperRefused R refusal

-- the lines of the cells and what they mean; nothing of a region that is refused
abbrev pub mapped_text : Mapped → List ℕ
mapped_text (maps.Cells cells faults) = map_text cells
mapped_text (maps.Refused refusal) = []

-- the exit status 0 and the number of faults, or 2 where it was refused
abbrev pub mapped_answer : Mapped → Answered
mapped_answer (maps.Cells cells faults) = record { status = 0; faults = faults }
mapped_answer (maps.Refused refusal) = record { status = 2; faults = 0 }

-- the text of the map was written
abbrev pub WritesMap : Mapped → Option (List ℕ) → Option (List ℕ) → Answered → Type 0
WritesMap mapped old new answered = Appends old new (mapped_text mapped) × (answered ≡ mapped_answer mapped)

-- After an error: a front of the text where the writer failed, and nothing where memory was refused.
abbrev pub FailsMap : Mapped → ScriptError → Option (List ℕ) → Option (List ℕ) → Type 0
FailsMap mapped Read old new = ⊥
FailsMap mapped Write old new = AppendsFront old new (mapped_text mapped)
FailsMap mapped Memory old new = Keeps old new
