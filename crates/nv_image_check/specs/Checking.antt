-- What checking the bytes of a region may write, and its exit status.
use Rattle.std.specs.Prelude.{◌≡◌, ◌⊎◌, ℕ, MatchBool, List, Option, codes}
use Rattle.std.specs.Io.KnownBytes.{Appends, Keeps}
use Rattle.nv_region.specs.Region.{Region, region_of}
use Rattle.nv_super.specs.declared.superblock.SuperFault.{SuperFault}
use Rattle.nv_super.specs.Super.{IsRefused}
use Rattle.nv_outcome.specs.Outcome.{Outcome, IsOutcome}
use Rattle.nv_json.specs.Json.{TellsReport}
use Rattle.nv_text.specs.Answers.{line, refused_line}
use Rattle.nv_super.specs.FaultText.{super_fault_name}
use Rattle.nv_stream.specs.declared.fault.ScriptError.{ScriptError}
use Rattle.nv_stream.specs.declared.fault.ScriptError.TheVariants.{Read, Write, Memory}
use Rattle.nv_report.specs.Last.{status_of}
use Rattle.nv_report.specs.Last.{how_it_went}
use Rattle.nv_stream.specs.Streams.{AppendsFront}
use Rattle.nv_report.specs.Texts.{IsReportText}
use Rattle.nv_image_check.specs.Workers.{is_worker_count}
use Rattle.nv_report.specs.Summary.{summary_line}
use Rattle.nv_text.specs.Faults.{faults_text}
use Rattle.nv_text.specs.declared.output.Output.{Output}
use Rattle.nv_text.specs.declared.output.Output.TheVariants.{Report, Summary, OnlyFaults, Json}

-- the command was refused by this name
abbrev pub IsRefusal : List ℕ → List ℕ → ℕ → Type 0
IsRefusal name text status = (text ≡ refused_line name) × (status ≡ 2)

-- the superblock isn't accepted, also for the region's length: the first fault that applies is named
abbrev pub IsSuperRefusal : Region → List ℕ → ℕ → Type 0
IsSuperRefusal R text status = (fault : SuperFault) × IsRefused R fault × IsRefusal (super_fault_name fault) text status

-- what a check writes of a region that isn't refused: the whole report, one line of sums, the faults alone, or a JSON object
abbrev pub IsOutputText : Output → Outcome → List ℕ → Type 0
IsOutputText Report o text = IsReportText o text
IsOutputText Summary o text = text ≡ summary_line o
IsOutputText OnlyFaults o text = text ≡ faults_text o.faults
IsOutputText Json o text = (json : List ℕ) × TellsReport o json × (text ≡ line json)

-- such an output of the region's outcome; the status says whether there are faults
abbrev pub IsOutput : Output → Region → List ℕ → ℕ → Type 0
IsOutput output R text status = (o : Outcome) × IsOutcome R o × IsOutputText output o text × (status ≡ status_of (how_it_went o.faults))

-- a region checked by so many workers, whose number is tested first
abbrev pub IsCheckAs : Output → Region → ℕ → List ℕ → ℕ → Type 0
IsCheckAs output R workers text status = MatchBool (is_worker_count workers) (IsSuperRefusal R text status ⊎ IsOutput output R text status) (IsRefusal (codes "Workers") text status)

-- the text of a check of these bytes was written
abbrev pub WritesCheckAs : Output → List ℕ → ℕ → Option (List ℕ) → Option (List ℕ) → Type 0
WritesCheckAs output bytes workers old new = (text : List ℕ) × (status : ℕ) × IsCheckAs output (region_of bytes) workers text status × Appends old new text

-- the status is that of a check of these bytes, whose text was written
abbrev pub EndsCheckAs : Output → List ℕ → ℕ → Option (List ℕ) → Option (List ℕ) → ℕ → Type 0
EndsCheckAs output bytes workers old new status = (text : List ℕ) × IsCheckAs output (region_of bytes) workers text status × Appends old new text

-- After an error: a front of the text of a check of these bytes was written where the writer failed, and nothing where
-- memory was refused. A check has no reader that could fail.
abbrev pub FailsCheckAs : Output → List ℕ → ℕ → ScriptError → Option (List ℕ) → Option (List ℕ) → Type 0
FailsCheckAs output bytes workers Read old new = ⊥
FailsCheckAs output bytes workers Write old new = (text : List ℕ) × (status : ℕ) × IsCheckAs output (region_of bytes) workers text status × AppendsFront old new text
FailsCheckAs output bytes workers Memory old new = Keeps old new

-- ---- the same of a check that writes the whole report

-- the output is the report of the region
abbrev pub IsReport : Region → List ℕ → ℕ → Type 0
IsReport = IsOutput Report

-- a check with so many workers
abbrev pub IsCheck : Region → ℕ → List ℕ → ℕ → Type 0
IsCheck = IsCheckAs Report

-- its text was written
abbrev pub WritesCheck : List ℕ → ℕ → Option (List ℕ) → Option (List ℕ) → Type 0
WritesCheck = WritesCheckAs Report

-- its text was written, and its status is this
abbrev pub EndsCheck : List ℕ → ℕ → Option (List ℕ) → Option (List ℕ) → ℕ → Type 0
EndsCheck = EndsCheckAs Report

-- what an error leaves of its text
abbrev pub FailsCheck : List ℕ → ℕ → ScriptError → Option (List ℕ) → Option (List ℕ) → Type 0
FailsCheck = FailsCheckAs Report
