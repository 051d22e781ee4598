-- What a check writes that says of each fault in a sentence what is wrong.
use Rattle.std.specs.Prelude.{◌≡◌, ◌⊎◌, ◌++◌, ℕ, MatchBool, List, Option, codes}
use Rattle.std.specs.Io.KnownBytes.{Appends, Keeps}
use Rattle.nv_region.specs.Region.{Region, region_of}
use Rattle.nv_super.specs.Layout.{Layout}
use Rattle.nv_journal.specs.Undo.{undone}
use Rattle.nv_outcome.specs.Outcome.{Outcome, IsOutcome}
use Rattle.nv_report.specs.Texts.{IsReportText}
use Rattle.nv_report.specs.Last.{how_it_went, status_of}
use Rattle.nv_stream.specs.declared.fault.ScriptError.{ScriptError}
use Rattle.nv_stream.specs.declared.fault.ScriptError.TheVariants.{Read, Write, Memory}
use Rattle.nv_stream.specs.Streams.{AppendsFront}
use Rattle.nv_image_check.specs.Workers.{is_worker_count}
use Rattle.nv_image_check.specs.Checking.{IsRefusal, IsSuperRefusal}
use Rattle.nv_image_check.specs.Sentences.{sentences}

-- where an outcome has its slots
abbrev pub layout_in : Outcome → Layout
layout_in o = record { sup = o.sup; chains = o.tables }

-- the report of an outcome, and below it a sentence for each fault, by the words of this region
abbrev pub IsExplainedText : Region → Outcome → List ℕ → Type 0
IsExplainedText R o text = (report : List ℕ) × IsReportText o report × (text ≡ report ++ sentences R (layout_in o) o.faults)

-- the same of the region's outcome, by the words that stand there once its journals are rolled back; the status says whether there are faults
abbrev pub IsExplainedReport : Region → List ℕ → ℕ → Type 0
IsExplainedReport R text status = (o : Outcome) × IsOutcome R o × IsExplainedText (undone o.sup R) o text × (status ≡ status_of (how_it_went o.faults))

-- a region checked by so many workers, whose number is tested first
abbrev pub IsExplained : Region → ℕ → List ℕ → ℕ → Type 0
IsExplained R workers text status = MatchBool (is_worker_count workers) (IsSuperRefusal R text status ⊎ IsExplainedReport R text status) (IsRefusal (codes "Workers") text status)

-- the text of such a check of these bytes was written, and its status is this
abbrev pub WritesExplained : List ℕ → ℕ → Option (List ℕ) → Option (List ℕ) → ℕ → Type 0
WritesExplained bytes workers old new status = (text : List ℕ) × IsExplained (region_of bytes) workers text status × Appends old new text

-- After an error: a front of the text was written where the writer failed, and nothing where memory was refused. A check has no
-- reader that could fail.
abbrev pub FailsExplained : List ℕ → ℕ → ScriptError → Option (List ℕ) → Option (List ℕ) → Type 0
FailsExplained bytes workers Read old new = ⊥
FailsExplained bytes workers Write old new = (text : List ℕ) × (status : ℕ) × IsExplained (region_of bytes) workers text status × AppendsFront old new text
FailsExplained bytes workers Memory old new = Keeps old new
