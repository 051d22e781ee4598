-- The names under which refusals are printed.
use Rattle.std.specs.Prelude.{ℕ, List, codes}
use Rattle.nv_super.specs.FaultText.{super_fault_name}
use Rattle.nv_format.specs.Format as formats
use Rattle.nv_tree.specs.Refusals.{refusal_word}
use Rattle.nv_text.specs.declared.refusals.Refusal.{Refusal}
use Rattle.nv_text.specs.declared.refusals.Refusal.TheVariants as refusals

-- a refusal's name
abbrev pub refusal_name : Refusal → List ℕ
refusal_name refusals.NoRegion = codes "NoRegion"
refusal_name refusals.NotMounted = codes "NotMounted"
refusal_name refusals.Address = codes "Address"
refusal_name refusals.Length = codes "Length"
refusal_name refusals.Workers = codes "Workers"
refusal_name refusals.Schedule = codes "Schedule"
refusal_name (refusals.Format refusal) = formats.refusal_name refusal
refusal_name (refusals.Super fault) = super_fault_name fault
refusal_name (refusals.Call refusal) = refusal_word refusal
