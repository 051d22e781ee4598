-- Which texts are the line of a refusal.
use Rattle.std.specs.Prelude.{◌≡◌, ℕ, Bool, true, false, IsTrue, List, bytes_eq}
use Rattle.std.specs.List.{list_any}
use Rattle.nv_format.specs.declared.formatting.FormatRefusal.TheVariants as formats
use Rattle.nv_tree.specs.declared.refusal.Refusal.TheVariants as calls
use Rattle.nv_text.specs.Answers.{refused_line}
use Rattle.nv_text.specs.Refusals.{refusal_name}
use Rattle.nv_text.specs.declared.refusals.Refusal.{Refusal}
use Rattle.nv_text.specs.declared.refusals.Refusal.TheVariants as refusals

-- a script prints this refusal: a stop has a line of its own, and want of memory ends the script
abbrev pub is_printed : Refusal → Bool
is_printed (refusals.Format formats.Stopped) = false
is_printed (refusals.Call calls.Stopped) = false
is_printed (refusals.Call calls.Memory) = false
is_printed refusal = true

-- the line of a refusal
abbrev pub IsRefusalLine : List ℕ → Type 0
IsRefusalLine text = (refusal : Refusal) × IsTrue (is_printed refusal) × (text ≡ refused_line (refusal_name refusal))

-- ---- within

-- the name of one of these refusals
unfoldable pub names_one : List Refusal → List ℕ → Bool
names_one these name = list_any (λ refusal. bytes_eq (refusal_name refusal) name) these
