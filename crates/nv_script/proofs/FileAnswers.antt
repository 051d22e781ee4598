-- The line of a part of a file is no refusal.
use Rattle.std.proofs.Common.{◌≡◌, ◌<◌, ℕ, List, ◌∷◌, sym, ◌∙◌, arith, false, refl}
use Rattle.std.specs.Prelude.{bytes_eq}
use Rattle.nv_super.specs.declared.superblock.SuperFault.TheVariants as SuperFault
use Rattle.nv_super.specs.FaultText.{super_fault_name}
use Rattle.nv_text.specs.Answers.{refused_line}
use Rattle.nv_text.specs.RefusalLines.{IsRefusalLine}
use Rattle.nv_session.specs.Printed.{Prints}
use Rattle.nv_session.specs.declared.session.Session.{Session}
use Rattle.nv_session.specs.declared.printed.FilePart.{FilePart}
use Rattle.nv_session.specs.declared.printed.Printed.TheVariants.{Part}
use Rattle.nv_script.specs.Strict.{IsLast}
use Rattle.nv_script.specs.declared.script.Rule.{Rule}
use Rattle.nv_script.specs.declared.script.Rule.TheVariants.{Lenient, Strict}

-- two texts that begin with different bytes differ
apart : (x y : ℕ) (r s : List ℕ) → x < y → x ∷ r ≡ y ∷ s → ⊥
apart x y r s less e = let same : x ≡ y = cc in omega arith

module _ (s : Session) (part : FilePart) (said : List ℕ) (prints : Prints s (Part part) said) where
  is_no_refusal : IsRefusalLine said → ⊥
  is_no_refusal (refusal, printed, is) = apart 100 114 _ _ (omega arith) (sym prints.2.2 ∙ is)

  -- so it ends no script
  pub part_is_not_last : (rule : Rule) → IsLast rule said → ⊥
  part_is_not_last Lenient last = last
  part_is_not_last Strict last = is_no_refusal last

  pub part_is_no_length : false ≡ bytes_eq said (refused_line (super_fault_name SuperFault.Length))
  part_is_no_length = rw prints.2.2 refl
