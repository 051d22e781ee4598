-- A check has one output and one exit status.
use Rattle.std.proofs.Common.{◌≡◌, ◌⊎◌, inl, inr, ℕ, Bool, true, false, List, ap, sym, ◌∙◌}
use Rattle.std.specs.Prelude.{MatchBool, codes}
use Rattle.nv_region.specs.Region.{Region}
use Rattle.nv_super.specs.declared.faults.Fault.{Fault}
use Rattle.nv_super.specs.declared.superblock.SuperFault.{SuperFault}
use Rattle.nv_outcome.proofs.OnlyOne.{same_outcome}
use Rattle.nv_outcome.proofs.SuperOf.{one_fault}
use Rattle.nv_super.specs.FaultText.{super_fault_name}
use Rattle.nv_text.specs.Answers.{refused_line}
use Rattle.nv_report.specs.Last.{status_of, how_it_went}
use Rattle.nv_image_check.specs.Workers.{is_worker_count}
use Rattle.nv_report.proofs.OneText.{report_only}
use Rattle.nv_image_check.specs.Checking.{IsRefusal, IsSuperRefusal, IsReport, IsCheck}

-- a superblock is refused, or a region reported
answer_one : (R : Region) (s t : List ℕ) (x y : ℕ) → IsSuperRefusal R s x ⊎ IsReport R s x → IsSuperRefusal R t y ⊎ IsReport R t y → (s ≡ t) × (x ≡ y)
answer_one R s t x y (inl p) (inl q) =
    (p.2.0 ∙ ap (λ (f : SuperFault). refused_line (super_fault_name f)) (one_fault R p.0 q.0 p.1 q.1) ∙ sym q.2.0, p.2.1 ∙ sym q.2.1)
answer_one R s t x y (inl p) (inr q) = absurd (q.1.sup.sound p.0 p.1.applies)
answer_one R s t x y (inr p) (inl q) = absurd (p.1.sup.sound q.0 q.1.applies)
answer_one R s t x y (inr p) (inr q) =
    let same = same_outcome R p.0 q.0 p.1 q.1 in
    (report_only p.0 q.0 s t same p.2 q.2, p.3 ∙ ap (λ (fs : List Fault). status_of (how_it_went fs)) (sym same.faults) ∙ sym q.3)

-- what a check prints, and its status
pub check_one : (R : Region) (workers : ℕ) (s t : List ℕ) (x y : ℕ) → IsCheck R workers s x → IsCheck R workers t y → (s ≡ t) × (x ≡ y)
check_one R workers s t x y p q = by_count (is_worker_count workers) p q where
  by_count : (b : Bool) → MatchBool b (IsSuperRefusal R s x ⊎ IsReport R s x) (IsRefusal (codes "Workers") s x) → MatchBool b (IsSuperRefusal R t y ⊎ IsReport R t y) (IsRefusal (codes "Workers") t y) → (s ≡ t) × (x ≡ y)
  by_count true p q = answer_one R s t x y p q
  by_count false p q = (p.0 ∙ sym q.0, p.1 ∙ sym q.1)
