use Rattle.std.proofs.Common.{ℕ, List, ◌++◌, map, string_bytes, ap, sym, subst, ◌∙◌}
use Rattle.nv_scan.specs.declared.piece.Row.{Row}
use Rattle.nv_outcome.specs.Outcome.{Outcome}
use Rattle.nv_report.specs.Shown.{shown_of}
use Rattle.nv_report.specs.Texts.{IsTreeText, IsReportText, AddsText}
use Rattle.nv_report.proofs.TextLemmas.{adds_report}
use Rattle.nv_report.proofs.threaded.report_text.Goals as goal

pub returns : goal.returns
returns g c =
    let o = shown_of c.of-shown.result in
    let rows = ap (map (λ row. row.now)) c.deref.ensures.value ∙ c.in_ok-rows.ensures in
    let tree : AddsText (IsTreeText o.rows) (string_bytes c.push_region_line.new.out) (string_bytes c.in_ok-text.text) = subst (λ (l : List Row). AddsText (IsTreeText l) (string_bytes c.push_region_line.new.out) (string_bytes c.in_ok-text.text)) rows c.in_ok-text.ensures in
    let all = adds_report o _ _ _ _ (string_bytes c.push_faults.new.out) c.in_ok-push_region_line.ensures tree c.in_ok-push_free.ensures c.in_ok-push_faults.ensures in
    let is : IsReportText o (string_bytes c.push_faults.new.out) = subst (IsReportText o) (sym (all.2 ∙ ap (λ (t : List ℕ). t ++ all.0) c.new-first.ensures.bytes)) all.1 in
    subst (λ (o : Outcome). IsReportText o (string_bytes c.push_faults.new.out)) c.of-shown.ensures is
