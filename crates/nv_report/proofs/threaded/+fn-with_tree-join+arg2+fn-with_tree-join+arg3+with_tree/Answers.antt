use Rattle.std.proofs.Common.{[], List, ℕ, map, string_bytes, ap, subst, ◌∙◌, ◌++◌}
use Rattle.std.specs.Result.{IfOk}
use Rattle.nv_report.specs.Texts.{IsTreeText, AddsText}
use Rattle.nv_report.proofs.TextLemmas.{adds_halves}
use Rattle.nv_report.proofs.threaded.+fn-with_tree-join+arg2+fn-with_tree-join+arg3+with_tree.Goals as goal

pub returns : goal.returns
returns g t c =
    let first = c.split_at.result.0.now in
    let second = c.split_at.result.1.now in
    let left : AddsText (IsTreeText (map (λ row. row.now) first)) (string_bytes c.args.text) (string_bytes c.in_ok-all.all) = subst (λ r. IfOk r (λ all. AddsText (IsTreeText (map (λ row. row.now) first)) (string_bytes c.args.text) (string_bytes all))) c.in_ok-all.was c.join-left.ensures.first in
    let apart : AddsText (IsTreeText (map (λ row. row.now) second)) (string_bytes c.new-none.result) (string_bytes c.in_ok-right.field-0) = subst (λ r. IfOk r (λ all. AddsText (IsTreeText (map (λ row. row.now) second)) (string_bytes c.new-none.result) (string_bytes all))) c.in_ok-right.was c.join-left.ensures.second in
    let right : AddsText (IsTreeText (map (λ row. row.now) second)) [] (string_bytes c.in_ok-right.field-0) = subst (λ (t : List ℕ). AddsText (IsTreeText (map (λ row. row.now) second)) t (string_bytes c.in_ok-right.field-0)) c.new-none.ensures.bytes apart in
    adds_halves (λ row. row.now) c.args.rows.now _ first second (string_bytes c.args.text) (string_bytes c.in_ok-all.all) _ (string_bytes c.in_ok-right.field-0) c.split_at.ensures.front c.split_at.ensures.back left right
    (c.in_ok-push_str.ensures.bytes ∙ ap (λ (t : List ℕ). string_bytes c.in_ok-all.all ++ t) c.deref.ensures)
