use Rattle.std.proofs.Common.{[], ◌∷◌, ◌++◌, List, map, ap, sym, ◌∙◌, subst, append-nil}
use Rattle.std.proofs.lemmas.List.{append_assoc, map-append}
use Rattle.nv_scan.specs.declared.piece.Row.{Row}
use Rattle.serde_json.specs.View.{view}
use Rattle.nv_json.specs.Json.{AreRows}
use Rattle.nv_json.proofs.Rows.{adds_row}
use Rattle.nv_json.proofs.inodes.rows_value.Goals as goal

pub loop-row-init : goal.loop-row-init
loop-row-init c = ([], ap (map (λ entry. entry.1)) c.into_iter-row-iterator.ensures.into_iter_gives ∙ c.iter-row-items.ensures.rows, ap (map view) c.new-items.ensures.items)

pub loop-row-preserved : goal.loop-row-preserved
loop-row-preserved c =
    let (done, left, are) = c.loop-row.invariant in
    let row = c.in-Some.row.now in (
      done ++ row ∷ [],
      append_assoc done (row ∷ []) (map (λ entry. entry.1) c.next.new.self) ∙ ap (λ rest. done ++ map (λ entry. entry.1) rest) (sym c.in-Some.ensures.steps) ∙ left,
      rw (c.in_ok-push.ensures.items, map-append) (adds_row done (map view c.loop-row.items.items) row (view c.in_ok-row_value.field-0) are c.in_ok-row_value.ensures),
    )

pub returns : goal.returns
returns c =
    let (done, left, are) = c.loop-row.invariant in
    let all = sym (append-nil done) ∙ ap (λ rest. done ++ map (λ entry. entry.1) rest) (sym c.in-None.ensures.steps.0) ∙ left in
    (map view c.loop-row.items.items, subst (λ (rows : List Row). AreRows rows (map view c.loop-row.items.items)) all are, c.list_value.ensures)
