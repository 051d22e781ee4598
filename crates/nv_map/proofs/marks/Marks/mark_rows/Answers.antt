use Rattle.std.proofs.Common.{◌∷◌, [], ◌++◌, map, sym, ap, ◌∙◌}
use Rattle.std.proofs.lemmas.List.{append_assoc}
use Rattle.nv_map.specs.Map.{IsUsedBy}
use Rattle.nv_map.proofs.Raising.{says_more}
use Rattle.nv_map.proofs.marks.Marks.mark_rows.Goals as goal

pub loop-row-preserved : goal.loop-row-preserved
loop-row-preserved c =
    let (done, left, told) = c.loop-row.invariant in
    let row = c.in-Some.row.now in (
      done ++ row ∷ [],
      append_assoc done (row ∷ []) (map (λ entry. entry.1) c.next.new.self) ∙ ap (λ rest. done ++ map (λ entry. entry.1) rest) (sym c.in-Some.ensures.steps) ∙ left,
      says_more IsUsedBy done row _ _ _ told c.in_ok-mark_row.ensures,
    )
