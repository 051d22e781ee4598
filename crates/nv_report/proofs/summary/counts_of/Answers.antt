use Rattle.std.proofs.Common.{◌≡◌, ◌++◌, ◌∙◌, ◌∷◌, [], true, false, not, cond, map, length, ap, sym, arith}
use Rattle.std.proofs.lemmas.List.{append_assoc, length-append}
use Rattle.std.proofs.lemmas.List.Sums.{sum_by-append}
use Rattle.nv_scan.specs.declared.piece.Row.{Row}
use Rattle.nv_report.specs.Summary.{is_directory}
use Rattle.nv_report.proofs.summary.counts_of.Goals as goal
use Rattle.nv_report.proofs.summary.counts_of.Goals.{in-Directory, in-File}

pub loop-row-preserved : goal.loop-row-preserved
loop-row-preserved c =
    let (done, left, inodes, dirs, fls, nms, all, few) = c.loop-row.invariant in
    let row = c.in-Some.row.now in
    let rest = append_assoc done (row ∷ []) (map (λ entry. entry.1) c.next.new.self) ∙ ap (λ rest. done ++ map (λ entry. entry.1) rest) (sym c.in-Some.ensures.steps) ∙ left in
    let more_directories = sum_by-append (λ (r : Row). cond (is_directory r.kind) 1 0) done (row ∷ []) in
    let more_files = sum_by-append (λ (r : Row). cond (not (is_directory r.kind)) 1 0) done (row ∷ []) in
    let more_names = sum_by-append (λ (r : Row). length r.names.names) done (row ∷ []) in
    let longer = length-append done (row ∷ []) in
    elim c.match-row.branch [
      | in-Directory w ↦
          let kind : is_directory row.kind ≡ true = ap is_directory w.in-Directory.is in (
            done ++ row ∷ [],
            rest,
            ap (λ x. x.inodes) w.counts-is ∙ inodes,
            grind (arith, dirs, more_directories, kind, ap (λ x. x.directories) w.counts-is),
            grind (arith, fls, more_files, kind, ap (λ x. x.files) w.counts-is),
            grind (arith, nms, more_names, c.len-in-loop-row.ensures.exact, ap (λ x. x.names) w.counts-is),
            grind (arith, all, longer, ap (λ x. x.directories) w.counts-is, ap (λ x. x.files) w.counts-is),
            grind (arith, few, longer, c.len-in-loop-row.auto, ap (λ x. x.names) w.counts-is),
          )
      | in-File w ↦
          let kind : is_directory row.kind ≡ false = ap is_directory w.in-File.is in (
            done ++ row ∷ [],
            rest,
            ap (λ x. x.inodes) w.counts-is ∙ inodes,
            grind (arith, dirs, more_directories, kind, ap (λ x. x.directories) w.counts-is),
            grind (arith, fls, more_files, kind, ap (λ x. x.files) w.counts-is),
            grind (arith, nms, more_names, c.len-in-loop-row.ensures.exact, ap (λ x. x.names) w.counts-is),
            grind (arith, all, longer, ap (λ x. x.directories) w.counts-is, ap (λ x. x.files) w.counts-is),
            grind (arith, few, longer, c.len-in-loop-row.auto, ap (λ x. x.names) w.counts-is),
          )
    ]
