use Rattle.std.proofs.Common.{[], ◌∷◌, ◌++◌, map, refl, ap, sym, ◌∙◌, subst, string_bytes, append-nil}
use Rattle.std.proofs.lemmas.List.{append_assoc}
use Rattle.nv_report.specs.Texts.{AddsText}
use Rattle.nv_logs.specs.All.{AreLogTexts}
use Rattle.nv_logs.proofs.AllLooks.{adds_log}
use Rattle.nv_logs.proofs.all.push_logs.Goals as goal

pub loop-row-init : goal.loop-row-init
loop-row-init g c = ([], ap (map (λ entry. entry.1)) c.into_iter-row-iterator.ensures.into_iter_gives ∙ c.iter-row-items.ensures.rows, ([], refl, sym (append-nil (string_bytes c.args.out.now))))

pub loop-row-preserved : goal.loop-row-preserved
loop-row-preserved g c =
    let (done, left, added) = c.loop-row.invariant in
    let row = c.in-Some.row.now in (
      done ++ row ∷ [],
      append_assoc done (row ∷ []) (map (λ entry. entry.1) c.next.new.self) ∙ ap (λ rest. done ++ map (λ entry. entry.1) rest) (sym c.in-Some.ensures.steps) ∙ left,
      adds_log (g.P.Pmem.region c.args.memory.now) c.args.tables.now.layout done row _ _ _ added c.in_ok-push_log.ensures,
    )

pub returns : goal.returns
returns g c =
    let (done, left, added) = c.loop-row.invariant in
    let all = sym (append-nil done) ∙ ap (λ rest. done ++ map (λ entry. entry.1) rest) (sym c.in-None.ensures.steps.0) ∙ left in
    subst (λ rows. AddsText (AreLogTexts (g.P.Pmem.region c.args.memory.now) c.args.tables.now.layout rows) (string_bytes c.args.out.now) (string_bytes c.loop-row.out)) all added
