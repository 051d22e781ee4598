use Rattle.std.proofs.Common.{[], refl, inl, inr, string_bytes}
use Rattle.std.proofs.lemmas.Result.{err_from_is_err_and, IfOk-weaker, IfErr-weaker}
use Rattle.nv_session.specs.Machine.{state_with}
use Rattle.nv_session.specs.Sessions.{region_in}
use Rattle.nv_script.specs.Shell.{ShowsLinesEnd, ShowsAnyLines, ShowsShell, ShowsAnyShell}
use Rattle.nv_script.proofs.Kept.{grows_none}
use Rattle.nv_script.proofs.KnownProgress.{fails_short}
use Rattle.nv_script.proofs.ShellLines.{shell_behind, any_behind, all_behind, fails_behind, first_short, keeps_same}
use Rattle.nv_script.proofs.shell.run_recovered.Goals as goal

pub returns-in_err-text-clause-err : goal.returns-in_err-text-clause-err
returns-in_err-text-clause-err g c R stands =
    let r = err_from_is_err_and c.from_residual.result c.from_residual.ensures.1 in
    rw r.1 ([], grows_none _, inl (r.2, refl, keeps_same _))

pub returns-in_err-write_text-clause-err : goal.returns-in_err-write_text-clause-err
returns-in_err-write_text-clause-err g c R stands =
    let front = string_bytes c.in_ok-text.text in
    let next = c.in_ok-text.ensures (state_with R) stands in
    let r = err_from_is_err_and c.from_residual-in_err-write_text.result c.from_residual-in_err-write_text.ensures.1 in
    rw r.1 (
      [],
      grows_none _,
      inr (fails_short (ShowsAnyShell R c.args.workers []) r.0 c.in_err-write_text.field-0.0 _ _ _ r.2 c.in_err-write_text.ensures.kind
          (first_short R c.args.workers next.0 front next.1 _ _ _ (rw c.as_bytes.ensures.value at c.in_err-write_text.ensures.short))),
    )

pub returns-clause-err : goal.returns-clause-err
returns-clause-err g c R stands =
    let front = string_bytes c.in_ok-text.text in
    let next = c.in_ok-text.ensures (state_with R) stands in
    IfErr-weaker c.run_in.result _ _ (λ e all. let (kept, grown, fails) = all in (
      kept,
      grown,
      inr (fails_behind front (ShowsAnyLines 1 next.0 kept) (ShowsAnyShell R c.args.workers kept) (any_behind R c.args.workers kept next.0 front next.1) _ _ (rw c.as_bytes.ensures.value at c.in_ok-write_text.ensures.ok)
          e _ _ (fails next.0 next.2)),
    )) c.run_in.ensures.err

pub returns-clause-ok : goal.returns-clause-ok
returns-clause-ok g c R stands =
    let front = string_bytes c.in_ok-text.text in
    let next = c.in_ok-text.ensures (state_with R) stands in
    let region = region_in c.run_in.new.session.store in
    IfOk-weaker c.run_in.result _ _ (λ status all. let (kept, grown, ends) = all in (
      kept,
      grown,
      all_behind front (ShowsLinesEnd 1 next.0 kept region) (ShowsShell R c.args.workers kept region) (shell_behind R c.args.workers kept region next.0 front next.1) _ _ (rw c.as_bytes.ensures.value at c.in_ok-write_text.ensures.ok)
          _ _ status (ends next.0 next.2),
    )) c.run_in.ensures.ok
