use Rattle.std.proofs.Common.{◌∙◌, ℕ, refl, subst}
use Rattle.clap.specs.Walk.{rows_of}
use Rattle.clap.specs.Matches.{found_of}
use Rattle.nv_args.specs.Words.{IsOutput}
use Rattle.nv_args.proofs.Owning.{no_check}
use Rattle.nv_args.proofs.reading.check_of.Goals as goal

pub returns-clause-some : goal.returns-clause-some
returns-clause-some c =
    let output = subst (λ (n : ℕ). IsOutput (rows_of (found_of c.args.values.now)) n c.in-Some-output_of.output) (c.len.ensures ∙ c.in-Some.paths.ok.0) c.in-Some-output_of.ensures.some in
    (refl, (rw c.in-Some.is at c.in_ok-paths.ensures, rw c.text_of.ensures c.in-Some-worker_count.ensures.some, output))

pub returns-in_default-output_of-clause-none : goal.returns-in_default-output_of-clause-none
returns-in_default-output_of-clause-none c none =
    no_check (rows_of (found_of c.args.values.now)) c.in-Some.paths.items c.len.result (rw c.in-Some.is at c.in_ok-paths.ensures) (c.len.ensures ∙ c.in-Some.paths.ok.0) (c.in_default-output_of.ensures.none refl)
