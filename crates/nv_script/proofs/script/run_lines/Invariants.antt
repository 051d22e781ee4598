use Rattle.std.specs.Prelude.{Option}
use Rattle.nv_region.specs.Region.{Region}
use Rattle.nv_session.specs.Machine.{State}
use Rattle.nv_script.specs.Script.{FromEach}
use Rattle.nv_script.specs.Strict.{ShowsEndBy, ShowsByFrom, HintsFromBy}
use Rattle.nv_session.specs.Sessions.{StandsFor}
use Rattle.nv_script.proofs.HintReplies.{hints_from}
use Rattle.nv_script.proofs.KnownProgress.{KnownProgress}
use Rattle.nv_script.proofs.script.run_lines.Given as goal

abbrev pub invariant-lines : goal.invariant-lines
invariant-lines g l = FromEach l.initial.session (λ begin. (state : State) × StandsFor l.session state
    × ((region : Option Region) → KnownProgress (ShowsEndBy l.rule begin region) (ShowsByFrom l.rule l.number state region) (g.R.Read.remaining l.initial.reader) (g.R.Read.remaining l.reader)
    (g.W.Write.contents l.initial.writer) (g.W.Write.contents l.writer))
    × KnownProgress (HintsFromBy l.rule begin) (hints_from l.rule l.number state) (g.R.Read.remaining l.initial.reader) (g.R.Read.remaining l.reader)
    (g.N.Hints.told l.initial.hints) (g.N.Hints.told l.hints))
