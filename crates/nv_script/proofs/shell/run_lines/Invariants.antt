use Rattle.std.specs.Prelude.{◌++◌, List, Option}
use Rattle.nv_region.specs.Region.{Region}
use Rattle.nv_session.specs.Machine.{State}
use Rattle.nv_session.specs.Sessions.{StandsFor}
use Rattle.nv_script.specs.Script.{FromEach}
use Rattle.nv_script.specs.Shell.{Kept, GrowsBy, ShowsLinesEnd}
use Rattle.nv_script.proofs.KnownProgress.{KnownProgress}
use Rattle.nv_script.proofs.shell.run_lines.Given as goal

abbrev pub invariant-lines : goal.invariant-lines
invariant-lines g l = GrowsBy (g.P.Host.kept l.initial.host) (g.P.Host.kept l.host) (λ given. FromEach l.initial.session (λ begin. (state : State) × StandsFor l.session state
    × ((later : List Kept) (region : Option Region) → KnownProgress (ShowsLinesEnd 1 begin (given ++ later) region) (ShowsLinesEnd l.number state later region) (g.R.Read.remaining l.initial.reader) (g.R.Read.remaining l.reader)
    (g.W.Write.contents l.initial.writer) (g.W.Write.contents l.writer))))
