use Rattle.std.proofs.Common.{◌≡◌, ◌++◌, ap, ◌∙◌, subst}
use Rattle.nv_numbered.specs.Chunked.{Chunked, by_chunks}
use Rattle.nv_claimcore.specs.Claims.{both_views}
use Rattle.nv_claimmap.specs.Held.{Held}
use Rattle.nv_scan.specs.declared.piece.Row.{Row}
use Rattle.nv_recover.proofs.workers.join_next.Goals as goal

pub join-requires-clause-other : goal.join-requires-clause-other
join-requires-clause-other c = ap (λ (h : Held). h.map) c.in_ok-other.ensures.seat ∙ c.requires.other

pub returns-in-Ok-clause-view : goal.returns-in-Ok-clause-view
returns-in-Ok-clause-view c = c.in-Ok.ensures.view ∙ ap (λ (h : Held). both_views c.args.seat.view h.view) c.in_ok-other.ensures.seat

pub returns-in-Ok-clause-rows : goal.returns-in-Ok-clause-rows
returns-in-Ok-clause-rows c =
    subst (λ (more : Chunked Row). c.append.new.self.rows.items ≡ by_chunks c.args.inodes.now.rows.items more.items) c.in_ok-other.ensures.rows c.in_ok-append.ensures.rows

pub returns-in-Ok-clause-faults : goal.returns-in-Ok-clause-faults
returns-in-Ok-clause-faults c = c.in_ok-append.ensures.faults ∙ ap (λ v. c.args.inodes.now.faults.items ++ v.items) c.in_ok-other.ensures.faults
