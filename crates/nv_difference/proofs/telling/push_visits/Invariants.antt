use Rattle.std.proofs.Common.{take, map, string_bytes}
use Rattle.nv_difference.specs.Names.{IsVisitText}
use Rattle.nv_difference.specs.Texts.{Adds, AreTexts}
use Rattle.nv_difference.specs.Walk.{visit_of}
use Rattle.nv_difference.proofs.telling.push_visits.Given as goal

-- the pairs so far were told
abbrev pub invariant-loop-visit : goal.invariant-loop-visit
invariant-loop-visit g l = Adds (AreTexts (IsVisitText (g.S.Inodes.tree l.first) (g.T.Inodes.tree l.second)) (map visit_of (take l.visit-index l.visits)))
    (string_bytes l.fn.out) (string_bytes l.out)
