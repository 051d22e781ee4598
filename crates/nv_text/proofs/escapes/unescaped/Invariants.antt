use Rattle.std.proofs.Common.{length}
use Rattle.nv_text.proofs.Spellings.{Reads}
use Rattle.nv_text.proofs.escapes.unescaped.Given as goal

-- what was read so far of the text, and what is left of it
abbrev pub invariant-loop-rest : goal.invariant-loop-rest
invariant-loop-rest l = Reads l.initial.rest l.name.items l.rest

abbrev pub decreases-loop-rest : goal.decreases-loop-rest
decreases-loop-rest l = length l.rest
