use Rattle.std.proofs.Common.{◌≡◌, true, length}
use Rattle.nv_region.specs.Kept.{alternate}
use Rattle.nv_region.proofs.Alternating.{Alternated}
use Rattle.nv_region.proofs.keeping.keep_alternate.Given as goal

abbrev pub ghost-alternate_row : goal.ghost-alternate_row
ghost-alternate_row g a = g.fenced

abbrev pub invariant-loop-row : goal.invariant-loop-row
invariant-loop-row g l = Alternated l.turn l.row-index l.rows l.words g.fenced (alternate true l.initial.words g.fenced) × (length l.words ≡ length g.fenced)
