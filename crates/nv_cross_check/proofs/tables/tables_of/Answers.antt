use Rattle.std.proofs.Common.{ℕ, map, sym, subst}
use Rattle.nv_scan.specs.declared.piece.Row.{Row}
use Rattle.nv_numbered.specs.Values.{AreNumbersBelow}
use Rattle.nv_cross_check.proofs.Rows.{listed_apart}
use Rattle.nv_cross_check.proofs.tables.tables_of.Goals as goal

pub places_of-requires-clause-apart : goal.places_of-requires-clause-apart
places_of-requires-clause-apart c = listed_apart _ _ _ c.in_ok-listings.ensures (subst (λ (end : ℕ). AreNumbersBelow end (map (λ (r : Row). r.inode) c.args.rows.now.items)) (sym c.number_end.ensures.value) c.requires)
