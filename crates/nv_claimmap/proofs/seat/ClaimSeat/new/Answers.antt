use Rattle.std.proofs.Common.{ℕ, ◌<◌, map, sym, ap, ◌∙◌, subst, arith}
use Rattle.std.specs.List.{All}
use Rattle.std.proofs.lemmas.Bool.{false≢true}
use Rattle.std.proofs.lemmas.List.Elements.{All-nil}
use Rattle.atomic_table.specs.Table.{Me}
use Rattle.nv_claimcore.specs.declared.view.View.{View}
use Rattle.nv_claimcore.specs.Claims.{past, Settled}
use Rattle.nv_claimcore.specs.Finished.{pair_of}
use Rattle.nv_claimmap.specs.Held.{map_id, held}
use Rattle.nv_claimmap.proofs.seat.ClaimSeat.new.Goals as goal

pub invariant_of-result : goal.invariant_of-result
invariant_of-result c = let me = c.requires in record {
  slots = ap (λ (m : Me ℕ View). m.1) me;
  seats = subst (λ (m : Me ℕ View). 0 < m.0.seats) (sym me) (omega arith);
  going = λ _. ap (λ (m : Me ℕ View). past c.args.sizes.tickets m.0.numbers) me;
  ended = λ e. absurd (false≢true e);
  settled = subst (λ (m : Me ℕ View). All Settled m.0.records) (sym me) (All-nil Settled);
  claims = c.new.ensures ∙ ap (λ (m : Me ℕ View). map pair_of m.0.records) (sym me);
}

pub returns : goal.returns
returns c = ap (λ (m : Me ℕ View). held (map_id c.args.seat.table_id c.args.sizes) c.args.number m.0) c.requires
