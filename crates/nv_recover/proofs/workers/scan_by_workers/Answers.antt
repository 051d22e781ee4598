use Rattle.std.proofs.Common.{◌≡◌, ◌<◌, ap, sym, ◌∙◌, subst, arith}
use Rattle.std.specs.List.{All}
use Rattle.std.specs.List.Sorted.{IsPermutation}
use Rattle.std.proofs.lemmas.List.Sorted.{IsPermutation-trans}
use Rattle.nv_claimcore.specs.Claims.{nothing}
use Rattle.nv_claimcore.specs.declared.view.Sizes.{Sizes}
use Rattle.nv_claimcore.proofs.Runs.{all_drawn}
use Rattle.nv_claimmap.specs.Held.{Held}
use Rattle.nv_super.specs.declared.superblock.Super.{Super}
use Rattle.nv_scan.specs.Tickets.{ticket_count}
use Rattle.nv_recover.proofs.Tickets.{tickets_few, tickets_some}
use Rattle.nv_scan.specs.Work.{tickets_among, claims_in}
use Rattle.nv_scan.proofs.Drawn.{among_times}
use Rattle.nv_outcome.specs.Parts.{rows_in, faults_in}
use Rattle.nv_recover.proofs.InOrder.{tickets_in_order}
use Rattle.nv_claimmap.proofs.Seats.{fresh_all}
use Rattle.nv_recover.proofs.workers.scan_by_workers.Goals as goal

pub work_all-requires-clause-sizes : goal.work_all-requires-clause-sizes
work_all-requires-clause-sizes g c κs within = (
  ap (λ (z : Sizes). z.blocks) c.in_ok-map.ensures.sizes ∙ ap (λ (s : Super). s.blocks) c.sup.ensures,
  ap (λ (z : Sizes). z.tickets) c.in_ok-map.ensures.sizes ∙ c.ticket_count-tickets.ensures,
)

pub work_all-requires-clause-fresh : goal.work_all-requires-clause-fresh
work_all-requires-clause-fresh g c κs within = subst (All (λ (h : Held). (h.map ≡ c.in_ok-map.map) × (h.view ≡ nothing 1))) (sym c.in_ok-map.ensures.seats) (fresh_all c.in_ok-map.map c.min.result)

pub close-requires-clause-own : goal.close-requires-clause-own
close-requires-clause-own g c = c.in_ok-brought.ensures.map

pub close-requires-clause-all : goal.close-requires-clause-all
close-requires-clause-all g c = c.in_ok-brought.ensures.seats ∙ c.in_ok-map.ensures.count ∙ sym (ap (λ (z : Sizes). z.workers) c.in_ok-map.ensures.sizes)

pub returns : goal.returns
returns g c =
    let l = c.args.tables.now.layout in
    let brought = c.in_ok-brought.brought in
    let is = c.in_ok-brought.ensures.work in
    let ended = c.in_ok-brought.ensures.ended in
    let work = is.work in
    let blocks : c.in_ok-map.map.sizes.blocks ≡ l.sup.blocks = ap (λ (z : Sizes). z.blocks) c.in_ok-map.ensures.sizes ∙ ap (λ (s : Super). s.blocks) c.sup.ensures in
    let numbers = c.close.ensures.numbers in
    let past_end : ticket_count l < numbers.0 = all_drawn (ticket_count l) numbers.0 brought.seat.view.numbers numbers.1 ended in
    let drawn = among_times (ticket_count l) numbers.0 brought.seat.view.numbers numbers.1 (omega (arith, past_end)) in
    let order = tickets_in_order (g.P.Pmem.region c.args.memory.now) l (tickets_among (ticket_count l) brought.seat.view.numbers) work.pieces c.are_laid.ensures work.are drawn in (
      order.sorted,
      record {
        pieces_are = order.pieces_are;
        rows = IsPermutation-trans (rows_in order.sorted) is.listed brought.inodes.rows.items (subst (IsPermutation (rows_in order.sorted)) (sym work.rows_are) order.rows) is.kept;
        faults = subst (IsPermutation (faults_in order.sorted)) (sym work.faults_are) order.faults;
      },
      record {
        claimed = subst (IsPermutation (claims_in order.sorted)) (sym (c.close.ensures.claims ∙ work.claims)) order.claims;
        maps = record { once = c.close.ensures.first; twice = c.close.ensures.second };
        cover = (omega (arith, c.close.ensures.first_words, blocks), omega (arith, c.close.ensures.second_words, blocks));
      },
    )

pub work_all-requires-clause-blocks : goal.work_all-requires-clause-blocks
work_all-requires-clause-blocks g c κs within = c.requires.blocks

pub open-requires-clause-numbers : goal.open-requires-clause-numbers
open-requires-clause-numbers g c =
    let few = tickets_few c.args.tables.now.layout c.are_laid.ensures in
    let is = c.ticket_count-tickets.ensures in
    let least = c.min.ensures in
    let workers = c.requires.workers.1 in
    omega (arith, few, is, least, workers)

pub work_all-requires-clause-some : goal.work_all-requires-clause-some
work_all-requires-clause-some g c κs within =
    let some = tickets_some c.args.tables.now.layout c.are_laid.ensures in
    let is = c.ticket_count-tickets.ensures in
    let least = c.min.ensures in
    let workers = c.requires.workers.0 in
    let count = c.in_ok-map.ensures.count in
    omega (arith, some, is, least, workers, count)
