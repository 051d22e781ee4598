use Rattle.std.proofs.Common.{◌≡◌, sym, ap, ◌∙◌, subst}
use Rattle.std.specs.List.{All}
use Rattle.nv_claimcore.specs.Claims.{nothing}
use Rattle.nv_claimmap.specs.Held.{Held}
use Rattle.nv_claimmap.proofs.Seats.{fresh_all}
use Rattle.test_store.proofs.claim_map.sixty_four_threads_draw_each_ticket_once.Goals as goal

pub map_vec-requires-after_bounds : goal.map_vec-requires-after_bounds
map_vec-requires-after_bounds g c κs within = λ i x l is.
    let all = subst (All (λ (h : Held). (h.map ≡ c.in_ok-map.map) × (h.view ≡ nothing 1))) (sym c.in_ok-map.ensures.seats) (fresh_all c.in_ok-map.map c.sizes.result.workers) in
    ap (λ (h : Held). h.map) is ∙ (all i x l).0
