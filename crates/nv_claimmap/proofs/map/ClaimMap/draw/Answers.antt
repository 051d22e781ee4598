use Rattle.std.proofs.Common.{◌≡◌, ℕ, ◌∙◌, ◌+◌, ◌<◌, ◌≤◌, ◌^◌, map, inr, sym, ap, subst, arith}
use Rattle.std.specs.List.{All}
use Rattle.std.proofs.lemmas.Bool.{both_ways, true≢false}
use Rattle.nv_claimcore.specs.declared.view.Sizes.{Sizes}
use Rattle.atomic_table.specs.Table.{Me}
use Rattle.nv_claimcore.specs.declared.view.View.{View}
use Rattle.nv_claimcore.specs.Claims.{past, times, above, with_number, Settled}
use Rattle.nv_claimcore.specs.Finished.{pair_of}
use Rattle.nv_claimmap.specs.Held.{MapId, Held, map_id}
use Rattle.nv_claimmap.proofs.Keeping.{draw_allowed}
use Rattle.nv_claimmap.proofs.Seats.{drawn_below, drawn_past}
use Rattle.nv_claimmap.proofs.map.ClaimMap.draw.Goals as goal

-- a seat that isn't ended holds no number past the end
still_going : (m : MapId) (inside now : Held) → inside ≡ now → now.map ≡ m → past inside.map.sizes.tickets inside.view.numbers ≡ 0 → 0 < past m.sizes.tickets now.view.numbers → ⊥
still_going m inside now is own none some =
    let shown : past now.map.sizes.tickets now.view.numbers ≡ 0 = subst (λ (h : Held). past h.map.sizes.tickets h.view.numbers ≡ 0) is none in
    let here : past m.sizes.tickets now.view.numbers ≡ 0 = subst (λ (x : MapId). past x.sizes.tickets now.view.numbers ≡ 0) own shown in
    absurd (omega arith)

pub fetch_add-number-requires : goal.fetch_add-number-requires
fetch_add-number-requires c =
    let seat = c.seat.inside in let map = c.self.inside in
    let own : seat.sizes ≡ map.sizes = ap (λ (h : Held). h.map.sizes) c.seat.view_is ∙ (ap (λ (m : MapId). m.sizes) c.requires.own ∙ sym (ap (λ (m : MapId). m.sizes) c.self.view_is)) in
    let key : map.table.shared.key ≡ map.sizes = c.self.invariant.key in
    let tickets : map.table.shared.key.tickets ≡ seat.sizes.tickets = ap (λ (z : Sizes). z.tickets) (key ∙ sym own) in
    let fits : map.table.shared.key.tickets + map.table.shared.key.workers < 2 ^ 64 = subst (λ (z : Sizes). z.tickets + z.workers < 2 ^ 64) (sym key) c.self.invariant.numbers in
    let none : past seat.sizes.tickets seat.seat.me.0.numbers ≡ 0 = c.seat.invariant.going c.if-seat.false in
    let seats = c.seat.invariant.seats in
    let words = c.self.invariant.table_words in
    let room : past map.table.shared.key.tickets seat.seat.me.0.numbers < seat.seat.me.0.seats = subst (λ (t : ℕ). past t seat.seat.me.0.numbers < seat.seat.me.0.seats) (sym tickets) (omega arith) in (
      ap (λ (h : Held). h.map.table) c.seat.view_is ∙ (ap (λ (m : MapId). m.table) c.requires.own ∙ sym (ap (λ (m : MapId). m.table) c.self.view_is)),
      omega arith,
      draw_allowed map.table.shared.key fits map.table.shared.table_id.slots seat.seat.id seat.seat.me room,
    )

pub returns-then-number-self-clause-ended : goal.returns-then-number-self-clause-ended
returns-then-number-self-clause-ended c = λ some. absurd (still_going _ _ _ c.seat.view_is c.requires.own (c.seat.invariant.going c.if-seat.false) some)

pub returns-then-number-self-clause-rests : goal.returns-then-number-self-clause-rests
returns-then-number-self-clause-rests c = λ some. absurd (still_going _ _ _ c.seat.view_is c.requires.own (c.seat.invariant.going c.if-seat.false) some)

pub returns-clause-rests : goal.returns-clause-rests
returns-clause-rests c = λ some. absurd (still_going _ _ _ c.seat.view_is c.requires.own (c.seat.invariant.going c.if-seat.false) some)

pub invariant_of-seat : goal.invariant_of-seat
invariant_of-seat c =
    let i = c.seat.invariant in let me = c.fetch_add-number.ensures.2.0 in
    let own : c.self.inside.sizes ≡ c.seat.inside.sizes = sym (ap (λ (h : Held). h.map.sizes) c.seat.view_is ∙ (ap (λ (m : MapId). m.sizes) c.requires.own ∙ sym (ap (λ (m : MapId). m.sizes) c.self.view_is))) in
    let below : c.fetch_add-number.result < c.seat.inside.sizes.tickets = subst (λ (z : Sizes). c.fetch_add-number.result < z.tickets) own c.if-number-self.true in
    record {
      slots = ap (λ (m : Me ℕ View). m.1) me ∙ i.slots;
      seats = subst (λ (m : Me ℕ View). 0 < m.0.seats) (sym me) i.seats;
      going = λ e. drawn_below c.seat.inside.sizes.tickets c.fetch_add-number.result c.seat.inside.seat.me.0 c.fetch_add-number.new.seat.me.0 (ap (λ (m : Me ℕ View). m.0) me) (i.going e) below;
      ended = λ e. absurd (both_ways c.seat.inside.ended c.if-seat.false e);
      settled = subst (λ (m : Me ℕ View). All Settled m.0.records) (sym me) i.settled;
      claims = i.claims ∙ ap (λ (m : Me ℕ View). map pair_of m.0.records) (sym me);
    }

pub returns-then-number-self-clause-map : goal.returns-then-number-self-clause-map
returns-then-number-self-clause-map c = ap (λ t. map_id t c.seat.inside.sizes) c.fetch_add-number.ensures.0 ∙ ap (λ (h : Held). h.map) c.seat.view_is

pub returns-then-number-self-clause-number : goal.returns-then-number-self-clause-number
returns-then-number-self-clause-number c = ap (λ (h : Held). h.number) c.seat.view_is

pub returns-then-number-self-clause-ticket : goal.returns-then-number-self-clause-ticket
returns-then-number-self-clause-ticket c = record {
  below = subst (λ (m : MapId). c.fetch_add-number.result < m.sizes.tickets) c.self.view_is c.if-number-self.true;
  unseen = subst (λ (h : Held). times c.fetch_add-number.result h.view.numbers ≡ 0) c.seat.view_is c.fetch_add-number.ensures.2.1;
  rises = subst (λ (h : Held). above h.view.numbers ≤ c.fetch_add-number.result) c.seat.view_is c.fetch_add-number.ensures.2.2;
}

pub returns-then-number-self-clause-joins : goal.returns-then-number-self-clause-joins
returns-then-number-self-clause-joins c = ap (λ (m : Me ℕ View). m.0) c.fetch_add-number.ensures.2.0 ∙ ap (λ (h : Held). with_number h.view c.fetch_add-number.result) c.seat.view_is

pub invariant_of-seat-2 : goal.invariant_of-seat-2
invariant_of-seat-2 c =
    let i = c.seat.invariant in let me = c.fetch_add-number.ensures.2.0 in
    let own : c.self.inside.sizes ≡ c.seat.inside.sizes = sym (ap (λ (h : Held). h.map.sizes) c.seat.view_is ∙ (ap (λ (m : MapId). m.sizes) c.requires.own ∙ sym (ap (λ (m : MapId). m.sizes) c.self.view_is))) in
    let past_end : c.seat.inside.sizes.tickets ≤ c.fetch_add-number.result = subst (λ (z : Sizes). z.tickets ≤ c.fetch_add-number.result) own c.if-number-self.false in
    record {
      slots = ap (λ (m : Me ℕ View). m.1) me ∙ i.slots;
      seats = subst (λ (m : Me ℕ View). 0 < m.0.seats) (sym me) i.seats;
      going = λ e. absurd (true≢false e);
      ended = λ _. drawn_past c.seat.inside.sizes.tickets c.fetch_add-number.result c.seat.inside.seat.me.0 c.fetch_add-number.new.seat.me.0 (ap (λ (m : Me ℕ View). m.0) me) past_end;
      settled = subst (λ (m : Me ℕ View). All Settled m.0.records) (sym me) i.settled;
      claims = i.claims ∙ ap (λ (m : Me ℕ View). map pair_of m.0.records) (sym me);
    }

pub returns-clause-map : goal.returns-clause-map
returns-clause-map c = ap (λ t. map_id t c.seat.inside.sizes) c.fetch_add-number.ensures.0 ∙ ap (λ (h : Held). h.map) c.seat.view_is

pub returns-clause-number : goal.returns-clause-number
returns-clause-number c = ap (λ (h : Held). h.number) c.seat.view_is

pub returns-clause-none : goal.returns-clause-none
returns-clause-none c =
    let past_end : c.args.self.now.sizes.tickets ≤ c.fetch_add-number.result = subst (λ (m : MapId). m.sizes.tickets ≤ c.fetch_add-number.result) c.self.view_is c.if-number-self.false in
    drawn_past c.args.self.now.sizes.tickets c.fetch_add-number.result c.seat.inside.seat.me.0 c.fetch_add-number.new.seat.me.0 (ap (λ (m : Me ℕ View). m.0) c.fetch_add-number.ensures.2.0) past_end

pub returns-clause-last : goal.returns-clause-last
returns-clause-last c = inr (
  c.fetch_add-number.result,
  subst (λ (m : MapId). m.sizes.tickets ≤ c.fetch_add-number.result) c.self.view_is c.if-number-self.false,
  ap (λ (m : Me ℕ View). m.0) c.fetch_add-number.ensures.2.0 ∙ ap (λ (h : Held). with_number h.view c.fetch_add-number.result) c.seat.view_is,
)
