use Rattle.std.proofs.Common.{◌≡◌, ◌+◌, ◌<◌, ◌≤◌, ◌++◌, map, sym, ap, ◌∙◌, subst, arith, false, Result, Ok, Err, OnOk, is_err}
use Rattle.std.specs.List.{All}
use Rattle.std.proofs.lemmas.List.Elements.{All-append}
use Rattle.std.proofs.lemmas.Bool.{false≢true}
use Rattle.nv_claimcore.specs.declared.view.View.{View}
use Rattle.nv_claimcore.specs.Claims.{past, won, both_views, Settled}
use Rattle.nv_claimcore.specs.Finished.{pair_of}
use Rattle.nv_claimcore.proofs.Runs.{past_both, pairs_both}
use Rattle.nv_claimmap.specs.Held.{MapId, Held}
use Rattle.nv_claimmap.proofs.Keeping.{both_allowed, look_allowed}
use Rattle.nv_claimmap.proofs.map.ClaimMap.join.Goals.{then-one, else-one}
use Rattle.nv_claimmap.proofs.map.ClaimMap.join.Goals as goal

-- what a call did that failed not
given_ok : {P E : Type 0} (r : Result (Unit {0}) E) → OnOk r P → is_err r ≡ false → P
given_ok (Ok x) p e = p
given_ok (Err x) p e = cc

pub join_seat-requires : goal.join_seat-requires
join_seat-requires c = let words = c.self.invariant.table_words in (
  ap (λ (h : Held). h.map.table) c.one.view_is ∙ (ap (λ (m : MapId). m.table) c.requires.own ∙ sym (ap (λ (m : MapId). m.table) c.self.view_is)),
  ap (λ (h : Held). h.map.table) c.other.view_is ∙ (ap (λ (m : MapId). m.table) c.requires.other ∙ sym (ap (λ (m : MapId). m.table) c.self.view_is)),
  c.other.invariant.slots,
  omega arith,
  both_allowed _ _ _ _ _,
)

pub load-requires : goal.load-requires
load-requires c = let words = c.self.invariant.table_words in (
  c.join_seat.ensures.0 ∙ (ap (λ (h : Held). h.map.table) c.one.view_is ∙ (ap (λ (m : MapId). m.table) c.requires.own ∙ sym (ap (λ (m : MapId). m.table) c.self.view_is))),
  omega arith,
  look_allowed _ _ _ _ _,
)

pub invariant_of-one-2 : goal.invariant_of-one-2
invariant_of-one-2 c =
    let me = c.load.ensures.2.0 ∙ c.join_seat.ensures.2 in
    let a = c.one.inside in let b = c.other.inside in
    let v : View = a.seat.me.0 in let u : View = b.seat.me.0 in
    let same : b.sizes.tickets ≡ a.sizes.tickets = ap (λ (h : Held). h.map.sizes.tickets) c.other.view_is ∙ (ap (λ (m : MapId). m.sizes.tickets) (c.requires.other ∙ sym c.requires.own) ∙ sym (ap (λ (h : Held). h.map.sizes.tickets) c.one.view_is)) in
    let sum : past a.sizes.tickets c.load.new.seat.me.0.numbers ≡ past a.sizes.tickets v.numbers + past b.sizes.tickets u.numbers =
    ap (λ m. past a.sizes.tickets m.0.numbers) me ∙ (past_both a.sizes.tickets v.numbers u.numbers ∙ ap (λ t. past a.sizes.tickets v.numbers + past t u.numbers) (sym same)) in record {
      slots = ap (λ m. m.1) me ∙ c.one.invariant.slots;
      seats = subst (λ (w : View). 0 < w.seats) (sym (ap (λ m. m.0) me)) (let some = c.one.invariant.seats in omega arith);
      going = λ e. elim c.if-one.branch [
        | then-one w ↦ absurd (false≢true (sym e ∙ (w.one-is ∙ w.if-one.true)))
        | else-one w ↦ (let x : past c.one.inside.sizes.tickets c.one.inside.seat.me.0.numbers ≡ 0 = c.one.invariant.going w.if-one.false in let y : past c.other.inside.sizes.tickets c.other.inside.seat.me.0.numbers ≡ 0 = c.other.invariant.going (sym w.one-is ∙ e) in omega (arith, sum))
      ];
      ended = λ e. elim c.if-one.branch [
        | then-one w ↦ (let x : 0 < past c.one.inside.sizes.tickets c.one.inside.seat.me.0.numbers = c.one.invariant.ended w.if-one.true in omega (arith, sum))
        | else-one w ↦ (let y : 0 < past c.other.inside.sizes.tickets c.other.inside.seat.me.0.numbers = c.other.invariant.ended (sym w.one-is ∙ e) in omega (arith, sum))
      ];
      settled = subst (All Settled) (sym (ap (λ m. m.0.records) me)) (All-append Settled v.records u.records c.one.invariant.settled c.other.invariant.settled);
      claims = given_ok c.append.result c.append.ensures.ok (sym c.is_err.ensures.value ∙ c.if-is_err.false) ∙ ((λ i. c.one.invariant.claims i ++ c.other.invariant.claims i) ∙ (sym (pairs_both v.records u.records) ∙ ap (λ m. map pair_of m.0.records) (sym me)));
    }

pub returns-clause-map : goal.returns-clause-map
returns-clause-map c = ap (λ t. record { table = t; sizes = c.one.inside.sizes }) (c.load.ensures.0 ∙ c.join_seat.ensures.0) ∙ ap (λ (h : Held). h.map) c.one.view_is

pub returns-clause-number : goal.returns-clause-number
returns-clause-number c = ap (λ (h : Held). h.number) c.one.view_is

pub returns-clause-view : goal.returns-clause-view
returns-clause-view c = ap (λ m. m.0) (c.load.ensures.2.0 ∙ c.join_seat.ensures.2) ∙ (λ i. both_views (c.one.view_is i).view (c.other.view_is i).view)

pub returns-clause-once : goal.returns-clause-once
returns-clause-once c = λ b. subst (λ (u : View). won b u ≤ 1) (sym (ap (λ m. m.0) c.load.ensures.2.0)) (c.load.ensures.2.1 b)
