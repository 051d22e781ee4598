use Rattle.std.proofs.Common.{◌≡◌, ◌+◌, ◌<◌, ◌≤◌, ◌^◌, [], append-nil, refl, sym, ap, ◌∙◌, subst, arith, rules}
use Rattle.std.proofs.lemmas.Bool.{eqb-true, eqb-false}
use Rattle.std.proofs.lemmas.Result.{err_from_is_err_and}
use Rattle.std.proofs.lemmas.List.Elements.{All-nil}
use Rattle.nv_blockset.specs.BlockSet.{words_for}
use Rattle.nv_super.specs.Owners.{pairs}
use Rattle.nv_claimcore.specs.declared.view.Sizes.{Sizes}
use Rattle.nv_claimcore.specs.Claims.{past, Settled}
use Rattle.nv_claimcore.specs.Spans.{Adds}
use Rattle.nv_claimmap.specs.Held.{MapId, Held, map_id}
use Rattle.nv_claimmap.proofs.Listing.{page_small, records_added}
use Rattle.nv_claimmap.proofs.map.ClaimMap.claim.Goals as goal

pub returns-then-is_empty-clause-ok : goal.returns-then-is_empty-clause-ok
returns-then-is_empty-clause-ok c =
    let none = eqb-true c.args.run.count 0 (sym c.is_empty.ensures ∙ c.if-is_empty.true) in
    (refl, refl, ([], sym (append-nil c.args.seat.now.view.records), ap (pairs c.args.run.start c.args.owner) (sym none), All-nil Settled))

pub invariant_of-seat : goal.invariant_of-seat
invariant_of-seat c = let i = c.seat.invariant in record {
  slots = i.slots;
  seats = i.seats;
  going = i.going;
  ended = i.ended;
  settled = i.settled;
  claims = c.in_err-push.ensures.err ∙ i.claims;
}

pub returns-in_err-push-clause-map : goal.returns-in_err-push-clause-map
returns-in_err-push-clause-map c = ap (λ (h : Held). h.map) c.seat.view_is

pub returns-in_err-push-clause-number : goal.returns-in_err-push-clause-number
returns-in_err-push-clause-number c = ap (λ (h : Held). h.number) c.seat.view_is

pub returns-in_err-push-clause-ok : goal.returns-in_err-push-clause-ok
returns-in_err-push-clause-ok c = let w = err_from_is_err_and c.from_residual.result c.from_residual.ensures.1 in rw w.1 tt

pub returns-in_err-push-clause-err : goal.returns-in_err-push-clause-err
returns-in_err-push-clause-err c = let w = err_from_is_err_and c.from_residual.result c.from_residual.ensures.1 in rw w.1 (ap (λ (h : Held). h.view) c.seat.view_is)

pub push-requires : goal.push-requires
push-requires c =
    let some : 0 < c.args.run.count = (let other = eqb-false c.args.run.count 0 (sym c.is_empty.ensures ∙ c.if-is_empty.false) in omega arith) in
    let pages = page_small c.args.owner c.args.run.count c.args.run.count (c.requires.owner some) (omega arith) in
    let inside = c.requires.blocks some in
    let same : c.seat.inside.sizes.blocks ≡ c.args.self.now.sizes.blocks = ap (λ (h : Held). h.map.sizes.blocks) c.seat.view_is ∙ ap (λ (m : MapId). m.sizes.blocks) c.requires.own in
    let small : c.seat.inside.sizes.blocks < 2 ^ 64 = search rules in
    (omega arith, omega arith)

pub claim_words-requires-clause-own : goal.claim_words-requires-clause-own
claim_words-requires-clause-own c =
    ap (λ (h : Held). h.map.table) c.seat.view_is ∙ (ap (λ (m : MapId). m.table) c.requires.own ∙ sym (ap (λ (m : MapId). m.table) c.self.view_is))

pub claim_words-requires-clause-table : goal.claim_words-requires-clause-table
claim_words-requires-clause-table c =
    let words = c.self.invariant.words ∙ ap (λ (z : Sizes). words_for z.blocks) (sym c.self.invariant.key) in
    (c.self.invariant.table_words, words, search rules)

pub claim_words-requires-clause-run : goal.claim_words-requires-clause-run
claim_words-requires-clause-run c =
    let some : 0 < c.args.run.count = (let other = eqb-false c.args.run.count 0 (sym c.is_empty.ensures ∙ c.if-is_empty.false) in omega arith) in
    let sizes : c.self.inside.table.shared.key ≡ c.args.self.now.sizes = c.self.invariant.key ∙ ap (λ (m : MapId). m.sizes) c.self.view_is in (
      subst (λ (z : Sizes). c.args.run.start + c.args.run.count ≤ z.blocks) (sym sizes) (c.requires.blocks some),
      c.requires.owner some,
      search rules,
    )

pub claim_words-requires-clause-seat : goal.claim_words-requires-clause-seat
claim_words-requires-clause-seat c = (c.seat.invariant.seats, c.seat.invariant.settled)

pub invariant_of-seat-2 : goal.invariant_of-seat-2
invariant_of-seat-2 c = let i = c.seat.invariant in let v = c.claim_words.ensures.view in record {
  slots = c.claim_words.ensures.same.2 ∙ i.slots;
  seats = subst (λ n. 0 < n) (sym v.0) i.seats;
  going = λ e. subst (λ ns. past c.seat.inside.sizes.tickets ns ≡ 0) (sym v.1) (i.going e);
  ended = λ e. subst (λ ns. 0 < past c.seat.inside.sizes.tickets ns) (sym v.1) (i.ended e);
  settled = c.claim_words.ensures.settled;
  claims = records_added (pairs c.args.run.start c.args.owner c.args.run.count) c.seat.inside.seat.me.0 c.claim_words.new.seat.me.0 c.seat.inside.claims.items c.push.new.self.items v i.claims c.in_ok-push.ensures.ok;
}

pub returns-clause-map : goal.returns-clause-map
returns-clause-map c = ap (λ t. map_id t c.seat.inside.sizes) c.claim_words.ensures.same.0 ∙ ap (λ (h : Held). h.map) c.seat.view_is

pub returns-clause-number : goal.returns-clause-number
returns-clause-number c = ap (λ (h : Held). h.number) c.seat.view_is

pub returns-clause-ok : goal.returns-clause-ok
returns-clause-ok c = subst (λ (h : Held). Adds (pairs c.args.run.start c.args.owner c.args.run.count) h.view c.claim_words.new.seat.me.0) c.seat.view_is c.claim_words.ensures.view
