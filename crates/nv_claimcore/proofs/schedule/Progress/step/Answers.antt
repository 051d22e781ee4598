use Rattle.std.proofs.Common.{◌≡◌, ℕ, ◌+◌, ◌<◌, ◌^◌, List, [], ◌∷◌, drop, get_or, false, None, sym, refl, ap, ◌∙◌, subst}
use Rattle.nv_blockset.specs.BlockSet.{has}
use Rattle.nv_super.specs.declared.owners.Owner.{Owner}
use Rattle.nv_claimcore.specs.declared.event.Event.TheVariants.{Draw, Claim, Mark}
use Rattle.nv_claimcore.specs.declared.schedule.Pace.{Pace}
use Rattle.std.specs.Prelude.{◌==◌}
use Rattle.std.proofs.lemmas.List.{get_or_default}
use Rattle.nv_claimcore.specs.declared.view.Sizes.{Sizes}
use Rattle.nv_claimcore.specs.Claims.{State}
use Rattle.nv_claimcore.specs.Finished.{pairs_at}
use Rattle.nv_claimcore.specs.Replay.{lists, next_event}
use Rattle.nv_claimcore.specs.Pace.{Running, no_pace, pace_of, left_at, owed, marked_pace, claimed_pace, drawn_pace}
use Rattle.nv_claimcore.proofs.Turns.{IsNext, IsDone, in_paces, mark_turn, mark_allowed, mark_word, mark_running, mark_less, claim_turn, claim_allowed, claim_word, claim_running, claim_less, draw_turn, draw_allowed, draw_fits, draw_running, draw_less, turn_is}
use Rattle.nv_claimcore.proofs.Courses.{took, took_none}
use Rattle.nv_claimcore.proofs.schedule.Progress.step.Goals as goal

pub mark-requires-clause-block : goal.mark-requires-clause-block
mark-requires-clause-block c = let p = c.args.self.now in let read = c.index.ensures ∙ get_or_default p.paces.items c.args.worker c.index.result.now no_pace (in_paces p.sizes (lists c.args.work.now) p.state p.paces.items c.requires.running c.args.worker c.requires.worker) in
    mark_word p.sizes (lists c.args.work.now) p.state p.paces.items c.requires.running c.args.worker c.requires.worker c.in-Some.block (ap (λ (q : Pace). q.lost) (sym read) ∙ c.in-Some.is)

pub returns-in-Some : goal.returns-in-Some
returns-in-Some c = let p = c.args.self.now in let here = in_paces p.sizes (lists c.args.work.now) p.state p.paces.items c.requires.running c.args.worker c.requires.worker in
    let lost = ap (λ (q : Pace). q.lost) (sym (c.index.ensures ∙ get_or_default p.paces.items c.args.worker c.index.result.now no_pace here)) ∙ c.in-Some.is in
    took (lists c.args.work.now) c.args.worker p c.mark.new.self (Mark c.args.worker c.in-Some.block) (marked_pace (pace_of p.paces.items c.args.worker))
    (mark_turn p.sizes (lists c.args.work.now) p.state p.paces.items c.requires.running c.args.worker c.requires.worker c.in-Some.block lost)
    (mark_allowed p.sizes (lists c.args.work.now) p.state p.paces.items c.requires.running c.args.worker c.requires.worker c.in-Some.block lost)
    c.mark.ensures.sizes c.mark.ensures.state c.mark.ensures.paces here
    (mark_running p.sizes (lists c.args.work.now) p.state p.paces.items c.requires.running c.args.worker c.requires.worker c.in-Some.block lost)
    (mark_less p.sizes (lists c.args.work.now) p.state p.paces.items c.requires.running c.args.worker c.requires.worker c.in-Some.block lost)

-- the pace that the step read
read : (z : Sizes) (work : List (List (ℕ × Owner))) (s : State) (paces : List Pace) → Running z work s paces → (w : ℕ) → w < z.workers → (p : Pace) → p ≡ get_or paces w p → p ≡ pace_of paces w
read z work s paces running w here p e = e ∙ get_or_default paces w p no_pace (in_paces z work s paces running w here)

is_next : (work : List (List (ℕ × Owner))) (p q : Pace) (b : ℕ) (o : Owner) → p ≡ q → p.lost ≡ None → left_at work p ≡ (b, o) ∷ drop (p.made + 1) (pairs_at work p.ticket) → p.made + 1 < 2 ^ 64 → IsNext work q (b, o)
is_next work p q b o e lost next room = subst (λ (x : Pace). IsNext work x (b, o)) e record { lost = lost; next = next; room = room }

is_done : (work : List (List (ℕ × Owner))) (p q : Pace) → p ≡ q → p.lost ≡ None → left_at work p ≡ [] → p.ended ≡ false → IsDone work q
is_done work p q e lost left ended = subst (λ (x : Pace). IsDone work x) e record { lost = lost; left = left; ended = ended }

pub claim-requires-clause-block : goal.claim-requires-clause-block
claim-requires-clause-block c = let p = c.args.self.now in let work = lists c.args.work.now in
    claim_word p.sizes work p.state p.paces.items c.requires.running c.args.worker c.requires.worker c.in-Some-next_claim.block c.in-Some-next_claim.owner
    (is_next work c.index.result.now (pace_of p.paces.items c.args.worker) c.in-Some-next_claim.block c.in-Some-next_claim.owner (read p.sizes work p.state p.paces.items c.requires.running c.args.worker c.requires.worker c.index.result.now c.index.ensures)
    c.in_default.is c.in-Some-next_claim.ensures.0 c.in-Some-next_claim.ensures.1)

pub returns-in-Some-next_claim : goal.returns-in-Some-next_claim
returns-in-Some-next_claim c = let p = c.args.self.now in let work = lists c.args.work.now in let b = c.in-Some-next_claim.block in let o = c.in-Some-next_claim.owner in
    let next = is_next work c.index.result.now (pace_of p.paces.items c.args.worker) b o (read p.sizes work p.state p.paces.items c.requires.running c.args.worker c.requires.worker c.index.result.now c.index.ensures)
    c.in_default.is c.in-Some-next_claim.ensures.0 c.in-Some-next_claim.ensures.1 in
    let pace = claimed_pace (pace_of p.paces.items c.args.worker) b (has p.state.first b == 0) in
    took work c.args.worker p c.claim.new.self (Claim c.args.worker b o) pace
    (claim_turn p.sizes work p.state p.paces.items c.requires.running c.args.worker c.requires.worker b o next)
    (claim_allowed p.sizes work p.state p.paces.items c.requires.running c.args.worker c.requires.worker b o next)
    c.in_ok-claim.ensures.sizes c.in_ok-claim.ensures.state c.in_ok-claim.ensures.paces
    (in_paces p.sizes work p.state p.paces.items c.requires.running c.args.worker c.requires.worker)
    (claim_running p.sizes work p.state p.paces.items c.requires.running c.args.worker c.requires.worker b o next pace refl refl refl refl)
    (claim_less p.sizes work p.state p.paces.items c.requires.running c.args.worker c.requires.worker b o next pace refl refl refl refl)

pub returns-then-pace : goal.returns-then-pace
returns-then-pace c = let p = c.args.self.now in let work = lists c.args.work.now in
    let same = read p.sizes work p.state p.paces.items c.requires.running c.args.worker c.requires.worker c.index.result.now c.index.ensures in
    took_none work c.args.worker p (turn_is work p.state c.args.worker (pace_of p.paces.items c.args.worker) (c.requires.running.each c.args.worker c.requires.worker)
    ∙ (ap (λ (q : Pace). next_event c.args.worker (owed q.lost) (left_at work q) q.ended) (sym same) ∙ (λ i. next_event c.args.worker (owed (c.in_default.is i)) (c.in_default-next_claim.ensures i) (c.if-pace.true i)))) c.requires.running

pub draw-requires-clause-room : goal.draw-requires-clause-room
draw-requires-clause-room c = let p = c.args.self.now in let work = lists c.args.work.now in
    draw_fits p.sizes work p.state p.paces.items c.requires.running c.args.worker c.requires.worker
    (is_done work c.index.result.now (pace_of p.paces.items c.args.worker) (read p.sizes work p.state p.paces.items c.requires.running c.args.worker c.requires.worker c.index.result.now c.index.ensures) c.in_default.is c.in_default-next_claim.ensures c.if-pace.false)

pub returns : goal.returns
returns c = let p = c.args.self.now in let work = lists c.args.work.now in
    let done = is_done work c.index.result.now (pace_of p.paces.items c.args.worker) (read p.sizes work p.state p.paces.items c.requires.running c.args.worker c.requires.worker c.index.result.now c.index.ensures) c.in_default.is c.in_default-next_claim.ensures c.if-pace.false in
    let pace = drawn_pace p.sizes.tickets p.state.cursor in
    took work c.args.worker p c.draw.new.self (Draw c.args.worker) pace
    (draw_turn p.sizes work p.state p.paces.items c.requires.running c.args.worker c.requires.worker done)
    (draw_allowed p.sizes work p.state p.paces.items c.requires.running c.args.worker c.requires.worker done)
    c.in_ok-draw.ensures.sizes c.in_ok-draw.ensures.state c.in_ok-draw.ensures.paces
    (in_paces p.sizes work p.state p.paces.items c.requires.running c.args.worker c.requires.worker)
    (draw_running p.sizes work p.state p.paces.items c.requires.running c.args.worker c.requires.worker done pace refl refl refl refl)
    (draw_less p.sizes work p.state p.paces.items c.requires.running c.args.worker c.requires.worker done pace refl refl refl refl)
