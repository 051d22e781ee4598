use Rattle.std.proofs.Common.{◌≡◌, ℕ, ◌+◌, ◌/◌, ◌%◌, ◌<◌, length, get_or, set, sym, ap, ◌∙◌, arith}
use Rattle.std.specs.Prelude.{bit_or}
use Rattle.std.proofs.lemmas.List.{get_or_default}
use Rattle.nv_super.specs.Owners.{pairs}
use Rattle.nv_claimcore.specs.Claims.{State, nothing}
use Rattle.nv_claimcore.specs.Events.{after_all}
use Rattle.nv_claimcore.specs.Spans.{claim_all}
use Rattle.nv_claimcore.specs.SpanEvents.{sizes_of, span_events}
use Rattle.nv_claimcore.proofs.WordRuns.{run_mask, run_bits, run_rises}
use Rattle.nv_claimcore.proofs.SpanSteps.{after_claims, claims_allowed, claims_refused, pairs_long, not_none, lost_bits}
use Rattle.nv_claimcore.proofs.state.ClaimState.claim_span.Goals as goal

pub returns-then-worker-len-clause-refused : goal.returns-then-worker-len-clause-refused
returns-then-worker-len-clause-refused c = let ps = pairs c.args.run.start c.args.owner c.args.run.count in
    let some = not_none c.args.run.count (sym c.is_empty.ensures ∙ c.if-is_empty.false) in let long = pairs_long c.args.run.start c.args.owner c.args.run.count in
    let len = c.len.ensures in let items = c.self.inside.views.ok.0 in let same = ap (λ (s : State). length s.views) c.self.view_is in let test = c.if-worker-len.true in
    claims_refused (sizes_of c.args.self.now) c.args.worker ps c.args.self.now (omega arith) (omega arith)

pub returns-clause-allowed : goal.returns-clause-allowed
returns-clause-allowed c = let ps = pairs c.args.run.start c.args.owner c.args.run.count in
    let some = not_none c.args.run.count (sym c.is_empty.ensures ∙ c.if-is_empty.false) in let inside = c.requires.blocks some in
    let len = c.len.ensures in let items = c.self.inside.views.ok.0 in let same = ap (λ (s : State). length s.views) c.self.view_is in let test = c.if-worker-len.false in
    claims_allowed (sizes_of c.args.self.now) c.args.worker c.args.run.start (c.args.run.start + c.args.run.count) ps c.args.self.now (omega arith) inside (run_rises c.args.run.start c.args.owner c.args.run.count)

pub returns-clause-state : goal.returns-clause-state
returns-clause-state c =
    let start = c.args.run.start in let n = c.args.run.count in let k : ℕ = c.args.run.start / 64 in let ps = pairs c.args.run.start c.args.owner c.args.run.count in
    let u : State = record { first = c.self.inside.first.items; second = c.self.inside.second.items; cursor = c.self.inside.cursor; views = c.self.inside.views.items } in
    let some = not_none c.args.run.count (sym c.is_empty.ensures ∙ c.if-is_empty.false) in let inside = c.requires.blocks some in
    let len = c.len.ensures in let items = c.self.inside.views.ok.0 in let test = c.if-worker-len.false in
    let words = ap (λ (s : State). length s.first) c.self.view_is in
    let in_word = c.requires.word in
    let worker : c.args.worker < length c.self.inside.views.items = omega arith in
    let word : c.args.run.start / 64 < length c.self.inside.first.items = omega arith in
    let found : c.index-found.result.now ≡ get_or c.self.inside.first.items (c.args.run.start / 64) 0 = c.index-found.ensures ∙ get_or_default c.self.inside.first.items (c.args.run.start / 64) c.index-found.result.now 0 word in
    let view : c.index_mut.result.now ≡ get_or c.self.inside.views.items c.args.worker (nothing 0) = c.index_mut.ensures.value ∙ get_or_default c.self.inside.views.items c.args.worker c.index_mut.result.now (nothing 0) worker in
    let bits = run_bits (c.args.run.start % 64) c.args.run.count c.requires.word ∙ sym (run_mask c.args.run.start c.args.owner c.args.run.count c.requires.word) in
    let claimed = c.in_ok-claim_run.ensures.ok ∙ (λ i. claim_all (found i) ps (view i)) in
    (λ i. record {
      first = set c.self.inside.first.items (c.args.run.start / 64) (bit_or (found i) (bits i));
      second = c.self.inside.second.items;
      cursor = c.self.inside.cursor;
      views = set c.self.inside.views.items c.args.worker (claimed i);
    })
    ∙ (sym (after_claims c.args.worker (c.args.run.start / 64) c.args.run.start (c.args.run.start + c.args.run.count) ps u worker word (omega arith) (omega arith) (run_rises c.args.run.start c.args.owner c.args.run.count))
    ∙ ap (λ (s : State). after_all s (span_events c.args.worker c.args.run c.args.owner)) c.self.view_is)

pub returns-clause-lost : goal.returns-clause-lost
returns-clause-lost c =
    let some = not_none c.args.run.count (sym c.is_empty.ensures ∙ c.if-is_empty.false) in let inside = c.requires.blocks some in
    let words = ap (λ (s : State). length s.first) c.self.view_is in
    let word : c.args.run.start / 64 < length c.self.inside.first.items = omega arith in
    let found : c.index-found.result.now ≡ get_or c.self.inside.first.items (c.args.run.start / 64) 0 = c.index-found.ensures ∙ get_or_default c.self.inside.first.items (c.args.run.start / 64) c.index-found.result.now 0 word in
    lost_bits c.args.self.now.first c.args.run c.index-found.result.now _ c.requires.word (found ∙ ap (λ (s : State). get_or s.first (c.args.run.start / 64) 0) c.self.view_is) (run_bits (c.args.run.start % 64) c.args.run.count c.requires.word)
