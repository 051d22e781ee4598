use Rattle.std.proofs.Common.{◌≡◌, ◌+◌, ◌/◌, ◌%◌, ◌^◌, ◌-◌, sym, ap, ◌∙◌, arith}
use Rattle.std.specs.Prelude.{bit_and}
use Rattle.nv_super.specs.Owners.{pairs}
use Rattle.nv_claimcore.specs.Claims.{State}
use Rattle.nv_claimcore.specs.Events.{all_allowed, after_all}
use Rattle.nv_claimcore.specs.SpanEvents.{mark_events}
use Rattle.nv_claimcore.specs.Spans.{mask_all, lost_in}
use Rattle.nv_claimcore.proofs.SpanSteps.{after_claims, claims_allowed}
use Rattle.nv_claimcore.proofs.WordRuns.{run_mask, run_rises, lost_mask, lost_rises}
use Rattle.nv_claimmap.specs.Events.{with_mask}
use Rattle.nv_claimmap.proofs.Marking.{marks_are, after_marks, marks_allowed}
use Rattle.nv_claimmap.proofs.laws.steps_are_events.Goals as goal

pub returns-clause-claims : goal.returns-clause-claims
returns-clause-claims c = λ z s seat run o there word within. (
    let a = run.start in
    let n = run.count in
    let in_word = within.0 in
    let after = after_claims seat (a / 64) a (a + n) (pairs a o n) s there word (omega arith) (omega (arith, in_word)) (run_rises a o n) in
    record {
      allowed = claims_allowed z seat a (a + n) (pairs a o n) s there within.1 (run_rises a o n);
      first = ap (λ (x : State). x.first) after ∙ ap (with_mask s.first (a / 64)) (run_mask a o n in_word);
      second = ap (λ (x : State). x.second) after;
      cursor = ap (λ (x : State). x.cursor) after;
      views = ap (λ (x : State). x.views) after;
    })

pub returns-clause-marks : goal.returns-clause-marks
returns-clause-marks c = λ z s seat found run o there word within unmarked. (
    let a = run.start in
    let n = run.count in
    let in_word = within.0 in
    let lost = lost_in found (pairs a o n) in
    let rises = lost_rises found a (a + n) (pairs a o n) (run_rises a o n) in
    let mask : mask_all lost ≡ bit_and found (2 ^ (a % 64 + n) - 2 ^ (a % 64)) = lost_mask found (pairs a o n) ∙ ap (bit_and found) (run_mask a o n in_word) in
    let events = ap (mark_events seat (a / 64)) (sym mask) ∙ marks_are seat (a / 64) a (a + n) lost (omega arith) (omega (arith, in_word)) rises in
    let after = ap (after_all s) events ∙ after_marks seat (a / 64) a (a + n) lost s there word (omega arith) (omega (arith, in_word)) rises in
    record {
      allowed = ap (all_allowed z s) events ∙ marks_allowed z seat lost s there unmarked;
      first = ap (λ (x : State). x.first) after;
      second = ap (λ (x : State). x.second) after ∙ ap (with_mask s.second (a / 64)) mask;
      cursor = ap (λ (x : State). x.cursor) after;
      views = ap (λ (x : State). x.views) after;
    })
