-- Workers that run to their ends in rising order have one list of events.
use Rattle.std.proofs.Common.{◌≡◌, ℕ, zero, suc, List, [], ◌++◌, replicate, sym, refl, ap, ◌∙◌, subst}
use Rattle.nv_super.specs.declared.owners.Owner.{Owner}
use Rattle.nv_claimcore.specs.declared.event.Event.{Event}
use Rattle.nv_claimcore.specs.Claims.{State}
use Rattle.nv_claimcore.specs.Events.{after_all}
use Rattle.nv_claimcore.specs.Replay.{turn, chosen, RunsToEnd, RunInOrder}
use Rattle.nv_claimcore.proofs.Courses.{after_both}

module _ (work : List (List (ℕ × Owner))) where
  -- a worker that has no turn has none later
  no_more : (k : ℕ) (s : State) (w : ℕ) → turn work s w ≡ [] → chosen work s (replicate k w) ≡ []
  no_more zero s w e = refl
  no_more (suc k) s w e = (λ i. e i ++ chosen work (after_all s (e i)) (replicate k w)) ∙ no_more k s w e

  same_end : (k j : ℕ) (s : State) (w : ℕ) → turn work (after_all s (chosen work s (replicate k w))) w ≡ [] → turn work (after_all s (chosen work s (replicate j w))) w ≡ [] → chosen work s (replicate k w) ≡ chosen work s (replicate j w)
  same_end zero j s w one other = sym (no_more j s w one)
  same_end (suc k) zero s w one other = no_more (suc k) s w other
  same_end (suc k) (suc j) s w one other = ap (λ es. turn work s w ++ es) (same_end k j (after_all s (turn work s w)) w
      (ap (λ (x : State). turn work x w) (sym (after_both s (turn work s w) (chosen work (after_all s (turn work s w)) (replicate k w)))) ∙ one)
      (ap (λ (x : State). turn work x w) (sym (after_both s (turn work s w) (chosen work (after_all s (turn work s w)) (replicate j w)))) ∙ other))

  one_end : (s : State) (w : ℕ) (es fs : List Event) → RunsToEnd work s w es → RunsToEnd work s w fs → es ≡ fs
  one_end s w es fs one other = one.own ∙ (same_end one.turns other.turns s w
      (subst (λ (x : List Event). turn work (after_all s x) w ≡ []) one.own one.ended) (subst (λ (x : List Event). turn work (after_all s x) w ≡ []) other.own other.ended) ∙ sym other.own)

  pub one_order : (n : ℕ) (s : State) (es fs : List Event) → RunInOrder work s n es → RunInOrder work s n fs → es ≡ fs
  one_order zero s es fs one other = one ∙ sym other
  one_order (suc n) s es fs one other = let before = one_order n s one.0 other.0 one.3 other.3 in
      let own = one_end (after_all s one.0) n one.1 other.1 one.4 (subst (λ (x : List Event). RunsToEnd work (after_all s x) n other.1) (sym before) other.4) in
      one.2 ∙ ((λ i. before i ++ own i) ∙ sym other.2)
