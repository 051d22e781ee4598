-- From one turn to the turns of a schedule, to a worker's end and to the ends of all.
use Rattle.std.proofs.Common.{◌≡◌, ℕ, zero, suc, ◌+◌, ◌<◌, ◌≢◌, cond, ltb, leb, true, false, List, [], ◌∷◌, ◌++◌, length, map, get_or, set, replicate, sym, refl, ap, ◌∙◌, subst, ⊎_elim, arith, append_assoc, add-one, get_or-set_same, get_or-set_other}
use Rattle.std.specs.Prelude.{◌==◌, Option, Some, None}
use Rattle.std.specs.List.{count_by, position_or_len}
use Rattle.std.proofs.lemmas.List.{append-nil, replicate-append-replicate}
use Rattle.std.proofs.lemmas.List.Sums.{sum_by-cons, fails_before_first}
use Rattle.std.proofs.lemmas.Bool.{false≢true, cases_lt}
use Rattle.std.proofs.Math.Bool.{and_assoc}
use mathlib.Core.Bool.{Bool, not, ◌&&◌}
use mathlib.Core.Logic.{dite}
use mathlib.Core.Option.{some, some-injective, some-ne-none}
use lib.ListN.{get_elem?}
use native.Mathlib.Decide.{ℕ_discrete}
use Rattle.nv_blockset.specs.BlockSet.{has}
use Rattle.nv_super.specs.declared.owners.Owner.{Owner}
use Rattle.nv_claimcore.specs.declared.view.Sizes.{Sizes}
use Rattle.nv_claimcore.specs.declared.view.Record.{Record}
use Rattle.nv_claimcore.specs.declared.view.View.{View}
use Rattle.nv_claimcore.specs.declared.event.Event.{Event}
use Rattle.nv_claimcore.specs.declared.schedule.Pace.{Pace}
use Rattle.nv_claimcore.specs.declared.schedule.Progress.{Progress}
use Rattle.nv_claimcore.specs.Claims.{State, Legal, past, is_unmarked, claim_of, with_number, with_record, with_mark, nothing}
use Rattle.nv_claimcore.specs.Events.{view_of, start, is_allowed, after, all_allowed, after_all}
use Rattle.nv_claimcore.specs.Finished.{pair_of, pairs_of, pair_times, Finished}
use Rattle.nv_claimcore.specs.Replay.{unmarked_blocks, claims_left, next_event, turn, chosen, RunsToEnd, RunInOrder, first_stranger, Replayed}
use Rattle.nv_claimcore.specs.Pace.{left_at, Running, pace_of, effort}
use Rattle.nv_claimcore.specs.Turns.{TookTurn, TookTurns, RanToEnd, RanInOrder}
use Rattle.nv_claimcore.proofs.Counting.{sum_part}
use Rattle.nv_claimcore.proofs.Lists.{at_view, every_list}
use Rattle.nv_claimcore.proofs.Turns.{left_is}

-- ---- lists of events, one after the other

pub after_both : (s : State) (xs ys : List Event) → after_all s (xs ++ ys) ≡ after_all (after_all s xs) ys
after_both s [] ys = refl
after_both s (x ∷ xs) ys = after_both (after s x) xs ys

pub allowed_both : (z : Sizes) (s : State) (xs ys : List Event) → all_allowed z s (xs ++ ys) ≡ (all_allowed z s xs && all_allowed z (after_all s xs) ys)
allowed_both z s [] ys = refl
allowed_both z s (x ∷ xs) ys = ap (λ t. is_allowed z s x && t) (allowed_both z (after s x) xs ys) ∙ sym (and_assoc (is_allowed z s x) (all_allowed z (after s x) xs) (all_allowed z (after_all (after s x) xs) ys))

pub both_allowed : (z : Sizes) (s : State) (xs ys : List Event) → all_allowed z s xs ≡ true → all_allowed z (after_all s xs) ys ≡ true → all_allowed z s (xs ++ ys) ≡ true
both_allowed z s xs ys one two = allowed_both z s xs ys ∙ (λ i. one i && two i)

module _ (work : List (List (ℕ × Owner))) where
  pub chosen_more : (s : State) (ws : List ℕ) (w : ℕ) → chosen work s (ws ++ w ∷ []) ≡ chosen work s ws ++ turn work (after_all s (chosen work s ws)) w
  chosen_more s [] w = append-nil (turn work s w)
  chosen_more s (v ∷ ws) w = ap (λ es. turn work s v ++ es) (chosen_more (after_all s (turn work s v)) ws w)
      ∙ (sym (append_assoc (turn work s v) (chosen work (after_all s (turn work s v)) ws) (turn work (after_all (after_all s (turn work s v)) (chosen work (after_all s (turn work s v)) ws)) w))
      ∙ ap (λ x. (turn work s v ++ chosen work (after_all s (turn work s v)) ws) ++ turn work x w) (sym (after_both s (turn work s v) (chosen work (after_all s (turn work s v)) ws))))

  -- ---- one turn

  pub took : (w : ℕ) (old new : Progress) (e : Event) (p : Pace) → turn work old.state w ≡ e ∷ [] → is_allowed old.sizes old.state e ≡ true → new.sizes ≡ old.sizes → new.state ≡ after old.state e → new.paces.items ≡ set old.paces.items w p → w < length old.paces.items
      → Running old.sizes work (after old.state e) (set old.paces.items w p) → effort work (after old.state e).cursor p < effort work old.state.cursor (pace_of old.paces.items w) → TookTurn work w old new true
  took w old new e p is ok sizes state paces here running less = record {
    goes_on = record { sizes = sizes; running = subst (λ (x : Sizes × State × List Pace). Running x.0 work x.1 x.2) (λ i. (sym sizes i, sym state i, sym paces i)) running };
    allowed = ap (all_allowed old.sizes old.state) is ∙ (λ i. ok i && true);
    state = state ∙ ap (after_all old.state) (sym is);
    none = λ no. absurd (false≢true (sym no));
    less = λ _. subst (λ (x : ℕ × Pace). effort work x.0 x.1 < effort work old.state.cursor (pace_of old.paces.items w))
        (λ i. ((sym state i).cursor, sym (ap (λ ps. pace_of ps w) paces ∙ get_or-set_same old.paces.items w p (record { ticket = 0; made = 0; lost = None; ended = false }) here) i)) less;
  }

  pub took_none : (w : ℕ) (old : Progress) → turn work old.state w ≡ [] → Running old.sizes work old.state old.paces.items → TookTurn work w old old false
  took_none w old is running = record {
    goes_on = record { sizes = refl; running = running };
    allowed = ap (all_allowed old.sizes old.state) is;
    state = ap (after_all old.state) (sym is);
    none = λ _. is;
    less = λ yes. absurd (false≢true yes);
  }

  -- ---- the turns of a schedule

  pub no_turns : (old : Progress) → Running old.sizes work old.state old.paces.items → TookTurns work [] old old
  no_turns old running = record { goes_on = record { sizes = refl; running = running }; allowed = refl; state = refl }

  pub more_turns : (ws : List ℕ) (w : ℕ) (old mid new : Progress) (t : Bool) → TookTurns work ws old mid → TookTurn work w mid new t → TookTurns work (ws ++ w ∷ []) old new
  more_turns ws w old mid new t turns one = record {
    goes_on = record { sizes = one.goes_on.sizes ∙ turns.goes_on.sizes; running = one.goes_on.running };
    allowed = ap (all_allowed old.sizes old.state) (chosen_more old.state ws w)
        ∙ both_allowed old.sizes old.state (chosen work old.state ws) (turn work (after_all old.state (chosen work old.state ws)) w) turns.allowed (subst (λ (x : Sizes × State). all_allowed x.0 x.1 (turn work x.1 w) ≡ true) (λ i. (turns.goes_on.sizes i, turns.state i)) one.allowed);
    state = one.state ∙ (ap (λ (s : State). after_all s (turn work s w)) turns.state ∙ (sym (after_both old.state (chosen work old.state ws) (turn work (after_all old.state (chosen work old.state ws)) w)) ∙ ap (after_all old.state) (sym (chosen_more old.state ws w))));
  }

  -- one worker once more
  pub more_own : (n w : ℕ) (old mid new : Progress) (t : Bool) → TookTurns work (replicate n w) old mid → TookTurn work w mid new t → TookTurns work (replicate (n + 1) w) old new
  more_own n w old mid new t turns one = subst (λ (ws : List ℕ). TookTurns work ws old new) (replicate-append-replicate n 1 w) (more_turns (replicate n w) w old mid new t turns one)

  -- ---- what other workers see

  event_others : (s : State) (w k : ℕ) (bs : List ℕ) (ps : List (ℕ × Owner)) (t : Bool) → k ≢ w → view_of (after_all s (next_event w bs ps t)) k ≡ view_of s k
  event_others s w k (b ∷ bs) ps t other = get_or-set_other s.views w k (with_mark (view_of s w) b) (nothing 0) other
  event_others s w k [] (p ∷ ps) t other = get_or-set_other s.views w k (with_record (view_of s w) (claim_of p.0 p.1 (has s.first p.0 == 0))) (nothing 0) other
  event_others s w k [] [] true other = refl
  event_others s w k [] [] false other = get_or-set_other s.views w k (with_number (view_of s w) s.cursor) (nothing 0) other

  turns_others : (n : ℕ) (s : State) (w k : ℕ) → k ≢ w → view_of (after_all s (chosen work s (replicate n w))) k ≡ view_of s k
  turns_others zero s w k other = refl
  turns_others (suc n) s w k other = ap (λ (x : State). view_of x k) (after_both s (turn work s w) (chosen work (after_all s (turn work s w)) (replicate n w)))
      ∙ (turns_others n (after_all s (turn work s w)) w k other ∙ event_others s w k (unmarked_blocks (view_of s w).records) (claims_left work (view_of s w)) (ltb 0 (past (length work) (view_of s w).numbers)) other)

  same_turn : (s t : State) (k : ℕ) → view_of s k ≡ view_of t k → turn work s k ≡ turn work t k
  same_turn s t k e = ap (λ (v : View). next_event k (unmarked_blocks v.records) (claims_left work v) (ltb 0 (past (length work) v.numbers))) e

  -- ---- one worker's end

  pub ran : (n w : ℕ) (old mid new : Progress) → TookTurns work (replicate n w) old mid → TookTurn work w mid new false → RanToEnd work w old new
  ran n w old mid new turns one =
      let none = one.none refl in
      let stays : new.state ≡ mid.state = one.state ∙ ap (after_all mid.state) none in
      let state : new.state ≡ after_all old.state (chosen work old.state (replicate n w)) = stays ∙ turns.state in
      let ended : turn work new.state w ≡ [] = ap (λ (s : State). turn work s w) stays ∙ none in record {
        goes_on = record { sizes = one.goes_on.sizes ∙ turns.goes_on.sizes; running = one.goes_on.running };
        events = chosen work old.state (replicate n w);
        own = record { turns = n; own = refl; ended = ap (λ (s : State). turn work s w) (sym state) ∙ ended };
        allowed = turns.allowed;
        state = state;
        others = λ k l before. dite (ℕ_discrete k w)
            (λ same. ap (turn work new.state) same ∙ ended)
            (λ other. same_turn new.state old.state k (ap (λ (s : State). view_of s k) state ∙ turns_others n old.state w k other) ∙ before);
      }

  -- ---- the ends of all

  pub none_ran : (old : Progress) → Running old.sizes work old.state old.paces.items → RanInOrder work 0 old old
  none_ran old running = record { goes_on = record { sizes = refl; running = running }; events = []; in_order = refl; allowed = refl; state = refl; ended = λ k l. absurd (omega arith) }

  pub more_ran : (n : ℕ) (old mid new : Progress) → n < old.sizes.workers → RanInOrder work n old mid → RanToEnd work n mid new → RanInOrder work (n + 1) old new
  more_ran n old mid new here before one = subst (λ (k : ℕ). RanInOrder work k old new) (sym (add-one n)) record {
    goes_on = record { sizes = one.goes_on.sizes ∙ before.goes_on.sizes; running = one.goes_on.running };
    events = before.events ++ one.events;
    in_order = (before.events, one.events, refl, before.in_order, subst (λ (s : State). RunsToEnd work s n one.events) before.state one.own);
    allowed = both_allowed old.sizes old.state before.events one.events before.allowed (subst (λ (x : Sizes × State). all_allowed x.0 x.1 one.events ≡ true) (λ i. (before.goes_on.sizes i, before.state i)) one.allowed);
    state = one.state ∙ (ap (λ (s : State). after_all s one.events) before.state ∙ sym (after_both old.state before.events one.events));
    ended = λ k l. dite (ℕ_discrete k n)
        (λ same. ap (turn work new.state) same ∙ (ap (λ (s : State). turn work s n) one.state ∙ one.own.ended))
        (λ other. let sizes = ap (λ (z : Sizes). z.workers) before.goes_on.sizes in one.others k (omega arith) (before.ended k (omega arith)));
  }

-- ---- a state in which no worker has a turn is finished

no_event : (w : ℕ) (bs : List ℕ) (ps : List (ℕ × Owner)) (t : Bool) → next_event w bs ps t ≡ [] → (bs ≡ []) × (ps ≡ []) × (t ≡ true)
no_event w (b ∷ bs) ps t e = cc
no_event w [] (p ∷ ps) t e = cc
no_event w [] [] true e = (refl, refl, refl)
no_event w [] [] false e = cc

none_unmarked : (b : ℕ) (rs : List Record) → unmarked_blocks rs ≡ [] → count_by (is_unmarked b) rs ≡ 0
none_unmarked b [] e = refl
none_unmarked b (r ∷ rs) e = go (not r.won && not r.marked) refl e (none_unmarked b rs) where
  go : (t : Bool) → (not r.won && not r.marked) ≡ t → cond t (r.block ∷ unmarked_blocks rs) (unmarked_blocks rs) ≡ [] → (unmarked_blocks rs ≡ [] → count_by (is_unmarked b) rs ≡ 0) → count_by (is_unmarked b) (r ∷ rs) ≡ 0
  go true is e rest = cc
  go false is e rest = let sum = sum_by-cons (λ q. cond (is_unmarked b q) 1 0) r rs in let none : ◌≡◌ {A = ℕ} (cond (is_unmarked b r) 1 0) 0 = ap (λ t. cond (t && (r.block == b)) 1 0) is in let rest' = rest e in omega arith

inside_at : {A : Type 0} (l : List A) (k : ℕ) (a : A) → get_elem? l k ≡ some a → k < length l
inside_at [] k a e = absurd (some-ne-none a (sym e))
inside_at (x ∷ xs) zero a e = omega arith
inside_at (x ∷ xs) (suc k) a e = let rest = inside_at xs k a e in omega arith

module _ (z : Sizes) (work : List (List (ℕ × Owner))) (s : State) (paces : List Pace) (running : Running z work s paces) (legal : Legal z s) (some_worker : 0 < z.workers) (ended : (k : ℕ) → k < z.workers → turn work s k ≡ []) where
  ended_view : (k : ℕ) → k < z.workers → (unmarked_blocks (view_of s k).records ≡ []) × (claims_left work (view_of s k) ≡ []) × (ltb 0 (past (length work) (view_of s k).numbers) ≡ true)
  ended_view k l = no_event k (unmarked_blocks (view_of s k).records) (claims_left work (view_of s k)) (ltb 0 (past (length work) (view_of s k).numbers)) (ended k l)

  view_at : (k : ℕ) (v : View) → get_elem? s.views k ≡ some v → (k < z.workers) × (view_of s k ≡ v)
  view_at k v e = let l = inside_at s.views k v e in (rw (← running.workers) l, some-injective (view_of s k) v (sym (at_view s.views k (nothing 0) l) ∙ e))

  -- a worker that has no claim left has made those of its tickets
  all_made : (k : ℕ) → k < z.workers → map pair_of (view_of s k).records ≡ pairs_of work (view_of s k).numbers
  all_made k l = let keeps = running.each k l in let none : left_at work (pace_of paces k) ≡ [] = sym (left_is (view_of s k).records (left_at work (pace_of paces k)) (pairs_of work (view_of s k).numbers) keeps.pairs) ∙ (ended_view k l).1 in
      sym (append-nil (map pair_of (view_of s k).records)) ∙ (ap (λ ps. map pair_of (view_of s k).records ++ ps) (sym none) ∙ keeps.pairs)

  past_end : length work < s.cursor
  past_end = let test = (ended_view 0 some_worker).2 in let some_past : 0 < past (length work) (view_of s 0).numbers = grind (arith, test) in
      let some_past' : 0 < past z.tickets (view_of s 0).numbers = rw running.tickets some_past in
      let l : 0 < length s.views = rw running.workers some_worker in
      let part = sum_part (λ (v : View). past z.tickets v.numbers) s.views 0 (view_of s 0) (at_view s.views 0 (nothing 0) l) in let ends = legal.ends in let tickets = running.tickets in omega arith

  pub finished : Finished s work
  finished = record {
    drawn = λ t l. let numbers = legal.numbers t in let more = past_end in omega arith;
    records = λ k v e p. let at = view_at k v e in ap (pair_times p) (ap (λ (u : View). map pair_of u.records) (sym at.1) ∙ (all_made k at.0 ∙ ap (λ (u : View). pairs_of work u.numbers) at.1));
    marked = λ k v e b. let at = view_at k v e in ap (λ (u : View). count_by (is_unmarked b) u.records) (sym at.1) ∙ none_unmarked b (view_of s k).records (ended_view k at.0).0;
  }

-- ---- the whole replay

pub no_stranger : (workers : ℕ) (schedule : List ℕ) → first_stranger workers schedule ≡ None → (k : ℕ) → k < length schedule → get_or schedule k 0 < workers
no_stranger workers schedule none k l = ⊎_elim
    (λ found. absurd (let some_place : first_stranger workers schedule ≡ Some (position_or_len (λ w. leb workers w) schedule) = (let yes : ltb (position_or_len (λ w. leb workers w) schedule) (length schedule) ≡ true = grind (arith, found) in ap (λ t. cond t (Some (position_or_len (λ w. leb workers w) schedule)) None) yes) in let clash : ◌≡◌ {A = Option ℕ} None (Some (position_or_len (λ w. leb workers w) schedule)) = sym none ∙ some_place in cc))
    (λ end. let fails = fails_before_first (λ w. leb workers w) schedule k 0 (omega arith) in grind (arith, fails))
    (cases_lt (position_or_len (λ w. leb workers w) schedule) (length schedule))

module _ (z : Sizes) (work : List (List (ℕ × Owner))) (schedule : List ℕ) (one two three : Progress) (sizes : one.sizes ≡ z) (state : one.state ≡ start z) (turns : TookTurns work schedule one two) (ends : RanInOrder work z.workers two three) where
  two_state : two.state ≡ after_all (start z) (chosen work (start z) schedule)
  two_state = turns.state ∙ ap (λ (s : State). after_all s (chosen work s schedule)) state

  two_sizes : two.sizes ≡ z
  two_sizes = turns.goes_on.sizes ∙ sizes

  all_steps : all_allowed z (start z) (chosen work (start z) schedule ++ ends.events) ≡ true
  all_steps = both_allowed z (start z) (chosen work (start z) schedule) ends.events
      (subst (λ (x : Sizes × State). all_allowed x.0 x.1 (chosen work x.1 schedule) ≡ true) (λ i. (sizes i, state i)) turns.allowed)
      (subst (λ (x : Sizes × State). all_allowed x.0 x.1 ends.events ≡ true) (λ i. (two_sizes i, two_state i)) ends.allowed)

  last_state : three.state ≡ after_all (start z) (chosen work (start z) schedule ++ ends.events)
  last_state = ends.state ∙ (ap (λ (s : State). after_all s ends.events) two_state ∙ sym (after_both (start z) (chosen work (start z) schedule) ends.events))

  pub replayed : first_stranger z.workers schedule ≡ None → Replayed z work schedule three.state
  replayed named = record {
    named = named;
    ends = ends.events;
    in_order = subst (λ (s : State). RunInOrder work s z.workers ends.events) two_state ends.in_order;
    allowed = all_steps;
    state = last_state;
  }

  pub replayed_legal : Legal z three.state
  replayed_legal = subst (Legal z) (sym last_state) (every_list z (chosen work (start z) schedule ++ ends.events) all_steps)

  pub replayed_finished : 0 < z.workers → Finished three.state work
  replayed_finished some_worker = finished z work three.state three.paces.items (subst (λ (x : Sizes). Running x work three.state three.paces.items) (ends.goes_on.sizes ∙ two_sizes) ends.goes_on.running) replayed_legal some_worker ends.ended
