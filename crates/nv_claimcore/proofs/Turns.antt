-- What each turn of a replay leaves.
use Rattle.std.proofs.Common.{◌≡◌, ℕ, ◌+◌, ◌*◌, ◌<◌, ◌≤◌, ◌/◌, ◌^◌, cond, ltb, leb, true, false, List, [], ◌∷◌, ◌++◌, length, map, drop, get_or, set, sym, refl, ap, ◌∙◌, subst, ⊎_elim, arith, length-set, append_assoc, add-one, get_or-set_same, get_or-set_other}
use Rattle.std.specs.Prelude.{◌==◌, Option, Some, None, MatchOption}
use Rattle.std.specs.List.{All, sum_by, count_by}
use Rattle.std.proofs.lemmas.List.{length-map, append-nil, drop_all, get_or_past}
use Rattle.std.proofs.Math.Seq.{drop-append_seam, drop-cons}
use Rattle.std.proofs.lemmas.List.Elements.{All-head, All-tail, All-nil, All-push, All-drop, All-get_or}
use Rattle.std.proofs.lemmas.List.Sums.{sum_by-cons, sum_by_push}
use Rattle.std.proofs.lemmas.Bool.{cases_lt, false≢true}
use mathlib.Core.Bool.{Bool, not, ◌&&◌}
use mathlib.Core.List.{map-append}
use mathlib.Core.Logic.{dite}
use mathlib.Core.Option.{some}
use lib.ListN.{get_elem?}
use native.Mathlib.Decide.{ℕ_discrete}
use Rattle.nv_blockset.specs.BlockSet.{has}
use Rattle.nv_blockset.proofs.Sets.{word_inside}
use Rattle.nv_super.specs.declared.owners.Owner.{Owner}
use Rattle.nv_claimcore.specs.declared.view.Sizes.{Sizes}
use Rattle.nv_claimcore.specs.declared.view.Record.{Record}
use Rattle.nv_claimcore.specs.declared.view.View.{View}
use Rattle.nv_claimcore.specs.declared.event.Event.{Event}
use Rattle.nv_claimcore.specs.declared.event.Event.TheVariants.{Draw, Claim, Mark}
use Rattle.nv_claimcore.specs.declared.schedule.Pace.{Pace}
use Rattle.nv_claimcore.specs.Claims.{State, Legal, past, is_unmarked, claim_of, mark, mark_first, with_number, with_record, with_mark, nothing, Settled, Owes}
use Rattle.nv_claimcore.specs.Events.{view_of, start, is_allowed, after}
use Rattle.nv_claimcore.specs.Finished.{pair_of, pairs_at, pairs_of}
use Rattle.nv_claimcore.specs.Replay.{unmarked_blocks, next_event, turn}
use Rattle.nv_claimcore.specs.Pace.{left_at, Keeps, Running, no_pace, pace_of, marked_pace, owed, undrawn, effort}
use Rattle.nv_claimcore.proofs.Keeps.{draw_small}
use Rattle.nv_claimcore.proofs.Lists.{at_view, every_list, every_seat, allowed_more, after_more, mark_place}
use Rattle.nv_claimcore.proofs.Marks.{marks_last, unmarked_last}

-- ---- a turn, told by what is kept of the worker

settled_unmarked : (w m : Bool) → m ≡ not w → (not w && not m) ≡ false
settled_unmarked true m e = refl
settled_unmarked false true e = refl
settled_unmarked false false e = absurd (false≢true e)

unmarked_after : (before rest : List Record) → All Settled before → unmarked_blocks (before ++ rest) ≡ unmarked_blocks rest
unmarked_after [] rest all = refl
unmarked_after (r ∷ rs) rest all = ap (λ t. cond t (r.block ∷ unmarked_blocks (rs ++ rest)) (unmarked_blocks (rs ++ rest))) (settled_unmarked r.won r.marked (All-head Settled r rs all)) ∙ unmarked_after rs rest (All-tail Settled r rs all)

unmarked_none : (rs : List Record) → All Settled rs → unmarked_blocks rs ≡ []
unmarked_none rs all = ap unmarked_blocks (sym (append-nil rs)) ∙ unmarked_after rs [] all

unmarked_is : (lost : Option ℕ) (rs : List Record) → MatchOption lost (All Settled rs) (λ b. Owes b rs) → unmarked_blocks rs ≡ owed lost
unmarked_is None rs all = unmarked_none rs all
unmarked_is (Some b) rs owes = ap unmarked_blocks owes.2 ∙ unmarked_after owes.0 (claim_of b owes.1 false ∷ []) owes.3

pub left_is : (rs : List Record) (left ps : List (ℕ × Owner)) → map pair_of rs ++ left ≡ ps → drop (length rs) ps ≡ left
left_is rs left ps e = ap (drop (length rs)) (sym e) ∙ (ap (λ n. drop n (map pair_of rs ++ left)) (sym (length-map rs pair_of)) ∙ drop-append_seam (map pair_of rs) left)

pub turn_is : (work : List (List (ℕ × Owner))) (s : State) (w : ℕ) (p : Pace) → Keeps work (view_of s w) p → turn work s w ≡ next_event w (owed p.lost) (left_at work p) p.ended
turn_is work s w p keeps = λ i. next_event w (unmarked_is p.lost (view_of s w).records keeps.lost i) (left_is (view_of s w).records (left_at work p) (pairs_of work (view_of s w).numbers) keeps.pairs i) (sym keeps.ended i)

-- ---- what a claim and a draw find

-- the worker owes no mark, and the next claim of its last ticket is the pair
pub record IsNext (work : List (List (ℕ × Owner))) (p : Pace) (pair : ℕ × Owner) : Type 0 where
  pub lost : p.lost ≡ None
  pub next : left_at work p ≡ pair ∷ drop (p.made + 1) (pairs_at work p.ticket)
  pub room : p.made + 1 < 2 ^ 64

-- the worker owes no mark, its last ticket has no claim left, and it has not drawn past the end
pub record IsDone (work : List (List (ℕ × Owner))) (p : Pace) : Type 0 where
  pub lost : p.lost ≡ None
  pub left : left_at work p ≡ []
  pub ended : p.ended ≡ false

-- ---- one worker's view changes

module _ (z : Sizes) (work : List (List (ℕ × Owner))) (s : State) (paces : List Pace) (running : Running z work s paces) (w : ℕ) (here : w < z.workers) where
  pub legal : Legal z s
  legal = subst (Legal z) (sym running.reached.is) (every_list z running.reached.events running.reached.allowed)

  pub in_views : w < length s.views
  in_views = rw running.workers here

  pub in_paces : w < length paces
  in_paces = rw running.paced here

  is_here : ltb w (length s.views) ≡ true
  is_here = let h = in_views in grind (arith, h)

  pub turned : (e : Event) (v : View) (p : Pace) → is_allowed z s e ≡ true → (after s e).views ≡ set s.views w v → Keeps work v p → Running z work (after s e) (set paces w p)
  turned e v p ok views keeps = record {
    tickets = running.tickets;
    inside = running.inside;
    reached = record {
      events = running.reached.events ++ e ∷ [];
      allowed = allowed_more z (start z) running.reached.events e ∙ (λ i. running.reached.allowed i && is_allowed z (sym running.reached.is i) e) ∙ ok;
      is = ap (λ (x : State). after x e) running.reached.is ∙ sym (after_more (start z) running.reached.events e);
    };
    fits = running.fits;
    workers = ap length views ∙ (length-set s.views w v ∙ running.workers);
    paced = length-set paces w p ∙ running.paced;
    each = λ k l. dite (ℕ_discrete k w)
        (λ same. subst (λ (j : ℕ). Keeps work (view_of (after s e) j) (pace_of (set paces w p) j)) (sym same)
        (subst (λ (x : View × Pace). Keeps work x.0 x.1) (λ i. (sym (ap (λ vs. get_or vs w (nothing 0)) views ∙ get_or-set_same s.views w v (nothing 0) in_views) i, sym (get_or-set_same paces w p no_pace in_paces) i)) keeps))
        (λ other. subst (λ (x : View × Pace). Keeps work x.0 x.1) (λ i. (sym (ap (λ vs. get_or vs k (nothing 0)) views ∙ get_or-set_other s.views w k v (nothing 0) other) i, sym (get_or-set_other paces w k p no_pace other) i)) (running.each k l));
  }

  keeps_here : Keeps work (view_of s w) (pace_of paces w)
  keeps_here = running.each w here

  -- ---- a mark

  module _ (b : ℕ) (lost : (pace_of paces w).lost ≡ Some b) where
    pub owes_here : Owes b (view_of s w).records
    owes_here = subst (λ (o : Option ℕ). MatchOption o (All Settled (view_of s w).records) (λ c. Owes c (view_of s w).records)) lost keeps_here.lost

    some_unmarked : 0 < count_by (is_unmarked b) (view_of s w).records
    some_unmarked = rw owes_here.2 (unmarked_last b owes_here.1 owes_here.0)

    pub mark_allowed : is_allowed z s (Mark w b) ≡ true
    mark_allowed = let h = some_unmarked in let more : ltb 0 (count_by (is_unmarked b) (view_of s w).records) ≡ true = grind (arith, h) in λ i. is_here i && more i

    pub mark_turn : turn work s w ≡ Mark w b ∷ []
    mark_turn = turn_is work s w (pace_of paces w) keeps_here ∙ ap (λ (o : Option ℕ). next_event w (owed o) (left_at work (pace_of paces w)) (pace_of paces w).ended) lost

    mark_kept : Keeps work (with_mark (view_of s w) b) (marked_pace (pace_of paces w))
    mark_kept = let now : mark_first b (view_of s w).records ≡ owes_here.0 ++ mark (claim_of b owes_here.1 false) ∷ [] = ap (mark_first b) owes_here.2 ∙ marks_last b owes_here.1 owes_here.0 owes_here.3 in record {
      pairs = ap (λ ps. ps ++ left_at work (pace_of paces w)) (ap (map pair_of) now ∙ (map-append pair_of owes_here.0 (mark (claim_of b owes_here.1 false) ∷ []) ∙ (sym (map-append pair_of owes_here.0 (claim_of b owes_here.1 false ∷ [])) ∙ ap (map pair_of) (sym owes_here.2)))) ∙ keeps_here.pairs;
      lost = subst (All Settled) (sym now) (All-push Settled owes_here.0 (mark (claim_of b owes_here.1 false)) owes_here.3 refl);
      ended = keeps_here.ended;
    }

    pub mark_word : b / 64 < length s.second
    mark_word = (mark_place z s legal w b mark_allowed).1

    pub mark_running : Running z work (after s (Mark w b)) (set paces w (marked_pace (pace_of paces w)))
    mark_running = turned (Mark w b) (with_mark (view_of s w) b) (marked_pace (pace_of paces w)) mark_allowed refl mark_kept

    pub mark_less : effort work s.cursor (marked_pace (pace_of paces w)) < effort work s.cursor (pace_of paces w)
    mark_less = let one : length (owed (pace_of paces w).lost) ≡ 1 = ap (λ (o : Option ℕ). length (owed o)) lost in omega arith

  -- ---- a claim

  inside_left : (p : Pace) → All (λ (q : ℕ × Owner). q.0 < z.blocks) (left_at work p)
  inside_left p = All-drop (λ (q : ℕ × Owner). q.0 < z.blocks) p.made (pairs_at work p.ticket) (⊎_elim
      (λ l. All-get_or (All (λ (q : ℕ × Owner). q.0 < z.blocks)) work p.ticket [] l running.inside)
      (λ l. subst (All (λ (q : ℕ × Owner). q.0 < z.blocks)) (sym (get_or_past work p.ticket [] l)) (All-nil (λ (q : ℕ × Owner). q.0 < z.blocks)))
      (cases_lt p.ticket (length work)))

  module _ (b : ℕ) (o : Owner) (next : IsNext work (pace_of paces w) (b, o)) where
    claim_inside : b < z.blocks
    claim_inside = All-head (λ (q : ℕ × Owner). q.0 < z.blocks) (b, o) (drop ((pace_of paces w).made + 1) (pairs_at work (pace_of paces w).ticket)) (subst (All (λ (q : ℕ × Owner). q.0 < z.blocks)) next.next (inside_left (pace_of paces w)))

    pub claim_allowed : is_allowed z s (Claim w b o) ≡ true
    claim_allowed = let h = claim_inside in let more : ltb b z.blocks ≡ true = grind (arith, h) in λ i. is_here i && more i

    pub claim_word : b / 64 < length s.first
    claim_word = rw legal.first_words (word_inside b z.blocks claim_inside)

    pub claim_turn : turn work s w ≡ Claim w b o ∷ []
    claim_turn = turn_is work s w (pace_of paces w) keeps_here ∙ (λ i. next_event w (owed (next.lost i)) (next.next i) (pace_of paces w).ended)

    settled_here : All Settled (view_of s w).records
    settled_here = subst (λ (x : Option ℕ). MatchOption x (All Settled (view_of s w).records) (λ c. Owes c (view_of s w).records)) next.lost keeps_here.lost

    claim_lost : (won : Bool) (lost : Option ℕ) → lost ≡ cond won None (Some b) → MatchOption lost (All Settled ((view_of s w).records ++ claim_of b o won ∷ [])) (λ c. Owes c ((view_of s w).records ++ claim_of b o won ∷ []))
    claim_lost true lost e = subst (λ (x : Option ℕ). MatchOption x (All Settled ((view_of s w).records ++ claim_of b o true ∷ [])) (λ c. Owes c ((view_of s w).records ++ claim_of b o true ∷ []))) (sym e) (All-push Settled (view_of s w).records (claim_of b o true) settled_here refl)
    claim_lost false lost e = subst (λ (x : Option ℕ). MatchOption x (All Settled ((view_of s w).records ++ claim_of b o false ∷ [])) (λ c. Owes c ((view_of s w).records ++ claim_of b o false ∷ []))) (sym e) ((view_of s w).records, o, refl, settled_here)

    module _ (p : Pace) (ticket : p.ticket ≡ (pace_of paces w).ticket) (made : p.made ≡ (pace_of paces w).made + 1) (lost : p.lost ≡ cond (has s.first b == 0) None (Some b)) (ended : p.ended ≡ (pace_of paces w).ended) where
      left_now : left_at work p ≡ drop ((pace_of paces w).made + 1) (pairs_at work (pace_of paces w).ticket)
      left_now = λ i. drop (made i) (pairs_at work (ticket i))

      claim_kept : Keeps work (with_record (view_of s w) (claim_of b o (has s.first b == 0))) p
      claim_kept = record {
        pairs = (λ i. map-append pair_of (view_of s w).records (claim_of b o (has s.first b == 0) ∷ []) i ++ left_now i)
            ∙ (append_assoc (map pair_of (view_of s w).records) ((b, o) ∷ []) (drop ((pace_of paces w).made + 1) (pairs_at work (pace_of paces w).ticket))
            ∙ (ap (λ ps. map pair_of (view_of s w).records ++ ps) (sym next.next) ∙ keeps_here.pairs));
        lost = claim_lost (has s.first b == 0) p.lost lost;
        ended = ended ∙ keeps_here.ended;
      }

      pub claim_running : Running z work (after s (Claim w b o)) (set paces w p)
      claim_running = turned (Claim w b o) (with_record (view_of s w) (claim_of b o (has s.first b == 0))) p claim_allowed refl claim_kept

      owed_most : (t : Bool) → length (owed (cond t None (Some b))) ≤ 1
      owed_most true = omega arith
      owed_most false = omega arith

      pub claim_less : effort work s.cursor p < effort work s.cursor (pace_of paces w)
      claim_less = let l : length (left_at work (pace_of paces w)) ≡ length (left_at work p) + 1 = ap length next.next ∙ (sym (add-one (length (drop ((pace_of paces w).made + 1) (pairs_at work (pace_of paces w).ticket)))) ∙ ap (λ ps. length ps + 1) (sym left_now)) in
          let most : length (owed p.lost) ≤ 1 = subst (λ (x : Option ℕ). length (owed x) ≤ 1) (sym lost) (owed_most (has s.first b == 0)) in
          let same : ◌≡◌ {A = ℕ} (cond p.ended 0 1) (cond (pace_of paces w).ended 0 1) = ap (λ t. cond t 0 1) ended in omega arith

  -- ---- a draw

  module _ (done : IsDone work (pace_of paces w)) where
    pub draw_turn : turn work s w ≡ Draw w ∷ []
    draw_turn = turn_is work s w (pace_of paces w) keeps_here ∙ (λ i. next_event w (owed (done.lost i)) (done.left i) (done.ended i))

    none_past : past z.tickets (view_of s w).numbers ≡ 0
    none_past = let h : ltb 0 (past (length work) (view_of s w).numbers) ≡ false = sym keeps_here.ended ∙ done.ended in let none : past (length work) (view_of s w).numbers ≡ 0 = grind (arith, h) in rw running.tickets none

    pub draw_allowed : is_allowed z s (Draw w) ≡ true
    draw_allowed = λ i. is_here i && (none_past i == 0)

    one_seat : (view_of s w).seats ≡ 1
    one_seat = every_seat z running.reached.events running.reached.allowed w (view_of s w) (subst (λ (x : State). get_elem? x.views w ≡ some (view_of s w)) running.reached.is (at_view s.views w (nothing 0) in_views))

    -- so the cursor does not wrap
    pub draw_fits : s.cursor + 1 < 2 ^ 64
    draw_fits = let one = one_seat in let none = none_past in let small = draw_small z s legal w (view_of s w) (at_view s.views w (nothing 0) in_views) (omega arith) in let fits = running.fits in omega arith

    pairs_more : (ts : List ℕ) (t : ℕ) → pairs_of work (ts ++ t ∷ []) ≡ pairs_of work ts ++ pairs_at work t
    pairs_more [] t = append-nil (pairs_at work t)
    pairs_more (u ∷ ts) t = ap (λ ps. pairs_at work u ++ ps) (pairs_more ts t) ∙ sym (append_assoc (pairs_at work u) (pairs_of work ts) (pairs_at work t))

    past_more : (ended : Bool) → ended ≡ leb (length work) s.cursor → ended ≡ ltb 0 (past (length work) ((view_of s w).numbers ++ s.cursor ∷ []))
    past_more ended e = let none : past (length work) (view_of s w).numbers ≡ 0 = subst (λ (n : ℕ). past n (view_of s w).numbers ≡ 0) running.tickets none_past in
        let more : past (length work) ((view_of s w).numbers ++ s.cursor ∷ []) ≡ past (length work) (view_of s w).numbers + cond (leb (length work) s.cursor) 1 0 = sum_by_push (λ y. cond (leb (length work) y) 1 0) (view_of s w).numbers s.cursor in
        e ∙ (test (leb (length work) s.cursor) ∙ ap (ltb 0) (sym (more ∙ ap (λ n. n + cond (leb (length work) s.cursor) 1 0) none))) where
          test : (t : Bool) → t ≡ ltb 0 (0 + cond t 1 0)
          test true = refl
          test false = refl

    module _ (p : Pace) (ticket : p.ticket ≡ s.cursor) (made : p.made ≡ 0) (lost : p.lost ≡ None) (ended : p.ended ≡ leb z.tickets s.cursor) where
      left_new : left_at work p ≡ pairs_at work s.cursor
      left_new = λ i. drop (made i) (pairs_at work (ticket i))

      ended' : p.ended ≡ leb (length work) s.cursor
      ended' = ended ∙ ap (λ n. leb n s.cursor) running.tickets

      draw_kept : Keeps work (with_number (view_of s w) s.cursor) p
      draw_kept = record {
        pairs = ap (λ ps. map pair_of (view_of s w).records ++ ps) left_new
            ∙ (ap (λ ps. ps ++ pairs_at work s.cursor) (sym (append-nil (map pair_of (view_of s w).records)) ∙ (ap (λ ps. map pair_of (view_of s w).records ++ ps) (sym done.left) ∙ keeps_here.pairs))
            ∙ sym (pairs_more (view_of s w).numbers s.cursor));
        lost = subst (λ (x : Option ℕ). MatchOption x (All Settled (view_of s w).records) (λ c. Owes c (view_of s w).records)) (done.lost ∙ sym lost) keeps_here.lost;
        ended = past_more p.ended ended';
      }

      pub draw_running : Running z work (after s (Draw w)) (set paces w p)
      draw_running = turned (Draw w) (with_number (view_of s w) s.cursor) p draw_allowed refl draw_kept

      undrawn_less : (t : Bool) → leb (length work) s.cursor ≡ t → undrawn work (s.cursor + 1) + 2 * length (pairs_at work s.cursor) + cond t 0 1 < undrawn work s.cursor + 1
      undrawn_less true e = let past_end : length work ≤ s.cursor = grind (arith, e) in let none : undrawn work (s.cursor + 1) ≡ 0 = ap (sum_by (λ ps. 1 + 2 * length ps)) (drop_all (s.cursor + 1) work (omega arith)) in
          let no_pairs : length (pairs_at work s.cursor) ≡ 0 = ap length (get_or_past work s.cursor [] past_end) in omega arith
      undrawn_less false e = let before : s.cursor < length work = grind (arith, e) in
          let cut : drop s.cursor work ≡ pairs_at work s.cursor ∷ drop (s.cursor + 1) work = drop-cons work s.cursor [] before ∙ ap (λ n. pairs_at work s.cursor ∷ drop n work) (sym (add-one s.cursor)) in
          let all : undrawn work s.cursor ≡ sum_by (λ ps. 1 + 2 * length ps) (pairs_at work s.cursor ∷ drop (s.cursor + 1) work) = ap (sum_by (λ ps. 1 + 2 * length ps)) cut in
          let sum = sum_by-cons (λ (ps : List (ℕ × Owner)). 1 + 2 * length ps) (pairs_at work s.cursor) (drop (s.cursor + 1) work) in omega arith

      pub draw_less : effort work (s.cursor + 1) p < effort work s.cursor (pace_of paces w)
      draw_less = let less = undrawn_less (leb (length work) s.cursor) refl in
          let new_left : length (left_at work p) ≡ length (pairs_at work s.cursor) = ap length left_new in
          let old_left : length (left_at work (pace_of paces w)) ≡ 0 = ap length done.left in
          let new_owed : length (owed p.lost) ≡ 0 = ap (λ x. length (owed x)) lost in
          let new_ended : ◌≡◌ {A = ℕ} (cond p.ended 0 1) (cond (leb (length work) s.cursor) 0 1) = ap (λ t. cond t 0 1) ended' in
          let old_ended : ◌≡◌ {A = ℕ} (cond (pace_of paces w).ended 0 1) 1 = ap (λ t. cond t 0 1) done.ended in omega arith
