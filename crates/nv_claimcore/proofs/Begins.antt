-- What a replay begins with.
use Rattle.std.proofs.Common.{◌≡◌, ℕ, ◌+◌, ◌<◌, ◌^◌, List, [], length, replicate, false, refl, sym, ap, ◌∙◌, subst, arith}
use Rattle.std.specs.Prelude.{None}
use Rattle.std.proofs.lemmas.List.{length-replicate, get_or-replicate, get_or_past}
use Rattle.std.proofs.lemmas.List.Elements.{All-nil}
use Rattle.nv_super.specs.declared.owners.Owner.{Owner}
use Rattle.nv_claimcore.specs.declared.view.Sizes.{Sizes}
use Rattle.nv_claimcore.specs.declared.view.View.{View}
use Rattle.nv_claimcore.specs.declared.schedule.Pace.{Pace}
use Rattle.nv_claimcore.specs.Claims.{State, nothing, Settled}
use Rattle.nv_claimcore.specs.Events.{start, view_of}
use Rattle.nv_claimcore.specs.Replay.{Inside}
use Rattle.nv_claimcore.specs.Pace.{left_at, Keeps, Running, no_pace, pace_of}

-- a worker that has drawn no ticket
abbrev pub first_pace : ℕ → Pace
first_pace tickets = record { ticket = tickets; made = 0; lost = None; ended = false }

module _ (z : Sizes) (work : List (List (ℕ × Owner))) (tickets : z.tickets ≡ length work) where
  none_left : left_at work (first_pace z.tickets) ≡ []
  none_left = get_or_past work z.tickets [] (omega arith)

  keeps_first : Keeps work (nothing 1) (first_pace z.tickets)
  keeps_first = record { pairs = none_left; lost = All-nil Settled; ended = refl }

  pub begins : Inside z.blocks work → z.tickets + z.workers < 2 ^ 64 → (s : State) (paces : List Pace) → s ≡ start z → paces ≡ replicate z.workers (first_pace z.tickets) → Running z work s paces
  begins inside fits s paces is paced = record {
    tickets = tickets;
    inside = inside;
    reached = record { events = []; allowed = refl; is = is };
    fits = fits;
    workers = ap (λ (x : State). length x.views) is ∙ length-replicate z.workers (nothing 1);
    paced = ap length paced ∙ length-replicate z.workers (first_pace z.tickets);
    each = λ w l.
        let view : view_of s w ≡ nothing 1 = ap (λ (x : State). view_of x w) is ∙ get_or-replicate z.workers w (nothing 1) (nothing 0) l in
        let pace : pace_of paces w ≡ first_pace z.tickets = ap (λ ps. pace_of ps w) paced ∙ get_or-replicate z.workers w (first_pace z.tickets) no_pace l in
        subst (λ (x : View × Pace). Keeps work x.0 x.1) (λ i. (sym view i, sym pace i)) keeps_first;
  }
