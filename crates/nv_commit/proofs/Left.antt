-- What recovery finds in a region that a stop has left.
use Rattle.std.proofs.Common.{◌≡◌, ◌⊎◌, ℕ, List, [], length, get_or, inl, inr, refl, ap, sym, ◌∙◌, subst, arith, Option, Some, None}
use Rattle.std.specs.List.{Contains}
use Rattle.nv_region.specs.Region.{Region}
use Rattle.nv_region.specs.Stops.{Adds, Choices, IsMixed, LeavesOnly, NothingPending, PendingOnly}
use Rattle.nv_region.proofs.Stops.{fenced_leaves}
use Rattle.nv_super.proofs.Members.{none_in}
use Rattle.nv_super.specs.declared.superblock.Super.{Super}
use Rattle.nv_super.specs.declared.owners.Run.{Run}
use Rattle.nv_super.specs.declared.faults.Fault.{Fault}
use Rattle.nv_super.specs.Layout.{Layout}
use Rattle.nv_super.specs.Super.{IsSuper}
use Rattle.nv_inode.specs.Chains.{layout_of}
use Rattle.nv_journal.specs.Undo.{undone}
use Rattle.nv_scan.specs.Faults.{IsFaultOf}
use Rattle.nv_outcome.specs.Outcome.{IsCrossFault, IsDoubled, IsFaulty, journal, chain, inode, cross, double, Outcome, IsOutcome}
use Rattle.nv_outcome.specs.Same.{SameOutcome, lasting_outcome}
use Rattle.nv_scan.specs.declared.piece.Row.{Row}
use Rattle.nv_outcome.proofs.Again.{rolled_back}
use Rattle.nv_outcome.proofs.OnlyOne.{same_outcome}
use Rattle.nv_outcome.proofs.SuperOf.{one_super}
use Rattle.nv_graph.proofs.Bridge.{no_faults}
use Rattle.nv_mounted.specs.Held.{Held, Store, Shows, log_of}
use Rattle.nv_mounted.specs.Bytes.{byte_of}
use Rattle.nv_mounted.specs.Loose.{Loose}
use Rattle.nv_mounted.specs.Mounted.{Keeps, ShowsSound, faultless_outcome}
use Rattle.nv_scan.specs.Inode.{Log}
use Rattle.nv_mounted.proofs.BytesKept.{loose_data}
use Rattle.nv_mounted.proofs.Closes.{closing, no_inode_fault, none_doubled, outcome_faultless, outcome_kept, own_undo}
use Rattle.nv_mounted.proofs.Fronts.{loose_sound, sound_clear}
use Rattle.nv_mounted.proofs.Idle.{idle_faultless}
use Rattle.nv_mounted.proofs.Opens.{none_listed}
use Rattle.nv_mounted.proofs.Shown.{in_use, is_held}
use Rattle.nv_mounted.proofs.ShownGraph.{graph_shown}
use Rattle.nv_commit.specs.Stopped.{CanRecover, LeavesEither, RollsBackTo}

-- ---- the outcome

module _ {left : Region} {l : Layout} {after : Store} (can : CanRecover l.sup left) (sound : ShowsSound (undone l.sup left) l after) where
  own : (P : Layout → Type 0) → P (layout_of l.sup (undone l.sup left)) → P l
  own P h = subst P (sym sound.laid) h

  no_fault_left : (f : Fault) → IsFaulty left l.sup f → ⊥
  no_fault_left f (journal h) = can.journals f h
  no_fault_left f (chain h) = none_in f (subst (λ (fs : List Fault). Contains fs f) sound.ended h)
  no_fault_left f (inode i h) = let right = sound.faultless in no_inode_fault sound.shows right.clean i f (own (λ k. IsFaultOf (undone l.sup left) k i f) h)
  no_fault_left f (cross h) = let right = sound.faultless in no_faults (graph_shown sound.shows) right.named f (own (λ k. IsCrossFault (undone l.sup left) k f) h)
  no_fault_left _ (double {b = b} {o = o} d) = let right = sound.faultless in none_doubled sound.shows right.undoubled b o (own (λ k. IsDoubled (undone l.sup left) k b o) d)

  module _ (o : Outcome) (is : IsOutcome left o) where
    same_super : o.sup ≡ l.sup
    same_super = one_super left l.sup o.sup can.sup is.sup

    -- it has no faults
    pub left_faultless : o.faults ≡ []
    left_faultless = none_listed o.faults (λ f c. no_fault_left f (subst (λ (t : Super). IsFaulty left t f) same_super (is.faults.each f c)))

    rolled : IsOutcome (undone l.sup left) (lasting_outcome o)
    rolled = subst (λ (t : Super). IsOutcome (undone t left) (lasting_outcome o)) same_super (rolled_back left o is)

    -- its rows and free lists are those of what is held then
    pub left_keeps : Keeps l after o.rows o.free
    left_keeps = outcome_kept sound (lasting_outcome o) rolled

    -- and it is the one outcome that these rows and free lists make
    pub left_same : (rows : List Row) (free : List (List Run)) → Keeps l after rows free → SameOutcome (faultless_outcome l rows free) o
    left_same rows free keeps =
        let same = same_outcome (undone l.sup left) (faultless_outcome l rows free) (lasting_outcome o) (closing sound rows free keeps) rolled in
        record { sup = same_super; tables = same.tables; rows = same.rows; free = same.free; doubled = same.doubled; faults = left_faultless }

-- ---- a region that is its own undo

pub sound_can : {left : Region} {l : Layout} {after : Store} → ShowsSound left l after → CanRecover l.sup left
sound_can {left} {l} sound = record { sup = sound.sup; journals = λ f h. idle_faultless l.sup left f sound.idle h }

-- one that is sound
pub sound_recovers : (R left : Region) (l : Layout) (held after : Store) → ShowsSound left l after → ((i : ℕ) (h : Held) → held i ≡ Some h → (x : ℕ) → byte_of left l h x ≡ byte_of R l h x) → RollsBackTo R l held after left
sound_recovers R left l held after sound bytes = record {
  can = sound_can sound;
  sound = subst (λ (U : Region). ShowsSound U l after) (sym (own_undo sound)) sound;
  bytes = λ i h is x. subst (λ (U : Region). byte_of U l h x ≡ byte_of R l h x) (sym (own_undo sound)) (bytes i h is x);
}

-- What is stored in loose words changes nothing that recovery finds.
pub loose_recovers : (R left : Region) (l : Layout) (held : Store) → ShowsSound R l held → IsMixed R (Loose l held) left → RollsBackTo R l held held left
loose_recovers R left l held m mixed =
    let right = m.faultless in
    sound_recovers R left l held held (loose_sound R left l held m mixed)
    (λ i h is x. loose_data l held R left i h (sound_clear m) right.undoubled m.shows mixed is x)

pub itself_recovers : (R : Region) (l : Layout) (held : Store) → ShowsSound R l held → RollsBackTo R l held held R
itself_recovers R l held sound = sound_recovers R R l held held sound (λ i h is x k. byte_of R l h x)

-- nor does a stop where nothing was pending
pub still : (R : Region) (choices : Choices) (l : Layout) (held : Store) (Made : Region → Type 0) → ShowsSound R l held → NothingPending R choices → LeavesOnly R choices (LeavesEither R l held Made)
still R choices l held Made sound settled = fenced_leaves R choices (LeavesEither R l held Made) settled (inl (itself_recovers R l held sound))

-- what a step makes that leaves its journals idle
pub made_there : {left : Region} {l : Layout} {after : Store} (Made : Region → Type 0) → ShowsSound left l after → Made left → CanRecover l.sup left × Made (undone l.sup left)
made_there {left} {l} Made sound made = (sound_can sound, subst Made (sym (own_undo sound)) made)

-- ---- recoveries that are stopped

-- What a later recovery finds whose region rolls back to the same: all but faults of pending records.
pub later_keeps : (left : Region) {l : Layout} {after : Store} → ShowsSound (undone l.sup left) l after → (next : Region) → IsSuper next l.sup → undone l.sup next ≡ undone l.sup left → (o : Outcome) → IsOutcome next o
    → ((lasting_outcome o).faults ≡ []) × Keeps l after o.rows o.free
later_keeps left {l} {after} sound next sup same o is =
    let one : o.sup ≡ l.sup = one_super next l.sup o.sup sup is.sup in
    let there : IsOutcome (undone l.sup next) (lasting_outcome o) = subst (λ (t : Super). IsOutcome (undone t next) (lasting_outcome o)) one (rolled_back next o is) in
    let here : IsOutcome (undone l.sup left) (lasting_outcome o) = subst (λ (U : Region). IsOutcome U (lasting_outcome o)) same there in
    (outcome_faultless sound (lasting_outcome o) here, outcome_kept sound (lasting_outcome o) here)

-- ---- a region shows one thing

module _ {R : Region} {l : Layout} {held other : Store} (shows : Shows R l held) (shown : Shows R l other) where
  there : (j : ℕ) (h : Held) → held j ≡ Some h → other j ≡ Some h
  there j h is =
      let u = in_use shows j h is in
      let w = is_held shown j u.0 u.1 u.2 in
      let one = is_held shows j u.0 u.1 u.2 in
      let here : one.h ≡ h = (let e : Some one.h ≡ Some h = sym one.held_is ∙ is in cc) in
      let mine = one.is in
      let theirs = w.is in
      let same : log_of one.h ≡ log_of w.h = sym one.same ∙ w.same in
      let equal : one.h ≡ w.h = (λ t. record {
        kind = (ap (λ (x : Log). x.kind) same) t;
        head = (sym mine.head ∙ theirs.head) t;
        tail = (sym mine.tail ∙ theirs.tail) t;
        created = (sym mine.created ∙ theirs.created) t;
        entries = (ap (λ (x : Log). x.entries) same) t;
        pages = (ap (λ (x : Log). x.pages) same) t;
      }) in
      w.held_is ∙ ap (λ (g : Held). Some g) (sym equal ∙ here)

pub one_held : {R : Region} {l : Layout} {held other : Store} → Shows R l held → Shows R l other → held ≡ other
one_held {R} {l} {held} {other} shows shown = λ t j. (each j (held j) refl) t where
  none : (j : ℕ) (o : Option Held) → other j ≡ o → held j ≡ None → o ≡ None
  none j None e out = refl
  none j (Some g) e out = absurd (let clash : None ≡ Some g = sym out ∙ there shown shows j g e in cc)

  each : (j : ℕ) (o : Option Held) → held j ≡ o → held j ≡ other j
  each j (Some h) e = e ∙ sym (there shows shown j h e)
  each j None e = e ∙ sym (none j (other j) refl e)

-- ---- words that are pending

-- what a stop may leave after stores from a moment at which some words were pending
pub mixed_pending : (R now : Region) (those these old new : Choices) → length now.words ≡ length R.words → now.rest ≡ R.rest → PendingOnly R old those → Adds these old new → LeavesOnly now new (IsMixed R (λ i x. those i x ⊎ these i x))
mixed_pending R now those these old new as_long same_rest pending adds left may = record {
  as_long = may.as_long ∙ as_long;
  same_rest = may.same_rest ∙ same_rest;
  each_word = λ i within. elim (adds i (get_or left.words i 0) (may.each_word i (omega (arith, within, as_long)))) [
    | inl before ↦ (elim (pending i (get_or left.words i 0) before) [ inl same ↦ inl same | inr one ↦ inr (inl one) ])
    | inr here ↦ inr (inr here)
  ];
}
