-- Pages of which an entry says something, stretch by stretch.
use Rattle.std.proofs.Common.{◌≡◌, ◌∙◌, ◌<◌, ◌≤◌, ℕ, Bool, true, false, cond, ◌&&◌, if◌then◌else◌, nat_le, List, Option, Some, None, refl, ap, sym, arith, inl, inr}
use Rattle.std.specs.Prelude.{IfSome, IsTrue}
use Rattle.std.proofs.lemmas.Bool.{cases_lt, false≢true}
use Rattle.nv_inspect.specs.declared.pieces.Piece.{Piece}
use Rattle.nv_inspect.specs.Held.{piece_at, page_holder, said_piece, is_among, is_before, Marks}
use Rattle.nv_inspect.proofs.Among.{and_false, and_split, below_end, is_among_both, is_among_split, is_lt, lt_is, no_le, no_lt}
use Rattle.nv_inspect.proofs.Marking.{marks_as, marks_none, marks_then}

-- ---- what is said

-- The pages before this one were said, of those from the first on and before the end.
pub record IsSaidTo (first : ℕ) (end shift : Option ℕ) (by : ℕ) (old now : List (ℕ × Piece)) (page : ℕ) : Type 0 where
  pub from : first ≤ page
  pub within : (p : ℕ) → first ≤ p → p < page → IsTrue (is_before end p)
  pub said : (p : ℕ) → first ≤ p → p < page → piece_at now p ≡ said_piece by shift (piece_at old p)
  pub before : (p : ℕ) → p < first → piece_at now p ≡ piece_at old p
  pub behind : (p : ℕ) → page ≤ p → piece_at now p ≡ piece_at old p

module _ (first : ℕ) (end shift : Option ℕ) (by : ℕ) (old now : List (ℕ × Piece)) (page : ℕ) where
  pub none_said : first ≡ page → now ≡ old → IsSaidTo first end shift by old now page
  none_said at same = record {
    from = omega (arith, at);
    within = λ p from to. absurd (omega (arith, at, from, to));
    said = λ p from to. absurd (omega (arith, at, from, to));
    before = λ p to. ap (λ (pieces : List (ℕ × Piece)). piece_at pieces p) same;
    behind = λ p from. ap (λ (pieces : List (ℕ × Piece)). piece_at pieces p) same;
  }

  -- all were said, where the end was reached
  pub all_said : IsSaidTo first end shift by old now page → is_before end page ≡ false → (p : ℕ) → piece_at now p ≡ (if is_among first end p then said_piece by shift (piece_at old p) else piece_at old p)
  all_said so_far done p = elim (is_among first end p) as (λ (t : Bool). is_among first end p ≡ t → piece_at now p ≡ cond t (said_piece by shift (piece_at old p)) (piece_at old p)) [
    | true ↦ λ among. so_far.said p (is_among_split first end p among).0 (reached end p done (is_among_split first end p among).1)
    | false ↦ λ out. elim (cases_lt p first) [
      | inl less ↦ so_far.before p less
      | inr from ↦ elim (cases_lt p page) [
        | inl below ↦ absurd (false≢true (sym out ∙ is_among_both first end p from (so_far.within p from below)))
        | inr past ↦ so_far.behind p past
      ]
    ]
  ] refl where
    reached : (e : Option ℕ) (p : ℕ) → is_before e page ≡ false → IsTrue (is_before e p) → p < page
    reached None p never is_so = absurd (false≢true (sym never))
    reached (Some e) p never is_so = below_end e p page never is_so

  -- one stretch further
  module _ (new : List (ℕ × Piece)) (stretch_end to : Option ℕ) (piece : Piece) (so_far : IsSaidTo first end shift by old now page)
      (here : piece ≡ piece_at now page) (same : (p : ℕ) → IsTrue (is_among page stretch_end p) → piece_at now p ≡ piece_at now page)
      (earlier : (p : ℕ) → is_before to p ≡ (is_before stretch_end p && is_before end p))
      (set : (p : ℕ) → piece_at new p ≡ (if is_among page to p then said_piece by shift piece else piece_at now p)) where
    ends : (p : ℕ) → IsTrue (is_before to p) → (is_before stretch_end p ≡ true) × (is_before end p ≡ true)
    ends p h = and_split (is_before stretch_end p) (is_before end p) (sym (earlier p) ∙ h)

    set_here : (p : ℕ) → page ≤ p → IsTrue (is_before to p) → piece_at new p ≡ said_piece by shift (piece_at old p)
    set_here p from before = set p ∙ ap (λ (t : Bool). cond t (said_piece by shift piece) (piece_at now p)) (is_among_both page to p from before)
        ∙ ap (said_piece by shift) (here ∙ sym (same p (is_among_both page stretch_end p from (ends p before).0)) ∙ so_far.behind p from)

    not_among : (p : ℕ) → p < page → is_among page to p ≡ false
    not_among p less = ap (λ (t : Bool). t && is_before to p) (no_le page p less)

    set_front : (p : ℕ) → p < page → piece_at new p ≡ piece_at now p
    set_front p less = set p ∙ ap (λ (t : Bool). cond t (said_piece by shift piece) (piece_at now p)) (not_among p less)

    pub said_more : (next : ℕ) → to ≡ Some next → page < next → IsSaidTo first end shift by old new next
    said_more next is ahead = record {
      from = (let from = so_far.from in omega (arith, from, ahead));
      within = λ p from below. elim (cases_lt p page) [
        | inl less ↦ so_far.within p from less
        | inr past ↦ (ends p (before_next p below)).1
      ];
      said = λ p from below. elim (cases_lt p page) [
        | inl less ↦ set_front p less ∙ so_far.said p from less
        | inr past ↦ set_here p past (before_next p below)
      ];
      before = λ p less. set_front p (let from = so_far.from in omega (arith, less, from)) ∙ so_far.before p less;
      behind = λ p past. set p ∙ ap (λ (t : Bool). cond t (said_piece by shift piece) (piece_at now p)) (behind_next p past) ∙ so_far.behind p (omega (arith, past, ahead));
    } where
      before_next : (p : ℕ) → p < next → IsTrue (is_before to p)
      before_next p below = ap (λ (e : Option ℕ). is_before e p) is ∙ is_lt p next below

      behind_next : (p : ℕ) → next ≤ p → is_among page to p ≡ false
      behind_next p past = ap (λ (e : Option ℕ). is_among page e p) is ∙ ap (λ (t : Bool). nat_le page p && t) (no_lt p next past) ∙ and_false (nat_le page p)

    pub said_all : to ≡ None → (p : ℕ) → piece_at new p ≡ (if is_among first end p then said_piece by shift (piece_at old p) else piece_at old p)
    said_all is p = elim (is_among first end p) as (λ (t : Bool). is_among first end p ≡ t → piece_at new p ≡ cond t (said_piece by shift (piece_at old p)) (piece_at old p)) [
      | true ↦ λ among. elim (cases_lt p page) [
        | inl less ↦ set_front p less ∙ so_far.said p (is_among_split first end p among).0 less
        | inr past ↦ set_here p past (endless p)
      ]
      | false ↦ λ out. elim (cases_lt p first) [
        | inl less ↦ set_front p (let from = so_far.from in omega (arith, less, from)) ∙ so_far.before p less
        | inr from ↦ absurd (false≢true (sym out ∙ is_among_both first end p from (ends p (endless p)).1))
      ]
    ] refl where
      endless : (p : ℕ) → IsTrue (is_before to p)
      endless p = ap (λ (e : Option ℕ). is_before e p) is

-- ---- who holds them

-- it holds one of these pages
abbrev pub HoldsPage : List (ℕ × Piece) → ℕ → Option ℕ → ℕ → Type 0
HoldsPage pieces first end k = (p : ℕ) × IsTrue (is_among first end p) × (page_holder pieces p ≡ Some k)

-- it holds one of those before this page
pub record HoldsFront (pieces : List (ℕ × Piece)) (first : ℕ) (end : Option ℕ) (page k : ℕ) : Type 0 where
  pub at : ℕ
  pub among : IsTrue (is_among first end at)
  pub front : at < page
  pub holds : page_holder pieces at ≡ Some k

module _ (pieces : List (ℕ × Piece)) (first : ℕ) (end : Option ℕ) (by : ℕ) where
  pub front_none : (page : ℕ) (marks : List (Option ℕ)) → first ≡ page → Marks by (HoldsFront pieces first end page) marks marks
  front_none page marks at = marks_none by (HoldsFront pieces first end page) marks (λ k h. (let front = h.front in let from = (is_among_split first end h.at h.among).0 in omega (arith, front, from, at)))

  pub front_all : (page : ℕ) (old new : List (Option ℕ)) → is_before end page ≡ false → Marks by (HoldsFront pieces first end page) old new → Marks by (HoldsPage pieces first end) old new
  front_all page old new done marks = marks_as by (HoldsFront pieces first end page) (HoldsPage pieces first end) old new
      (λ k h. (h.at, h.among, h.holds))
      (λ k h. record { at = h.0; among = h.1; front = reached end h.0 done (is_among_split first end h.0 h.1).1; holds = h.2 }) marks where
        reached : (e : Option ℕ) (p : ℕ) → is_before e page ≡ false → IsTrue (is_before e p) → p < page
        reached None p never is_so = absurd (false≢true (sym never))
        reached (Some e) p never is_so = below_end e p page never is_so

  module _ (page : ℕ) (stretch_end : Option ℕ) (piece : Piece) (from : first ≤ page) (before : IsTrue (is_before end page)) (here : piece ≡ piece_at pieces page)
      (same : (p : ℕ) → IsTrue (is_among page stretch_end p) → piece_at pieces p ≡ piece_at pieces page) (old mid new : List (Option ℕ))
      (first_marks : Marks by (HoldsFront pieces first end page) old mid) (next_marks : Marks by (λ (k : ℕ). piece.holder ≡ Some k) mid new) where
    holds_here : (k : ℕ) → piece.holder ≡ Some k → page_holder pieces page ≡ Some k
    holds_here k h = ap (λ (x : Piece). x.holder) (sym here) ∙ h

    holder_of : (p k : ℕ) → page ≤ p → IsTrue (is_before stretch_end p) → page_holder pieces p ≡ Some k → piece.holder ≡ Some k
    holder_of p k past inside h = ap (λ (x : Piece). x.holder) (here ∙ sym (same p (is_among_both page stretch_end p past inside))) ∙ h

    pub front_more : (next : ℕ) → stretch_end ≡ Some next → page < next → Marks by (HoldsFront pieces first end next) old new
    front_more next is ahead = marks_then by (HoldsFront pieces first end page) (λ (k : ℕ). piece.holder ≡ Some k) (HoldsFront pieces first end next) old mid new first_marks next_marks
        (λ k h. elim h [
          | inl w ↦ record { at = w.at; among = w.among; front = (let front = w.front in omega (arith, front, ahead)); holds = w.holds }
          | inr e ↦ record { at = page; among = is_among_both first end page from before; front = ahead; holds = holds_here k e }
        ])
        (λ k h. elim (cases_lt h.at page) [
          | inl less ↦ inl (record { at = h.at; among = h.among; front = less; holds = h.holds })
          | inr past ↦ inr (holder_of h.at k past (inside h.at h.front) h.holds)
        ]) where
          inside : (p : ℕ) → p < next → IsTrue (is_before stretch_end p)
          inside p below = ap (λ (e : Option ℕ). is_before e p) is ∙ is_lt p next below

    pub front_open : stretch_end ≡ None → Marks by (HoldsPage pieces first end) old new
    front_open is = marks_then by (HoldsFront pieces first end page) (λ (k : ℕ). piece.holder ≡ Some k) (HoldsPage pieces first end) old mid new first_marks next_marks
        (λ k h. elim h [
          | inl w ↦ (w.at, w.among, w.holds)
          | inr e ↦ (page, is_among_both first end page from before, holds_here k e)
        ])
        (λ k h. elim (cases_lt h.0 page) [
          | inl less ↦ inl (record { at = h.0; among = h.1; front = less; holds = h.2 })
          | inr past ↦ inr (holder_of h.0 k past (ap (λ (e : Option ℕ). is_before e h.0) is) h.2)
        ])

-- ---- the end of a stretch

before_stretch : (stretch_end : Option ℕ) (page : ℕ) → IfSome stretch_end (λ e. page < e) → is_before stretch_end page ≡ true
before_stretch None page ahead = refl
before_stretch (Some e) page ahead = is_lt page e ahead

pub before_to : (stretch_end end to : Option ℕ) (page : ℕ) → IfSome stretch_end (λ e. page < e) → is_before end page ≡ true → is_before to page ≡ (is_before stretch_end page && is_before end page) → is_before to page ≡ true
before_to stretch_end end to page ahead before both = both ∙ ap (λ (t : Bool). t && is_before end page) (before_stretch stretch_end page ahead) ∙ before

pub next_ahead : (to : Option ℕ) (page next : ℕ) → to ≡ Some next → is_before to page ≡ true → page < next
next_ahead to page next is before = lt_is page next (sym (ap (λ (e : Option ℕ). is_before e page) is) ∙ before)
