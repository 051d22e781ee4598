-- The words that a stop keeps are each as last stored or as at the last fence.
use Rattle.std.proofs.Common.{◌≡◌, ◌≢◌, ◌⊎◌, inl, inr, ◌<◌, ℕ, zero, suc, Bool, true, false, List, [], ◌∷◌, length, get_or, refl, sym, ap, ◌∙◌, subst, arith}
use Rattle.std.proofs.lemmas.Bool.{cases_eq}
use Rattle.std.proofs.lemmas.Bool.Decides.{nat_tests}
use Rattle.nv_region.specs.Region.{Region}
use Rattle.nv_region.specs.Stops.{MayBeLeft}
use Rattle.nv_region.specs.RegionState.{RegionState, fenced_or_last}
use Rattle.nv_region.specs.Kept.{alternate, kept}
use Rattle.nv_region.specs.declared.memory.Keep.{Keep}
use Rattle.nv_region.specs.declared.memory.Keep.TheVariants.{None as NoWord, All as AllWords, Alternate}

pub same_head : (turn : Bool) (w f : ℕ) (ws fs : List ℕ) → w ≡ f → alternate turn (w ∷ ws) (f ∷ fs) ≡ w ∷ alternate turn ws fs
same_head turn w f ws fs same = grind (arith, nat_tests)

pub kept_head : (w f : ℕ) (ws fs : List ℕ) → w ≢ f → alternate true (w ∷ ws) (f ∷ fs) ≡ w ∷ alternate false ws fs
kept_head w f ws fs differ = grind (arith, nat_tests)

pub lost_head : (w f : ℕ) (ws fs : List ℕ) → w ≢ f → alternate false (w ∷ ws) (f ∷ fs) ≡ f ∷ alternate true ws fs
lost_head w f ws fs differ = grind (arith, nat_tests)

-- it goes on from one of the two words, whichever turn comes next
pub record Head (turn : Bool) (w f : ℕ) (ws fs : List ℕ) : Type 0 where
  pub first : ℕ
  pub next : Bool
  pub is : alternate turn (w ∷ ws) (f ∷ fs) ≡ first ∷ alternate next ws fs
  pub which : (first ≡ w) ⊎ (first ≡ f)

head : (turn : Bool) (w f : ℕ) (ws fs : List ℕ) → Head turn w f ws fs
head turn w f ws fs = elim (cases_eq w f) [
  | inl equal ↦ record { first = w; next = turn; is = same_head turn w f ws fs equal; which = inl refl }
  | inr differ ↦ other turn differ
]
  where
    other : (turn : Bool) → w ≢ f → Head turn w f ws fs
    other true differ = record { first = w; next = false; is = kept_head w f ws fs differ; which = inl refl }
    other false differ = record { first = f; next = true; is = lost_head w f ws fs differ; which = inr refl }

abbrev OneOfTwo : ℕ → ℕ → ℕ → Type 0
OneOfTwo x w f = (x ≡ w) ⊎ (x ≡ f)

one_of_two : (turn : Bool) (ws fs : List ℕ) (i : ℕ) → length fs ≡ length ws → i < length ws → OneOfTwo (get_or (alternate turn ws fs) i 0) (get_or ws i 0) (get_or fs i 0)
one_of_two turn [] fs i same within = absurd (omega arith)
one_of_two turn (w ∷ ws) [] i same within = absurd (omega arith)
one_of_two turn (w ∷ ws) (f ∷ fs) zero same within =
    let h = head turn w f ws fs in subst (λ (l : List ℕ). OneOfTwo (get_or l 0 0) w f) (sym h.is) h.which
one_of_two turn (w ∷ ws) (f ∷ fs) (suc i) same within =
    let h = head turn w f ws fs in
    subst (λ (l : List ℕ). OneOfTwo (get_or l (suc i) 0) (get_or ws i 0) (get_or fs i 0)) (sym h.is) (one_of_two h.next ws fs i (omega arith) (omega arith))

length-alternate : (turn : Bool) (ws fs : List ℕ) → length fs ≡ length ws → length (alternate turn ws fs) ≡ length ws
length-alternate turn [] fs same = refl
length-alternate turn (w ∷ ws) [] same = absurd (omega arith)
length-alternate turn (w ∷ ws) (f ∷ fs) same =
    let h = head turn w f ws fs in ap (λ (l : List ℕ). length l) h.is ∙ ap suc (length-alternate h.next ws fs (omega arith))

pub kept_length : (keep : Keep) (ws fs : List ℕ) → length fs ≡ length ws → length (kept keep ws fs) ≡ length ws
kept_length NoWord ws fs same = same
kept_length AllWords ws fs same = refl
kept_length Alternate ws fs same = length-alternate true ws fs same

kept_word : (keep : Keep) (ws fs : List ℕ) (i : ℕ) → length fs ≡ length ws → i < length ws → OneOfTwo (get_or (kept keep ws fs) i 0) (get_or ws i 0) (get_or fs i 0)
kept_word NoWord ws fs i same within = inr refl
kept_word AllWords ws fs i same within = inl refl
kept_word Alternate ws fs i same within = one_of_two true ws fs i same within

-- so what is kept is a region that a stop may leave
pub kept_may_be_left : (keep : Keep) (m : RegionState) (words rest fenced left : List ℕ) → m.region ≡ record { words = words; rest = rest } → m.fenced ≡ fenced → length fenced ≡ length words → left ≡ kept keep words fenced
    → MayBeLeft m.region (fenced_or_last m) (record { words = left; rest = rest })
kept_may_be_left keep m words rest fenced left is was same made = record {
  as_long = ap (λ (l : List ℕ). length l) made ∙ kept_length keep words fenced same ∙ ap (λ (r : Region). length r.words) (sym is);
  same_rest = ap (λ (r : Region). r.rest) (sym is);
  each_word = λ i within.
      let inside : i < length words = subst (λ (r : Region). i < length r.words) is within in
      let choice : OneOfTwo (get_or left i 0) (get_or words i 0) (get_or fenced i 0) = subst (λ (l : List ℕ). OneOfTwo (get_or l i 0) (get_or words i 0) (get_or fenced i 0)) (sym made) (kept_word keep words fenced i same inside) in
      subst (λ (r : Region). OneOfTwo (get_or left i 0) (get_or r.words i 0) (get_or m.fenced i 0)) (sym is) (subst (λ (l : List ℕ). OneOfTwo (get_or left i 0) (get_or words i 0) (get_or l i 0)) (sym was) choice);
}
