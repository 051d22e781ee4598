-- The numbers that a walk passes, step by step.
use Rattle.std.proofs.Common.{◌≡◌, ◌≢◌, ℕ, eqb, true, false, List, [], ◌∷◌, inl, inr, refl, sym, Some, None}
use Rattle.std.specs.List.{list_any}
use Rattle.std.proofs.lemmas.Bool.Decides.{eqb_tells}
use Rattle.nv_tree.specs.Tree.{Tree, name_in, passed}

not_this : (i d : ℕ) → d ≢ i → eqb i d ≡ false
not_this i d differs = elim (eqb_tells i d) [ inl w ↦ absurd (differs (sym w.1)) | inr w ↦ w.0 ]

this : (i d : ℕ) → d ≡ i → eqb i d ≡ true
this i d same = elim (eqb_tells i d) [ inl w ↦ w.0 | inr w ↦ absurd (w.1 (sym same)) ]

-- it is the first
pub passes_here : (t : Tree) (d i : ℕ) (name : List ℕ) (names : List (List ℕ)) → d ≡ i → list_any (eqb i) (passed t d (name ∷ names)) ≡ true
passes_here t d i name [] same = rw (this i d same) refl
passes_here t d i name (next ∷ names) same = rw (this i d same) refl

-- or it isn't, and the walk ends there
pub passes_end : (t : Tree) (d i : ℕ) (name : List ℕ) → d ≢ i → list_any (eqb i) (passed t d (name ∷ [])) ≡ false
passes_end t d i name differs = rw (not_this i d differs) refl

pub passes_lost : (t : Tree) (d i : ℕ) (name next : List ℕ) (names : List (List ℕ)) → d ≢ i → name_in t d name ≡ None → list_any (eqb i) (passed t d (name ∷ next ∷ names)) ≡ false
passes_lost t d i name next names differs none = rw (not_this i d differs) (rw none refl)

-- or goes on
pub passes_on : (t : Tree) (d j i : ℕ) (name next : List ℕ) (names : List (List ℕ)) → d ≢ i → name_in t d name ≡ Some j → list_any (eqb i) (passed t d (name ∷ next ∷ names)) ≡ list_any (eqb i) (passed t j (next ∷ names))
passes_on t d j i name next names differs there = rw (not_this i d differs) (rw there refl)
