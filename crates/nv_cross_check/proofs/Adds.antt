-- Faults that are added one after another.
use Rattle.std.proofs.Common.{◌≡◌, ℕ, ◌+◌, inl, inr, Bool, true, false, List, [], ◌∷◌, ◌++◌, get_or, ap, sym, ◌∙◌, subst, arith}
use Rattle.std.specs.List.{Contains}
use Rattle.std.proofs.lemmas.Bool.{true≢false}
use Rattle.std.proofs.lemmas.List.Elements.{Contains-append_left, Contains-push, Contains-push_cases}
use Rattle.nv_super.specs.declared.faults.Fault.{Fault}
use Rattle.nv_super.specs.declared.faults.Fault.TheVariants as faults
use Rattle.nv_cross_check.specs.Listing.{Listing}
use Rattle.nv_cross_check.specs.Steps.{Adds, IsAt, IsUnmarkedBelow}
use Rattle.nv_cross_check.proofs.PlaceTable.{at_most}
use Rattle.nv_cross_check.proofs.Follow.{same_row}

pub adds_none : (listings : List Listing) (marks : List Bool) (old : List Fault) → Adds (IsUnmarkedBelow listings marks 0) old old
adds_none listings marks old = record { each = λ f c. inl c; kept = λ f c. c; all = λ f w. absurd (omega (arith, w.2)) }

sooner : (listings : List Listing) (marks : List Bool) (n : ℕ) (f : Fault) → IsUnmarkedBelow listings marks n f → IsUnmarkedBelow listings marks (n + 1) f
sooner listings marks n f w = (w.0, w.1, (let lt = w.2 in omega (arith, lt)), w.3, w.4, w.5)

pub adds_one : (listings : List Listing) (marks : List Bool) (n : ℕ) (r : Listing) (old now : List Fault) → IsAt listings n r → get_or marks n false ≡ false
    → Adds (IsUnmarkedBelow listings marks n) old now → Adds (IsUnmarkedBelow listings marks (n + 1)) old (now ++ faults.C4 r.inode ∷ [])
adds_one listings marks n r old now at off h = record {
  each = λ f c. elim (Contains-push_cases now (faults.C4 r.inode) f c) [
    | inl w ↦ elim (h.each f w) [ inl v ↦ inl v | inr v ↦ inr (sooner listings marks n f v) ]
    | inr w ↦ inr (n, r, omega arith, at, off, sym w)
  ];
  kept = λ f c. Contains-append_left now _ f (h.kept f c);
  all = λ f w. elim (at_most w.0 n w.2) [
    | inl v ↦ Contains-append_left now _ f (h.all f (w.0, w.1, v, w.3, w.4, w.5))
    | inr v ↦ (let P : ℕ → Type 0 = λ k. IsAt listings k w.1 in
        let same : w.1 ≡ r = same_row listings n w.1 r (subst P v w.3) at in
        let e : f ≡ faults.C4 r.inode = w.5 ∙ ap (λ (q : Listing). faults.C4 q.inode) same in
        let Q : Fault → Type 0 = λ g. Contains (now ++ faults.C4 r.inode ∷ []) g in subst Q (sym e) (Contains-push now (faults.C4 r.inode)))
  ];
}

pub adds_skip : (listings : List Listing) (marks : List Bool) (n : ℕ) (old now : List Fault) → get_or marks n false ≡ true
    → Adds (IsUnmarkedBelow listings marks n) old now → Adds (IsUnmarkedBelow listings marks (n + 1)) old now
adds_skip listings marks n old now on h = record {
  each = λ f c. elim (h.each f c) [ inl v ↦ inl v | inr v ↦ inr (sooner listings marks n f v) ];
  kept = h.kept;
  all = λ f w. elim (at_most w.0 n w.2) [
    | inl v ↦ h.all f (w.0, w.1, v, w.3, w.4, w.5)
    | inr v ↦ absurd (let e : get_or marks n false ≡ false = sym (ap (λ (k : ℕ). get_or marks k false) v) ∙ w.4 in true≢false (sym on ∙ e))
  ];
}
