-- What an entry makes of a directory's names.
use Rattle.std.proofs.Common.{◌≡◌, ◌∙◌, ℕ, Bool, true, false, cond, nat_eq, if◌then◌else◌, List, [], ◌∷◌, ◌&&◌, Option, Some, None, refl, ap, sym, subst, inl, inr}
use Rattle.std.specs.Option.{IsSome, option_map}
use Rattle.std.specs.Cmp.Lexicographic.{pointwise}
use Rattle.std.proofs.lemmas.Bool.Decides.{eqb_tells}
use Rattle.nv_super.proofs.Sorted.{same_keys}
use Rattle.nv_entry.specs.declared.entry.NameEntry.{NameEntry}
use Rattle.nv_entry.specs.declared.entry.Entry.TheVariants.{Name}
use Rattle.nv_names.specs.Names.{Names, name_at}
use Rattle.nv_scan.specs.State.{name_in, named_by}
use Rattle.nv_inspect.specs.Held.{first_of, IsTaken, Loses, Marks, Says}
use Rattle.nv_inspect.proofs.Marking.{marks_as}

same_number : (a : ℕ) → nat_eq a a ≡ true
same_number a = elim (eqb_tells a a) [ inl w ↦ w.0 | inr w ↦ absurd (w.1 refl) ]

same_name : (q : List ℕ) → pointwise nat_eq q q ≡ true
same_name [] = refl
same_name (a ∷ q) = ap (λ (t : Bool). t && pointwise nat_eq q q) (same_number a) ∙ same_name q

module _ (by at : ℕ) (e : NameEntry) (old_targets old_holders : Names) where
  abbrev holder_of : Names → List ℕ → Option ℕ
  holder_of holders q = option_map first_of (name_at holders q)

  pub name_said : (name : List ℕ) → name ≡ e.name → (new_targets new_holders : Names) (said : Option (ℕ × ℕ)) (holder : Option ℕ) → said ≡ named_by at e.inode e.operation → IsTaken by (name_at old_targets name) said holder
      → ((q : List ℕ) → name_at new_targets q ≡ (if pointwise nat_eq q name then said else name_at old_targets q))
      → ((q : List ℕ) → option_map first_of (name_at new_holders q) ≡ (if pointwise nat_eq q name then holder else option_map first_of (name_at old_holders q)))
      → (q : List ℕ) → Says by (name_in q at (Name e)) (name_at old_targets q) (option_map first_of (name_at old_holders q)) (name_at new_targets q) (option_map first_of (name_at new_holders q))
  name_said given given_is new_targets new_holders said holder is taken set hold q =
      by_test (pointwise nat_eq q e.name) refl (set q ∙ ap (λ (n : List ℕ). cond (pointwise nat_eq q n) said (name_at old_targets q)) given_is) (hold q ∙ ap (λ (n : List ℕ). cond (pointwise nat_eq q n) holder (holder_of old_holders q)) given_is) where
        by_test : (t : Bool) → pointwise nat_eq q e.name ≡ t → name_at new_targets q ≡ cond t said (name_at old_targets q) → holder_of new_holders q ≡ cond t holder (holder_of old_holders q)
            → Says by (if t then Some (named_by at e.inode e.operation) else None) (name_at old_targets q) (holder_of old_holders q) (name_at new_targets q) (holder_of new_holders q)
        by_test true same target held =
            let name : given ≡ q = given_is ∙ sym (same_keys q e.name same) in (
              target ∙ is,
              subst (λ (h : Option ℕ). IsTaken by (name_at old_targets q) (named_by at e.inode e.operation) h) (sym held)
                  (subst (λ (v : Option (ℕ × ℕ)). IsTaken by (name_at old_targets q) v holder) is (subst (λ (n : List ℕ). IsTaken by (name_at old_targets n) said holder) name taken)),
            )
        by_test false other target held = (target, held)

  some_is : (t : Bool) → IsSome (if t then Some (named_by at e.inode e.operation) else None) → t ≡ true
  some_is true h = refl
  some_is false h = h

  is_some_name : (t : Bool) → t ≡ true → IsSome (if t then Some (named_by at e.inode e.operation) else None)
  is_some_name true h = refl
  is_some_name false h = h

  pub name_marks : (a b : List (Option ℕ)) → Marks by (λ (k : ℕ). option_map first_of (name_at old_holders e.name) ≡ Some k) a b
      → Marks by (λ (k : ℕ). (q : List ℕ) × Loses (name_in q at (Name e)) (option_map first_of (name_at old_holders q)) k) a b
  name_marks a b marks = marks_as by (λ (k : ℕ). holder_of old_holders e.name ≡ Some k) (λ (k : ℕ). (q : List ℕ) × Loses (name_in q at (Name e)) (holder_of old_holders q) k) a b
      (λ k h. (e.name, (is_some_name (pointwise nat_eq e.name e.name) (same_name e.name), h)))
      (λ k h. subst (λ (n : List ℕ). holder_of old_holders n ≡ Some k) (same_keys h.0 e.name (some_is (pointwise nat_eq h.0 e.name) h.1.0)) h.1.1) marks
