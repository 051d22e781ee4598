-- The claims of runs whose blocks are in a set, block by block.
use Rattle.std.proofs.Common.{◌≡◌, ℕ, zero, suc, ◌+◌, ◌<◌, Bool, true, false, cond, inl, inr, List, [], ◌∷◌, ◌++◌, length, get_or, refl, sym, ap, ◌∙◌, subst, arith, add-one, append_assoc, append-nil, Some}
use Rattle.std.specs.List.{All, flat_map}
use Rattle.std.proofs.lemmas.Bool.{cases_order}
use Rattle.std.proofs.lemmas.List.Elements.{All-contains, All-contains_itself, All-pop, filter-append}
use Rattle.nv_blockset.specs.BlockSet.{is_set}
use Rattle.nv_super.specs.declared.owners.Owner.{Owner}
use Rattle.nv_super.specs.Owners.{pairs, raised}
use Rattle.nv_super.proofs.Members.{into_flat}
use Rattle.nv_cross_check.specs.Doubled.{claims_in_set}

-- what is so of all that a list's elements give is so of what each gives
pub flat_each : {A B : Type 0} (P : B → Type 0) (f : A → List B) (xs : List A) (k : ℕ) (d : A) → k < length xs → All P (flat_map f xs) → All P (f (get_or xs k d))
flat_each P f xs k d less all = λ j e within. All-contains P (flat_map f xs) (get_or (f (get_or xs k d)) j e) all
    (into_flat f xs (get_or xs k d) (get_or (f (get_or xs k d)) j e) (All-contains_itself xs k d less) (All-contains_itself (f (get_or xs k d)) j e within))

-- what is so of each block of a run
pub pair_each : (P : ℕ × Owner → Type 0) (s : ℕ) (o : Owner) (n j : ℕ) → j < n → All P (pairs s o n) → P (s + j, raised o j)
pair_each P s o zero j less all = absurd (omega arith)
pair_each P s o (suc n) j less all =
    let last = All-pop P (pairs s o n ++ (s + n, raised o n) ∷ []) (pairs s o n) (Some (s + n, raised o n)) refl all in
    elim (cases_order j n) [
      | inl same ↦ subst (λ (k : ℕ). P (s + k, raised o k)) (sym same) last.1
      | inr apart ↦ elim apart [
        | inl below ↦ pair_each P s o n j below last.0
        | inr above ↦ absurd (omega arith)
      ]
    ]

module _ (words : List ℕ) (old now new : List (ℕ × Owner)) (s : ℕ) (o : Owner) (j : ℕ) (so_far : now ≡ old ++ claims_in_set words (pairs s o j)) where
  more : (b : Bool) → is_set words (s + j) ≡ b → new ≡ now ++ cond b ((s + j, raised o j) ∷ []) [] → new ≡ old ++ claims_in_set words (pairs s o (j + 1))
  more b is then =
      let one : List (ℕ × Owner) = (s + j, raised o j) ∷ [] in
      then ∙ ap (λ xs. xs ++ cond b one []) so_far ∙ append_assoc old (claims_in_set words (pairs s o j)) (cond b one [])
      ∙ ap (λ (c : Bool). old ++ (claims_in_set words (pairs s o j) ++ cond c one [])) (sym is)
      ∙ ap (λ xs. old ++ xs) (sym (filter-append (λ (x : ℕ × Owner). is_set words x.0) (pairs s o j) one))
      ∙ ap (λ k. old ++ claims_in_set words (pairs s o k)) (sym (add-one j))

  -- one block more, which is in the set
  pub found_block : is_set words (s + j) ≡ true → new ≡ now ++ (s + j, raised o j) ∷ [] → new ≡ old ++ claims_in_set words (pairs s o (j + 1))
  found_block is then = more true is then

  -- one block more, which isn't
  pub passed_block : is_set words (s + j) ≡ false → new ≡ now → new ≡ old ++ claims_in_set words (pairs s o (j + 1))
  passed_block is then = more false is (then ∙ sym (append-nil now))
