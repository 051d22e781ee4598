-- The holders of the names of an index, by a listing of it.
use Rattle.std.proofs.Common.{◌≡◌, ◌∙◌, ◌+◌, ◌<◌, ◌≤◌, ℕ, List, length, get_or, map, Option, Some, None, refl, ap, sym, subst, arith, inl, inr}
use Rattle.std.specs.Prelude.{slice_get}
use Rattle.std.specs.Option.{IsSome, option_map}
use Rattle.std.specs.List.{Contains}
use Rattle.std.proofs.lemmas.Bool.{cases_lt}
use Rattle.std.proofs.lemmas.Option.{get_or_from_slice_get, slice_get-get_or, slice_get_within}
use Rattle.nv_names.specs.declared.named.Named.{Named}
use Rattle.nv_names.specs.Names.{Names, HasNames, line_of, name_at}
use Rattle.nv_super.proofs.Members.{from_map}
use Rattle.nv_deadpages.proofs.SameIndexes.{named_line}
use Rattle.nv_inspect.specs.Held.{first_of, Marks}
use Rattle.nv_inspect.proofs.Marking.{marks_as, marks_none, marks_then}

-- one of the first lines tells of this entry
pub record TellsOf (listed : List Named) (n k : ℕ) : Type 0 where
  pub at : ℕ
  pub line : Named
  pub front : at < n
  pub is : slice_get listed at ≡ Some line
  pub tells : line.inode ≡ k

module _ (by : ℕ) (listed : List Named) where
  pub none_told : (marks : List (Option ℕ)) → Marks by (TellsOf listed 0) marks marks
  none_told marks = marks_none by (TellsOf listed 0) marks (λ k w. (let front = w.front in omega (arith, front)))

  pub one_told : (n : ℕ) (line : Named) (old mid new : List (Option ℕ)) → n < length listed → line ≡ get_or listed n line → Marks by (TellsOf listed n) old mid → Marks by (λ (k : ℕ). Some line.inode ≡ Some k) mid new
      → Marks by (TellsOf listed (n + 1)) old new
  one_told n line old mid new below is first next = marks_then by (TellsOf listed n) (λ (k : ℕ). Some line.inode ≡ Some k) (TellsOf listed (n + 1)) old mid new first next
      (λ k w. elim w [
        | inl t ↦ record { at = t.at; line = t.line; front = (let front = t.front in omega (arith, front)); is = t.is; tells = t.tells }
        | inr e ↦ record { at = n; line = line; front = omega arith; is = slice_get-get_or listed n line below ∙ ap Some (sym is); tells = cc }
      ])
      (λ k t. elim (cases_lt t.at n) [
        | inl less ↦ inl (record { at = t.at; line = t.line; front = less; is = t.is; tells = t.tells })
        | inr past ↦ inr (
            let here : t.at ≡ n = (let front = t.front in omega (arith, front, past)) in
            let same : t.line ≡ line = sym (get_or_from_slice_get listed t.at t.line line t.is) ∙ ap (λ (q : ℕ). get_or listed q line) here ∙ sym is in
            ap (λ (x : Named). Some x.inode) (sym same) ∙ ap Some t.tells)
      ])

  pub all_told : (of : Names) (n : ℕ) (old new : List (Option ℕ)) → HasNames of (map line_of listed) → length listed ≤ n → Marks by (TellsOf listed n) old new → Marks by (λ (k : ℕ). (q : List ℕ) × (option_map first_of (name_at of q) ≡ Some k)) old new
  all_told of n old new has fits marks = marks_as by (TellsOf listed n) (λ (k : ℕ). (q : List ℕ) × (option_map first_of (name_at of q) ≡ Some k)) old new
      (λ k t. (t.line.name.now, ap (option_map first_of) (target t.line (t.at, slice_get_within listed t.at t.line t.is, get_or_from_slice_get listed t.at t.line t.line t.is)) ∙ ap Some t.tells))
      (λ k w. from_name k w.0 w.1 (name_at of w.0) refl) marks where
        target : (line : Named) → Contains listed line → name_at of line.name.now ≡ Some (line.inode, line.place)
        target line c = named_line of listed has line c

        from_name : (k : ℕ) (q : List ℕ) → option_map first_of (name_at of q) ≡ Some k → (o : Option (ℕ × ℕ)) → name_at of q ≡ o → TellsOf listed n k
        from_name k q holds None at = absurd (let none : option_map first_of (name_at of q) ≡ None = ap (option_map first_of) at in cc)
        from_name k q holds (Some x) at =
            let c = has.all q (subst (λ (o : Option (ℕ × ℕ)). IsSome o) (sym at) refl) in
            let w = from_map (λ (e : List ℕ × ℕ × ℕ). e.0) (map line_of listed) q c in
            let v = from_map line_of listed w.0 w.1 in
            let line = v.0 in
            let name : line.name.now ≡ q = sym (w.2 ∙ ap (λ (e : List ℕ × ℕ × ℕ). e.0) v.2) in
            record {
              at = v.1.0;
              line = line;
              front = (let below = v.1.1 in omega (arith, below, fits));
              is = slice_get-get_or listed v.1.0 line v.1.1 ∙ ap Some v.1.2;
              tells = (let told : Some line.inode ≡ Some k = sym (ap (option_map first_of) (target line v.1)) ∙ ap (λ (p : List ℕ). option_map first_of (name_at of p)) name ∙ holds in cc);
            }
