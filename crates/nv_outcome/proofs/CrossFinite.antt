-- What is wrong between finitely many rows can be listed.
use Rattle.std.proofs.Common.{◌≡◌, ◌≢◌, ◌⊎◌, inl, inr, nat_eq, ℕ, zero, suc, ◌<◌, ◌≤◌, Bool, true, false, cond, List, [], ◌∷◌, length, Some, refl, sym, ◌∙◌, ap, subst, arith}
use Rattle.std.specs.List.{Contains}
use Rattle.std.specs.Cmp.Lexicographic.{pointwise}
use Rattle.nv_super.specs.declared.kind.Kind.{Kind}
use Rattle.nv_super.specs.declared.kind.Kind.TheVariants.{File, Directory}
use Rattle.nv_super.specs.declared.faults.Fault.{Fault}
use Rattle.nv_super.specs.declared.faults.Fault.TheVariants as faults
use Rattle.nv_super.proofs.Rising.{Contains-cons, Contains-head, Contains-tail, Lists-only}
use Rattle.nv_super.proofs.Sorted.{same_keys}
use Rattle.nv_super.proofs.OneMore.{pair_only, TakenOut, take_out}
use Rattle.nv_names.specs.Names.{found_in, name_at, names_of}
use Rattle.nv_scan.specs.declared.piece.Row.{Row}
use Rattle.nv_cross_check.specs.Cross.{HasNameIn, IsUnusedIn, AreNamesIn, IsReachedIn, root, step, IsCrossFaultIn, c1, c2, c2_root, c3, c4, c5}
use Rattle.nv_outcome.proofs.Finite.{Decided, both, not_so, told_as, number_is, number_below, Finite, only, elements, value_of, by_name, either, if_so, over, those, some, holds, in_order}

-- ---- names

found_listed : (es : List (List ℕ × ℕ × ℕ)) (name : List ℕ) (v : ℕ × ℕ) → found_in es name ≡ Some v → Contains (names_of es) name
found_listed [] name v h = absurd (cc)
found_listed (e ∷ es) name v h = test (pointwise nat_eq name e.0) refl (found_listed es name v) h where
  test : (t : Bool) → pointwise nat_eq name e.0 ≡ t → (found_in es name ≡ Some v → Contains (names_of es) name) → cond t (Some (e.1, e.2)) (found_in es name) ≡ Some v → Contains (e.0 ∷ names_of es) name
  test true same rest h = subst (Contains (e.0 ∷ names_of es)) (sym (same_keys name e.0 same)) (Contains-head e.0 (names_of es))
  test false other rest h = Contains-tail e.0 (names_of es) name (rest h)

-- a directory, a name in it, the inode that it names, and the place of its entry
abbrev Link : Type 0
Link = ℕ × List ℕ × ℕ × ℕ

kind_is : (a b : Kind) → Decided (a ≡ b)
kind_is File File = inl refl
kind_is File Directory = inr (λ e. cc)
kind_is Directory File = inr (λ e. cc)
kind_is Directory Directory = inl refl

module _ (rows : List Row) where
  links : Finite (λ (x : Link). HasNameIn rows x.0 x.1 x.2 x.3)
  links = by_name there back (over (elements rows) (λ (r : Row). over (elements (names_of r.names.names)) (λ (q : List ℕ). over (value_of (name_at r.names q)) (λ (v : ℕ × ℕ). only (r.inode, q, v.0, v.1))))) where
    Found : Link → Type 0
    Found x = (r : Row) × Contains rows r × ((q : List ℕ) × Contains (names_of r.names.names) q × ((v : ℕ × ℕ) × (name_at r.names q ≡ Some v) × (x ≡ (r.inode, q, v.0, v.1))))

    there : (x : Link) → Found x → HasNameIn rows x.0 x.1 x.2 x.3
    there x w = subst (λ (y : Link). HasNameIn rows y.0 y.1 y.2 y.3) (sym w.2.2.2) (w.0, w.1, refl, w.2.2.1)

    back : (x : Link) → HasNameIn rows x.0 x.1 x.2 x.3 → Found x
    back x h = (h.0, h.1, (x.1, found_listed h.0.names.names x.1 (x.2, x.3) h.3, ((x.2, x.3), h.3, λ i. (sym h.2 i, x.1, x.2, x.3))))

  used_or_not : (i : ℕ) → Decided ((r : Row) × (Contains rows r × (r.inode ≡ i)))
  used_or_not i = some (those (λ (r : Row). r.inode ≡ i) (elements rows) (λ r. number_is r.inode i))

  unused_or_not : (i : ℕ) → Decided (IsUnusedIn rows i)
  unused_or_not i = told_as (λ n r c e. n (r, (c, e))) (λ n w. n w.0 w.1.0 w.1.1) (not_so (used_or_not i))

  -- an inode's names can be listed
  pub names_in : (i : ℕ) → (names : List (ℕ × List ℕ)) × AreNamesIn rows i names
  names_in i = in_order (λ (x : ℕ × List ℕ). x.0 ∷ x.1) pair_only (by_name there back (over (those (λ (x : Link). x.2 ≡ i) links (λ x. number_is x.2 i)) (λ (x : Link). only (x.0, x.1)))) where
    Named : ℕ × List ℕ → Type 0
    Named y = (x : Link) × (HasNameIn rows x.0 x.1 x.2 x.3 × (x.2 ≡ i)) × (y ≡ (x.0, x.1))

    there : (y : ℕ × List ℕ) → Named y → (at : ℕ) × HasNameIn rows y.0 y.1 i at
    there y w = (w.0.3, subst (λ (z : ℕ × List ℕ). HasNameIn rows z.0 z.1 i w.0.3) (sym w.2) (subst (λ (j : ℕ). HasNameIn rows w.0.0 w.0.1 j w.0.3) w.1.1 w.1.0))

    back : (y : ℕ × List ℕ) → (at : ℕ) × HasNameIn rows y.0 y.1 i at → Named y
    back y h = ((y.0, y.1, i, h.0), (h.1, refl), refl)

  one_list : (i : ℕ) (names : List (ℕ × List ℕ)) → AreNamesIn rows i names → (names_in i).0 ≡ names
  one_list i names are = Lists-only (λ (x : ℕ × List ℕ). x.0 ∷ x.1) (λ x. (at : ℕ) × HasNameIn rows x.0 x.1 i at) (names_in i).0 names (names_in i).1 are

  how_many : ℕ → ℕ
  how_many i = length (names_in i).0

  counted : (i : ℕ) (names : List (ℕ × List ℕ)) → AreNamesIn rows i names → how_many i ≡ length names
  unfolding how_many
  counted i names are = ap length (one_list i names are)

  -- ---- what is reached

  is_root : (r : Row) → Decided ((r.inode ≡ 1) × (r.kind ≡ Directory))
  is_root r = both (number_is r.inode 1) (kind_is r.kind Directory)

  root_or_none : Decided ((r : Row) × (Contains rows r × ((r.inode ≡ 1) × (r.kind ≡ Directory))))
  root_or_none = some (those (λ (r : Row). (r.inode ≡ 1) × (r.kind ≡ Directory)) (elements rows) is_root)

  -- the inode is named by one of these
  IsNext : List ℕ → ℕ → Type 0
  IsNext seen i = (x : Link) × ((HasNameIn rows x.0 x.1 x.2 x.3 × Contains seen x.0) × (x.2 ≡ i))

  next_or_not : (seen : List ℕ) (i : ℕ) → Decided (IsNext seen i)
  unfolding IsNext
  next_or_not seen i = some (those (λ (x : Link). x.2 ≡ i) (those (λ (x : Link). Contains seen x.0) links (λ x. holds (elements seen) x.0 (λ n. number_is n x.0))) (λ x. number_is x.2 i))

  -- What was reached so far, and the rows that weren't.
  record Spread (seen : List ℕ) (rest : List Row) : Type 0 where
    reached : (i : ℕ) → Contains seen i → IsReachedIn rows i
    begun : (r : Row) → Contains rows r → r.inode ≡ 1 → r.kind ≡ Directory → Contains seen 1
    covers : (r : Row) → Contains rows r → Contains seen r.inode ⊎ Contains rest r
    within : (r : Row) → Contains rest r → Contains rows r

  next_row : (seen : List ℕ) (rest : List Row) → Decided ((r : Row) × (Contains rest r × IsNext seen r.inode))
  next_row seen rest = some (those (λ (r : Row). IsNext seen r.inode) (elements rest) (λ r. next_or_not seen r.inode))

  -- nothing more is reached
  closed : (seen : List ℕ) (rest : List Row) → Spread seen rest → ((r : Row) × (Contains rest r × IsNext seen r.inode) → ⊥) → {i : ℕ} → IsReachedIn rows i → Contains seen i
  unfolding IsNext
  closed seen rest s none (root r c one dir) = s.begun r c one dir
  closed seen rest s none (step {d = d} {i = i} name at r before h c e) =
      let mine : Contains seen d = closed seen rest s none before in
      elim (s.covers r c) [
        | inl w ↦ subst (Contains seen) e w
        | inr w ↦ absurd (none (r, (w, ((d, name, i, at), ((h, mine), sym e)))))
      ]

  spread_more : (seen : List ℕ) (rest : List Row) → Spread seen rest → (r : Row) → Contains rest r → IsNext seen r.inode → (t : TakenOut rest r) → Spread (r.inode ∷ seen) t.others
  unfolding IsNext
  spread_more seen rest s r c next t = record {
    reached = λ i d. elim (Contains-cons r.inode seen i d) [
      | inl e ↦ subst (IsReachedIn rows) (sym e) (step next.0.1 next.0.3 r (s.reached next.0.0 next.1.0.1) (subst (λ (j : ℕ). HasNameIn rows next.0.0 next.0.1 j next.0.3) next.1.1 next.1.0.0) (s.within r c) refl)
      | inr w ↦ s.reached i w
    ];
    begun = λ q d one dir. Contains-tail r.inode seen 1 (s.begun q d one dir);
    covers = λ q d. elim (s.covers q d) [
      | inl w ↦ inl (Contains-tail r.inode seen q.inode w)
      | inr w ↦ elim (t.all q w) [
        | inl e ↦ inl (subst (λ (z : Row). Contains (r.inode ∷ seen) z.inode) (sym e) (Contains-head r.inode seen))
        | inr v ↦ inr v
      ]
    ];
    within = λ q d. s.within q (t.each q d);
  }

  spread_on : (n : ℕ) (seen : List ℕ) (rest : List Row) → length rest ≤ n → Spread seen rest → Finite (IsReachedIn rows)
  spread_on zero seen rest few s = (seen, record { each = s.reached; all = λ i h. closed seen rest s (λ w. (let inside = w.1.0.1 in omega (arith, inside, few))) h })
  spread_on (suc n) seen rest few s = test (next_row seen rest) (spread_on n) where
    test : Decided ((r : Row) × (Contains rest r × IsNext seen r.inode)) → ((seen : List ℕ) (rest : List Row) → length rest ≤ n → Spread seen rest → Finite (IsReachedIn rows)) → Finite (IsReachedIn rows)
    test (inl w) on = let t = take_out rest w.0 w.1.0 in on (w.0.inode ∷ seen) t.others (let f = t.fewer in omega (arith, f, few)) (spread_more seen rest s w.0 w.1.0 w.1.1 t)
    test (inr none) on = (seen, record { each = s.reached; all = λ i h. closed seen rest s none h })

  reached : Finite (IsReachedIn rows)
  reached = begin root_or_none where
    begin : Decided ((r : Row) × (Contains rows r × ((r.inode ≡ 1) × (r.kind ≡ Directory)))) → Finite (IsReachedIn rows)
    begin (inl w) = spread_on (length rows) (1 ∷ []) rows (omega arith) (record {
      reached = λ i c. elim (Contains-cons 1 [] i c) [
        | inl e ↦ subst (IsReachedIn rows) (sym e) (root w.0 w.1.0 w.1.1.0 w.1.1.1)
        | inr v ↦ absurd (omega (arith, v.1))
      ];
      begun = λ r c one dir. Contains-head 1 [];
      covers = λ r c. inr c;
      within = λ r c. c;
    })
    begin (inr n) = spread_on (length rows) [] rows (omega arith) (record {
      reached = λ i c. absurd (omega (arith, c.1));
      begun = λ r c one dir. absurd (n (r, (c, (one, dir))));
      covers = λ r c. inr c;
      within = λ r c. c;
    })

  reached_or_not : (i : ℕ) → Decided (IsReachedIn rows i)
  reached_or_not i = holds reached i (λ n. number_is n i)

  -- ---- the faults

  Strange : Fault → Type 0
  Strange f = (x : Link) × HasNameIn rows x.0 x.1 x.2 x.3 × (IsUnusedIn rows x.2 × (f ≡ faults.C1 x.0 x.3))

  Miscounted : Fault → Type 0
  Miscounted f = (r : Row) × Contains rows r × (((r.kind ≡ Directory) × ((r.inode ≢ 1) × (how_many r.inode ≢ 1))) × (f ≡ faults.C2 r.inode))

  RootNamed : Fault → Type 0
  RootNamed f = (r : Row) × Contains rows r × (((r.kind ≡ Directory) × ((r.inode ≡ 1) × (0 < how_many 1))) × (f ≡ faults.C2 1))

  Mislinked : Fault → Type 0
  Mislinked f = (r : Row) × Contains rows r × (((r.kind ≡ File) × (r.numbers.links ≢ how_many r.inode)) × (f ≡ faults.C3 r.inode))

  Unreached : Fault → Type 0
  Unreached f = (r : Row) × Contains rows r × ((IsReachedIn rows r.inode → ⊥) × (f ≡ faults.C4 r.inode))

  Rootless : Fault → Type 0
  Rootless f = ((r : Row) × (Contains rows r × ((r.inode ≡ 1) × (r.kind ≡ Directory))) → ⊥) × (f ≡ faults.C5)

  AnyOf : Fault → Type 0
  AnyOf f = Strange f ⊎ (Miscounted f ⊎ (RootNamed f ⊎ (Mislinked f ⊎ (Unreached f ⊎ Rootless f))))

  any_of : Finite AnyOf
  unfolding AnyOf Strange Miscounted RootNamed Mislinked Unreached Rootless
  any_of = either strange (either miscounted (either root_named (either mislinked (either unreached rootless)))) where
    strange : Finite Strange
    strange = over links (λ (x : Link). if_so (unused_or_not x.2) (only (faults.C1 x.0 x.3)))

    miscounted : Finite Miscounted
    miscounted = over (elements rows) (λ (r : Row). if_so (both (kind_is r.kind Directory) (both (not_so (number_is r.inode 1)) (not_so (number_is (how_many r.inode) 1)))) (only (faults.C2 r.inode)))

    root_named : Finite RootNamed
    root_named = over (elements rows) (λ (r : Row). if_so (both (kind_is r.kind Directory) (both (number_is r.inode 1) (number_below 0 (how_many 1)))) (only (faults.C2 1)))

    mislinked : Finite Mislinked
    mislinked = over (elements rows) (λ (r : Row). if_so (both (kind_is r.kind File) (not_so (number_is r.numbers.links (how_many r.inode)))) (only (faults.C3 r.inode)))

    unreached : Finite Unreached
    unreached = over (elements rows) (λ (r : Row). if_so (not_so (reached_or_not r.inode)) (only (faults.C4 r.inode)))

    rootless : Finite Rootless
    rootless = if_so (not_so root_or_none) (only faults.C5)

  fault_there : (f : Fault) → AnyOf f → IsCrossFaultIn rows f
  unfolding AnyOf Strange Miscounted RootNamed Mislinked Unreached Rootless how_many
  fault_there f (inl w) = subst (IsCrossFaultIn rows) (sym w.2.1) (c1 w.0.1 w.0.2 w.1 w.2.0)
  fault_there f (inr (inl w)) = subst (IsCrossFaultIn rows) (sym w.2.1) (c2 w.0 (names_in w.0.inode).0 w.1 w.2.0.0 w.2.0.1.0 (names_in w.0.inode).1 w.2.0.1.1)
  fault_there f (inr (inr (inl w))) = subst (IsCrossFaultIn rows) (sym w.2.1) (c2_root w.0 (names_in 1).0 w.1 w.2.0.0 w.2.0.1.0 (names_in 1).1 w.2.0.1.1)
  fault_there f (inr (inr (inr (inl w)))) = subst (IsCrossFaultIn rows) (sym w.2.1) (c3 w.0 (names_in w.0.inode).0 w.1 w.2.0.0 (names_in w.0.inode).1 w.2.0.1)
  fault_there f (inr (inr (inr (inr (inl w))))) = subst (IsCrossFaultIn rows) (sym w.2.1) (c4 w.0 w.1 w.2.0)
  fault_there f (inr (inr (inr (inr (inr w))))) = subst (IsCrossFaultIn rows) (sym w.1) (c5 (λ r c one dir. w.0 (r, (c, (one, dir)))))

  fault_back : (f : Fault) → IsCrossFaultIn rows f → AnyOf f
  unfolding AnyOf Strange Miscounted RootNamed Mislinked Unreached Rootless
  fault_back _ (c1 {d = d} {at = at} name i h none) = inl ((d, name, i, at), h, (none, refl))
  fault_back _ (c2 r names c dir other are ne) = inr (inl (r, c, ((dir, (other, λ e. ne (sym (counted r.inode names are) ∙ e))), refl)))
  fault_back _ (c2_root r names c dir one are more) = inr (inr (inl (r, c, ((dir, (one, subst (λ (n : ℕ). 0 < n) (sym (counted 1 names are)) more)), refl))))
  fault_back _ (c3 r names c file are ne) = inr (inr (inr (inl (r, c, ((file, λ e. ne (e ∙ counted r.inode names are)), refl)))))
  fault_back _ (c4 r c out) = inr (inr (inr (inr (inl (r, c, (out, refl))))))
  fault_back _ (c5 out) = inr (inr (inr (inr (inr ((λ w. out w.0 w.1.0 w.1.1.0 w.1.1.1), refl)))))

  -- What is wrong between these rows.
  pub cross_listed : Finite (IsCrossFaultIn rows)
  cross_listed = by_name fault_there fault_back any_of
