-- The graph of a region's rows is that of the region, and each number has a list of its names.
use Rattle.std.proofs.Common.{◌≡◌, ℕ, inl, inr, Bool, true, nat_eq, Option, Some, None, List, get_or, length, refl, ap, sym, ◌∙◌, subst, arith}
use Rattle.std.specs.List.{Contains, find, position_or_len}
use Rattle.std.specs.Option.{option_map, option_and_then}
use Rattle.std.proofs.lemmas.Bool.{cases_lt, both_ways, eqb-true, eq-eqb}
use Rattle.std.proofs.lemmas.Option.{none-some, same_Some, option_and_then_some, slice_get_within, slice_get-get_or, get_or_from_slice_get}
use Rattle.std.proofs.lemmas.List.Folds.{find_at}
use Rattle.std.proofs.lemmas.List.Sums.{fails_before_first, passes_at_first}
use Rattle.nv_region.specs.Region.{Region}
use Rattle.nv_super.specs.Layout.{Layout}
use Rattle.nv_names.specs.Names.{name_at}
use Rattle.nv_scan.specs.State.{named}
use Rattle.nv_scan.specs.Inode.{Log, IsInode, good_of}
use Rattle.nv_scan.specs.Rows.{IsRow}
use Rattle.nv_scan.specs.declared.piece.Row.{Row}
use Rattle.nv_scan.proofs.Only.{IsInode-only}
use Rattle.nv_outcome.specs.Outcome.{AreRows}
use Rattle.nv_outcome.proofs.CrossFinite.{names_in}
use Rattle.nv_outcome.proofs.CrossLaw.{names_directory, names_are}
use Rattle.nv_graph.specs.Read.{IsGraphOf, HasAllNames, row_of, graph_of}

-- ---- finding

-- an element that is found passes
found : {A : Type 0} (test : A → Bool) (xs : List A) (x : A) → find test xs ≡ Some x → Contains xs x × (test x ≡ true)
found test xs x e =
    let k = position_or_len test xs in
    let at = sym (find_at test xs) ∙ e in
    let inside = slice_get_within xs k x at in
    let same = get_or_from_slice_get xs k x x at in
    ((k, inside, same), ap test (sym same) ∙ passes_at_first test xs x inside)

-- where an element passes, one is found
finds : {A : Type 0} (test : A → Bool) (xs : List A) (x : A) → Contains xs x → test x ≡ true → (y : A) × (find test xs ≡ Some y)
finds test xs x c pass = elim (cases_lt (position_or_len test xs) (length xs)) [
  | inl inside ↦ (get_or xs (position_or_len test xs) x, find_at test xs ∙ slice_get-get_or xs (position_or_len test xs) x inside)
  | inr past ↦ (
      let fails = fails_before_first test xs c.0 x (omega (arith, c.1, past)) in
      absurd (both_ways (test x) (ap test (sym c.2) ∙ fails) pass))
]

-- what stands behind an option that was mapped
pub mapped : {A B : Type 0} (f : A → B) (o : Option A) (y : B) → option_map f o ≡ Some y → (x : A) × (o ≡ Some x) × (f x ≡ y)
mapped f None y e = absurd (none-some y e)
mapped f (Some x) y e = (x, refl, same_Some (f x) y e)

-- ---- rows

module _ {R : Region} {l : Layout} {rows : List Row} (are : AreRows R l rows) where
  -- the row of an inode in use
  record Stands (i a : ℕ) (log : Log) : Type 0 where
    row : Row
    found : row_of rows i ≡ Some row
    is : IsRow R l a log row

  row_at : (i : ℕ) (r : Row) → row_of rows i ≡ Some r → Contains rows r × (r.inode ≡ i)
  row_at i r e = let w = found (λ (q : Row). nat_eq q.inode i) rows r e in (w.0, eqb-true r.inode i w.1)

  stands : (i a : ℕ) (log : Log) → IsInode R l i a log → Stands i a log
  stands i a log h =
      let r = are.all i (a, log, h) in
      let f = finds (λ (q : Row). nat_eq q.inode i) rows r.0 r.1 (eq-eqb r.0.inode i r.2) in
      let c = row_at i f.0 f.1 in
      let q = are.each f.0 c.0 in
      let one = IsInode-only h (subst (λ (j : ℕ). IsInode R l j q.0 q.1) c.1 q.2.inode) in
      record { row = f.0; found = f.1; is = subst (λ (v : Log). IsRow R l a v f.0) (sym one.1) (subst (λ (b : ℕ). IsRow R l b q.1 f.0) (sym one.0) q.2) }

  named_row : (d : ℕ) (name : List ℕ) (i : ℕ) → (graph_of rows).name d name ≡ Some i → (r : Row) × (row_of rows d ≡ Some r) × (at : ℕ) × (name_at r.names name ≡ Some (i, at))
  named_row d name i e = option_and_then_some (λ (r : Row). option_map (λ (x : ℕ × ℕ). x.0) (name_at r.names name)) (row_of rows d) i e
      (λ r is says. (let m = mapped (λ (x : ℕ × ℕ). x.0) (name_at r.names name) i says in (r, is, m.0.1, m.1 ∙ ap (λ (j : ℕ). Some (j, m.0.1)) m.2)))

  pub graph_is : IsGraphOf R l (graph_of rows)
  graph_is = record {
    node = λ i a log h. (
        let s = stands i a log h in
        ap (option_map (λ (r : Row). record { kind = r.kind; links = r.numbers.links })) s.found
        ∙ (λ k. Some (record { kind = s.is.kind k; links = s.is.numbers.links k })));
    in_use = λ i n e. (
        let m = mapped (λ (r : Row). record { kind = r.kind; links = r.numbers.links }) (row_of rows i) n e in
        let c = row_at i m.0 m.1 in
        let q = are.each m.0 c.0 in
        (q.0, q.1, subst (λ (j : ℕ). IsInode R l j q.0 q.1) c.1 q.2.inode));
    name = λ d name i at h. (
        let s = stands d h.0 h.1 h.2 in
        ap (option_and_then (λ (r : Row). option_map (λ (x : ℕ × ℕ). x.0) (name_at r.names name))) s.found
        ∙ ap (option_map (λ (x : ℕ × ℕ). x.0)) (s.is.names name ∙ h.4));
    named = λ d name i e. (
        let w = named_row d name i e in
        let c = row_at d w.0 w.1 in
        let q = are.each w.0 c.0 in
        let says : named (good_of l q.1) name ≡ Some (i, w.2) = sym (q.2.names name) ∙ w.3 in
        (w.2, (q.0, q.1, subst (λ (j : ℕ). IsInode R l j q.0 q.1) c.1 q.2.inode, names_directory l q.1 name (i, w.2) says, says)));
  }

  pub all_names : HasAllNames R l
  all_names i = let m = names_in rows i in (m.0, names_are are i m.0 m.1)
