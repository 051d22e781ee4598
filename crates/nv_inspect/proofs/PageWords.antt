-- What a write and a cut make of a file's pages.
use Rattle.std.proofs.Common.{◌≡◌, ◌≢◌, ◌∙◌, ◌+◌, ◌-◌, ◌*◌, ◌<◌, ◌≤◌, ℕ, Bool, true, false, cond, ◌&&◌, if◌then◌else◌, nat_le, List, Option, Some, None, refl, ap, sym, subst, arith, inl, inr, ◌⊎◌}
use Rattle.std.specs.Option.{IsSome}
use Rattle.std.proofs.lemmas.Bool.{false≢true}
use Rattle.std.proofs.lemmas.Bool.Decides.{eqb_tells, nat_tests}
use Rattle.nv_super.specs.declared.superblock.Super.{Super}
use Rattle.nv_super.specs.Layout.{system_blocks}
use Rattle.nv_entry.specs.declared.entry.WriteEntry.{WriteEntry}
use Rattle.nv_entry.specs.declared.entry.Entry.TheVariants.{Write}
use Rattle.nv_entry.specs.Content.{is_write_out_of_range}
use Rattle.nv_radix.specs.Pages.{in_run}
use Rattle.nv_scan.specs.State.{block_in, cuts}
use Rattle.nv_inspect.specs.declared.pieces.Piece.{Piece}
use Rattle.nv_inspect.specs.Held.{piece_at, block_held, page_holder, block_by_shift, said_piece, same_shift, is_among, IsTaken, Loses, Marks, Says}
use Rattle.nv_inspect.proofs.Marking.{marks_as, marks_then}
use Rattle.nv_inspect.proofs.Stretches.{HoldsPage}

-- never block
abbrev unmapped : Option (Option ℕ)
unmapped = Some None

-- ---- one page

taken_far : (by p a d : ℕ) → 262144 < p + d → a ≢ d → p + a - 262144 ≢ p + d - 262144
taken_far by p a d far differs same = differs (omega (arith, far, same))

-- who holds a page whose blocks were shifted so far, and are so now
taken_by : (by p : ℕ) (old shift : Option ℕ) → ((d : ℕ) → shift ≡ Some d → 262144 < p + d) → IsTaken by (block_by_shift p old) (block_by_shift p shift) (if same_shift old shift then None else Some by)
taken_by by p None None far = inl (refl, refl)
taken_by by p None (Some d) far = inr (λ e. (cc), refl)
taken_by by p (Some a) None far = inr (λ e. (cc), refl)
taken_by by p (Some a) (Some d) far = elim (eqb_tells a d) [
  | inl w ↦ rw w.0 (inl (ap (λ (x : ℕ). Some (p + x - 262144)) w.1, refl))
  | inr w ↦ rw w.0 (inr (λ e. (let same : p + a - 262144 ≡ p + d - 262144 = cc in taken_far by p a d (far d refl) w.1 same), refl))
]

module _ (by p : ℕ) (shift : Option ℕ) (far : (d : ℕ) → shift ≡ Some d → 262144 < p + d) (old new : List (ℕ × Piece)) where
  -- it is said that the page's block is this
  one_said : (said : Option ℕ) → block_by_shift p shift ≡ said → piece_at new p ≡ said_piece by shift (piece_at old p) → Says by (Some said) (block_held old p) (page_holder old p) (block_held new p) (page_holder new p)
  one_said said is at = (
    ap (λ (x : Piece). block_by_shift p x.shift) at ∙ is,
    subst (λ (x : Piece). IsTaken by (block_held old p) said x.holder) (sym at) (subst (λ (v : Option ℕ). IsTaken by (block_held old p) v (if same_shift (piece_at old p).shift shift then None else Some by)) is (taken_by by p (piece_at old p).shift shift far)),
  )

-- nothing is said of it
none_said : (by p : ℕ) (old new : List (ℕ × Piece)) → piece_at new p ≡ piece_at old p → Says by None (block_held old p) (page_holder old p) (block_held new p) (page_holder new p)
none_said by p old new at = (ap (λ (x : Piece). block_by_shift p x.shift) at, ap (λ (x : Piece). x.holder) at)

-- ---- a cut

module _ (by size first : ℕ) (past : (p : ℕ) → nat_le first p ≡ nat_le size (p * 4096)) (old : List (ℕ × Piece)) where
  and_true : (b : Bool) → (b && true) ≡ b
  and_true true = refl
  and_true false = refl

  among_cut : (p : ℕ) → is_among first None p ≡ nat_le size (p * 4096)
  among_cut p = and_true (nat_le first p) ∙ past p

  pub cut_said : (new : List (ℕ × Piece)) → ((p : ℕ) → piece_at new p ≡ (if is_among first None p then said_piece by None (piece_at old p) else piece_at old p)) → (p : ℕ)
      → Says by (cuts size p) (block_held old p) (page_holder old p) (block_held new p) (page_holder new p)
  cut_said new set p = by_test (nat_le size (p * 4096)) (set p ∙ ap (λ (t : Bool). cond t (said_piece by None (piece_at old p)) (piece_at old p)) (among_cut p)) where
    by_test : (t : Bool) → piece_at new p ≡ cond t (said_piece by None (piece_at old p)) (piece_at old p) → Says by (if t then Some None else None) (block_held old p) (page_holder old p) (block_held new p) (page_holder new p)
    by_test true at = one_said by p None (λ d e. absurd (cc)) old new None refl at
    by_test false at = none_said by p old new at

  cut_some : (t : Bool) → t ≡ true → IsSome (if t then unmapped else None)
  cut_some true e = refl
  cut_some false e = e

  some_cut : (t : Bool) → IsSome (if t then unmapped else None) → t ≡ true
  some_cut true e = refl
  some_cut false e = e

  pub cut_marks : (a b : List (Option ℕ)) → Marks by (HoldsPage old first None) a b → Marks by (λ (k : ℕ). (p : ℕ) × Loses (cuts size p) (page_holder old p) k) a b
  cut_marks a b marks = marks_as by (HoldsPage old first None) (λ (k : ℕ). (p : ℕ) × Loses (cuts size p) (page_holder old p) k) a b
      (λ k h. (h.0, (cut_some (nat_le size (h.0 * 4096)) (sym (among_cut h.0) ∙ h.1), h.2)))
      (λ k h. (h.0, among_cut h.0 ∙ some_cut (nat_le size (h.0 * 4096)) h.1.0, h.1.1)) marks

-- ---- a write

pub record IsGoodWrite (e : WriteEntry) : Type 0 where
  pub pages : e.offset + e.count ≤ 262144
  pub some : 0 < e.count
  pub block : 0 < e.block
  pub size : (e.offset + e.count - 1) * 4096 < e.size

pub good_write : (s : Super) (e : WriteEntry) → is_write_out_of_range s e ≡ false → IsGoodWrite e
good_write s e good = record {
  pages = grind (arith, nat_tests);
  some = grind (arith, nat_tests);
  block = (let from : system_blocks s ≤ e.block = grind (arith, nat_tests) in omega (arith, from));
  size = grind (arith, nat_tests);
}

not_cut : (size p n : ℕ) → p < n → (n - 1) * 4096 < size → nat_le size (p * 4096) ≡ false
not_cut size p n below big = (let under : p * 4096 < size = omega (arith, below, big) in no_le_of size (p * 4096) under) where
  no_le_of : (x y : ℕ) → y < x → nat_le x y ≡ false
  no_le_of x y h = grind (arith, nat_tests)

run_from : (first count p : ℕ) → in_run first count p ≡ true → (first ≤ p) × (p < first + count)
run_from first count p h = (grind (arith, nat_tests), grind (arith, nat_tests))

module _ (by : ℕ) (e : WriteEntry) (good : IsGoodWrite e) (shift : ℕ) (shift_is : shift ≡ e.block + (262144 - e.offset)) (old mid new : List (ℕ × Piece))
    (run : (p : ℕ) → piece_at mid p ≡ (if is_among e.offset (Some (e.offset + e.count)) p then said_piece by (Some shift) (piece_at old p) else piece_at old p)) where
  mid_at : (p : ℕ) (t : Bool) → in_run e.offset e.count p ≡ t → piece_at mid p ≡ cond t (said_piece by (Some shift) (piece_at old p)) (piece_at old p)
  mid_at p t is = run p ∙ ap (λ (b : Bool). cond b (said_piece by (Some shift) (piece_at old p)) (piece_at old p)) is

  not_cut_in : (p : ℕ) → in_run e.offset e.count p ≡ true → nat_le e.size (p * 4096) ≡ false
  not_cut_in p inside = not_cut e.size p (e.offset + e.count) (run_from e.offset e.count p inside).1 good.size

  far : (p : ℕ) → in_run e.offset e.count p ≡ true → (d : ℕ) → Some shift ≡ Some d → 262144 < p + d
  far p inside d is =
      let from = (run_from e.offset e.count p inside).0 in
      let same : shift ≡ d = cc in
      let pages = good.pages in
      let block = good.block in
      omega (arith, from, same, shift_is, pages, block)

  block_is : (p : ℕ) → in_run e.offset e.count p ≡ true → block_by_shift p (Some shift) ≡ Some (e.block + (p - e.offset))
  block_is p inside = ap Some (let from = (run_from e.offset e.count p inside).0 in let pages = good.pages in omega (arith, from, shift_is, pages))

  pub write_said : ((p : ℕ) → Says by (cuts e.size p) (block_held mid p) (page_holder mid p) (block_held new p) (page_holder new p)) → (p : ℕ)
      → Says by (block_in p (Write e)) (block_held old p) (page_holder old p) (block_held new p) (page_holder new p)
  write_said cut p = elim (in_run e.offset e.count p) as (λ (t : Bool). in_run e.offset e.count p ≡ t → Says by (if t then Some (Some (e.block + (p - e.offset))) else cuts e.size p) (block_held old p) (page_holder old p) (block_held new p) (page_holder new p)) [
    | true ↦ λ inside.
        let uncut : Says by None (block_held mid p) (page_holder mid p) (block_held new p) (page_holder new p) =
        subst (λ (t : Bool). Says by (if t then Some None else None) (block_held mid p) (page_holder mid p) (block_held new p) (page_holder new p)) (not_cut_in p inside) (cut p) in
        let said = one_said by p (Some shift) (far p inside) old mid (Some (e.block + (p - e.offset))) (block_is p inside) (mid_at p true inside) in
        (uncut.0 ∙ said.0, subst (λ (h : Option ℕ). IsTaken by (block_held old p) (Some (e.block + (p - e.offset))) h) (sym uncut.1) said.1)
    | false ↦ λ outside. subst (λ (x : Piece). Says by (cuts e.size p) (block_by_shift p x.shift) x.holder (block_held new p) (page_holder new p)) (mid_at p false outside) (cut p)
  ] refl

  abbrev LosesWritten : ℕ → Type 0
  LosesWritten k = (p : ℕ) × Loses (block_in p (Write e)) (page_holder old p) k

  written_some : (p : ℕ) (t : Bool) → in_run e.offset e.count p ≡ t → t ≡ true → IsSome (block_in p (Write e))
  written_some p true is is_so = rw is refl
  written_some p false is is_so = absurd (false≢true is_so)

  same_holder : (p : ℕ) → in_run e.offset e.count p ≡ false → page_holder mid p ≡ page_holder old p
  same_holder p outside = ap (λ (x : Piece). x.holder) (mid_at p false outside)

  some_is : (t : Bool) → IsSome (if t then unmapped else None) → t ≡ true
  some_is true h = refl
  some_is false h = h

  from_cut : (k p : ℕ) → Loses (cuts e.size p) (page_holder mid p) k → (t : Bool) → in_run e.offset e.count p ≡ t → LosesWritten k
  from_cut k p h true inside = absurd (false≢true (sym (not_cut_in p inside) ∙ some_is (nat_le e.size (p * 4096)) h.0))
  from_cut k p h false outside = (p, (rw outside h.0, sym (same_holder p outside) ∙ h.1))

  into_parts : (k p : ℕ) → Loses (block_in p (Write e)) (page_holder old p) k → (t : Bool) → in_run e.offset e.count p ≡ t
      → HoldsPage old e.offset (Some (e.offset + e.count)) k ⊎ ((q : ℕ) × Loses (cuts e.size q) (page_holder mid q) k)
  into_parts k p h true inside = inl (p, inside, h.1)
  into_parts k p h false outside = inr (p, (rw outside at h.0, same_holder p outside ∙ h.1))

  pub write_marks : (a b c : List (Option ℕ)) → Marks by (HoldsPage old e.offset (Some (e.offset + e.count))) a b → Marks by (λ (k : ℕ). (p : ℕ) × Loses (cuts e.size p) (page_holder mid p) k) b c
      → Marks by (λ (k : ℕ). (p : ℕ) × Loses (block_in p (Write e)) (page_holder old p) k) a c
  write_marks a b c first next = marks_then by (HoldsPage old e.offset (Some (e.offset + e.count))) (λ (k : ℕ). (p : ℕ) × Loses (cuts e.size p) (page_holder mid p) k) LosesWritten a b c first next
      (λ k h. elim h [
        | inl w ↦ (w.0, (written_some w.0 true w.1 refl, w.2))
        | inr w ↦ from_cut k w.0 w.1 (in_run e.offset e.count w.0) refl
      ])
      (λ k h. into_parts k h.0 h.1 (in_run e.offset e.count h.0) refl)
