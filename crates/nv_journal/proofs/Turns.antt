-- One turn of rolling a journal back: the next older record is read as it stood, and its old value is stored.
use Rattle.std.proofs.Common.{◌≡◌, ◌⊎◌, inl, inr, ◌≤◌, ◌<◌, ◌+◌, ◌-◌, ◌*◌, ◌/◌, ◌%◌, ℕ, Bool, true, false, cond, List, ◌∷◌, map, refl, sym, ap, ◌∙◌, subst, arith, add-one, Result, Ok, Err, OnOk, OnErr}
use Rattle.std.specs.List.{range_with_len}
use Rattle.nv_region.specs.Region.{Region, word, put}
use Rattle.nv_region.specs.Stops.{Adds, Choices, NoneAdded, One}
use Rattle.nv_region.specs.Stored.{SameOutside, StoresOnly}
use Rattle.nv_region.proofs.Wordwise.{outside_put, put_stores, same_stores, stores_within}
use Rattle.nv_super.specs.Layout.{Layout}
use Rattle.nv_inode.specs.Chains.{IsLaid}
use Rattle.nv_inode.specs.Permitted.{is_permitted_by, LiesBehind}
use Rattle.nv_journal.specs.declared.pending.Pending.{Pending}
use Rattle.nv_journal.specs.Undo.{journal, count_of, dequeue, is_sound, number_of, pending_of, pending_count, pending_from, pending_record, permitted, permitted_records, place_of, record_address, record_at, stores, with_record, ByRecord, IsNamed}
use Rattle.nv_journal.specs.Undone.{OldValues}
use Rattle.nv_journal.proofs.Stored.{word_before}
use Rattle.nv_journal.proofs.Partly.{low_rule}
use Rattle.nv_journal.proofs.Resumed.{named_in}

-- a range by its first number
range_step : (a n b : ℕ) → a + 1 ≡ b → range_with_len a (n + 1) ≡ a ∷ range_with_len b n
range_step a n b next = rw (add-one n) (ap (λ (x : ℕ). a ∷ range_with_len x n) next)

-- one record more, counted from the newest
one_older : (R : Region) (cpu count done : ℕ) → done < count
    → pending_from R cpu (count - (done + 1)) (done + 1) ≡ record_at R cpu ((dequeue R cpu + (count - 1 - done)) % 252) ∷ pending_from R cpu (count - done) done
one_older R cpu count done more =
    let place : count - (done + 1) ≡ count - 1 - done = omega arith in
    ap (λ (l : List ℕ). map (λ j. record_at R cpu ((dequeue R cpu + j) % 252)) l) (range_step (count - (done + 1)) done (count - done) (omega (arith, more)))
    ∙ ap (λ (j : ℕ). record_at R cpu ((dequeue R cpu + j) % 252) ∷ pending_from R cpu (count - done) done) place

-- and stored, if it names a permitted word
named_step : (permits : ℕ → Bool) (R : Region) (r : ℕ × ℕ) (records : List (ℕ × ℕ)) (b : Bool) → permits r.0 ≡ b → stores (permitted permits (r ∷ records)) R ≡ cond b (put (stores (permitted permits records) R) r.0 r.1) (stores (permitted permits records) R)
named_step permits R r records true named = ap (λ (b : Bool). stores (cond b (r ∷ permitted permits records) (permitted permits records)) R) named
named_step permits R r records false named = ap (λ (b : Bool). stores (cond b (r ∷ permitted permits records) (permitted permits records)) R) named

-- Of a journal's pending records the last ones are put back. The next older one stands at this place, and no store reached it.
module _ (l : Layout) (R now : Region) (p : Pending) (count done place : ℕ) (layout : IsLaid l) (below : p.cpu < l.sup.cpus) (read : p ≡ pending_of R p.cpu) (all : count ≡ count_of p) (more : done < count)
    (so_far : now ≡ stores (permitted (is_permitted_by l) (pending_from R p.cpu (count - done) done)) R) (stands : place ≡ place_of p (count - 1 - done)) where
  abbrev cpu : ℕ
  cpu = p.cpu

  abbrev permits : ℕ → Bool
  permits = is_permitted_by l

  abbrev tables : ℕ
  tables = (1 + l.sup.cpus) * 4096

  rule : LiesBehind (is_permitted_by l) ((1 + l.sup.cpus) * 4096)
  rule = low_rule l layout

  room : journal cpu + 4096 ≤ tables
  room = omega (arith, below)

  is_place : place ≡ place_of (pending_of R cpu) (count - 1 - done)
  is_place = stands ∙ ap (λ (q : Pending). place_of q (count - 1 - done)) read

  abbrev number : ℕ
  number = number_of (pending_of R cpu) (count - 1 - done)

  unchanged : (k : ℕ) → k ≤ 8 → word now (record_address cpu number + k) ≡ word R (record_address cpu number + k)
  unchanged k few =
      let small : number < 252 = omega arith in
      ap (λ (Q : Region). word Q (record_address cpu number + k)) so_far
      ∙ word_before permits tables (λ at named. (rule at named).0) R (record_address cpu number + k) (omega (arith, small, room)) (pending_from R cpu (count - done) done)

  first_of : word now place ≡ (record_at R cpu number).0
  first_of = let none : record_address cpu number + 0 ≡ record_address cpu number = omega arith in ap (word now) (is_place ∙ sym none) ∙ unchanged 0 (omega arith) ∙ ap (word R) none

  second_of : word now (place + 8) ≡ (record_at R cpu number).1
  second_of = ap (λ (a : ℕ). word now (a + 8)) is_place ∙ unchanged 8 (omega arith)

  -- one turn of the loop
  pub one_turn : (next : Region) → next ≡ with_record permits now place → next ≡ stores (permitted permits (pending_from R cpu (count - (done + 1)) (done + 1))) R
  one_turn next is =
      let records = pending_from R cpu (count - done) done in
      is
      ∙ (λ i. cond (permits (first_of i)) (put (so_far i) (first_of i) (second_of i)) (so_far i))
      ∙ sym (ap (λ (l : List (ℕ × ℕ)). stores (permitted permits l) R) (one_older R cpu count done more) ∙ named_step permits R (record_at R cpu number) records (permits (record_at R cpu number).0) refl)

  -- what is stored is the old value of a pending record, in the word that this names
  pub old_value : is_sound R cpu ≡ true → (i x : ℕ) → ByRecord permits now place i x → OldValues permits R cpu i x
  old_value sound i x by =
      let is_count : count ≡ pending_count R cpu = all ∙ ap count_of read in
      let named : permits (record_at R cpu number).0 ≡ true = ap permits (sym first_of) ∙ by.0 in
      let aligned : (record_at R cpu number).0 % 8 ≡ 0 = (rule (record_at R cpu number).0 named).1 in
      let first : i ≡ (record_at R cpu number).0 / 8 = by.1.0 ∙ ap (λ (a : ℕ). a / 8) first_of in
      let whole : (record_at R cpu number).0 ≡ 8 * i = omega (arith, first, aligned) in (
        count - 1 - done,
        record { sound = sound; pending = omega (arith, more, is_count); permitted = ap permits (sym whole) ∙ named; address = whole },
        by.1.1 ∙ second_of,
      )

-- such a word is one that the records name
pub values_named : (permits : ℕ → Bool) (R : Region) (cpu i x : ℕ) → OldValues permits R cpu i x → IsNamed (permitted_records permits R cpu) i x
values_named permits R cpu i x it =
    let j : ℕ = it.0 in
    let zero_j : 0 + j ≡ j = omega arith in
    let address : (pending_record R cpu j).0 ≡ 8 * i = it.1.address in
    named_in permits (pending_record R cpu) 0 (pending_count R cpu) j i it.1.pending
    (ap (λ (k : ℕ). permits (pending_record R cpu k).0) zero_j ∙ ap permits address ∙ it.1.permitted) (ap (λ (k : ℕ). (pending_record R cpu k).0) zero_j ∙ address)

pub named_stores : (permits : ℕ → Bool) (R S : Region) (cpu : ℕ) (old new : Choices) → StoresOnly (OldValues permits R cpu) R S old new → StoresOnly (IsNamed (permitted_records permits R cpu)) R S old new
named_stores permits R S cpu old new = stores_within (IsNamed (permitted_records permits R cpu)) (OldValues permits R cpu) R S old new (values_named permits R cpu)

-- nothing is stored
pub outside_same : (R : Region) (from n : ℕ) → SameOutside R from n R
outside_same R from n = record { len = refl; as_long = refl; same_rest = refl; before = λ b whole low. refl; behind = λ b whole high. refl }

-- one record, by what was loaded of it
module _ (permits : ℕ → Bool) (R : Region) (place at : ℕ) (is_at : at ≡ word R place) where
  pub not_named : permits at ≡ false → R ≡ with_record permits R place
  not_named off = sym (ap (λ (b : Bool). cond b (put R (word R place) (word R (place + 8))) R) (ap permits (sym is_at) ∙ off))

  module _ (value : ℕ) (is_value : value ≡ word R (place + 8)) (on : permits at ≡ true) where
    pub by_record : put R at value ≡ with_record permits R place
    by_record = (λ i. put R (is_at i) (is_value i)) ∙ sym (ap (λ (b : Bool). cond b (put R (word R place) (word R (place + 8))) R) (ap permits (sym is_at) ∙ on))

    is_one : (i x : ℕ) → One at value i x → ByRecord permits R place i x
    is_one i x one = (ap permits (sym is_at) ∙ on, (one.0 ∙ ap (λ (a : ℕ). a / 8) is_at, one.1 ∙ is_value))

    pub record_stored : {T E : Type 0} (result : Result T E) (S : Region) (old new : Choices) → OnOk result (S ≡ put R at value) → OnErr result (S ≡ R) → OnOk result (Adds (One at value) old new) → OnErr result (NoneAdded old new)
        → StoresOnly (ByRecord permits R place) R S old new
    record_stored (Ok done) S old new stored refused adds none = stores_within _ (One at value) _ _ _ _ is_one (put_stores R S at value old new stored adds)
    record_stored (Err stopped) S old new stored refused adds none = same_stores _ R S old new refused none

-- a word between two addresses is stored, or nothing is
pub outside_either : (R X S : Region) (from n at value : ℕ) → at % 8 ≡ 0 → from ≤ at → at + 8 ≤ from + n → SameOutside R from n X → (S ≡ X) ⊎ (S ≡ put X at value) → SameOutside R from n S
outside_either R X S from n at value whole low high so_far (inl same) = subst (λ (Q : Region). SameOutside R from n Q) (sym same) so_far
outside_either R X S from n at value whole low high so_far (inr stored) = subst (λ (Q : Region). SameOutside R from n Q) (sym stored) (outside_put R X from n at value whole low high so_far)

-- the answer of a store says which
pub either_of : {T E : Type 0} (result : Result T E) (R S : Region) (at value : ℕ) → OnOk result (S ≡ put R at value) → OnErr result (S ≡ R) → (S ≡ R) ⊎ (S ≡ put R at value)
either_of (Ok done) R S at value stored refused = inr stored
either_of (Err stopped) R S at value stored refused = inl refused
