-- What is wrong with the journals can be listed.
use Rattle.std.proofs.Common.{◌≡◌, ◌⊎◌, inl, inr, ℕ, ◌+◌, ◌%◌, ◌<◌, ◌≤◌, Bool, true, false, refl, sym, ap, subst, arith}
use Rattle.std.proofs.lemmas.Bool.{cases_lt}
use Rattle.nv_region.specs.Region.{Region}
use Rattle.nv_super.specs.declared.superblock.Super.{Super}
use Rattle.nv_super.specs.declared.faults.Fault.{Fault}
use Rattle.nv_super.specs.declared.faults.Fault.TheVariants as faults
use Rattle.nv_journal.specs.Chains.{layout_of}
use Rattle.nv_journal.specs.Permitted.{is_permitted_by}
use Rattle.nv_journal.specs.Undo.{dequeue, enqueue, is_sound, pending_count, record_at}
use Rattle.nv_journal.specs.Faults.{IsFaultOf, HasFault}
use Rattle.nv_outcome.proofs.Finite.{Decided, Finite, only, numbers, by_name, either, if_so, over}

bool_is : (a b : Bool) → Decided (a ≡ b)
bool_is true true = inl refl
bool_is true false = inr (λ e. cc)
bool_is false true = inr (λ e. cc)
bool_is false false = inl refl

any_one : {P Q : Type 0} → Decided P → Decided Q → Decided (P ⊎ Q)
any_one (inl p) q = inl (inl p)
any_one (inr n) (inl q) = inl (inr q)
any_one (inr n) (inr m) = inr (λ h. elim h [ inl p ↦ n p | inr q ↦ m q ])

number_within : (a b : ℕ) → Decided (a ≤ b)
number_within a b = elim (cases_lt b a) [ inl less ↦ inr (λ h. omega (arith, h, less)) | inr h ↦ inl h ]

module _ (permits : ℕ → Bool) (R : Region) (cpu : ℕ) where
  -- the place of a pending record
  place : ℕ → ℕ
  place j = (dequeue R cpu + j) % 252

  WrongPointer : Fault → Type 0
  WrongPointer f = ((252 ≤ dequeue R cpu) ⊎ (252 ≤ enqueue R cpu)) × (f ≡ faults.J1 cpu)

  WrongRecord : Fault → Type 0
  WrongRecord f = (is_sound R cpu ≡ true) × ((j : ℕ) × (j < pending_count R cpu) × ((permits (record_at R cpu (place j)).0 ≡ false) × (f ≡ faults.J2 cpu (place j))))

  of_journal : Finite (λ f. WrongPointer f ⊎ WrongRecord f)
  unfolding WrongPointer WrongRecord
  of_journal = either
      (if_so (any_one (number_within 252 (dequeue R cpu)) (number_within 252 (enqueue R cpu))) (only (faults.J1 cpu)))
      (if_so (bool_is (is_sound R cpu) true) (over (numbers (pending_count R cpu)) (λ j. if_so (bool_is (permits (record_at R cpu (place j)).0) false) (only (faults.J2 cpu (place j))))))

  there : (f : Fault) → WrongPointer f ⊎ WrongRecord f → IsFaultOf permits R cpu f
  unfolding WrongPointer WrongRecord place
  there f (inl w) = subst (IsFaultOf permits R cpu) (sym w.1) (refl, w.0)
  there f (inr w) = subst (IsFaultOf permits R cpu) (sym w.1.2.1) (refl, w.0, (w.1.0, w.1.1, refl), w.1.2.0)

  back : (f : Fault) → IsFaultOf permits R cpu f → WrongPointer f ⊎ WrongRecord f
  unfolding WrongPointer WrongRecord place
  back (faults.J1 c) h = inl (h.1, ap faults.J1 h.0)
  back (faults.J2 c k) h = inr (h.1, (h.2.0, h.2.1, (subst (λ (n : ℕ). permits (record_at R cpu n).0 ≡ false) h.2.2 h.3, λ i. faults.J2 (h.0 i) (h.2.2 i))))
  back _ h = absurd h

-- What is wrong with the journals of this region.
pub journal_listed : (s : Super) (R : Region) → Finite (HasFault s R)
journal_listed s R = over (numbers s.cpus) (λ cpu. by_name (there (is_permitted_by (layout_of s R)) R cpu) (back (is_permitted_by (layout_of s R)) R cpu) (of_journal (is_permitted_by (layout_of s R)) R cpu))
