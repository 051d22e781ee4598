-- What each directory was compared with, in tables.
use Rattle.std.proofs.Common.{◌≡◌, ◌∙◌, ◌==◌, ℕ, Bool, true, false, is_none, ◌&&◌, [], ◌∷◌, List, Option, Some, None, if◌then◌else◌, refl, sym, ap, subst, arith}
use Rattle.std.specs.BTreeMap.{BTreeMap, Updates, get}
use Rattle.std.specs.Ordering.{is_eq, nat_cmp}
use Rattle.std.proofs.lemmas.Bool.Decides.{nat_tests}
use Rattle.nv_difference.specs.Pairs.{Both, are_new, owner_of, partner_of}
use Rattle.nv_difference.specs.Walk.{AreTables, Known}

-- a table with one number more
same_place : (i k : ℕ) → (i == k) ≡ true → i ≡ k
same_place i k is = grind (arith, nat_tests)

other_place : (i k : ℕ) → (i == k) ≡ false → is_eq (nat_cmp i k) ≡ false
other_place i k apart = grind (arith, nat_tests)

set_at : (old new : BTreeMap ℕ ℕ) (known : Known) (i value : ℕ) → Updates nat_cmp old new i (Some value) → ((k : ℕ) → get nat_cmp old k ≡ known k)
    → (k : ℕ) → get nat_cmp new k ≡ (if i == k then Some value else known k)
set_at old new known i value updates is k = by (i == k) refl where
  by : (b : Bool) → (i == k) ≡ b → get nat_cmp new k ≡ (if b then Some value else known k)
  by true same = subst (λ (j : ℕ). get nat_cmp new j ≡ Some value) (same_place i k same) updates.1
  by false apart = updates.2 k (other_place i k apart) ∙ is k

-- at first no directory was compared
pub none_compared : (partners owners : Known) → ((i : ℕ) → partners i ≡ None) → ((j : ℕ) → owners j ≡ None) → AreTables [] partners owners
none_compared partners owners first second = record { partner = first; owner = second }

-- the two directories of a pair were compared
pub with_both : (seen : List Both) (x : Both) (partners owners more others : BTreeMap ℕ ℕ) → AreTables seen (get nat_cmp partners) (get nat_cmp owners) → Updates nat_cmp partners more x.1 (Some x.2)
    → Updates nat_cmp owners others x.2 (Some x.1) → AreTables (x ∷ seen) (get nat_cmp more) (get nat_cmp others)
with_both seen x partners owners more others are first second = record {
  partner = set_at partners more (partner_of seen) x.1 x.2 first are.partner;
  owner = set_at owners others (owner_of seen) x.2 x.1 second are.owner;
}

module _ (seen : List Both) (x : Both) (partners owners : Known) (are : AreTables seen partners owners) where
  -- ---- what a look into the tables says

  pub its_partner : (p : Option ℕ) → p ≡ partners x.1 → p ≡ partner_of seen x.1
  its_partner p is = is ∙ are.partner x.1

  pub are_known : (p q : Option ℕ) (b : Bool) → p ≡ partners x.1 → q ≡ owners x.2 → (is_none p && is_none q) ≡ b → are_new seen x ≡ b
  are_known p q b first second is = ap (λ (o : Option ℕ). is_none o && is_none (owner_of seen x.2)) (sym (first ∙ are.partner x.1)) ∙ ap (λ (o : Option ℕ). is_none p && is_none o) (sym (second ∙ are.owner x.2)) ∙ is
