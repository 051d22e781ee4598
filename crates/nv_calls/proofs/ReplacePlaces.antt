-- Where `replace` may store, by what the new name stands for.
use Rattle.std.proofs.Common.{◌≡◌, ◌≢◌, ℕ, cond, nat_eq, Bool, true, false, refl, ap, sym, ◌∙◌, subst, inl, inr, Option, Some, None}
use Rattle.std.proofs.lemmas.Bool.{cases_eq, eq-eqb, ne_eqb}
use Rattle.nv_super.specs.Layout.{Layout}
use Rattle.nv_steps.specs.Slots.{slot_in}
use Rattle.nv_steps.specs.InOrder.{tail_address}
use Rattle.nv_steps.specs.Stores.{Places, one_less, one_log, three_logs, two_less, two_logs}
use Rattle.nv_calls.specs.ReplaceStores.{last_word, nowhere, replace_places}

-- what is so of both is so of the one that is chosen
chosen : (Q : Places → Type 0) (b : Bool) {p q : Places} → (b ≡ true → Q p) → (b ≡ false → Q q) → Q (cond b p q)
chosen Q true on off = on refl
chosen Q false on off = off refl

module _ (Q : Places → Type 0) (l : Layout) (cpu d e i : ℕ) (o : Option ℕ) (stays : Bool) where
  -- for no inode
  pub free_places : o ≡ None → (d ≡ e → Q (one_log l d)) → (d ≢ e → Q (two_logs l cpu d e)) → Q (replace_places l cpu d e i o stays)
  free_places none here over = subst Q (sym (ap (λ (k : Option ℕ). replace_places l cpu d e i k stays) none)) (elim (cases_eq d e) [
    | inl same ↦ subst Q (sym (ap (λ (b : Bool). cond b (one_log l d) (two_logs l cpu d e)) (eq-eqb d e same))) (here same)
    | inr differ ↦ subst Q (sym (ap (λ (b : Bool). cond b (one_log l d) (two_logs l cpu d e)) (ne_eqb d e differ))) (over differ)
  ])

  -- for another inode
  module _ (j : ℕ) (is : o ≡ Some j) (apart : i ≢ j) (b : Bool) (told : stays ≡ b) where
    taken : replace_places l cpu d e i o stays ≡ cond b (cond (nat_eq d e) (two_logs l cpu d j) (three_logs l cpu d e j)) (cond (nat_eq d e) (one_less l cpu d j) (two_less l cpu d e j))
    taken =
        (λ k. replace_places l cpu d e i (is k) (told k))
        ∙ ap (λ (c : Bool). cond c nowhere (cond b (cond (nat_eq d e) (two_logs l cpu d j) (three_logs l cpu d e j)) (cond (nat_eq d e) (one_less l cpu d j) (two_less l cpu d e j)))) (ne_eqb i j apart)

    -- within one directory
    pub here_places : d ≡ e → (b ≡ true → Q (two_logs l cpu d j)) → (b ≡ false → Q (one_less l cpu d j)) → Q (replace_places l cpu d e i o stays)
    here_places same on off = subst Q (sym (taken ∙ ap (λ (c : Bool). cond b (cond c (two_logs l cpu d j) (three_logs l cpu d e j)) (cond c (one_less l cpu d j) (two_less l cpu d e j))) (eq-eqb d e same))) (chosen Q b on off)

    -- and from one to another
    pub over_places : d ≢ e → (b ≡ true → Q (three_logs l cpu d e j)) → (b ≡ false → Q (two_less l cpu d e j)) → Q (replace_places l cpu d e i o stays)
    over_places differ on off = subst Q (sym (taken ∙ ap (λ (c : Bool). cond b (cond c (two_logs l cpu d j) (three_logs l cpu d e j)) (cond c (one_less l cpu d j) (two_less l cpu d e j))) (ne_eqb d e differ))) (chosen Q b on off)

-- the word that is stored last
pub last_by : (Q : ℕ → Type 0) (l : Layout) (j : ℕ) (b : Bool) → (b ≡ true → Q (tail_address l j)) → (b ≡ false → Q (slot_in l j)) → Q (last_word l j b)
last_by Q l j true on off = on refl
last_by Q l j false on off = off refl
