-- Who owns what after one inode changed.
use Rattle.std.proofs.Common.{◌≡◌, ◌≢◌, ◌⊎◌, ℕ, ◌≤◌, ◌<◌, inl, inr, refl, sym, ◌∙◌, subst, Option}
use Rattle.std.proofs.lemmas.Bool.{cases_eq}
use Rattle.std.proofs.lemmas.Bool.Decides.{eqb_tells}
use Rattle.nv_super.specs.Layout.{Layout, system_blocks}
use Rattle.nv_super.specs.declared.owners.Owner.{Owner}
use Rattle.nv_super.specs.declared.owners.Owner.TheVariants as owners
use Rattle.nv_mounted.specs.Held.{Held, Store, with_inode}
use Rattle.nv_mounted.specs.Blocks.{OwnsIn, by_table, by_log, by_page, IsOf, IsUnowned, NoneDoubled, OwnsNew}

pub other_held : (held : Store) (i j : ℕ) (o : Option Held) → j ≢ i → with_inode held i o j ≡ held j
other_held held i j o n = elim (eqb_tells j i) [ inl w ↦ absurd (n w.1) | inr w ↦ rw w.0 refl ]

pub same_held : (held : Store) (i : ℕ) (o : Option Held) → with_inode held i o i ≡ o
same_held held i o = elim (eqb_tells i i) [ inl w ↦ rw w.0 refl | inr w ↦ absurd (w.1 refl) ]

-- whether an inode is an owner
pub is_of : (i : ℕ) (o : Owner) → IsOf i o ⊎ (IsOf i o → ⊥)
is_of i (owners.Table c k) = inr (λ none. none)
is_of i (owners.Log j k) = cases_eq j i
is_of i (owners.Data j p) = cases_eq j i

module _ (l : Layout) (held : Store) (i : ℕ) (new : Option Held) where
  -- owners of other inodes are as before
  pub owned_before : (b : ℕ) (o : Owner) → OwnsIn l (with_inode held i new) b o → (IsOf i o → ⊥) → OwnsIn l held b o
  owned_before b o (by_table has) n = by_table has
  owned_before b o (by_log {i = j} is page) n = by_log (sym (other_held held i j new n) ∙ is) page
  owned_before b o (by_page {i = j} is maps) n = by_page (sym (other_held held i j new n) ∙ is) maps

  pub owned_after : (b : ℕ) (o : Owner) → OwnsIn l held b o → (IsOf i o → ⊥) → OwnsIn l (with_inode held i new) b o
  owned_after b o (by_table has) n = by_table has
  owned_after b o (by_log {i = j} is page) n = by_log (other_held held i j new n ∙ is) page
  owned_after b o (by_page {i = j} is maps) n = by_page (other_held held i j new n ∙ is) maps

  -- what is free and isn't owned by the changed inode now is free
  pub free_still : (b : ℕ) → IsUnowned l held b → ((o : Owner) → OwnsIn l (with_inode held i new) b o → IsOf i o → ⊥) → IsUnowned l (with_inode held i new) b
  free_still b free none = record { from = free.from; below = free.below; unowned = λ o owns. elim (is_of i o) [ inl mine ↦ none o owns mine | inr n ↦ free.unowned o (owned_before b o owns n) ] }

  -- what is free now was free, or was owned by the changed inode
  pub free_before : (b : ℕ) → IsUnowned l (with_inode held i new) b → ((o : Owner) → OwnsIn l held b o → IsOf i o → ⊥) → IsUnowned l held b
  free_before b free none = record { from = free.from; below = free.below; unowned = λ o owns. elim (is_of i o) [ inl mine ↦ none o owns mine | inr n ↦ free.unowned o (owned_after b o owns n) ] }

  -- what the changed inode has let go is free
  pub let_go : NoneDoubled l held → (b : ℕ) (o : Owner) → OwnsIn l held b o → IsOf i o → system_blocks l.sup ≤ b → b < l.sup.blocks → ((mine : Owner) → OwnsIn l (with_inode held i new) b mine → IsOf i mine → ⊥) → IsUnowned l (with_inode held i new) b
  let_go undoubled b o owns mine from below none = record {
    from = from;
    below = below;
    unowned = λ other owns'. elim (is_of i other) [ inl m ↦ none other owns' m | inr n ↦ n (subst (IsOf i) (undoubled b o other owns (owned_before b other owns' n)) mine) ];
  }

  module _ (own : OwnsNew l held i new) (undoubled : NoneDoubled l held) where
    not_both : (b : ℕ) (o other : Owner) → OwnsIn l (with_inode held i new) b o → IsOf i o → OwnsIn l held b other → (IsOf i other → ⊥) → ⊥
    not_both b o other owns mine theirs n = elim (own.each b o owns mine) [
      | inl w ↦ n (subst (IsOf i) (undoubled b w.0 other w.1 theirs) w.2)
      | inr free ↦ free.unowned other theirs
    ]

    pub still_undoubled : NoneDoubled l (with_inode held i new)
    still_undoubled b o other owns owns' = elim (is_of i o) [
      | inl mine ↦ elim (is_of i other) [
        | inl mine' ↦ own.once b o other owns owns' mine mine'
        | inr n' ↦ absurd (not_both b o other owns mine (owned_before b other owns' n') n')
      ]
      | inr n ↦ elim (is_of i other) [
        | inl mine' ↦ absurd (not_both b other o owns' mine' (owned_before b o owns n) n)
        | inr n' ↦ undoubled b o other (owned_before b o owns n) (owned_before b other owns' n')
      ]
    ]
