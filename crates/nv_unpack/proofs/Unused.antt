-- What looking for a CPU whose table has or gets an unused number tells.
use Rattle.std.proofs.Common.{◌≡◌, inl, inr, ℕ, ◌+◌, ◌%◌, ◌<◌, ◌≤◌, Bool, true, false, is_some, Option, Some, None, refl, sym, ap, subst, ◌∙◌, arith}
use Rattle.std.proofs.lemmas.Bool.{cases_eq}
use Rattle.std.proofs.lemmas.Nat.{mod_below}
use Rattle.nv_super.specs.Layout.{IsLayout}
use Rattle.nv_super.specs.declared.superblock.Super.{Super}
use Rattle.nv_tree.specs.Tree.{Tree}
use Rattle.nv_history.specs.Making.{lowest_unused}
use Rattle.nv_unpack.specs.declared.maker.Maker.TheVariants as makers
use Rattle.nv_unpack.specs.Turns.{HasNumber, IsInodeMaker, IsMaker}

-- any CPU of the region
pub of_any : (s told : Super) → told ≡ s → IsLayout s → (hint : ℕ) → IsMaker makers.Free s (hint % told.cpus)
of_any s told same layout hint = subst (λ (x : Super). IsMaker makers.Free s (hint % x.cpus)) (sym same) (mod_below hint s.cpus (omega (arith, layout.cpus_from)))

some_number : (o : Option ℕ) → is_some o ≡ true → (n : ℕ) × (o ≡ Some n)
some_number (Some n) there = (n, refl)
some_number None there = absurd (cc)

no_number : (o : Option ℕ) → is_some o ≡ false → o ≡ None
no_number (Some n) there = absurd (cc)
no_number None there = refl

module _ (s : Super) (t : Tree) where
  -- one CPU
  pub has_one : (cpu : ℕ) (told : Bool) → told ≡ is_some (lowest_unused s t cpu) → told ≡ true → HasNumber s t cpu
  has_one cpu told is there = some_number (lowest_unused s t cpu) (sym is ∙ there)

  has_none : (cpu : ℕ) (told : Bool) → told ≡ is_some (lowest_unused s t cpu) → told ≡ false → lowest_unused s t cpu ≡ None
  has_none cpu told is there = no_number (lowest_unused s t cpu) (sym is ∙ there)

  -- one CPU more
  pub none_between : (from k : ℕ) → ((cpu : ℕ) → from ≤ cpu → cpu < k → lowest_unused s t cpu ≡ None) → (told : Bool) → told ≡ is_some (lowest_unused s t k) → told ≡ false
      → (cpu : ℕ) → from ≤ cpu → cpu < k + 1 → lowest_unused s t cpu ≡ None
  none_between from k before told is there cpu low high = elim (cases_eq cpu k) [
    | inl same ↦ ap (lowest_unused s t) same ∙ has_none k told is there
    | inr differs ↦ before cpu low (omega (arith, high, differs))
  ]

  -- one that has a number
  pub of_some : (told : Super) → told ≡ s → (cpu : ℕ) → cpu < told.cpus → HasNumber s t cpu → IsInodeMaker makers.Free s t cpu
  of_some told same cpu low has = (subst (λ (x : Super). cpu < x.cpus) same low, inl has)

  -- the first, where none has one
  pub of_none : (told : Super) → told ≡ s → 0 < s.cpus → ((cpu : ℕ) → cpu < told.cpus → lowest_unused s t cpu ≡ None) → IsInodeMaker makers.Free s t 0
  of_none told same some none = (some, inr (λ cpu low. none cpu (subst (λ (x : Super). cpu < x.cpus) (sym same) low)))
