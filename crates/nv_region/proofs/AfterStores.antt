-- A region in memory after stores in turn.
use Rattle.std.proofs.Common.{◌≡◌, ◌+◌, ◌*◌, ◌≤◌, ◌/◌, ◌%◌, length, inl, inr, ℕ, zero, suc, Bool, true, false, not, ◌&&◌, ◌||◌, if◌then◌else◌, List, get_or, refl, sym, ap, ◌∙◌, subst, arith, add-one}
use Rattle.std.proofs.lemmas.Bool.{cases_eq}
use Rattle.nv_region.specs.Region.{put}
use Rattle.nv_region.specs.Stops.{Adds}
use Rattle.nv_region.specs.Lines.{put_words, Each}
use Rattle.nv_region.proofs.Lines.{words_add}
use Rattle.nv_region.specs.RegionState.{RegionState, after_store, after_stores, burns_at_store, one_passed, fenced_or_last, is_off, is_steady, steady_unburnt}
use Rattle.nv_region.specs.declared.memory.Fuse.{Fuse}
use Rattle.nv_region.specs.declared.memory.Fuse.TheVariants.{Off, After, At}

-- a fuse that has burnt refuses each further store
refused : (m : RegionState) (at value : ℕ) → m.burnt ≡ true → after_store m at value ≡ m
refused m at value burnt = ap (λ (b : Bool). if b || burns_at_store m.fuse at then record m { burnt = true } else record m { region = put m.region at value; fuse = one_passed m.fuse }) burnt ∙ λ i. record m { burnt = sym burnt i }

-- so that all later words are left out
pub stays_burnt : (m : RegionState) (at : ℕ) (words : List ℕ) (k n : ℕ) → k ≤ n → (after_stores m at words k).burnt ≡ true → after_stores m at words k ≡ after_stores m at words n
stays_burnt m at words k zero few burnt = ap (after_stores m at words) (let e : k ≡ 0 = omega arith in e)
stays_burnt m at words k (suc n) few burnt = elim (cases_eq k (suc n)) [
  | inl same ↦ ap (after_stores m at words) same
  | inr differ ↦
      let before : after_stores m at words k ≡ after_stores m at words n = stays_burnt m at words k n (omega (arith, few, differ)) burnt in
      before ∙ sym (refused (after_stores m at words n) (at + 8 * n) (get_or words n 0) (ap (λ (s : RegionState). s.burnt) (sym before) ∙ burnt))
]

-- one store more
pub after_one : (m s t : RegionState) (at : ℕ) (words : List ℕ) (k : ℕ) → s ≡ after_stores m at words k → t ≡ after_store s (at + 8 * k) (get_or words k 0) → t ≡ after_stores m at words (k + 1)
after_one m s t at words k so_far next = next ∙ ap (λ (r : RegionState). after_store r (at + 8 * k) (get_or words k 0)) so_far ∙ ap (after_stores m at words) (sym (add-one k))

-- where no fuse is set, each store passes
passes : (m : RegionState) (at value : ℕ) → m.burnt ≡ false → m.fuse ≡ Off → after_store m at value ≡ record m { region = put m.region at value }
passes m at value whole off = rw (whole, off) refl

steady_off : (fuse : Fuse) (burnt : Bool) → (is_off fuse && not burnt) ≡ true → fuse ≡ Off
steady_off Off burnt h = refl
steady_off (After n) burnt h = absurd (cc)
steady_off (At a) burnt h = absurd (cc)

-- so that all of them are done
pub all_pass : (m : RegionState) (at : ℕ) (words : List ℕ) (n : ℕ) → is_steady m ≡ true → after_stores m at words n ≡ record m { region = put_words m.region at words n }
all_pass m at words zero steady = refl
all_pass m at words (suc n) steady =
    ap (λ (s : RegionState). after_store s (at + 8 * n) (get_or words n 0)) (all_pass m at words n steady)
    ∙ passes (record m { region = put_words m.region at words n }) (at + 8 * n) (get_or words n 0) (steady_unburnt m steady) (steady_off m.fuse m.burnt steady)

-- what words in a row add where all of them pass
pub all_kept : (m : RegionState) (new : RegionState) (at a : ℕ) (words : List ℕ) (n : ℕ) → at % 8 ≡ 0 → at / 8 + n ≤ length m.region.words → new ≡ record m { region = put_words m.region a words n } → a ≡ at → Adds (Each at words n) (fenced_or_last m) (fenced_or_last new)
all_kept m new at a words n aligned within is same = subst (λ (s : RegionState). Adds (Each at words n) (fenced_or_last m) (fenced_or_last s)) (sym (is ∙ ap (λ (b : ℕ). record m { region = put_words m.region b words n }) same))
    (λ i x may. elim may [
      | inl last ↦ elim (words_add m.region at words n i x aligned within last) [ inl before ↦ inl (inl before) | inr here ↦ inr here ]
      | inr fenced ↦ inl (inr fenced)
    ])
