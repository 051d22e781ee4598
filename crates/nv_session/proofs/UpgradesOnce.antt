-- `upgrade` prints one text of regions that seem the same, and of alike states it leaves alike ones.
use Rattle.std.proofs.Common.{◌≡◌, ◌⊎◌, inl, inr, ◌==◌, ℕ, Bool, true, false, eqb, List, [], ◌∷◌, Option, Some, None, refl, sym, ap, subst, ◌∙◌}
use Rattle.std.proofs.lemmas.Bool.{true≢false}
use Rattle.nv_region.specs.Region.{Region}
use Rattle.nv_super.specs.declared.superblock.Super.{Super}
use Rattle.nv_journal.specs.Undo.{undone}
use Rattle.nv_inode.specs.Upgraded.{IsUpgraded}
use Rattle.nv_outcome.specs.Outcome.{Outcome, IsOutcome}
use Rattle.nv_outcome.specs.Same.{SameOutcome}
use Rattle.nv_outcome.proofs.OnlyOne.{same_outcome}
use Rattle.nv_outcome.proofs.SuperOf.{version_of_super}
use Rattle.nv_tree.specs.Refusals.{first_refusal, refusal_word}
use Rattle.nv_tree.specs.declared.refusal.Refusal.{Refusal}
use Rattle.nv_tree.specs.declared.refusal.Refusal.TheVariants.{IsVersion2, ReadOnly}
use Rattle.nv_text.specs.Answers.{refused_line}
use Rattle.nv_calls.specs.Alike.{AreAlike}
use Rattle.nv_calls.specs.Mount.{has_faults}
use Rattle.nv_calls.proofs.UpgradeAlike.{upgraded_alike}
use Rattle.nv_session.specs.Alike.{AlikeStates, IsLeftOf, SeemSame}
use Rattle.nv_session.specs.Machine.{State, AskedUpgrade, DoesUpgrade, RefusesUpgrade, StopsUpgrade, Upgrades, UpgradesMounted, upgrade_asked}
use Rattle.nv_session.proofs.SeemSame.{seen_one, sound_alike}

-- what seems the same as itself
seem_itself : (o : Option Region) → SeemSame o o
seem_itself None = tt
seem_itself (Some R) = inl refl

-- what a test that doesn't hold says
can_write : (read_only two : Bool) → first_refusal ((read_only, ReadOnly) ∷ (two, IsVersion2) ∷ []) ≡ None → (read_only ≡ false) × (two ≡ false)
can_write true two none = absurd (cc)
can_write false true none = absurd (cc)
can_write false false none = (refl, refl)

version_one : (S : Region) (o : Outcome) → IsOutcome S o → eqb o.sup.version 2 ≡ false → o.sup.version ≡ 1
version_one S o is off = by (version_of_super S o.sup is.sup) where
  by : (o.sup.version ≡ 1) ⊎ (o.sup.version ≡ 2) → o.sup.version ≡ 1
  by (inl one) = one
  by (inr two) = absurd (true≢false (sym (ap (λ (v : ℕ). eqb v 2) two) ∙ off))

module _ (R S Q P : Region) (mounted : SeemSame (Some R) (Some Q)) (region : SeemSame (Some S) (Some P)) where
  same_tests : (a : AskedUpgrade R S) (b : AskedUpgrade Q P) → first_refusal (upgrade_asked b) ≡ first_refusal (upgrade_asked a)
  same_tests a b =
      let shown = seen_one R Q mounted a.shown b.shown a.of_shown b.of_shown in
      let here = seen_one S P region a.here b.here a.of_here b.of_here in
      λ i. first_refusal ((has_faults (shown.faults i), ReadOnly) ∷ (eqb (here.sup i).version 2, IsVersion2) ∷ [])

  module _ (old other m n : State) (s t : List ℕ) where
    one_refusal : RefusesUpgrade R S old s m → RefusesUpgrade Q P other t n → s ≡ t
    one_refusal p q =
        let same : p.1.0 ≡ q.1.0 = (let both : Some p.1.0 ≡ Some q.1.0 = sym p.1.1 ∙ sym (same_tests p.0 q.0) ∙ q.1.1 in cc) in
        p.1.2 ∙ ap (λ (r : Refusal). refused_line (refusal_word r)) same ∙ sym q.1.2

    first_refused : RefusesUpgrade R S old s m → DoesUpgrade Q P other t n → ⊥
    first_refused p q = (let clash : Some p.1.0 ≡ None = sym p.1.1 ∙ sym (same_tests p.0 q.0) ∙ q.1 in cc)

    second_refused : DoesUpgrade R S old s m → RefusesUpgrade Q P other t n → ⊥
    second_refused p q = (let clash : Some q.1.0 ≡ None = sym q.1.1 ∙ same_tests p.0 q.0 ∙ p.1 in cc)

    -- what is left is alike
    upgraded_seem : IsLeftOf (Some R) (Some S) → (p : DoesUpgrade R S old s m) (q : DoesUpgrade Q P other t n) → AreAlike p.2 q.2
    upgraded_seem left p q =
        let a = p.0 in
        let b = q.0 in
        let passes = can_write (has_faults a.shown.faults) (eqb a.here.sup.version 2) p.1 in
        let here = seen_one S P region a.here b.here a.of_here b.of_here in
        let first = a.of_here in
        upgraded_alike S P p.2 q.2 a.here.sup (sound_alike R S P a.shown a.of_shown passes.0 (left a.shown a.of_shown) region) first.sup (version_one S a.here a.of_here passes.1) p.3
        (subst (λ (x : Super). IsUpgraded P x.cpus q.2) here.sup q.3)

-- what is left is its own undone region
own_left : (R S : Region) (old m : State) (s : List ℕ) (p : DoesUpgrade R S old s m) → IsLeftOf (Some p.2) (Some p.2)
own_left R S old m s p o is =
    let left = p.4 in
    let same = same_outcome p.2 left.after o left.shown is in
    sym left.own ∙ ap (λ (x : Super). undone x p.2) (sym same.sup)

-- one text
text_one : (mounted others region another : Option Region) → SeemSame mounted others → SeemSame region another → (old other m n : State) (s t : List ℕ) → UpgradesMounted mounted region old s m → UpgradesMounted others another other t n → s ≡ t
text_one None None region another seem seem_region old other m n s t p q = p.0 ∙ sym q.0
text_one None (Some Q) region another seem seem_region old other m n s t p q = absurd seem
text_one (Some R) None region another seem seem_region old other m n s t p q = absurd seem
text_one (Some R) (Some Q) None another seem seem_region old other m n s t p q = absurd p
text_one (Some R) (Some Q) (Some S) None seem seem_region old other m n s t p q = absurd q
text_one (Some R) (Some Q) (Some S) (Some P) seem seem_region old other m n s t (inl p) (inl q) = one_refusal R S Q P seem seem_region old other m n s t p q
text_one (Some R) (Some Q) (Some S) (Some P) seem seem_region old other m n s t (inl p) (inr q) = absurd (first_refused R S Q P seem seem_region old other m n s t p q)
text_one (Some R) (Some Q) (Some S) (Some P) seem seem_region old other m n s t (inr p) (inl q) = absurd (second_refused R S Q P seem seem_region old other m n s t p q)
text_one (Some R) (Some Q) (Some S) (Some P) seem seem_region old other m n s t (inr p) (inr q) = p.5 ∙ sym q.5

pub upgrade_text : (old m n : State) (s t : List ℕ) → Upgrades false old s m → Upgrades false old t n → s ≡ t
upgrade_text old m n s t (inl p) (inl q) = text_one old.mounted old.mounted old.region old.region (seem_itself old.mounted) (seem_itself old.region) old old m n s t p q
upgrade_text old m n s t (inl p) (inr q) = absurd (let never = q.0 in cc)
upgrade_text old m n s t (inr p) q = absurd (let never = p.0 in cc)

-- alike states
module _ (old other : State) (states : AlikeStates old other) where
  unchanged_alike : (m n : State) → m ≡ old → n ≡ other → AlikeStates m n
  unchanged_alike m n first second = subst (λ (x : State). AlikeStates x n) (sym first) (subst (λ (x : State). AlikeStates old x) (sym second) states)

  left_alike : (mounted others region another : Option Region) → SeemSame mounted others → SeemSame region another → IsLeftOf mounted region → (m n : State) (s t : List ℕ) → UpgradesMounted mounted region old s m → UpgradesMounted others another other t n → AlikeStates m n
  left_alike None None region another seem seem_region left m n s t p q = unchanged_alike m n p.1 q.1
  left_alike None (Some Q) region another seem seem_region left m n s t p q = absurd seem
  left_alike (Some R) None region another seem seem_region left m n s t p q = absurd seem
  left_alike (Some R) (Some Q) None another seem seem_region left m n s t p q = absurd p
  left_alike (Some R) (Some Q) (Some S) None seem seem_region left m n s t p q = absurd q
  left_alike (Some R) (Some Q) (Some S) (Some P) seem seem_region left m n s t (inl p) (inl q) = unchanged_alike m n p.2 q.2
  left_alike (Some R) (Some Q) (Some S) (Some P) seem seem_region left m n s t (inl p) (inr q) = absurd (first_refused R S Q P seem seem_region old other m n s t p q)
  left_alike (Some R) (Some Q) (Some S) (Some P) seem seem_region left m n s t (inr p) (inl q) = absurd (second_refused R S Q P seem seem_region old other m n s t p q)
  left_alike (Some R) (Some Q) (Some S) (Some P) seem seem_region left m n s t (inr p) (inr q) =
      let alike = upgraded_seem R S Q P seem seem_region old other m n s t left p q in
      subst (λ (x : State). AlikeStates x n) (sym p.6) (subst (λ (x : State). AlikeStates (record old { region = Some p.2; mounted = Some p.2 }) x) (sym q.6) (record {
        region = inr alike;
        mounted = inr alike;
        time = states.time;
        last = states.last;
        armed = states.armed;
        first_left = own_left R S old m s p;
        second_left = own_left Q P other n t q;
      }))

  pub upgrade_alike : (m n : State) (s t : List ℕ) → Upgrades false old s m → Upgrades false other t n → (s ≡ t) × AlikeStates m n
  upgrade_alike m n s t (inl p) (inl q) = (
    text_one old.mounted other.mounted old.region other.region states.mounted states.region old other m n s t p q,
    left_alike old.mounted other.mounted old.region other.region states.mounted states.region states.first_left m n s t p q,
  )
  upgrade_alike m n s t (inl p) (inr q) = absurd (let never = q.0 in cc)
  upgrade_alike m n s t (inr p) q = absurd (let never = p.0 in cc)

-- it arms nothing
abbrev armed_of : State → Bool
armed_of s = s.armed

mounted_unarmed : (mounted region : Option Region) (old m : State) (s : List ℕ) → UpgradesMounted mounted region old s m → m.armed ≡ old.armed
mounted_unarmed None region old m s h = ap armed_of h.1
mounted_unarmed (Some R) None old m s h = absurd h
mounted_unarmed (Some R) (Some S) old m s (inl h) = ap armed_of h.2
mounted_unarmed (Some R) (Some S) old m s (inr h) = ap armed_of h.6

ended_unarmed : (mounted region : Option Region) (old m : State) (s : List ℕ) → StopsUpgrade mounted region old s m → m.armed ≡ old.armed
ended_unarmed None region old m s h = absurd h
ended_unarmed (Some R) None old m s h = absurd h
ended_unarmed (Some R) (Some S) old m s h = ap armed_of h.6

pub upgrade_unarmed : (armed : Bool) (old m : State) (s : List ℕ) → Upgrades armed old s m → m.armed ≡ old.armed
upgrade_unarmed armed old m s (inl h) = mounted_unarmed old.mounted old.region old m s h
upgrade_unarmed armed old m s (inr h) = ended_unarmed old.mounted old.region old m s h.1
