-- What holds while steps are made one after the other.
use Rattle.std.proofs.Common.{◌≡◌, ◌≢◌, ◌∙◌, ℕ, ◌+◌, ◌<◌, ◌≤◌, false, IsTrue, List, [], ◌∷◌, ◌++◌, length, take, drop, get_or, refl, sym, ap, subst}
use Rattle.std.proofs.lemmas.List.{append_assoc, take-append-drop, take_all, take_more}
use Rattle.nv_region.specs.Region.{size}
use Rattle.nv_region.specs.RegionState.{RegionState, is_steady}
use Rattle.nv_super.specs.declared.superblock.Super.{Super}
use Rattle.nv_tree.specs.Tree.{Tree}
use Rattle.nv_tree.specs.declared.refusal.Refusal.{Refusal}
use Rattle.nv_tree.specs.declared.refusal.Refusal.TheVariants.{Memory}
use Rattle.nv_calls.specs.Mount.{Mount}
use Rattle.nv_paths.specs.Seen.{tree_of}
use Rattle.nv_history.specs.declared.calls.Call.{Call}
use Rattle.nv_history.specs.Making.{has_upgrade}
use Rattle.nv_history.proofs.Growing.{chains_same, chains_then}
use Rattle.nv_history.proofs.MadeTrees.{version_1_stays}
use Rattle.nv_history.proofs.LeftTables.{LeavesTables}
use Rattle.nv_script.specs.Cleaning.{CanClean}
use Rattle.nv_untar.specs.declared.item.Item.{Item}
use Rattle.nv_unpack.specs.declared.maker.Maker.{Maker}
use Rattle.nv_unpack.specs.declared.step.Step.{Step}
use Rattle.nv_unpack.specs.declared.halt.Halt.{Halt}
use Rattle.nv_unpack.specs.declared.halt.Halt.TheVariants as halts
use Rattle.nv_unpack.specs.Steps.{item_in}
use Rattle.nv_unpack.specs.Making.{AreSteps, GoesOn, HaltsStep, HaltsSteps, IsHaltOf, IsStep, RefusesStep, none, more}

abbrev pub tree : Mount RegionState → Tree
tree m = tree_of m.memory.region m.rows

-- ---- what is mounted

pub stays : (m : Mount RegionState) → CanClean m → GoesOn m m
stays m can = record { can = can; sup = refl; chains = chains_same m.layout m.layout refl; stays = λ one. refl; faults = refl; as_long = refl }

pub follows : (l m n : Mount RegionState) → GoesOn l m → GoesOn m n → GoesOn l n
follows l m n first second = record {
  can = second.can;
  sup = second.sup ∙ first.sup;
  chains = chains_then l.layout m.layout n.layout first.chains second.chains;
  stays = λ one. second.stays (ap (λ (s : Super). s.version) first.sup ∙ one) ∙ first.stays one;
  faults = second.faults ∙ first.faults;
  as_long = second.as_long ∙ first.as_long;
}

pub goes : (m n : Mount RegionState) (calls : List Call) → CanClean m → has_upgrade calls ≡ false → LeavesTables m n calls → n.faults ≡ m.faults → n.read_only ≡ m.read_only → size n.memory.region ≡ size m.memory.region → n.stopped ≡ false
    → IsTrue (is_steady n.memory) → GoesOn m n
goes m n calls can plain leaves faults mode long runs steady = record {
  can = record { runs = runs; writes = mode ∙ can.writes; steady = steady };
  sup = leaves.sup;
  chains = leaves.chains;
  stays = λ one. leaves.stays (version_1_stays m.sup calls one plain);
  faults = faults;
  as_long = long;
}

-- ---- one step

-- want of memory is no refusal of a step
pub halted_step : (s : Super) (base : List ℕ) (maker : Maker) (step : Step) (t : Tree) (left : Mount RegionState) (item : Item) (refusal : Refusal) → item ≡ item_in step
    → (refusal ≢ Memory → RefusesStep s base maker step t left refusal) → (halt : Halt) → IsHaltOf item refusal halt → HaltsStep s base maker step t left halt
halted_step s base maker step t left item refusal of refuses halts.Memory is = tt
halted_step s base maker step t left item refusal of refuses (halts.At other told) is =
    (sym of ∙ sym is.0, subst (λ r. RefusesStep s base maker step t left r) (sym is.1) (refuses is.2))

-- ---- several

-- So many steps were made.
pub record Going (base : List ℕ) (maker : Maker) (steps : List Step) (old now : Mount RegionState) (count : ℕ) : Type 0 where
  pub made : AreSteps old.sup base maker (take count steps) (tree old) (tree now)
  pub goes : GoesOn old now

pub begins : (base : List ℕ) (maker : Maker) (steps : List Step) (old : Mount RegionState) → CanClean old → Going base maker steps old old 0
begins base maker steps old can = record { made = none (tree old); goes = stays old can }

one_more : {s : Super} {base : List ℕ} {maker : Maker} {steps : List Step} {t v : Tree} → AreSteps s base maker steps t v → (step : Step) (u : Tree) → IsStep s base maker step v u → AreSteps s base maker (steps ++ step ∷ []) t u
one_more (none t) step u is = more step [] t u u is (none u)
one_more (more first steps t w v made rest) step u is = more first (steps ++ step ∷ []) t w u made (one_more rest step u is)

module _ (base : List ℕ) (maker : Maker) (steps : List Step) (old now : Mount RegionState) (count : ℕ) (going : Going base maker steps old now count) where
  -- all of them
  pub all_made : length steps ≤ count → AreSteps old.sup base maker steps (tree old) (tree now)
  all_made all = subst (λ (done : List Step). AreSteps old.sup base maker done (tree old) (tree now)) (take_all count steps all) going.made

  module _ (d : Step) (inside : count < length steps) (next : Mount RegionState) (on : GoesOn now next) where
    -- one more
    pub goes_on : IsStep now.sup base maker (get_or steps count d) (tree now) (tree next) → Going base maker steps old next (count + 1)
    goes_on is = record {
      made = subst (λ (done : List Step). AreSteps old.sup base maker done (tree old) (tree next)) (sym (take_more steps count d inside))
          (one_more going.made (get_or steps count d) (tree next) (subst (λ s. IsStep s base maker (get_or steps count d) (tree now) (tree next)) going.goes.sup is));
      goes = follows old now next going.goes on;
    }

    whole : steps ≡ take count steps ++ get_or steps count d ∷ drop (count + 1) steps
    whole = sym (take-append-drop (count + 1) steps) ∙ ap (λ (done : List Step). done ++ drop (count + 1) steps) (take_more steps count d inside)
        ∙ append_assoc (take count steps) (get_or steps count d ∷ []) (drop (count + 1) steps)

    -- one is refused
    pub halted : (halt : Halt) → HaltsStep now.sup base maker (get_or steps count d) (tree now) next halt → HaltsSteps old.sup base maker steps (tree old) next halt
    halted halts.Memory is = tt
    halted (halts.At item refusal) is = record {
      before = take count steps;
      step = get_or steps count d;
      behind = drop (count + 1) steps;
      whole = whole;
      of = is.0;
      tree = tree now;
      made = going.made;
      refuses = subst (λ s. RefusesStep s base maker (get_or steps count d) (tree now) next refusal) going.goes.sup is.1;
    }
