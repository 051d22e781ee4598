-- No call of a step is `upgrade`.
use Rattle.std.proofs.Common.{◌≡◌, ◌∙◌, ◌||◌, ℕ, Bool, true, false, List, [], ◌∷◌, inl, inr, map, refl, ap}
use Rattle.std.specs.List.{list_any}
use Rattle.nv_tree.specs.Tree.{Tree}
use Rattle.nv_history.specs.declared.calls.Call.{Call}
use Rattle.nv_history.specs.Making.{has_upgrade, is_upgrade}
use Rattle.nv_history.specs.Said.{Said, said}
use Rattle.nv_untar.specs.declared.item.ItemKind.{ItemKind}
use Rattle.nv_untar.specs.declared.item.ItemKind.TheVariants as item_kinds
use Rattle.nv_untar.specs.Items.{Item, item_of}
use Rattle.nv_unpack.specs.declared.step.Step.{Step}
use Rattle.nv_unpack.specs.declared.step.Step.TheVariants as steps
use Rattle.nv_unpack.specs.Calls.{AreCallsAt, BeginsFile, MakesKind}

-- by what the calls say
said_upgrade : (calls : List Call) → has_upgrade calls ≡ list_any is_upgrade (map said calls)
said_upgrade [] = refl
said_upgrade (call ∷ calls) = ap (λ (b : Bool). is_upgrade (said call) || b) (said_upgrade calls)

first_keeps : (t : Tree) (cpu : ℕ) (text : List ℕ) (item : Item) (first : Said) → BeginsFile t cpu text item first → is_upgrade first ≡ false
first_keeps t cpu text item first (inl there) = ap is_upgrade there.1
first_keeps t cpu text item first (inr none) = ap is_upgrade none.1

by_first : (a : Bool) → a ≡ false → (a || false) ≡ false
by_first true off = off
by_first false off = refl

kind_keeps : (kind : ItemKind) (t : Tree) (cpu : ℕ) (text old : List ℕ) (item : Item) (all : List Said) → MakesKind kind t cpu text old item all → list_any is_upgrade all ≡ false
kind_keeps item_kinds.File t cpu text old item all made = ap (list_any is_upgrade) made.2 ∙ by_first (is_upgrade made.0) (first_keeps t cpu text item made.0 made.1)
kind_keeps item_kinds.Link t cpu text old item all (inl made) = ap (list_any is_upgrade) made.1
kind_keeps item_kinds.Link t cpu text old item all (inr made) = ap (list_any is_upgrade) made.1
kind_keeps item_kinds.Directory t cpu text old item all (inl made) = ap (list_any is_upgrade) made.1
kind_keeps item_kinds.Directory t cpu text old item all (inr made) = ap (list_any is_upgrade) made.1

calls_keep : (t : Tree) (text old : List ℕ) (cpu : ℕ) (step : Step) (all : List Said) → AreCallsAt t text old cpu step all → list_any is_upgrade all ≡ false
calls_keep t text old cpu (steps.Make item) all made = kind_keeps (item_of item).kind t cpu text old (item_of item) all made
calls_keep t text old cpu (steps.SetAttributes item) all made = ap (list_any is_upgrade) made

pub step_keeps : (t : Tree) (text old : List ℕ) (cpu : ℕ) (step : Step) (calls : List Call) → AreCallsAt t text old cpu step (map said calls) → has_upgrade calls ≡ false
step_keeps t text old cpu step calls made = said_upgrade calls ∙ calls_keep t text old cpu step (map said calls) made
