-- Nothing is wrong once one inode changed.
use Rattle.std.proofs.Common.{◌≡◌, ℕ, inl, inr, List, [], ◌∷◌, ◌++◌, refl, ap, sym, ◌∙◌, subst, Option, Some, None}
use Rattle.std.proofs.lemmas.Bool.{cases_eq}
use Rattle.nv_super.specs.declared.superblock.Super.{Super}
use Rattle.nv_super.specs.declared.kind.Kind.{Kind}
use Rattle.nv_super.specs.Layout.{Layout}
use Rattle.nv_super.proofs.Options.{some_is}
use Rattle.nv_logpage.specs.declared.found.Placed.{Placed}
use Rattle.nv_scan.specs.Faults.{IsEntryFault}
use Rattle.nv_scan.proofs.EntryFaults.{fault_more}
use Rattle.nv_graph.proofs.Root.{same_faultless}
use Rattle.nv_mounted.specs.Held.{Held, Store, with_inode}
use Rattle.nv_mounted.specs.Graph.{graph_in}
use Rattle.nv_mounted.specs.Mounted.{AreClean, IsFaultless}
use Rattle.nv_mounted.specs.Blocks.{OwnsNew}
use Rattle.nv_mounted.specs.Grows.{NoEntryFault, FitsBehind, SameNames}
use Rattle.nv_mounted.proofs.Owning.{other_held, same_held, still_undoubled}
use Rattle.nv_mounted.proofs.Graphs.{touched}

-- An entry that fits behind others brings no fault.
pub clean_more : (s : Super) (kind : Kind) (i : ℕ) (entries : List Placed) (x : Placed) → NoEntryFault s kind i entries → FitsBehind s kind i entries x → NoEntryFault s kind i (entries ++ x ∷ [])
clean_more s kind i entries x clean fits f fault = elim (fault_more s kind i entries x f fault) [
  | inl old ↦ clean f old
  | inr told ↦ (let clash : None ≡ Some f = sym fits ∙ told in cc)
]

-- Nothing is wrong with the entries once one log has others.
pub still_clean : (l : Layout) (held : Store) (i : ℕ) (o : Option Held) → ((new : Held) → o ≡ Some new → NoEntryFault l.sup new.kind i new.entries) → AreClean l held → AreClean l (with_inode held i o)
still_clean l held i o clean was j g f e fault = elim (cases_eq j i) [
  | inl at ↦ clean g (sym (same_held held i o) ∙ ap (with_inode held i o) (sym at) ∙ e) f (subst (λ (n : ℕ). IsEntryFault l.sup g.kind n g.entries f) at fault)
  | inr n ↦ was j g f (sym (other_held held i j o n) ∙ e) fault
]

-- Nothing is wrong once a log grew that names nothing.
pub still_faultless : (l : Layout) (held : Store) (i : ℕ) (h new : Held) → held i ≡ Some h → SameNames l h new → NoEntryFault l.sup new.kind i new.entries → OwnsNew l held i (Some new) → IsFaultless l held → IsFaultless l (with_inode held i (Some new))
still_faultless l held i h new is same clean own was = record {
  clean = still_clean l held i (Some new) (λ g e. (let one = some_is new g (Some new) refl e in subst (λ (x : Held). NoEntryFault l.sup x.kind i x.entries) one clean)) was.clean;
  undoubled = still_undoubled l held i (Some new) own was.undoubled;
  named = same_faultless (graph_in l held) (graph_in l (with_inode held i (Some new))) (touched l held i h is new same) was.named;
}
