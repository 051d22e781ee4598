-- What is kept, before the first entry and after one entry more.
use Rattle.std.proofs.Common.{◌≡◌, ℕ, List, [], ◌∷◌, ◌++◌, refl, ap, sym, ◌∙◌, subst, Option, None}
use Rattle.std.specs.List.{cons_option}
use Rattle.nv_super.specs.declared.superblock.Super.{Super}
use Rattle.nv_super.specs.declared.kind.Kind.{Kind}
use Rattle.nv_super.specs.declared.faults.Fault.{Fault}
use Rattle.nv_entry.specs.Content.{is_good}
use Rattle.nv_logpage.specs.declared.found.Placed.{Placed}
use Rattle.nv_logpage.specs.Good.{good_entries}
use Rattle.nv_names.specs.Names.{name_at}
use Rattle.nv_scan.specs.State.{says_size, says_mode, says_owner, says_group, says_links, says_time, says_block, says_name, named}
use Rattle.nv_scan.specs.Fold.{Takes, Holds, Counts, word_after, entry_fault}
use Rattle.nv_scan.specs.Rows.{AreNumbers}
use Rattle.nv_scan.specs.declared.fold.Fold.{Fold}
use Rattle.nv_scan.specs.declared.numbers.Numbers.{Numbers}
use Rattle.nv_scan.proofs.Words.{word-more}
use Rattle.nv_scan.specs.Faults.{Has, IsOnce, IsEntryFault}
use Rattle.nv_scan.proofs.EntryFaults.{fault_behind, found-more}
use Rattle.nv_scan.proofs.FaultsOnce.{once-more}

numbers-more : (s : Super) (kind : Kind) (created : ℕ) (entries : List Placed) (x : Placed) (old new : Numbers)
    → AreNumbers created (good_entries s kind entries) old → Counts (is_good s kind x.entry) x old new → AreNumbers created (good_entries s kind (entries ++ x ∷ [])) new
numbers-more s kind created entries x old new h t = record {
  size = t.size ∙ ap (word_after (is_good s kind x.entry) (says_size x)) h.size ∙ sym (word-more says_size 0 s kind entries x (is_good s kind x.entry) refl);
  mode = t.mode ∙ ap (word_after (is_good s kind x.entry) (says_mode x)) h.mode ∙ sym (word-more says_mode 0 s kind entries x (is_good s kind x.entry) refl);
  owner = t.owner ∙ ap (word_after (is_good s kind x.entry) (says_owner x)) h.owner ∙ sym (word-more says_owner 0 s kind entries x (is_good s kind x.entry) refl);
  group = t.group ∙ ap (word_after (is_good s kind x.entry) (says_group x)) h.group ∙ sym (word-more says_group 0 s kind entries x (is_good s kind x.entry) refl);
  links = t.links ∙ ap (word_after (is_good s kind x.entry) (says_links x)) h.links ∙ sym (word-more says_links 1 s kind entries x (is_good s kind x.entry) refl);
  time = t.time ∙ ap (word_after (is_good s kind x.entry) (says_time x)) h.time ∙ sym (word-more says_time created s kind entries x (is_good s kind x.entry) refl);
}

-- what is told of an entry goes by what the names are
told_same : (s : Super) (kind : Kind) (i : ℕ) (known other : List ℕ → Option (ℕ × ℕ)) (x : Placed) → ((q : List ℕ) → known q ≡ other q) → entry_fault s kind i known x ≡ entry_fault s kind i other x
told_same s kind i known other x h = ap (λ (k : List ℕ → Option (ℕ × ℕ)). entry_fault s kind i k x) (λ j q. h q j)

-- one entry more
pub Holds-more : {s : Super} {kind : Kind} {i created : ℕ} {entries : List Placed} {x : Placed} {old new : Fold}
    → Holds s kind i created entries old → Takes s kind i x old new → Holds s kind i created (entries ++ x ∷ []) new
Holds-more {s} {kind} {i} {created} {entries} {x} {old} {new} h t = record {
  numbers = numbers-more s kind created entries x old.numbers new.numbers h.numbers t.numbers;
  extents = λ p. t.extents p ∙ ap (word_after (is_good s kind x.entry) (says_block p x)) (h.extents p) ∙ sym (word-more (says_block p) None s kind entries x (is_good s kind x.entry) refl);
  names = λ q. t.names q ∙ ap (word_after (is_good s kind x.entry) (says_name q x)) (h.names q) ∙ sym (word-more (says_name q) None s kind entries x (is_good s kind x.entry) refl);
  found = subst (Has (IsEntryFault s kind i (entries ++ x ∷ []))) (sym t.found) (found-more s kind i entries x old.faults.items _ (sym same) h.found);
  once = λ apart. subst IsOnce (sym (t.found ∙ ap (λ (o : Option Fault). old.faults.items ++ cons_option o []) same)) (once-more s kind i entries x old.faults.items h.found h.once apart);
}
  where
    same : entry_fault s kind i (name_at old.names) x ≡ fault_behind s kind i entries x
    same = told_same s kind i (name_at old.names) (named (good_entries s kind entries)) x h.names
