-- Version 1, whose tables are fixed: which words are permitted, and where a region is stored to.
use Rattle.std.proofs.Common.{◌≡◌, ◌↔◌, ◌+◌, ◌*◌, ◌%◌, ℕ, Bool, cond, length, ap, sym, subst, ◌∙◌}
use Rattle.nv_region.specs.Region.{Region, word}
use Rattle.nv_super.specs.declared.superblock.Super.{Super}
use Rattle.nv_super.specs.declared.faults.Fault.{Fault}
use Rattle.nv_super.specs.Layout.{IsLayout, system_blocks}
use Rattle.nv_inode.specs.Chains.{layout_of}
use Rattle.nv_inode.specs.Permitted.{is_permitted, is_permitted_by, slots_end}
use Rattle.nv_inode.proofs.FixedLayout.{layout_fixed, same_words, version_off}
use Rattle.nv_inode.proofs.KeyWords.{lies_behind}
use Rattle.nv_journal.specs.Undo.{undo, undone}
use Rattle.nv_journal.specs.Undone.{SameBefore}
use Rattle.nv_journal.specs.Faults.{HasFault, IsJournalFault, NoFault, NoJournalFault}
use Rattle.nv_journal.proofs.Front.{journal_fault_same, same_undone}

-- a journal may name the words of the fixed tables
pub permits_fixed : (s : Super) (R : Region) → s.version ≡ 1 → is_permitted_by (layout_of s R) ≡ is_permitted s
permits_fixed s R one = ap is_permitted_by (layout_fixed s R one) ∙ (λ i at. same_words s at i)

pub undone_fixed : (s : Super) (R : Region) → s.version ≡ 1 → undone s R ≡ undo (is_permitted s) s.cpus R
undone_fixed s R one = ap (λ (permits : ℕ → Bool). undo permits s.cpus R) (permits_fixed s R one)

pub fault_fixed : (s : Super) (R : Region) (f : Fault) → s.version ≡ 1 → HasFault s R f ↔ IsJournalFault (is_permitted s) s.cpus R f
fault_fixed s R f one = subst (λ (permits : ℕ → Bool). HasFault s R f ↔ IsJournalFault permits s.cpus R f) (permits_fixed s R one) ((λ fault. fault), (λ fault. fault))

pub no_fault_fixed : (s : Super) (R : Region) → s.version ≡ 1 → NoJournalFault (is_permitted s) s.cpus R → NoFault s R
no_fault_fixed s R one none f fault = none f ((fault_fixed s R f one).0 fault)

-- slots stand in front of the data blocks alone
pub end_fixed : (s : Super) → s.version ≡ 1 → slots_end s ≡ system_blocks s
end_fixed s one = ap (λ (b : Bool). cond b s.blocks (system_blocks s)) (version_off s one)

-- Regions with the same words in front of the tables are rolled back to the same words there.
pub front_undone : (s : Super) (R S : Region) → IsLayout s → s.version ≡ 1 → SameBefore ((1 + s.cpus) * 4096) R S → length S.words ≡ length R.words → (at : ℕ) → at % 8 ≡ 0 → word S at ≡ word R at
    → word (undone s S) at ≡ word (undone s R) at
front_undone s R S layout one same long at aligned here =
    ap (λ (Q : Region). word Q at) (undone_fixed s S one) ∙ same_undone (is_permitted s) s.cpus R S same (lies_behind s) long at aligned here ∙ sym (ap (λ (Q : Region). word Q at) (undone_fixed s R one))

-- and their journals are wrong in the same ways
pub front_faults : (s : Super) (R S : Region) → s.version ≡ 1 → SameBefore ((1 + s.cpus) * 4096) R S → (f : Fault) → HasFault s R f → HasFault s S f
front_faults s R S one same f fault = (fault_fixed s S f one).1 (journal_fault_same (is_permitted s) s.cpus R S same f ((fault_fixed s R f one).0 fault))
