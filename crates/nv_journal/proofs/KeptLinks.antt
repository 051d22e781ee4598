-- An undone region has the links that the region had, and so the same chains of its tables and the same faults of them. Undone
-- again, it stays.
use Rattle.std.proofs.Common.{◌≡◌, ◌↔◌, ◌≤◌, ◌<◌, ◌+◌, ◌*◌, ◌==◌, if◌then◌else◌, ℕ, zero, suc, true, List, [], ◌∷◌, Option, Some, None, refl, sym, ap, subst, ◌∙◌, arith}
use Rattle.std.specs.Prelude.{unwrap_or}
use Rattle.std.specs.List.{cons_option, filter_map, range_with_len}
use Rattle.std.proofs.lemmas.Bool.Decides.{nat_tests}
use Rattle.nv_region.specs.Region.{Region, word}
use Rattle.nv_super.specs.declared.superblock.Super.{Super}
use Rattle.nv_super.specs.declared.faults.Fault.{Fault}
use Rattle.nv_super.specs.Layout.{IsLayout, Layout, chain_of, is_page_start, system_blocks}
use Rattle.nv_inode.specs.Chains.{IsLaid, IsLink, first, next, chain_faults, chain_in, end_fault, fault_behind, first_link, layout_of, link_behind, link_fault}
use Rattle.nv_inode.specs.Permitted.{is_permitted_by, LiesBehind}
use Rattle.nv_inode.proofs.ReadChains.{AreData, chain_are_data, layout_alike, region_laid, start_whole, start_from}
use Rattle.nv_inode.proofs.TicketBlocks.{range_at}
use Rattle.nv_inode.proofs.LayoutWords.{first_unpermitted, start_unpermitted, lies_behind}
use Rattle.nv_journal.specs.Undo.{undone, undone_by}
use Rattle.nv_journal.specs.Faults.{HasFault, IsJournalFault, IsPointerFault}
use Rattle.nv_journal.proofs.AnyLength.{faults_left, undo_twice}
use Rattle.nv_journal.proofs.High.{word_kept}

link_kept : (l : Layout) (R : Region) (at : ℕ) → IsLaid l → IsLink l.sup at → word (undone_by l R) at ≡ word R at
link_kept l R at laid (first cpu below) = word_kept (is_permitted_by l) l.sup.cpus (lies_behind l laid) R (4096 * (1 + cpu) + 16) (omega arith) (first_unpermitted l cpu below) (λ c less same. omega (arith, same))
link_kept l R at laid (next _ start) =
    let whole = start_whole l.sup at start in
    let from = start_from l.sup at start in
    word_kept (is_permitted_by l) l.sup.cpus (lies_behind l laid) R at (omega (arith, whole)) (start_unpermitted l at whole from) (λ c less same. omega (arith, same, from, less))

pub layout_undone : (l : Layout) (R : Region) → IsLaid l → layout_of l.sup (undone_by l R) ≡ layout_of l.sup R
layout_undone l R laid = layout_alike l.sup R (undone_by l R) (λ at link. link_kept l R at laid link)

-- regions that are the same once they are undone by the tables of one have the same tables
pub same_layout : (s : Super) (R Q : Region) → IsLayout s → undone_by (layout_of s R) Q ≡ undone_by (layout_of s R) R → layout_of s Q ≡ layout_of s R
same_layout s R Q layout same =
    let laid = region_laid s R layout in
    sym (layout_undone (layout_of s R) Q laid) ∙ ap (layout_of s) same ∙ layout_undone (layout_of s R) R laid

-- and so are the same undone by their own
pub same_undone : (s : Super) (R Q : Region) → IsLayout s → undone_by (layout_of s R) Q ≡ undone_by (layout_of s R) R → undone s Q ≡ undone s R
same_undone s R Q layout same = ap (λ (l : Layout). undone_by l Q) (same_layout s R Q layout same) ∙ same

-- an undone region has the tables of the region
pub undone_layout : (s : Super) (R : Region) → IsLayout s → layout_of s (undone s R) ≡ layout_of s R
undone_layout s R layout = layout_undone (layout_of s R) R (region_laid s R layout)

-- ---- and the same at the ends of their chains

-- a data block begins at its address
starts : (s : Super) (b : ℕ) → system_blocks s ≤ b → b < s.blocks → is_page_start s (4096 * b) ≡ true
starts s b from below = grind (arith, nat_tests)

-- the link behind blocks of data is one
link_there : (s : Super) (at : ℕ) (blocks : List ℕ) → IsLink s at → AreData s blocks → IsLink s (link_behind at blocks)
link_there s at [] link are = link
link_there s at (b ∷ blocks) link are = link_there s (4096 * b) blocks (next (4096 * b) (starts s b are.0 are.1)) are.2

-- a CPU's chain, by the layout
chain_here : (s : Super) (R : Region) (cpu : ℕ) → cpu < s.cpus → chain_of (layout_of s R) cpu ≡ chain_in s R cpu
chain_here s R cpu below = ap (λ (o : Option (List ℕ)). unwrap_or o []) (range_at (chain_in s R) 0 s.cpus cpu below ∙ (let same : 0 + cpu ≡ cpu = omega arith in ap (λ (c : ℕ). Some (chain_in s R c)) same))

module _ (s : Super) (R : Region) (layout : IsLayout s) where
  chain_kept : (cpu : ℕ) → cpu < s.cpus → chain_in s (undone s R) cpu ≡ chain_in s R cpu
  chain_kept cpu below = sym (chain_here s (undone s R) cpu below) ∙ ap (λ (l : Layout). chain_of l cpu) (undone_layout s R layout) ∙ chain_here s R cpu below

  end_kept : (cpu : ℕ) → cpu < s.cpus → end_fault s (undone s R) cpu ≡ end_fault s R cpu
  end_kept cpu below =
      let at = link_behind (first_link cpu) (chain_in s R cpu) in
      ap (λ (blocks : List ℕ). if s.version == 2 then fault_behind s (undone s R) cpu blocks else None) (chain_kept cpu below)
      ∙ ap (λ (link : ℕ). if s.version == 2 then link_fault s cpu at link else None)
      (link_kept (layout_of s R) R at (region_laid s R layout) (link_there s (first_link cpu) (chain_in s R cpu) (first cpu below) (chain_are_data s R cpu)))

  ends_kept : (from n : ℕ) → from + n ≤ s.cpus → filter_map (end_fault s (undone s R)) (range_with_len from n) ≡ filter_map (end_fault s R) (range_with_len from n)
  ends_kept from zero few = refl
  ends_kept from (suc n) few = let here = end_kept from (omega (arith, few)) in let rest = ends_kept (from + 1) n (omega (arith, few)) in λ i. cons_option (here i) (rest i)

-- the same is wrong with them
pub faults_undone : (s : Super) (R : Region) → IsLayout s → chain_faults s (undone s R) ≡ chain_faults s R
faults_undone s R layout = ends_kept s R layout 0 s.cpus (omega arith)

-- the region's own tables permit words behind the journals
pub own_rule : (s : Super) (R : Region) → IsLayout s → LiesBehind (is_permitted_by (layout_of s R)) ((1 + s.cpus) * 4096)
own_rule s R layout = lies_behind (layout_of s R) (region_laid s R layout)

pub undone_twice : (s : Super) (R : Region) → IsLayout s → undone s (undone s R) ≡ undone s R
undone_twice s R layout = same_undone s R (undone s R) layout (undo_twice (is_permitted_by (layout_of s R)) s.cpus (own_rule s R layout) R)

pub faults_again : (s : Super) (R : Region) (f : Fault) → IsLayout s → HasFault s (undone s R) f ↔ HasFault s R f × IsPointerFault f
faults_again s R f layout = subst (λ (l : Layout). IsJournalFault (is_permitted_by l) s.cpus (undone s R) f ↔ HasFault s R f × IsPointerFault f) (sym (undone_layout s R layout))
    (faults_left (is_permitted_by (layout_of s R)) s.cpus (own_rule s R layout) R f)
