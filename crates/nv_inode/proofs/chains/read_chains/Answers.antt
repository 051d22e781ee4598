use Rattle.std.proofs.Common.{◌≡◌, ◌∙◌, ℕ, List, map, ap, sym, subst, arith}
use Rattle.std.specs.List.{range_with_len}
use Rattle.std.specs.Global.{Vec}
use Rattle.nv_blockset.specs.BlockSet.{is_set}
use Rattle.nv_region.specs.Region.{Region}
use Rattle.nv_super.specs.declared.superblock.Super.{Super}
use Rattle.nv_super.specs.Layout.{IsLayout}
use Rattle.nv_inode.specs.Chains.{IsLaid, chain_in, chains_in, in_chains}
use Rattle.nv_inode.specs.Tables.{AreTables, laid, lists_of}
use Rattle.nv_inode.proofs.ReadChains.{region_laid}
use Rattle.nv_inode.proofs.chains.read_chains.Goals as goal

module _ (s : Super) (R : Region) (layout : IsLayout s) (chains : List (Vec ℕ)) (marks : List ℕ) (n : ℕ) (all : n ≡ s.cpus) (are : lists_of chains ≡ map (chain_in s R) (range_with_len 0 n)) where
  chains_are : lists_of chains ≡ chains_in s R
  chains_are = are ∙ ap (λ (k : ℕ). map (chain_in s R) (range_with_len 0 k)) all

  tables_are : ((b : ℕ) → is_set marks b ≡ in_chains (map (chain_in s R) (range_with_len 0 n)) b) → AreTables (laid s chains) marks
  tables_are marked = record {
    laid = subst (λ (xs : List (List ℕ)). IsLaid (record { sup = s; chains = xs })) (sym chains_are) (region_laid s R layout);
    marked = λ b. marked b ∙ sym (ap (λ (xs : List (List ℕ)). in_chains xs b) are);
  }

pub invariant_of-result : goal.invariant_of-result
invariant_of-result g c = tables_are c.args.sup.now (g.P.Pmem.region c.args.memory.now) c.requires.layout c.loop-cpu.found.chains.items c.loop-cpu.found.marks.items c.loop-cpu.cpu (omega (arith, c.loop-cpu-test.false, c.loop-cpu.auto.cpu-end)) c.loop-cpu.invariant.found.chains c.loop-cpu.invariant.found.marked
