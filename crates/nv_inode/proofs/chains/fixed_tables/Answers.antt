use Rattle.std.proofs.Common.{◌≡◌, ◌==◌, ◌++◌, ◌∷◌, ◌∙◌, ℕ, false, List, [], ap, sym, subst, replicate, arith}
use Rattle.std.specs.Global.{Vec}
use Rattle.std.proofs.lemmas.List.{replicate-append-replicate}
use Rattle.nv_blockset.proofs.Lists.{none_set}
use Rattle.nv_region.specs.Region.{Region}
use Rattle.nv_super.specs.declared.superblock.Super.{Super}
use Rattle.nv_super.specs.Layout.{IsLayout, Layout}
use Rattle.nv_inode.specs.Chains.{IsLaid, chains_in, in_chains, layout_of}
use Rattle.nv_inode.specs.Tables.{AreTables, lists_of, laid}
use Rattle.nv_inode.proofs.FixedLayout.{none_in}
use Rattle.nv_inode.proofs.ReadChains.{empty_chains, lists_more, no_faults, region_laid}
use Rattle.nv_inode.proofs.chains.fixed_tables.Goals as goal

pub loop-init : goal.loop-init
loop-init g c = ap lists_of c.in_ok-chains.ensures.items

pub loop-preserved : goal.loop-preserved
loop-preserved g c =
    ap lists_of c.in_ok-push.ensures.items ∙ lists_more c.loop.chains.items c.new.result ∙ (λ i. c.loop.invariant i ++ c.new.ensures.items i ∷ []) ∙ replicate-append-replicate c.loop.counter 1 []

module _ (s : Super) (R : Region) (layout : IsLayout s) (off : (s.version == 2) ≡ false) (chains : List (Vec ℕ)) (n : ℕ) (are : lists_of chains ≡ replicate n []) (all : n ≡ s.cpus) where
  chains_are : lists_of chains ≡ chains_in s R
  chains_are = are ∙ ap (λ (k : ℕ). replicate k []) all ∙ sym (empty_chains s R off 0 s.cpus)

  layout_is : laid s chains ≡ layout_of s R
  layout_is = ap (λ (xs : List (List ℕ)). record { sup = s; chains = xs }) chains_are

  tables_are : (marks : List ℕ) → marks ≡ [] → AreTables (laid s chains) marks
  tables_are marks none = record {
    laid = subst (λ (l : Layout). IsLaid l) (sym layout_is) (region_laid s R layout);
    marked = λ b. none_set marks 0 none b ∙ sym (ap (λ (xs : List (List ℕ)). in_chains xs b) are ∙ none_in n b);
  }

pub invariant_of-result : goal.invariant_of-result
invariant_of-result g c = tables_are c.args.sup.now (g.P.Pmem.region c.args._memory.now) c.requires.layout c.requires.version c.loop.chains.items c.loop.counter c.loop.invariant (omega (arith, c.loop-test.false, c.loop.auto.counter-end)) c.new-2.result.items c.new-2.ensures.items

pub returns-clause-layout : goal.returns-clause-layout
returns-clause-layout g c = layout_is c.args.sup.now (g.P.Pmem.region c.args._memory.now) c.requires.layout c.requires.version c.loop.chains.items c.loop.counter c.loop.invariant (omega (arith, c.loop-test.false, c.loop.auto.counter-end))

pub returns-clause-faults : goal.returns-clause-faults
returns-clause-faults g c = c.new-3.ensures.items ∙ sym (no_faults c.args.sup.now (g.P.Pmem.region c.args._memory.now) c.requires.version 0 c.args.sup.now.cpus)
