use Rattle.std.proofs.Common.{◌≡◌, ◌∙◌, ◌++◌, ℕ, List, ap, drop, length, take, arith}
use Rattle.std.proofs.lemmas.List.{take_at}
use Rattle.std.proofs.Common.{subst, sym}
use Rattle.nv_blockset.specs.BlockSet.{with_block as with_mark}
use Rattle.nv_blockset.proofs.Sets.{with_block_long}
use Rattle.nv_inode.specs.Tables.{HasRoom, TableChains}
use Rattle.nv_inode.proofs.GrownTables.{layout_pushed, tables_pushed}
use Rattle.nv_inode.proofs.chains.Tables.push_block.Goals as goal

-- the set was written whole
words_are : (words old new : List ℕ) (n block : ℕ) → old ≡ words → new ≡ with_mark old block → n ≡ length words → take n (new ++ drop (length new) words) ≡ with_mark words block
words_are words old new n block same is count =
    let now : new ≡ with_mark words block = is ∙ ap (λ (ws : List ℕ). with_mark ws block) same in
    let long = ap length now ∙ with_block_long words block in
    take_at new (drop (length new) words) n (omega (arith, long, count)) ∙ now

pub invariant_of-self : goal.invariant_of-self
invariant_of-self c =
    let t = c.self.inside in
    tables_pushed t.sup t.chains.items t.marks.items c.args.self.now.layout (ap (λ (x : TableChains). x.layout) c.self.view_is) c.self.invariant c.args.cpu c.requires.cpu
    c.args.block c.index_mut.result.now c.push_reserved.new.self c.index_mut.ensures.value c.push_reserved.ensures.items
    c.requires.version c.requires.from c.requires.to c.requires.fresh (subst (λ (x : TableChains). HasRoom x c.args.cpu) (sym c.self.view_is) c.requires.room)
    _ (words_are t.marks.items c.deref_mut.result.now c.insert.new.words t.marks.len c.args.block c.deref_mut.ensures.value c.insert.ensures (let whole = t.marks.ok in omega (arith, whole)))

pub returns-clause-layout : goal.returns-clause-layout
returns-clause-layout c =
    let t = c.self.inside in
    layout_pushed t.sup t.chains.items t.marks.items c.args.self.now.layout (ap (λ (x : TableChains). x.layout) c.self.view_is) c.self.invariant c.args.cpu c.requires.cpu
    c.args.block c.index_mut.result.now c.push_reserved.new.self c.index_mut.ensures.value c.push_reserved.ensures.items
