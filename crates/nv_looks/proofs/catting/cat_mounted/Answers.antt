use Rattle.std.proofs.Common.{Bool, true, false, List, refl, sym, subst}
use Rattle.std.specs.Prelude.{IfErr, IfOk}
use Rattle.nv_region.specs.Region.{Region, region_of}
use Rattle.nv_scan.specs.declared.piece.Row.{Row}
use Rattle.nv_paths.specs.Seen.{tree_of}
use Rattle.nv_archive.specs.Shown.{AreSmallRows}
use Rattle.nv_looks.specs.Catting.{AreReadFrom, AreShownAs, FailsBlocksCall}
use Rattle.nv_looks.specs.Looking.{WritesCall}
use Rattle.nv_looks.specs.Sent.{written}
use Rattle.nv_looks.proofs.ReadFrom.{held_shown}
use Rattle.nv_looks.proofs.catting.cat_mounted.Goals as goal

pub cat_file-requires : goal.cat_file-requires
cat_file-requires g c = subst AreSmallRows (sym c.rows-rows.ensures) c.requires

pub cat_file-requires-2 : goal.cat_file-requires-2
cat_file-requires-2 g c = subst AreSmallRows (sym c.rows-rows.ensures) c.requires

pub returns-then-whole-clause-ok : goal.returns-then-whole-clause-ok
returns-then-whole-clause-ok g c R reads p says =
    let m = c.args.mount.now in
    let reads_by : AreReadFrom true (g.B.Blocks.bytes c.args.source.now) m.memory R m.rows = subst (λ (b : Bool). AreReadFrom b (g.B.Blocks.bytes c.args.source.now) m.memory R m.rows) c.if-whole.true reads in
    let shown = held_shown m.memory c.memory.result.now c.front.result.now c.new-held.result R m.rows c.memory.ensures c.new-held.ensures c.front.ensures.count c.front.ensures.words reads_by in
    subst (λ (rows : List Row). IfOk c.cat_file.result (λ x. WritesCall (tree_of R rows) p (written (g.W.Write.contents c.args.writer.now) (g.E.Write.contents c.args.errors.now)) (written (g.W.Write.contents c.cat_file.new.writer) (g.E.Write.contents c.cat_file.new.errors)) x)) c.rows-rows.ensures
    (c.cat_file.ensures.ok c.new-held.result refl R (subst (λ (rows : List Row). AreShownAs R (region_of c.new-held.result) rows) (sym c.rows-rows.ensures) shown) p says)

pub returns-then-whole-clause-err : goal.returns-then-whole-clause-err
returns-then-whole-clause-err g c R reads p says =
    let m = c.args.mount.now in
    let reads_by : AreReadFrom true (g.B.Blocks.bytes c.args.source.now) m.memory R m.rows = subst (λ (b : Bool). AreReadFrom b (g.B.Blocks.bytes c.args.source.now) m.memory R m.rows) c.if-whole.true reads in
    let shown = held_shown m.memory c.memory.result.now c.front.result.now c.new-held.result R m.rows c.memory.ensures c.new-held.ensures c.front.ensures.count c.front.ensures.words reads_by in
    subst (λ (rows : List Row). IfErr c.cat_file.result (λ x. FailsBlocksCall (tree_of R rows) p x (written (g.W.Write.contents c.args.writer.now) (g.E.Write.contents c.args.errors.now)) (written (g.W.Write.contents c.cat_file.new.writer) (g.E.Write.contents c.cat_file.new.errors)))) c.rows-rows.ensures
    (c.cat_file.ensures.err c.new-held.result refl R (subst (λ (rows : List Row). AreShownAs R (region_of c.new-held.result) rows) (sym c.rows-rows.ensures) shown) p says)

pub returns-clause-ok : goal.returns-clause-ok
returns-clause-ok g c R reads p says =
    let m = c.args.mount.now in
    let reads_by : AreReadFrom false (g.B.Blocks.bytes c.args.source.now) m.memory R m.rows = subst (λ (b : Bool). AreReadFrom b (g.B.Blocks.bytes c.args.source.now) m.memory R m.rows) c.if-whole.false reads in
    subst (λ (rows : List Row). IfOk c.cat_file-2.result (λ x. WritesCall (tree_of R rows) p (written (g.W.Write.contents c.args.writer.now) (g.E.Write.contents c.args.errors.now)) (written (g.W.Write.contents c.cat_file-2.new.writer) (g.E.Write.contents c.cat_file-2.new.errors)) x)) c.rows-rows.ensures
    (c.cat_file-2.ensures.ok reads_by.0 reads_by.1 R (subst (λ (rows : List Row). AreShownAs R (region_of reads_by.0) rows) (sym c.rows-rows.ensures) reads_by.2) p says)

pub returns-clause-err : goal.returns-clause-err
returns-clause-err g c R reads p says =
    let m = c.args.mount.now in
    let reads_by : AreReadFrom false (g.B.Blocks.bytes c.args.source.now) m.memory R m.rows = subst (λ (b : Bool). AreReadFrom b (g.B.Blocks.bytes c.args.source.now) m.memory R m.rows) c.if-whole.false reads in
    subst (λ (rows : List Row). IfErr c.cat_file-2.result (λ x. FailsBlocksCall (tree_of R rows) p x (written (g.W.Write.contents c.args.writer.now) (g.E.Write.contents c.args.errors.now)) (written (g.W.Write.contents c.cat_file-2.new.writer) (g.E.Write.contents c.cat_file-2.new.errors)))) c.rows-rows.ensures
    (c.cat_file-2.ensures.err reads_by.0 reads_by.1 R (subst (λ (rows : List Row). AreShownAs R (region_of reads_by.0) rows) (sym c.rows-rows.ensures) reads_by.2) p says)
