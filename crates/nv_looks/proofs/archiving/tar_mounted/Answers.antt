use Rattle.std.proofs.Common.{Bool, true, false, List, Some, refl, sym, subst}
use Rattle.std.specs.Prelude.{IfErr, IfOk}
use Rattle.nv_scan.specs.declared.piece.Row.{Row}
use Rattle.nv_tree.specs.Tree.{Tree}
use Rattle.nv_archive.specs.Shown.{AreKnown, AreSmallRows, shown_tree}
use Rattle.nv_looks.specs.Archiving.{FailsTold, GivesArchive, WritesTold}
use Rattle.nv_looks.specs.Catting.{AreReadFrom}
use Rattle.nv_looks.specs.Sent.{written}
use Rattle.nv_looks.proofs.Archived.{told_by}
use Rattle.nv_looks.proofs.ReadFrom.{held_shown}
use Rattle.nv_looks.proofs.archiving.tar_mounted.Goals as goal

pub tar_rows-requires : goal.tar_rows-requires
tar_rows-requires g c = subst AreSmallRows (sym c.rows-rows.ensures) c.requires

pub tar_rows-requires-2 : goal.tar_rows-requires-2
tar_rows-requires-2 g c = subst AreSmallRows (sym c.rows-rows.ensures) c.requires

pub returns-then-whole-clause-ok : goal.returns-then-whole-clause-ok
returns-then-whole-clause-ok g c R reads =
    let m = c.args.mount.now in
    let reads_by : AreReadFrom true (g.B.Blocks.bytes c.args.source.now) m.memory R m.rows = subst (λ (b : Bool). AreReadFrom b (g.B.Blocks.bytes c.args.source.now) m.memory R m.rows) c.if-whole.true reads in
    let P : Tree → Type 0 = λ t. IfOk c.tar_rows.result (λ x. WritesTold (GivesArchive c.args.chosen c.args.all) t (written (g.W.Write.contents c.args.writer.now) (g.E.Write.contents c.args.errors.now)) (written (g.W.Write.contents c.tar_rows.new.writer) (g.E.Write.contents c.tar_rows.new.errors)) x) in
    let shown = held_shown m.memory c.memory.result.now c.front.result.now c.new-held.result R m.rows c.memory.ensures c.new-held.ensures c.front.ensures.count c.front.ensures.words reads_by in
    told_by (Some c.new-held.result) c.new-held.result R m.rows refl shown P (subst (λ (rows : List Row). AreKnown (Some c.new-held.result) rows → P (shown_tree (Some c.new-held.result) rows)) c.rows-rows.ensures c.tar_rows.ensures.ok)

pub returns-then-whole-clause-err : goal.returns-then-whole-clause-err
returns-then-whole-clause-err g c R reads =
    let m = c.args.mount.now in
    let reads_by : AreReadFrom true (g.B.Blocks.bytes c.args.source.now) m.memory R m.rows = subst (λ (b : Bool). AreReadFrom b (g.B.Blocks.bytes c.args.source.now) m.memory R m.rows) c.if-whole.true reads in
    let P : Tree → Type 0 = λ t. IfErr c.tar_rows.result (λ x. FailsTold (GivesArchive c.args.chosen c.args.all) t x (written (g.W.Write.contents c.args.writer.now) (g.E.Write.contents c.args.errors.now)) (written (g.W.Write.contents c.tar_rows.new.writer) (g.E.Write.contents c.tar_rows.new.errors))) in
    let shown = held_shown m.memory c.memory.result.now c.front.result.now c.new-held.result R m.rows c.memory.ensures c.new-held.ensures c.front.ensures.count c.front.ensures.words reads_by in
    told_by (Some c.new-held.result) c.new-held.result R m.rows refl shown P (subst (λ (rows : List Row). AreKnown (Some c.new-held.result) rows → P (shown_tree (Some c.new-held.result) rows)) c.rows-rows.ensures c.tar_rows.ensures.err)

pub returns-clause-ok : goal.returns-clause-ok
returns-clause-ok g c R reads =
    let m = c.args.mount.now in
    let reads_by : AreReadFrom false (g.B.Blocks.bytes c.args.source.now) m.memory R m.rows = subst (λ (b : Bool). AreReadFrom b (g.B.Blocks.bytes c.args.source.now) m.memory R m.rows) c.if-whole.false reads in
    let P : Tree → Type 0 = λ t. IfOk c.tar_rows-2.result (λ x. WritesTold (GivesArchive c.args.chosen c.args.all) t (written (g.W.Write.contents c.args.writer.now) (g.E.Write.contents c.args.errors.now)) (written (g.W.Write.contents c.tar_rows-2.new.writer) (g.E.Write.contents c.tar_rows-2.new.errors)) x) in
    told_by (g.B.Blocks.bytes c.args.source.now) reads_by.0 R m.rows reads_by.1 reads_by.2 P
    (subst (λ (rows : List Row). AreKnown (g.B.Blocks.bytes c.args.source.now) rows → P (shown_tree (g.B.Blocks.bytes c.args.source.now) rows)) c.rows-rows.ensures c.tar_rows-2.ensures.ok)

pub returns-clause-err : goal.returns-clause-err
returns-clause-err g c R reads =
    let m = c.args.mount.now in
    let reads_by : AreReadFrom false (g.B.Blocks.bytes c.args.source.now) m.memory R m.rows = subst (λ (b : Bool). AreReadFrom b (g.B.Blocks.bytes c.args.source.now) m.memory R m.rows) c.if-whole.false reads in
    let P : Tree → Type 0 = λ t. IfErr c.tar_rows-2.result (λ x. FailsTold (GivesArchive c.args.chosen c.args.all) t x (written (g.W.Write.contents c.args.writer.now) (g.E.Write.contents c.args.errors.now)) (written (g.W.Write.contents c.tar_rows-2.new.writer) (g.E.Write.contents c.tar_rows-2.new.errors))) in
    told_by (g.B.Blocks.bytes c.args.source.now) reads_by.0 R m.rows reads_by.1 reads_by.2 P
    (subst (λ (rows : List Row). AreKnown (g.B.Blocks.bytes c.args.source.now) rows → P (shown_tree (g.B.Blocks.bytes c.args.source.now) rows)) c.rows-rows.ensures c.tar_rows-2.ensures.err)
