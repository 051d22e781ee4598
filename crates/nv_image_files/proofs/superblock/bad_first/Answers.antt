use Rattle.std.proofs.Common.{Some, sym, ap, ◌∙◌, arith, ℕ}
use Rattle.nv_region.specs.Region.{region_of}
use Rattle.nv_super.specs.Super.{rank}
use Rattle.nv_image_files.specs.declared.superblock.BadSuper.TheVariants.{Version, Cpus, Blocks, Tables, State}
use Rattle.nv_image_files.specs.Superblocks.{said_of}
use Rattle.nv_image_files.proofs.Beginnings.{told_first, blocks_first}
use Rattle.nv_image_files.proofs.superblock.bad_first.Goals as goal

pub returns-in-Version : goal.returns-in-Version
returns-in-Version c file begins refused =
    ap (λ (x : ℕ). Some (Version x)) (told_first file c.args.count c.args.first.now c.args.fault 8 c.word_in-in-Version.result begins refused (omega (arith, ap rank c.in-Version.is)) (omega arith) (omega arith) c.word_in-in-Version.ensures)
    ∙ ap (said_of (region_of file)) (sym c.in-Version.is)

pub returns-in-Cpus : goal.returns-in-Cpus
returns-in-Cpus c file begins refused =
    ap (λ (x : ℕ). Some (Cpus x)) (told_first file c.args.count c.args.first.now c.args.fault 16 c.word_in-in-Cpus.result begins refused (omega (arith, ap rank c.in-Cpus.is)) (omega arith) (omega arith) c.word_in-in-Cpus.ensures)
    ∙ ap (said_of (region_of file)) (sym c.in-Cpus.is)

pub returns-in-State : goal.returns-in-State
returns-in-State c file begins refused =
    ap (λ (x : ℕ). Some (State x)) (told_first file c.args.count c.args.first.now c.args.fault 40 c.word_in-in-State.result begins refused (omega (arith, ap rank c.in-State.is)) (omega arith) (omega arith) c.word_in-in-State.ensures)
    ∙ ap (said_of (region_of file)) (sym c.in-State.is)

pub returns-in-Blocks : goal.returns-in-Blocks
returns-in-Blocks c file begins refused =
    let told = told_first file c.args.count c.args.first.now c.args.fault 24 c.word_in-in-Blocks.result begins refused (omega (arith, ap rank c.in-Blocks.is)) (omega arith) (omega arith) c.word_in-in-Blocks.ensures in
    let held = blocks_first file c.args.count c.args.first.now begins in
    (λ i. Some (Blocks (told i) (held i))) ∙ ap (said_of (region_of file)) (sym c.in-Blocks.is)

pub returns-in-Tables : goal.returns-in-Tables
returns-in-Tables c file begins refused =
    let tables = told_first file c.args.count c.args.first.now c.args.fault 32 c.word_in-in-Tables.result begins refused (omega (arith, ap rank c.in-Tables.is)) (omega arith) (omega arith) c.word_in-in-Tables.ensures in
    let cpus = told_first file c.args.count c.args.first.now c.args.fault 16 c.word_in-in-Tables-2.result begins refused (omega (arith, ap rank c.in-Tables.is)) (omega arith) (omega arith) c.word_in-in-Tables-2.ensures in
    let blocks = told_first file c.args.count c.args.first.now c.args.fault 24 c.word_in-in-Tables-3.result begins refused (omega (arith, ap rank c.in-Tables.is)) (omega arith) (omega arith) c.word_in-in-Tables-3.ensures in
    (λ i. Some (Tables (tables i) (cpus i) (blocks i))) ∙ ap (said_of (region_of file)) (sym c.in-Tables.is)
