use Rattle.std.proofs.Common.{◌≡◌, ◌∙◌, sym, Some, None}
use Rattle.nv_scan.proofs.Scanning.{wrong_one, keeps_more}
use Rattle.nv_scan.proofs.scan.keep_without_log.Goals as goal

pub keep-requires : goal.keep-requires
keep-requires c = λ p b e. absurd (let h = c.new-fold.ensures c.args._sup.now c.args.used.now.kind c.args.used.now.inode in let none : None ≡ Some b = sym (h.extents p) ∙ e in cc)

pub returns-clause-kept : goal.returns-clause-kept
returns-clause-kept c = λ R l is. keeps_more _ _ _ c.keep.result
    (wrong_one R c.args._sup.now l c.args.used.now.inode c.args.used.now.table c.args.used.now.slot is c.args.used.now.kind c.new-fold.result
    c.requires.kind c.requires.wrong (c.new-fold.ensures c.args._sup.now c.args.used.now.kind c.args.used.now.inode))
    c.keep.ensures.kept
