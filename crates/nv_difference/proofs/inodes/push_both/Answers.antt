use Rattle.nv_members.proofs.Ways.{on_ok}
use Rattle.nv_difference.proofs.Sides.{files_told, its_numbers}
use Rattle.nv_difference.proofs.inodes.push_both.Goals as goal

pub returns-in_ok-push_numbers-in-File-File : goal.returns-in_ok-push_numbers-in-File-File
returns-in_ok-push_numbers-in-File-File g c = λ x y first second. on_ok c.push_bytes.result (c.push_bytes.ensures x y first second)
    (files_told x y c.args.a.numbers c.args.b.numbers (its_numbers (g.S.Inodes.tree c.args.first.now) c.args.a x c.requires.first first) (its_numbers (g.T.Inodes.tree c.args.second.now) c.args.b y c.requires.second second)
    c.args.path.now _ c.in-File-File.is-0 c.in-File-File.is-1 _ _ c.in_ok-push_numbers-in-File-File.ensures)
