use Rattle.nv_members.proofs.Ways.{on_ok}
use Rattle.nv_difference.proofs.Sides.{its_numbers, place_told, same_told}
use Rattle.nv_difference.proofs.inodes.push_bytes.Goals as goal

pub returns-in-Some : goal.returns-in-Some
returns-in-Some g c = λ x y first second. on_ok c.push_place.result c.push_place.ensures
    (place_told x y c.args.a.numbers c.args.b.numbers (its_numbers (g.S.Inodes.tree c.args.first.now) c.args.a x c.requires.first first) (its_numbers (g.T.Inodes.tree c.args.second.now) c.args.b y c.requires.second second)
    c.args.path.now _ c.min-end.result c.in-Some.place _ c.min-end.ensures (c.in-Some.ensures x y first second))

pub returns-in-None : goal.returns-in-None
returns-in-None g c = λ x y first second.
    same_told x y c.args.a.numbers c.args.b.numbers (its_numbers (g.S.Inodes.tree c.args.first.now) c.args.a x c.requires.first first) (its_numbers (g.T.Inodes.tree c.args.second.now) c.args.b y c.requires.second second)
    c.args.path.now _ c.min-end.result c.min-end.ensures (c.in-None.ensures x y first second)
