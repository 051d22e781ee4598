use Rattle.std.proofs.Common.{◌≡◌, length, subst, sym, map, List, not, ap, arith}
use Rattle.nv_names.specs.Names.{HasNames, line_of}
use Rattle.nv_names.specs.declared.named.Named.{Named}
use Rattle.nv_cross_check.proofs.Heads.{unnamed}
use Rattle.nv_cross_check.proofs.Listed.{element_at, last_names}
use Rattle.nv_cross_check.proofs.listing.push_names.Goals as goal

pub returns-then-not-head-clause-list : goal.returns-then-not-head-clause-list
returns-then-not-head-clause-list c =
    let w = element_at c.args.rows.now.items c.args.place c.requires.within in
    let none = unnamed c.args.rows.now.items c.args.place c.head.result w.0 c.head.ensures (ap not c.if-not-head.true) w.1 in
    (w.0, w.1, (c.requires.empty.0, subst (λ (ns : List Named). HasNames w.0.names (map line_of ns)) (sym c.requires.empty.1) none))

pub returns-clause-list : goal.returns-clause-list
returns-clause-list c =
    let row = c.at.result.now in
    let before = c.args.lists.now in
    let last : c.len-list.result ≡ length before.items = omega (arith, c.len-list.ensures, before.ok.0) in
    let w = last_names before.items c.push.new.self.items c.in_ok-walk.field-0 c.len-list.result c.in_ok-push.ensures.items last in
    (row, c.at.ensures, (w.0, subst (λ (ns : List Named). HasNames row.names (map line_of ns)) (sym w.1) c.in_ok-walk.ensures))
