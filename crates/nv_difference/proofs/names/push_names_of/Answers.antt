use Rattle.std.proofs.Common.{map}
use Rattle.nv_members.proofs.Ways.{on_ok}
use Rattle.nv_difference.specs.Names.{name_bytes}
use Rattle.nv_difference.specs.Pairs.{both_of}
use Rattle.nv_difference.proofs.Listed.{names_of_both, rises_names}
use Rattle.nv_difference.proofs.names.push_names_of.Goals as goal

pub merged-requires-clause-first : goal.merged-requires-clause-first
merged-requires-clause-first g c = rw c.deref.ensures.value (rises_names c.in_ok-a.a.items c.in_ok-a.ensures.rising)

pub merged-requires-clause-second : goal.merged-requires-clause-second
merged-requires-clause-second g c = rw c.deref-2.ensures.value (rises_names c.in_ok-b.b.items c.in_ok-b.ensures.rising)

pub returns : goal.returns
returns g c =
    let t = g.S.Inodes.tree c.args.first.now in
    let u = g.T.Inodes.tree c.args.second.now in
    let are = names_of_both t u (both_of c.args.pair.now) c.in_ok-a.a.items c.in_ok-b.b.items c.in_ok-a.ensures c.in_ok-b.ensures (map name_bytes c.in_ok-names.names.items)
    (rw (c.deref.ensures.value, c.deref-2.ensures.value) at c.in_ok-names.ensures) in
    on_ok c.push_names.result (rw c.deref-3.ensures.value at c.push_names.ensures) (λ told. (told.0, (map name_bytes c.in_ok-names.names.items, are, told.1), told.2))
