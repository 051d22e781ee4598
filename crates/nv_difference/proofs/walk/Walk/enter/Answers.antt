use Rattle.std.proofs.Common.{true, false, sym, ◌∙◌, true≢false}
use Rattle.std.specs.BTreeMap.{get}
use Rattle.std.specs.Ordering.{nat_cmp}
use Rattle.nv_difference.specs.Walk.{seen_in}
use Rattle.nv_difference.specs.Pairs.{both_of}
use Rattle.nv_difference.proofs.Steps.{again_on, less_ready, passed_on, passed_ready}
use Rattle.nv_difference.proofs.Tables.{are_known, its_partner}
use Rattle.nv_difference.proofs.walk.Walk.enter.Goals as goal

pub returns-then-is_number-clause-ready : goal.returns-then-is_number-clause-ready
returns-then-is_number-clause-ready g c =
    let t = g.S.Inodes.tree c.args.first.now in
    let u = g.T.Inodes.tree c.args.second.now in
    less_ready t u c.args.self.now.visits.items c.args.self.now.pending.items c.args.next (get nat_cmp c.args.self.now.partners) (get nat_cmp c.args.self.now.owners) c.requires

pub returns-then-is_number-clause-leads : goal.returns-then-is_number-clause-leads
returns-then-is_number-clause-leads g c =
    let t = g.S.Inodes.tree c.args.first.now in
    let u = g.T.Inodes.tree c.args.second.now in
    again_on t u c.args.self.now.visits.items c.args.self.now.pending.items c.args.next
    (sym (its_partner (seen_in c.args.self.now.visits.items) (both_of c.args.next) (get nat_cmp c.args.self.now.partners) (get nat_cmp c.args.self.now.owners) c.requires.tables c.number_at-partner.result
    c.number_at-partner.ensures) ∙ c.is_number.ensures.0 c.if-is_number.true)

pub compare-requires-clause-new : goal.compare-requires-clause-new
compare-requires-clause-new g c =
    let t = g.S.Inodes.tree c.args.first.now in
    let u = g.T.Inodes.tree c.args.second.now in
    are_known (seen_in c.args.self.now.visits.items) (both_of c.args.next) (get nat_cmp c.args.self.now.partners) (get nat_cmp c.args.self.now.owners) c.requires.tables c.number_at-partner.result c.number_at-owner.result true
    c.number_at-partner.ensures c.number_at-owner.ensures (sym c.are_new.ensures ∙ c.if-are_new.true)

pub returns-clause-ready : goal.returns-clause-ready
returns-clause-ready g c =
    let t = g.S.Inodes.tree c.args.first.now in
    let u = g.T.Inodes.tree c.args.second.now in
    rw c.in_ok-push.ensures.items
    (passed_ready t u c.args.self.now.visits.items c.args.self.now.pending.items c.args.next (get nat_cmp c.args.self.now.partners) (get nat_cmp c.args.self.now.owners) c.requires)

pub returns-clause-leads : goal.returns-clause-leads
returns-clause-leads g c =
    let t = g.S.Inodes.tree c.args.first.now in
    let u = g.T.Inodes.tree c.args.second.now in
    let seen = seen_in c.args.self.now.visits.items in
    let partners = get nat_cmp c.args.self.now.partners in
    let owners = get nat_cmp c.args.self.now.owners in
    let partner = its_partner seen (both_of c.args.next) partners owners c.requires.tables c.number_at-partner.result c.number_at-partner.ensures in
    rw c.in_ok-push.ensures.items
    (passed_on t u c.args.self.now.visits.items c.args.self.now.pending.items c.args.next
    (λ e. true≢false (sym (c.is_number.ensures.1 (partner ∙ e)) ∙ c.if-is_number.false))
    (are_known seen (both_of c.args.next) partners owners c.requires.tables c.number_at-partner.result c.number_at-owner.result false
    c.number_at-partner.ensures c.number_at-owner.ensures (sym c.are_new.ensures ∙ c.if-are_new.false)))
