use Rattle.std.proofs.lemmas.Grind.{common_steps}
use Rattle.std.proofs.Common.{arith, ◌∙◌, ◌+◌, ◌<◌, ◌≤◌, subst, sym, ◌≡◌, ◌%◌, refl, inl, inr, IsTrue}
use Rattle.std.proofs.lemmas.Result.{err_from_is_err_and, IfOk-from_err}
use Rattle.nv_logpage.specs.Append.{needed}
use Rattle.nv_outcome.specs.Same.{SameRow}
use Rattle.nv_mounted.proofs.BytesKept.{mixed_size}
use Rattle.nv_tree.specs.declared.refusal.Refusal.{Refusal}
use Rattle.nv_tree.specs.declared.refusal.Refusal.TheVariants.{Stopped}
use Rattle.nv_tree.proofs.Replies.{refused_by}
use Rattle.nv_commit.proofs.Left.{still}
use Rattle.nv_steps.specs.Stopped.{AppendedBoth}
use Rattle.nv_steps.specs.Steps.{LeavesStep, RefusesStep}
use Rattle.nv_names.specs.Names.{Names}
use Rattle.nv_region.proofs.Fuses.{keeps_within}
use Rattle.nv_super.specs.declared.superblock.Super.{Super}
use Rattle.nv_steps.proofs.AppendedLogs.{appends_logs, both_within, first_commits, first_room, left_logs, logs_in_order, logs_store, second_commits, second_room}
use Rattle.nv_steps.proofs.TakenBlocks.{taken_sup}
use Rattle.nv_steps.proofs.growing.append_logs.Goals as goal
use Rattle.nv_steps.specs.Stores.{two_logs}
use Rattle.nv_steps.proofs.Kept.{nothing_stored}
use Rattle.nv_steps.proofs.Stores.{stores_nothing}

pub prepare_logs-requires-clause-cpu : goal.prepare_logs-requires-clause-cpu
prepare_logs-requires-clause-cpu g c =
    let stands = c.requires.stands.0 in
    let can = c.requires.stands.1 in
    subst (λ (s : Super). c.args.cpu < s.cpus) (sym stands.lists) can.cpu_below

pub extend_two-requires-clause-first : goal.extend_two-requires-clause-first
extend_two-requires-clause-first g c =
    first_commits c.in_ok-blocks.ensures.ready.0 c.in_ok-blocks.ensures.ready.1 c.requires.stands c.requires.other_stands c.in_ok-blocks.ensures.taken.each c.in_ok-blocks.ensures.taken.count_is c.requires.apart c.requires.given.0.given c.requires.given.1.given c.requires.given.0.some c.requires.given.1.some c.blocks_for-count.ensures c.deref.ensures.value c.split_at.ensures.front c.split_at.ensures.back c.extension-one.result c.extension-two.result c.extension-one.ensures.slot c.extension-one.ensures.tail c.extension-one.ensures.entries c.extension-one.ensures.fresh c.extension-two.ensures.slot c.extension-two.ensures.tail c.extension-two.ensures.entries c.extension-two.ensures.fresh

pub extend_two-requires-clause-second : goal.extend_two-requires-clause-second
extend_two-requires-clause-second g c =
    second_commits c.in_ok-blocks.ensures.ready.0 c.in_ok-blocks.ensures.ready.1 c.requires.stands c.requires.other_stands c.in_ok-blocks.ensures.taken.each c.in_ok-blocks.ensures.taken.count_is c.requires.apart c.requires.given.0.given c.requires.given.1.given c.requires.given.0.some c.requires.given.1.some c.blocks_for-count.ensures c.deref.ensures.value c.split_at.ensures.front c.split_at.ensures.back c.extension-one.result c.extension-two.result c.extension-one.ensures.slot c.extension-one.ensures.tail c.extension-one.ensures.entries c.extension-one.ensures.fresh c.extension-two.ensures.slot c.extension-two.ensures.tail c.extension-two.ensures.entries c.extension-two.ensures.fresh

pub returns-in_default-clause-kept : goal.returns-in_default-clause-kept
returns-in_default-clause-kept g c =
    record {
      keeps = record {
        stopped = grind (arith, common_steps);
        lists = taken_sup c.in_ok-blocks.ensures.taken.each;
        length = mixed_size c.extend_two.ensures.kept.wrote.mixed;
        keeps_fuse = keeps_within (both_within c.in_ok-blocks.ensures.ready.0 c.in_ok-blocks.ensures.ready.1 c.requires.stands c.requires.other_stands c.in_ok-blocks.ensures.taken.each c.in_ok-blocks.ensures.taken.count_is c.requires.apart c.requires.given.0.given c.requires.given.1.given c.requires.given.0.some c.requires.given.1.some c.blocks_for-count.ensures c.deref.ensures.value c.split_at.ensures.front c.split_at.ensures.back c.extension-one.result c.extension-two.result c.extension-one.ensures.slot c.extension-one.ensures.tail c.extension-one.ensures.entries c.extension-one.ensures.fresh c.extension-two.ensures.slot c.extension-two.ensures.tail c.extension-two.ensures.entries c.extension-two.ensures.fresh) c.extend_two.ensures.kept.keeps_fuse;
      };
      settled = tt;
    }

pub returns-clause-kept : goal.returns-clause-kept
returns-clause-kept g c =
    record {
      keeps = record {
        stopped = tt;
        lists = taken_sup c.in_ok-blocks.ensures.taken.each;
        length = mixed_size c.extend_two.ensures.kept.wrote.mixed;
        keeps_fuse = keeps_within (both_within c.in_ok-blocks.ensures.ready.0 c.in_ok-blocks.ensures.ready.1 c.requires.stands c.requires.other_stands c.in_ok-blocks.ensures.taken.each c.in_ok-blocks.ensures.taken.count_is c.requires.apart c.requires.given.0.given c.requires.given.1.given c.requires.given.0.some c.requires.given.1.some c.blocks_for-count.ensures c.deref.ensures.value c.split_at.ensures.front c.split_at.ensures.back c.extension-one.result c.extension-two.result c.extension-one.ensures.slot c.extension-one.ensures.tail c.extension-one.ensures.entries c.extension-one.ensures.fresh c.extension-two.ensures.slot c.extension-two.ensures.tail c.extension-two.ensures.entries c.extension-two.ensures.fresh) c.extend_two.ensures.kept.keeps_fuse;
      };
      settled = c.in-Ok.ensures.kept.settled;
    }

pub settle_log-requires : goal.settle_log-requires
settle_log-requires g c =
    first_room c.in_ok-blocks.ensures.ready.0 c.in_ok-blocks.ensures.ready.1 c.requires.stands c.requires.other_stands c.in_ok-blocks.ensures.taken.each c.in_ok-blocks.ensures.taken.count_is c.requires.apart c.requires.given.0.given c.requires.given.1.given c.requires.given.0.some c.requires.given.1.some c.blocks_for-count.ensures c.deref.ensures.value c.split_at.ensures.front c.split_at.ensures.back

pub settle_log-requires-2 : goal.settle_log-requires-2
settle_log-requires-2 g c =
    second_room c.in_ok-blocks.ensures.ready.0 c.in_ok-blocks.ensures.ready.1 c.requires.stands c.requires.other_stands c.in_ok-blocks.ensures.taken.each c.in_ok-blocks.ensures.taken.count_is c.requires.apart c.requires.given.0.given c.requires.given.1.given c.requires.given.0.some c.requires.given.1.some c.blocks_for-count.ensures c.deref.ensures.value c.split_at.ensures.front c.split_at.ensures.back

pub returns-clause-appended : goal.returns-clause-appended
returns-clause-appended g c =
    let ends = c.in-Ok.ensures.ends in
    appends_logs c.in_ok-blocks.ensures.ready.0 c.in_ok-blocks.ensures.ready.1 c.requires.stands c.requires.other_stands c.in_ok-blocks.ensures.taken.each c.in_ok-blocks.ensures.taken.count_is c.requires.apart c.requires.given.0.given c.requires.given.1.given c.requires.given.0.some c.requires.given.1.some c.blocks_for-count.ensures c.deref.ensures.value c.split_at.ensures.front c.split_at.ensures.back c.extension-one.result c.extension-two.result c.extension-one.ensures.slot c.extension-one.ensures.tail c.extension-one.ensures.entries c.extension-one.ensures.fresh c.extension-two.ensures.slot c.extension-two.ensures.tail c.extension-two.ensures.entries c.extension-two.ensures.fresh ends.0 ends.1 c.settle_log.ensures c.settle_log-2.ensures
    (λ held a b h k can. c.in-Ok.ensures.shows c.args.tables.now.layout held a b h k can) c.extend_two.ensures.kept.wrote.mixed

pub prepare_logs-requires-clause-few : goal.prepare_logs-requires-clause-few
prepare_logs-requires-clause-few g c = (c.requires.given.0.few, c.requires.given.1.few)

pub returns-in_err-blocks-clause-needs : goal.returns-in_err-blocks-clause-needs
returns-in_err-blocks-clause-needs g c =
    record {
      needs = record {
        enough = IfOk-from_err c.from_residual.result _ c.from_residual.ensures.0;
        refused = let w = err_from_is_err_and c.from_residual.result c.from_residual.ensures.1 in
            refused_by c.from_residual.result c.in_err-blocks.field-0.0 w.0 (λ (e : Refusal). RefusesStep e (needed (c.args.row.now.tail % 4096) c.args.first.now.entries.now + needed (c.args.other.now.tail % 4096) c.args.second.now.entries.now) c.args.free.now) w.1 w.2 c.in_err-blocks.ensures.needs.refused;
      };
      room = IfOk-from_err c.from_residual.result _ c.from_residual.ensures.0;
    }

pub returns-in_err-blocks-clause-unchanged : goal.returns-in_err-blocks-clause-unchanged
returns-in_err-blocks-clause-unchanged g c =
    let w = err_from_is_err_and c.from_residual.result c.from_residual.ensures.1 in
    refused_by c.from_residual.result c.in_err-blocks.field-0.0 w.0 (λ (e : Refusal). (e ≡ Stopped → ⊥) → LeavesStep c.args.memory.now c.args.memory.now c.args.free.now c.prepare_logs.new.free c.args.row.now c.prepare_logs.new.row × SameRow c.args.other.now c.prepare_logs.new.other) w.1 w.2
    (λ _. (record { memory = refl; free = c.in_err-blocks.ensures.unchanged; row = c.in_err-blocks.ensures.rows.0 }, c.in_err-blocks.ensures.rows.1))

pub returns-in_err-blocks-clause-kept : goal.returns-in_err-blocks-clause-kept
returns-in_err-blocks-clause-kept g c =
    nothing_stored (IfOk-from_err c.from_residual.result _ c.from_residual.ensures.0) (let w = err_from_is_err_and c.from_residual.result c.from_residual.ensures.1 in
    refused_by c.from_residual.result c.in_err-blocks.field-0.0 w.0 (λ (e : Refusal). e ≡ Stopped → IsTrue (g.P.Pmem.fuse c.args.memory.now).has_burnt) w.1 w.2 (λ is. absurd (c.in_err-blocks.ensures.goes_on is))) (c.in_err-blocks.ensures.unchanged.sup)

pub returns-in_err-blocks-clause-inodes : goal.returns-in_err-blocks-clause-inodes
returns-in_err-blocks-clause-inodes g c = (c.in_err-blocks.ensures.rows.0.inode, c.in_err-blocks.ensures.rows.1.inode)

pub returns-in_default-clause-appended : goal.returns-in_default-clause-appended
returns-in_default-clause-appended g c = tt

pub returns-in_default-clause-needs : goal.returns-in_default-clause-needs
returns-in_default-clause-needs g c =
    record {
      needs = record {
        enough = tt;
        refused = inr (inl refl);
      };
      room = tt;
    }

pub returns-in_default-clause-unchanged : goal.returns-in_default-clause-unchanged
returns-in_default-clause-unchanged g c = λ goes_on. absurd (goes_on refl)

pub returns-in_default-clause-inodes : goal.returns-in_default-clause-inodes
returns-in_default-clause-inodes g c = (c.in_ok-blocks.ensures.rows.0.inode, c.in_ok-blocks.ensures.rows.1.inode)

pub returns-clause-needs : goal.returns-clause-needs
returns-clause-needs g c =
    record {
      needs = record {
        enough = c.in_ok-blocks.ensures.needs.enough;
        refused = tt;
      };
      room = (
        let ready = c.in_ok-blocks.ensures.ready.0 in
            let grown = c.settle_log.ensures in
            subst (λ (names : Names). c.args.first.now.names ≤ names.room) (sym grown.names) ready.names_room,
        let ready = c.in_ok-blocks.ensures.ready.1 in
            let grown = c.settle_log-2.ensures in
            subst (λ (names : Names). c.args.second.now.names ≤ names.room) (sym grown.names) ready.names_room,
      );
    }

pub returns-clause-unchanged : goal.returns-clause-unchanged
returns-clause-unchanged g c = tt

pub returns-clause-inodes : goal.returns-clause-inodes
returns-clause-inodes g c = (c.settle_log.ensures.inode ∙ c.in_ok-blocks.ensures.rows.0.inode, c.settle_log-2.ensures.inode ∙ c.in_ok-blocks.ensures.rows.1.inode)

pub returns-in_err-blocks-clause-appended : goal.returns-in_err-blocks-clause-appended
returns-in_err-blocks-clause-appended g c = IfOk-from_err c.from_residual.result _ c.from_residual.ensures.0

pub returns-in_err-blocks-clause-any_stop : goal.returns-in_err-blocks-clause-any_stop
returns-in_err-blocks-clause-any_stop g c held h k here there settled = still _ _ c.args.tables.now.layout held (AppendedBoth (g.P.Pmem.region c.args.memory.now) c.args.tables.now.layout c.args.free.now c.args.cpu c.args.row.now c.args.first.now.entries.now c.args.other.now c.args.second.now.entries.now) here.sound settled

pub returns-in_default-clause-any_stop : goal.returns-in_default-clause-any_stop
returns-in_default-clause-any_stop g c held h k here there settled =
    left_logs c.in_ok-blocks.ensures.ready.0 c.in_ok-blocks.ensures.ready.1 c.requires.stands c.requires.other_stands c.in_ok-blocks.ensures.taken.each c.in_ok-blocks.ensures.taken.count_is c.requires.apart c.requires.given.0.given c.requires.given.1.given c.requires.given.0.some c.requires.given.1.some c.blocks_for-count.ensures c.deref.ensures.value c.split_at.ensures.front c.split_at.ensures.back c.extension-one.result c.extension-two.result c.extension-one.ensures.slot c.extension-one.ensures.tail c.extension-one.ensures.entries c.extension-one.ensures.fresh c.extension-two.ensures.slot c.extension-two.ensures.tail c.extension-two.ensures.entries c.extension-two.ensures.fresh
    here there _ _ _ c.extend_two.ensures.kept.wrote settled (λ a b f e can pending. (c.extend_two.ensures.moments c.args.tables.now.layout held a b f e can).any_stop pending)

pub returns-clause-any_stop : goal.returns-clause-any_stop
returns-clause-any_stop g c held h k here there settled =
    left_logs c.in_ok-blocks.ensures.ready.0 c.in_ok-blocks.ensures.ready.1 c.requires.stands c.requires.other_stands c.in_ok-blocks.ensures.taken.each c.in_ok-blocks.ensures.taken.count_is c.requires.apart c.requires.given.0.given c.requires.given.1.given c.requires.given.0.some c.requires.given.1.some c.blocks_for-count.ensures c.deref.ensures.value c.split_at.ensures.front c.split_at.ensures.back c.extension-one.result c.extension-two.result c.extension-one.ensures.slot c.extension-one.ensures.tail c.extension-one.ensures.entries c.extension-one.ensures.fresh c.extension-two.ensures.slot c.extension-two.ensures.tail c.extension-two.ensures.entries c.extension-two.ensures.fresh
    here there _ _ _ c.extend_two.ensures.kept.wrote settled (λ a b f e can pending. (c.extend_two.ensures.moments c.args.tables.now.layout held a b f e can).any_stop pending)

pub returns-in_err-blocks-clause-in_order : goal.returns-in_err-blocks-clause-in_order
returns-in_err-blocks-clause-in_order g c held h k here there = inl refl

pub returns-in_default-clause-in_order : goal.returns-in_default-clause-in_order
returns-in_default-clause-in_order g c held h k here there =
    logs_in_order c.in_ok-blocks.ensures.ready.0 c.in_ok-blocks.ensures.ready.1 c.requires.stands c.requires.other_stands c.in_ok-blocks.ensures.taken.each c.in_ok-blocks.ensures.taken.count_is c.requires.apart c.requires.given.0.given c.requires.given.1.given c.requires.given.0.some c.requires.given.1.some c.blocks_for-count.ensures c.deref.ensures.value c.split_at.ensures.front c.split_at.ensures.back c.extension-one.result c.extension-two.result c.extension-one.ensures.slot c.extension-one.ensures.tail c.extension-one.ensures.entries c.extension-one.ensures.fresh c.extension-two.ensures.slot c.extension-two.ensures.tail c.extension-two.ensures.entries c.extension-two.ensures.fresh here there (λ a b f e can. c.extend_two.ensures.in_order c.args.tables.now.layout held a b f e can)

pub returns-clause-in_order : goal.returns-clause-in_order
returns-clause-in_order g c held h k here there =
    logs_in_order c.in_ok-blocks.ensures.ready.0 c.in_ok-blocks.ensures.ready.1 c.requires.stands c.requires.other_stands c.in_ok-blocks.ensures.taken.each c.in_ok-blocks.ensures.taken.count_is c.requires.apart c.requires.given.0.given c.requires.given.1.given c.requires.given.0.some c.requires.given.1.some c.blocks_for-count.ensures c.deref.ensures.value c.split_at.ensures.front c.split_at.ensures.back c.extension-one.result c.extension-two.result c.extension-one.ensures.slot c.extension-one.ensures.tail c.extension-one.ensures.entries c.extension-one.ensures.fresh c.extension-two.ensures.slot c.extension-two.ensures.tail c.extension-two.ensures.entries c.extension-two.ensures.fresh here there (λ a b f e can. c.extend_two.ensures.in_order c.args.tables.now.layout held a b f e can)

pub returns-in_err-blocks-clause-wrote : goal.returns-in_err-blocks-clause-wrote
returns-in_err-blocks-clause-wrote g c held h k here there = stores_nothing c.args.tables.now.layout held (two_logs c.args.tables.now.layout c.args.cpu c.args.row.now.inode c.args.other.now.inode) (g.P.Pmem.region c.args.memory.now)

pub returns-in_default-clause-wrote : goal.returns-in_default-clause-wrote
returns-in_default-clause-wrote g c held h k here there =
    logs_store c.in_ok-blocks.ensures.ready.0 c.in_ok-blocks.ensures.ready.1 c.requires.stands c.requires.other_stands c.in_ok-blocks.ensures.taken.each c.in_ok-blocks.ensures.taken.count_is c.requires.apart c.requires.given.0.given c.requires.given.1.given c.requires.given.0.some c.requires.given.1.some c.blocks_for-count.ensures c.deref.ensures.value c.split_at.ensures.front c.split_at.ensures.back c.extension-one.result c.extension-two.result c.extension-one.ensures.slot c.extension-one.ensures.tail c.extension-one.ensures.entries c.extension-one.ensures.fresh c.extension-two.ensures.slot c.extension-two.ensures.tail c.extension-two.ensures.entries c.extension-two.ensures.fresh here there c.extend_two.ensures.kept.wrote.mixed

pub returns-clause-wrote : goal.returns-clause-wrote
returns-clause-wrote g c held h k here there =
    logs_store c.in_ok-blocks.ensures.ready.0 c.in_ok-blocks.ensures.ready.1 c.requires.stands c.requires.other_stands c.in_ok-blocks.ensures.taken.each c.in_ok-blocks.ensures.taken.count_is c.requires.apart c.requires.given.0.given c.requires.given.1.given c.requires.given.0.some c.requires.given.1.some c.blocks_for-count.ensures c.deref.ensures.value c.split_at.ensures.front c.split_at.ensures.back c.extension-one.result c.extension-two.result c.extension-one.ensures.slot c.extension-one.ensures.tail c.extension-one.ensures.entries c.extension-one.ensures.fresh c.extension-two.ensures.slot c.extension-two.ensures.tail c.extension-two.ensures.entries c.extension-two.ensures.fresh here there c.extend_two.ensures.kept.wrote.mixed
