use Rattle.std.proofs.Common.{◌∙◌, Option, refl, sym, ap, subst, IsTrue, string_bytes}
use Rattle.std.proofs.lemmas.Result.{IfOk-weaker}
use Rattle.nv_region.specs.Region.{Region}
use Rattle.nv_region.specs.RegionState.{RegionState, fenced_or_last, is_off, is_steady}
use Rattle.nv_region.specs.Stops.{LeavesOnly}
use Rattle.nv_super.specs.declared.superblock.Super.{Super}
use Rattle.nv_super.specs.Super.{IsSuper}
use Rattle.nv_recover.specs.Errors.{UndoesAsBefore}
use Rattle.nv_image_check.specs.Answering.{MayEnd}
use Rattle.nv_session.specs.Sessions.{region_in, memory_in, is_armed}
use Rattle.nv_session.specs.declared.session.Session.{Session}
use Rattle.nv_session.specs.declared.store.Store.{Store}
use Rattle.nv_session.proofs.Moved.{no_region_moves, settles_moves, can_mount, can_burn, fused_settled}
use Rattle.nv_session.proofs.session.Session.replay.Goals as goal

pub settle-requires-clause-settled : goal.settle-requires-clause-settled
settle-requires-clause-settled c = c.in_ok-answer.ensures.settled (fused_settled c.keep_all-memory.result c.set_fuse.new.self c.args.stop.fuse c.keep_all-memory.ensures.settled c.set_fuse.ensures)

pub settle-requires-clause-mounts : goal.settle-requires-clause-mounts
settle-requires-clause-mounts c = can_mount c.set_fuse.new.self.region c.replay_or_stop.new.memory.region c.args.workers c.args.schedule.now c.in_ok-answer.answer c.in_ok-answer.ensures.ok c.in_ok-answer.ensures.lists

pub returns-in_default : goal.returns-in_default
returns-in_default c = IfOk-weaker c.refused_text.result _ _ (λ text said. no_region_moves (is_armed c.args.stop) c.args.workers c.args.schedule.now c.args.self.now _ c.take.new.self (string_bytes text) (sym c.in_default.ensures.value) c.take.ensures.after refl said) c.refused_text.ensures

pub returns : goal.returns
returns c =
    let same = ap (λ (m : RegionState). m.region) c.set_fuse.ensures ∙ c.keep_all-memory.ensures.region ∙ ap (λ (m : RegionState). m.region) c.into_memory.ensures in
    let may = subst (λ (T : Region). MayEnd T c.args.workers c.args.schedule.now c.in_ok-answer.answer c.replay_or_stop.new.memory.region) same c.in_ok-answer.ensures.ok in
    let before = fused_settled c.keep_all-memory.result c.set_fuse.new.self c.args.stop.fuse c.keep_all-memory.ensures.settled c.set_fuse.ensures in
    let stops = subst (λ (T : Region). (s : Super) → IsSuper T s → LeavesOnly c.replay_or_stop.new.memory.region (fenced_or_last c.replay_or_stop.new.memory) (UndoesAsBefore T)) same (λ s is. c.in_ok-answer.ensures.any_stop s is before) in
    let mid : Session = record c.args.self.now { store = c.take.new.self } in
    IfOk-weaker c.settle.result _ _ (λ text settles. settles_moves (is_armed c.args.stop) (memory_in c.in-Some.store).region c.replay_or_stop.new.memory c.args.workers c.args.schedule.now c.args.self.now mid c.settle.new.self (string_bytes text)
    (ap region_in (sym c.in-Some.ensures.value)) (ap (λ (x : Option Store). record c.args.self.now { store = x }) c.take.ensures.after) c.in_ok-answer.answer may
    (λ none. can_burn (is_off c.args.stop.fuse) (λ off. c.in_ok-answer.ensures.unstopped (subst (λ (m : RegionState). IsTrue (is_steady m)) (sym c.set_fuse.ensures) (rw off refl)) none)) stops settles) c.settle.ensures
