use Rattle.std.proofs.Common.{◌≡◌, ◌%◌, [], ◌∷◌, refl, arith}
use Rattle.std.proofs.lemmas.Result.{IfOk-from_err, err_from_is_err_and}
use Rattle.nv_entry.specs.declared.entry.Entry.TheVariants.{Attr}
use Rattle.nv_logpage.specs.Append.{needed}
use Rattle.nv_tree.specs.declared.refusal.Refusal.{Refusal}
use Rattle.nv_tree.specs.declared.refusal.Refusal.TheVariants.{Stopped}
use Rattle.nv_tree.proofs.Replies.{refused_by}
use Rattle.nv_steps.specs.Steps.{LeavesStep, RefusesStep}
use Rattle.nv_steps.proofs.Attributed.{attributes_follow, has_attributes}
use Rattle.nv_steps.proofs.Kept.{kept_done, kept_refused}
use Rattle.nv_steps.proofs.Stopped.{left_attributes}
use Rattle.nv_steps.proofs.attributes.change_attributes.Goals as goal

pub returns-clause-log : goal.returns-clause-log
returns-clause-log g c held h shows =
    rw c.numbers_with-row.ensures (attributes_follow c.args.attributes shows c.requires.stands.lists c.in_ok-append_log.ensures.appended c.requires.given.0 c.requires.given.1)

pub append_log-requires : goal.append_log-requires
append_log-requires g c =
    record {
      cpu_below = c.requires.cpu_below;
      stands = c.requires.stands;
      given = ((refl, tt));
    }

pub returns-in_err-append_log-clause-log : goal.returns-in_err-append_log-clause-log
returns-in_err-append_log-clause-log g c held h shows = IfOk-from_err c.from_residual.result _ c.from_residual.ensures.0

pub returns-in_err-append_log-clause-row : goal.returns-in_err-append_log-clause-row
returns-in_err-append_log-clause-row g c = IfOk-from_err c.from_residual.result _ c.from_residual.ensures.0

pub returns-in_err-append_log-clause-needs : goal.returns-in_err-append_log-clause-needs
returns-in_err-append_log-clause-needs g c =
    record {
      enough = IfOk-from_err c.from_residual.result _ c.from_residual.ensures.0;
      refused = let w = err_from_is_err_and c.from_residual.result c.from_residual.ensures.1 in
          refused_by c.from_residual.result c.in_err-append_log.field-0.0 w.0 (λ (e : Refusal). RefusesStep e (needed (c.args.row.now.tail % 4096) (Attr c.args.attributes ∷ [])) c.args.free.now) w.1 w.2 c.in_err-append_log.ensures.needs.refused;
    }

pub returns-in_err-append_log-clause-kept : goal.returns-in_err-append_log-clause-kept
returns-in_err-append_log-clause-kept g c =
    let w = err_from_is_err_and c.from_residual.result c.from_residual.ensures.1 in
    kept_refused c.from_residual.result c.in_err-append_log.field-0.0 w.0 w.1 w.2 c.in_err-append_log.ensures.kept

pub returns-in_err-append_log-clause-unchanged : goal.returns-in_err-append_log-clause-unchanged
returns-in_err-append_log-clause-unchanged g c =
    let w = err_from_is_err_and c.from_residual.result c.from_residual.ensures.1 in
    refused_by c.from_residual.result c.in_err-append_log.field-0.0 w.0 (λ (e : Refusal). (e ≡ Stopped → ⊥) → LeavesStep c.args.memory.now c.append_log.new.memory c.args.free.now c.append_log.new.free c.args.row.now c.append_log.new.row) w.1 w.2 c.in_err-append_log.ensures.unchanged

pub returns-in_err-append_log-clause-inode : goal.returns-in_err-append_log-clause-inode
returns-in_err-append_log-clause-inode g c = c.in_err-append_log.ensures.inode

pub returns-clause-row : goal.returns-clause-row
returns-clause-row g c = has_attributes c.args.attributes c.in_ok-append_log.ensures.appended.row c.numbers_with-row.ensures c.requires.given.1

pub returns-clause-needs : goal.returns-clause-needs
returns-clause-needs g c =
    record {
      enough = c.in_ok-append_log.ensures.needs.enough;
      refused = tt;
    }

pub returns-clause-kept : goal.returns-clause-kept
returns-clause-kept g c = kept_done c.in_ok-append_log.ensures.kept

pub returns-clause-unchanged : goal.returns-clause-unchanged
returns-clause-unchanged g c = tt

pub returns-clause-inode : goal.returns-clause-inode
returns-clause-inode g c = c.in_ok-append_log.ensures.inode

pub returns-in_err-append_log-clause-any_stop : goal.returns-in_err-append_log-clause-any_stop
returns-in_err-append_log-clause-any_stop g c held h shows settled left may =
    left_attributes c.args.attributes c.requires.stands.lists c.requires.given.0 c.requires.given.1 left (c.in_err-append_log.ensures.any_stop held h shows (omega arith) settled left may)

pub returns-clause-any_stop : goal.returns-clause-any_stop
returns-clause-any_stop g c held h shows settled left may =
    left_attributes c.args.attributes c.requires.stands.lists c.requires.given.0 c.requires.given.1 left (c.in_ok-append_log.ensures.any_stop held h shows (omega arith) settled left may)

pub returns-in_err-append_log-clause-wrote : goal.returns-in_err-append_log-clause-wrote
returns-in_err-append_log-clause-wrote g c held h shows = c.in_err-append_log.ensures.wrote held h shows (omega arith)

pub returns-clause-wrote : goal.returns-clause-wrote
returns-clause-wrote g c held h shows = c.in_ok-append_log.ensures.wrote held h shows (omega arith)
