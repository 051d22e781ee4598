use Rattle.std.proofs.Common.{◌≡◌, ◌∙◌, ◌∷◌, ◌+◌, ◌/◌, ◌≤◌, ℕ, ap, arith, is_err, subst, sym}
use Rattle.std.proofs.lemmas.Result.{IfOk-from_err}
use Rattle.nv_region.proofs.Fuses.{keeps_more, keeps_within}
use Rattle.nv_logpage.specs.Append.{EndBy}
use Rattle.nv_mounted.proofs.BytesKept.{mixed_size}
use Rattle.nv_region.specs.Region.{Region}
use Rattle.nv_steps.specs.Sizes.{CopiesEnd}
use Rattle.nv_steps.proofs.CopiedEnd.{copies_end}
use Rattle.nv_steps.proofs.CopyStops.{end_left, page_left}
use Rattle.nv_mounted.specs.Blocks.{IsUnowned}
use Rattle.nv_steps.specs.Stores.{one_log}
use Rattle.nv_steps.proofs.Stores.{data_stores, data_then_log}
use Rattle.nv_steps.proofs.copying.copy_end.Goals as goal

pub returns-clause-copies : goal.returns-clause-copies
returns-clause-copies g c = copies_end c.args.from c.args.to c.args.bytes c.extend_log.result c.in_ok-copy_page.ensures.stored c.in_ok-copy_page.ensures.wrote.mixed c.extend_log.ensures.shows c.extend_log.ensures.kept.wrote.mixed

pub returns-clause-keeps_fuse : goal.returns-clause-keeps_fuse
returns-clause-keeps_fuse g c =
    keeps_more (λ limit past. ((λ j below. (let inside = c.requires.can.inside j below in omega (arith, past, inside))), omega (arith, past, c.requires.inside)))
    (keeps_within (λ limit past. omega (arith, past, c.requires.given.to_inside)) c.copy_page.ensures.keeps_fuse) c.extend_log.ensures.kept.keeps_fuse

pub returns-clause-length : goal.returns-clause-length
returns-clause-length g c = mixed_size c.extend_log.ensures.kept.wrote.mixed ∙ mixed_size c.copy_page.ensures.wrote.mixed

pub copy_page-requires : goal.copy_page-requires
copy_page-requires g c = c.requires.given

pub extend_log-requires-clause-can : goal.extend_log-requires-clause-can
extend_log-requires-clause-can g c =
    let can = c.requires.can in
    record {
      whole = can.whole;
      offset = can.offset;
      given = can.given;
      enough = can.enough;
      differ = can.differ;
      inside = subst (λ (end : ℕ). EndBy (c.args.log.now.tail / 4096 ∷ c.args.log.now.fresh.now) end) (sym (mixed_size c.copy_page.ensures.wrote.mixed)) can.inside;
    }

pub extend_log-requires-clause-whole : goal.extend_log-requires-clause-whole
extend_log-requires-clause-whole g c = c.requires.whole

pub extend_log-requires-clause-inside : goal.extend_log-requires-clause-inside
extend_log-requires-clause-inside g c = subst (λ (end : ℕ). c.args.log.now.slot + 32 ≤ end) (sym (mixed_size c.copy_page.ensures.wrote.mixed)) c.requires.inside

pub returns-clause-end : goal.returns-clause-end
returns-clause-end g c = c.extend_log.ensures.end

pub returns-clause-settled : goal.returns-clause-settled
returns-clause-settled g c = c.extend_log.ensures.kept.settled

pub returns-clause-stopped : goal.returns-clause-stopped
returns-clause-stopped g c = c.extend_log.ensures.kept.stopped

pub returns-in_err-copy_page-clause-end : goal.returns-in_err-copy_page-clause-end
returns-in_err-copy_page-clause-end g c = IfOk-from_err c.from_residual.result _ c.from_residual.ensures.0

pub returns-in_err-copy_page-clause-copies : goal.returns-in_err-copy_page-clause-copies
returns-in_err-copy_page-clause-copies g c = IfOk-from_err c.from_residual.result _ c.from_residual.ensures.0

pub returns-in_err-copy_page-clause-settled : goal.returns-in_err-copy_page-clause-settled
returns-in_err-copy_page-clause-settled g c = IfOk-from_err c.from_residual.result _ c.from_residual.ensures.0

pub returns-in_err-copy_page-clause-stopped : goal.returns-in_err-copy_page-clause-stopped
returns-in_err-copy_page-clause-stopped g c = c.from_residual.ensures.0 ∙ sym (ap is_err c.in_err-copy_page.was) ∙ c.copy_page.ensures.stopped

pub returns-in_err-copy_page-clause-length : goal.returns-in_err-copy_page-clause-length
returns-in_err-copy_page-clause-length g c = mixed_size c.copy_page.ensures.wrote.mixed

pub returns-in_err-copy_page-clause-keeps_fuse : goal.returns-in_err-copy_page-clause-keeps_fuse
returns-in_err-copy_page-clause-keeps_fuse g c = keeps_within (λ limit past. omega (arith, past, c.requires.given.to_inside)) c.copy_page.ensures.keeps_fuse

pub returns-in_err-copy_page-clause-any_stop : goal.returns-in_err-copy_page-clause-any_stop
returns-in_err-copy_page-clause-any_stop g c l held i h can free settled =
    page_left c.args.from c.args.to c.args.bytes can free _ settled _ _ (λ (S : Region). CopiesEnd (g.P.Pmem.region c.args.memory.now) S c.args.from c.args.to c.args.bytes c.args.log.now.slot c.args.log.now.tail c.args.log.now.entries.now c.args.log.now.fresh.now) c.copy_page.ensures.wrote

pub returns-clause-any_stop : goal.returns-clause-any_stop
returns-clause-any_stop g c l held i h can free settled =
    end_left c.args.from c.args.to c.args.bytes can free _ settled _ c.copy_page.ensures.wrote c.in_ok-copy_page.ensures.stored _ _ (λ there pending. c.extend_log.ensures.loose_stop l held i h there pending)

pub returns-in_err-copy_page-clause-wrote : goal.returns-in_err-copy_page-clause-wrote
returns-in_err-copy_page-clause-wrote g c l held i h can free = data_stores l held (one_log l i) (λ b. b ≡ c.args.to) (λ b is. subst (IsUnowned l held) (sym is) free) c.copy_page.ensures.wrote.mixed

pub returns-clause-wrote : goal.returns-clause-wrote
returns-clause-wrote g c l held i h can free = data_then_log (λ b. b ≡ c.args.to) can (λ b is. subst (IsUnowned l held) (sym is) free) c.copy_page.ensures.wrote.mixed c.extend_log.ensures.kept.wrote.mixed
