use Rattle.std.proofs.Common.{ℕ, string_bytes, sym, subst}
use Rattle.std.proofs.lemmas.Result.{IfOk-weaker, IfErr-weaker}
use Rattle.nv_region.specs.Region.{region_of}
use Rattle.nv_image_check.specs.Checking.{IsCheckAs}
use Rattle.nv_image_check.proofs.Metadata.{write_fails}
use Rattle.nv_image_check.proofs.gathered.check_gathered.Goals as goal

pub returns-clause-text : goal.returns-clause-text
returns-clause-text g c bytes gathered = IfOk-weaker c.write_checked.result _ _ (λ status said.
    (string_bytes c.in_ok-checked.checked.text, c.in_ok-checked.checked.status, c.in_ok-checked.ensures.checked (region_of bytes) gathered, said.1)) c.write_checked.ensures.ok

pub returns-clause-status : goal.returns-clause-status
returns-clause-status g c bytes gathered = IfOk-weaker c.write_checked.result _ _ (λ status said. (
  string_bytes c.in_ok-checked.checked.text,
  subst (λ (n : ℕ). IsCheckAs c.args.output (region_of bytes) c.args.workers (string_bytes c.in_ok-checked.checked.text) n) (sym said.0) (c.in_ok-checked.ensures.checked (region_of bytes) gathered),
  said.1,
)) c.write_checked.ensures.ok

pub returns-clause-err : goal.returns-clause-err
returns-clause-err g c bytes gathered = IfErr-weaker c.write_checked.result _ _ (λ e said. write_fails c.args.output bytes c.args.workers (string_bytes c.in_ok-checked.checked.text) c.in_ok-checked.checked.status e
    (g.W.Write.contents c.args.writer.now) (g.W.Write.contents c.write_checked.new.writer) (c.in_ok-checked.ensures.checked (region_of bytes) gathered) said) c.write_checked.ensures.err
