use Rattle.std.proofs.Common.{ℕ, string_bytes, sym, subst}
use Rattle.std.proofs.lemmas.Result.{IfOk-weaker}
use Rattle.nv_region.specs.Region.{region_of}
use Rattle.nv_image_check.specs.Explained.{IsExplained}
use Rattle.nv_image_check.proofs.explained.explain_region.Goals as goal

pub returns-clause-ok : goal.returns-clause-ok
returns-clause-ok g c = IfOk-weaker c.write_checked.result _ _ (λ status said. (
  string_bytes c.in_ok-checked.checked.text,
  subst (λ (n : ℕ). IsExplained (region_of c.args.bytes.now) c.args.workers (string_bytes c.in_ok-checked.checked.text) n) (sym said.0) c.in_ok-checked.ensures,
  said.1,
)) c.write_checked.ensures.ok
