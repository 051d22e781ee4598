use Rattle.std.proofs.Common.{◌∙◌, ap}
use Rattle.std.specs.Prelude.{Err}
use Rattle.nv_image_check.proofs.Checked.{too_long}
use Rattle.nv_super.specs.declared.superblock.SuperFault.TheVariants.{Length}
use Rattle.nv_records.specs.declared.rolling.Journals.TheVariants.{Refused}
use Rattle.nv_pending.proofs.checking.journals_text.Goals as goal

pub returns-in-Err-Length : goal.returns-in-Err-Length
returns-in-Err-Length c = (Refused Length, too_long c.args.bytes.now (c.from_bytes.ensures.length.0 (c.in-Err-Length.is ∙ ap Err c.in-Err-Length.field-0-is)), c.new.ensures.bytes)
