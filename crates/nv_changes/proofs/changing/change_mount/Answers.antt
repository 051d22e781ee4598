use Rattle.std.proofs.Common.{◌∙◌, inl, refl, sym}
use Rattle.nv_script.proofs.CleanedImage.{faulty, sound}
use Rattle.nv_changes.proofs.changing.change_mount.Goals as goal

pub change_sound-requires-clause-writes : goal.change_sound-requires-clause-writes
change_sound-requires-clause-writes c = c.keeps.ensures.writes ∙ sound c.args.mount.faults c.faults.result.now c.faults.ensures (sym c.is_empty.ensures ∙ c.if-is_empty.true)

pub returns-else-is_empty : goal.returns-else-is_empty
returns-else-is_empty c = λ R o is. inl (sym is.read_only ∙ c.keeps.ensures.writes ∙ faulty c.args.mount.faults c.faults.result.now c.faults.ensures (sym c.is_empty.ensures ∙ c.if-is_empty.false), refl)
