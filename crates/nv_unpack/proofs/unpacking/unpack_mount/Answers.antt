use Rattle.std.proofs.Common.{◌∙◌, sym}
use Rattle.nv_script.proofs.CleanedImage.{faulty, sound}
use Rattle.nv_unpack.proofs.unpacking.unpack_mount.Goals as goal

pub unpack_sound-requires : goal.unpack_sound-requires
unpack_sound-requires c = record {
  runs = c.requires.runs;
  writes = c.keeps.ensures.writes ∙ sound c.args.mount.faults c.faults.result.now c.faults.ensures (sym c.is_empty.ensures ∙ c.if-is_empty.true);
  steady = c.requires.steady;
}

pub returns : goal.returns
returns c = λ R o is. sym is.read_only ∙ c.keeps.ensures.writes ∙ faulty c.args.mount.faults c.faults.result.now c.faults.ensures (sym c.is_empty.ensures ∙ c.if-is_empty.false)
