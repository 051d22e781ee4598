use Rattle.std.proofs.Common.{inr, refl}
use Rattle.nv_image_check.proofs.Metadata.{ready_open, still_open}
use Rattle.nv_image_check.proofs.Gathering.{found_by, not_refused}
use Rattle.nv_image_check.proofs.gathered_image.recover_metadata.Goals as goal

pub recover_alone-requires : goal.recover_alone-requires
recover_alone-requires c = record { taken = inr (ready_open c.requires.0 c.args.memory c.requires.1) }

pub returns-in-Recovered : goal.returns-in-Recovered
returns-in-Recovered c =
    found_by c.args.memory.memory.region c.recover_alone.new.memory.memory.region c.in_ok-answer.answer c.in_ok-answer.ensures.ok c.in-Recovered.recovered c.recover_alone.new.memory c.in-Recovered.is refl c.in_ok-answer.ensures.lists
    (still_open c.requires.0 c.args.memory c.recover_alone.new.memory c.requires.1 c.recover_alone.ensures.keeps_fuse)

pub returns-in-Refused : goal.returns-in-Refused
returns-in-Refused c = absurd (not_refused c.args.memory.memory.region c.recover_alone.new.memory.memory.region c.in_ok-answer.answer c.in_ok-answer.ensures.ok c.requires.0 c.requires.1.superblock c.in-Refused.refusal c.in-Refused.is)
