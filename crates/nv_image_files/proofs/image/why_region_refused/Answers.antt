use Rattle.std.proofs.Common.{ap, ◌∙◌}
use Rattle.nv_region.specs.Region.{bytes_of}
use Rattle.nv_image_files.specs.Superblocks.{known_content}
use Rattle.nv_image_files.proofs.Known.{known_by_front}
use Rattle.nv_image_files.proofs.image.why_region_refused.Goals as goal

pub returns-clause-content : goal.returns-clause-content
returns-clause-content c = c.known_content-content.ensures ∙ ap known_content (c.deref.ensures.value ∙ c.in_ok-first_bytes.ensures) ∙ known_by_front (bytes_of c.args.region.now.region)
