use Rattle.std.proofs.Common.{◌∙◌, refl}
use Rattle.std.specs.Prelude.{replicate}
use Rattle.std.proofs.lemmas.List.{get_or-replicate}
use Rattle.nv_bytes.proofs.Words.{byte_back, small_same}
use Rattle.nv_bytes.proofs.contents.word_of.Goals as goal

pub returns : goal.returns
returns c k few = byte_back (replicate 8 c.args.byte) c.from_le_bytes.result k refl (λ i. small_same c.args.byte 8 i c.ranges.byte.fits) c.from_le_bytes.ensures few ∙ get_or-replicate 8 k c.args.byte 0 few
