use Rattle.std.proofs.Common.{ap, ◌∙◌, arith}
use Rattle.nv_region.specs.Region.{size, word, region_of, bytes_of}
use Rattle.nv_region.specs.ImageState.{with_front}
use Rattle.nv_region.proofs.Bytes.{size_of_bytes, word_of_bytes, bytes_back}
use Rattle.nv_region.proofs.image.ImageRegion.from_bytes.Goals as goal

pub returns-clause-size : goal.returns-clause-size
returns-clause-size c = ap (λ (front : _). size (with_front front (region_of c.args.bytes.now))) c.new.ensures.items ∙ size_of_bytes c.args.bytes.now

pub returns-clause-words : goal.returns-clause-words
returns-clause-words c at aligned within = ap (λ (front : _). word (with_front front (region_of c.args.bytes.now)) at) c.new.ensures.items ∙ word_of_bytes c.args.bytes.now at aligned within

pub returns-clause-bytes : goal.returns-clause-bytes
returns-clause-bytes c = ap (λ (front : _). bytes_of (with_front front (region_of c.args.bytes.now))) c.new.ensures.items ∙ bytes_back c.args.bytes.now (λ i. omega (arith, c.type_inv.bytes i))
