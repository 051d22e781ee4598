use Rattle.std.proofs.Common.{◌/◌, [], refl, arith}
use Rattle.nv_region.specs.Region.{words_of}
use Rattle.nv_region.proofs.Fronted.{count_of_words}
use Rattle.nv_metadata.proofs.Held.{words_shown, front_first, zeros_first}
use Rattle.nv_metadata.proofs.front.FrontRegion.new.Goals as goal

pub returns-clause-blocks : goal.returns-clause-blocks
returns-clause-blocks c = (words_shown (words_of c.args.bytes.now) c.args.blocks (λ _. []) (omega (arith, count_of_words c.args.bytes.now, c.requires.within)), refl)

pub returns-clause-front : goal.returns-clause-front
returns-clause-front c at aligned within = front_first (words_of c.args.bytes.now) c.args.bytes.now c.args.blocks (λ _. []) refl at aligned within

pub returns-clause-zeros : goal.returns-clause-zeros
returns-clause-zeros c at aligned behind =
    zeros_first (words_of c.args.bytes.now) c.args.blocks (λ _. []) (λ b. refl) (omega (arith, count_of_words c.args.bytes.now, c.requires.within)) (at / 8) (omega (arith, count_of_words c.args.bytes.now, behind))
