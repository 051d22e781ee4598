use Rattle.std.proofs.Common.{◌∙◌, rules}
use Rattle.nv_region.proofs.Added.{word_filled}
use Rattle.nv_region.proofs.pieces.fill_word.Goals as goal

pub returns-then-len-eq8-clause-bytes : goal.returns-then-len-eq8-clause-bytes
returns-then-len-eq8-clause-bytes c =
    word_filled c.args.words.now.items c.push_reserved.new.self.items c.args.rest.now.items c.extend_from_slice-fits.new.self.items c.split_at.result.0.now c.split_at.result.1.now c.args.piece.now c.clear.new.self.items c.word_of.result
    (search rules) (c.word_of.ensures ∙ c.deref.ensures.value) c.push_reserved.ensures.items c.clear.ensures.items (search rules)
