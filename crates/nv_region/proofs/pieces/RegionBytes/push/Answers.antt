use Rattle.std.proofs.Common.{◌++◌, ◌∙◌, ap}
use Rattle.nv_region.specs.Region.{bytes_of}
use Rattle.nv_region.proofs.pieces.RegionBytes.push.Goals as goal

pub returns-clause-added : goal.returns-clause-added
returns-clause-added c =
    c.push_words.ensures.bytes ∙ c.fill_word-behind.ensures.bytes
    ∙ ap (λ words. bytes_of (record { words = words; rest = c.reserve-2.new.self.items }) ++ c.args.piece.now) c.reserve.ensures.items
    ∙ ap (λ rest. bytes_of (record { words = c.self.inside.words.items; rest = rest }) ++ c.args.piece.now) c.reserve-2.ensures.items
    ∙ ap (λ bytes. bytes ++ c.args.piece.now) c.self.view_is
