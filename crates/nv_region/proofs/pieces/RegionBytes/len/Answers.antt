use Rattle.std.proofs.Common.{◌∙◌}
use Rattle.nv_region.proofs.Added.{size_again}
use Rattle.nv_region.proofs.pieces.RegionBytes.len.Goals as goal

pub returns : goal.returns
returns c = c.count_of_bytes.ensures.count
    ∙ size_again c.self.inside.words.items c.self.inside.rest.items _ _ c.args.self.now c.deref.ensures.value c.deref-2.ensures.value c.count_of_bytes.ensures.back c.self.view_is
