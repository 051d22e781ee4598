use Rattle.std.proofs.Common.{◌∙◌}
use Rattle.nv_bytes.proofs.Changes.{new_byte}
use Rattle.nv_bytes.specs.Data.{data_bytes}
use Rattle.nv_bytes.proofs.change.NewBytes.whole.Goals as goal

pub returns : goal.returns
returns c k old few =
    c.word.ensures k few
    ∙ new_byte c.args.self.now.offset c.args.self.now.size c.args.x k (data_bytes c.args.self.now.content) old c.requires.from c.requires.to few
