use Rattle.std.proofs.Common.{ℕ, ◌+◌, ◌*◌, ◌∙◌, get_or, ap, arith}
use Rattle.nv_bytes.proofs.Changes.{new_byte}
use Rattle.nv_bytes.specs.Data.{data_bytes}
use Rattle.nv_bytes.proofs.change.NewBytes.read.Goals as goal

pub returns-clause-read : goal.returns-clause-read
returns-clause-read c j k old low few =
    c.read.ensures.read j k low few
    ∙ ap (λ (n : ℕ). get_or (data_bytes c.args.self.now.content) n 0) (omega (arith, c.requires.from))
    ∙ new_byte c.args.self.now.offset c.args.self.now.size (c.args.x + 8 * j) k (data_bytes c.args.self.now.content) old (omega (arith, c.requires.from)) (omega (arith, c.requires.to, low)) few
