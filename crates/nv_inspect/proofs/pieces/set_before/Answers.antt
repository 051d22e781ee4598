use Rattle.std.proofs.Common.{◌∙◌}
use Rattle.nv_inspect.specs.Held.{key_at, no_piece}
use Rattle.nv_inspect.proofs.Steps.{set_closed}
use Rattle.nv_inspect.proofs.pieces.set_before.Goals as goal

pub returns : goal.returns
returns c = set_closed no_piece (key_at c.args.pieces.now.entries) (key_at c.clear.new.pieces.entries) (key_at c.put.new.pieces.entries) (key_at c.put-2.new.pieces.entries) c.args.first c.args.end c.args.new c.requires
    c.clear.ensures.none c.clear.ensures.others c.in_ok-put.ensures.here c.in_ok-put.ensures.others (c.in_ok-put-2.ensures.here ∙ c.piece_of-behind.ensures) c.in_ok-put-2.ensures.others
