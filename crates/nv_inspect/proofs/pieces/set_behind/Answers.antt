use Rattle.nv_inspect.specs.Held.{key_at, no_piece}
use Rattle.nv_inspect.proofs.Steps.{set_open}
use Rattle.nv_inspect.proofs.pieces.set_behind.Goals as goal

pub returns : goal.returns
returns c = set_open no_piece (key_at c.args.pieces.now.entries) (key_at c.clear.new.pieces.entries) (key_at c.put.new.pieces.entries) c.args.first c.args.new c.clear.ensures.none c.clear.ensures.others c.in_ok-put.ensures.here c.in_ok-put.ensures.others
